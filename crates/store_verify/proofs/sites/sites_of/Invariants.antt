use Rattle.std.proofs.Common.{◌≡◌, ℕ, All, take}
use Rattle.std.specs.Prelude.{sum_by}
use Rattle.page_face.specs.Calls.{Reads}
use Rattle.btree_nodes.specs.Damages.{AreReadable}
use Rattle.rtree_nodes.specs.Slots.{Item}
use Rattle.store_verify.specs.Sites.{IsSite, site_sum}
use Rattle.store_verify.specs.EntrySums.{IsFilledPage, page_sum}
use Rattle.store_verify.proofs.sites.sites_of.Given as goal

abbrev pub invariant-loop-page : goal.invariant-loop-page
invariant-loop-page g l =
    let p = g.P.Pages in
    record {
      frame : Reads p l.fn.pages l.pages;
      faults : p.faults l.pages ≡ p.faults l.fn.pages;
      are : All IsSite l.found.items;
      sum : AreReadable (p.pages l.fn.pages) (p.count l.fn.pages) → All (IsFilledPage (λ (n : ℕ). ⊥) (p.pages l.fn.pages)) l.list
          → (f : Item → ℕ) → site_sum f l.found.items ≡ sum_by (λ (n : ℕ). page_sum f (p.pages l.fn.pages n)) (take l.page-index l.list);
    }
