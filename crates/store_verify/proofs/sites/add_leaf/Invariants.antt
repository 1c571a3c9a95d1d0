use Rattle.std.proofs.Common.{◌≡◌, ℕ, ◌+◌, All, true}
use Rattle.rtree_nodes.specs.Pages.{is_form, level_in, slots_in}
use Rattle.rtree_nodes.specs.Slots.{Item, got, sum_to}
use Rattle.store_verify.specs.Sites.{IsSite, site_sum}
use Rattle.store_verify.proofs.sites.add_leaf.Given as goal

abbrev pub invariant-loop-at : goal.invariant-loop-at
invariant-loop-at l = record {
  sum : is_form l.bytes ≡ true → level_in l.bytes ≡ 0
      → (f : Item → ℕ) → site_sum f l.found.items ≡ site_sum f l.fn.found.items + sum_to l.at (λ i. got f (slots_in l.bytes i));
  are : All IsSite l.found.items;
}
