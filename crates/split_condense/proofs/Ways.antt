-- The first slots of a path lead as far as it does.
use Rattle.std.proofs.Common.{◌≡◌, ℕ, zero, suc, ◌<◌, List, take, arith, subst, sym, Option, Some}
use Rattle.std.specs.Prelude.{IfSome}
use Rattle.page_face.specs.FreeList.{PageMap}
use Rattle.std.proofs.lemmas.List.{get_or-take}
use Rattle.rtree_nodes.specs.Slots.{Item, NodeMap, IsUsed, IsChildAt}
use Rattle.rtree_nodes.specs.Loose.{IsAt, Leads}
use Rattle.rtree_nodes.specs.Made.{nodes_in}
use Rattle.rtree_nodes.specs.Whole.{level_at}
use Rattle.rtree_nodes.specs.Pages.{node_of, stored_in}
use Rattle.rtree_nodes.specs.Ways.{IsWay}

pub leads-take : (nodes : NodeMap) (path : List ℕ) (n level page : ℕ) (x : Item) → level < n → Leads nodes path level page x → Leads nodes (take n path) level page x
leads-take nodes path n zero page x l h = subst (λ (at : ℕ). IsAt (nodes page).slots at x) (sym (get_or-take n path 0 0 l)) h
leads-take nodes path n (suc level) page x l h = (
  h.0,
  subst (λ (at : ℕ). IsAt (nodes page).slots at h.0) (sym (get_or-take n path (suc level) 0 l)) h.1,
  leads-take nodes path n level h.0.to x (omega arith) h.2,
)

-- what was found: the way to an entry, as long as the tree has levels
pub found-way : (pages : PageMap) (path : List ℕ) (root : ℕ) (x : Item) (o : Option ℕ) (level : ℕ) → o ≡ Some level
    → IfSome o (λ l. Leads (nodes_in node_of pages) path l root x × (l ≡ level_at node_of pages root))
    → Leads (nodes_in node_of pages) (take (suc (level_at node_of pages root)) path) (level_at node_of pages root) root x × (level ≡ level_at node_of pages root)
found-way pages path root x o level is found =
    let nodes : NodeMap = nodes_in node_of pages in
    let at : ℕ = level_at node_of pages root in
    let both : Leads nodes path level root x × (level ≡ at) = subst (λ (p : Option ℕ). IfSome p (λ l. Leads nodes path l root x × (l ≡ at))) is found in
    let leads : Leads nodes path at root x = subst (λ (l : ℕ). Leads nodes path l root x) both.1 both.0 in
    (leads-take nodes path (suc at) at root x (omega arith) leads, both.1)

-- the same of a way by the pages' bytes
pub way-take : (pages : PageMap) (path : List ℕ) (n level page : ℕ) → level < n → IsWay pages path level page → IsWay pages (take n path) level page
way-take pages path n zero page l h = (h.0, subst (λ (at : ℕ). IsUsed (stored_in (pages page)) at) (sym (get_or-take n path 0 0 l)) h.1)
way-take pages path n (suc level) page l h = (
  h.0,
  h.1,
  subst (λ (at : ℕ). IsChildAt (stored_in (pages page)) at h.1) (sym (get_or-take n path (suc level) 0 l)) h.2,
  way-take pages path n level h.1 (omega arith) h.3,
)
