-- A way down by the bytes of the pages, one level more.
use Rattle.std.proofs.Common.{◌≡◌, ℕ, zero, suc, ◌≤◌, List, arith, sym, ap, ◌∙◌, subst, slice_index}
use Rattle.page_face.specs.FreeList.{PageMap}
use Rattle.rtree_nodes.specs.Slots.{Item, IsUsed, IsChildAt, got, one}
use Rattle.rtree_nodes.specs.Loose.{IsAt}
use Rattle.rtree_nodes.specs.Pages.{level_in, stored_in}
use Rattle.rtree_nodes.specs.Ways.{IsWay}

-- a way depends on its own levels alone
pub way-same : (pages : PageMap) (path path' : List ℕ) (level page : ℕ) → ((i : ℕ) → i ≤ level → slice_index path' i ≡ slice_index path i) → IsWay pages path level page → IsWay pages path' level page
way-same pages path path' zero page same way = (way.0, subst (λ (i : ℕ). IsUsed (stored_in (pages page)) i) (sym (same 0 (omega arith))) way.1)
way-same pages path path' (suc level) page same way = (
  way.0,
  way.1,
  subst (λ (i : ℕ). IsChildAt (stored_in (pages page)) i way.1) (sym (same (suc level) (omega arith))) way.2,
  way-same pages path path' level way.1 (λ i l. same i (omega arith)) way.3,
)

-- the way at a leaf whose slot holds an item
pub way-leaf : (pages : PageMap) (path bytes : List ℕ) (level page : ℕ) (x : Item) → level ≡ 0 → level ≡ level_in bytes → bytes ≡ pages page → IsAt (stored_in bytes) (slice_index path 0) x → IsWay pages path level page
way-leaf pages path bytes level page x low level_is is at =
    subst (λ (k : ℕ). IsWay pages path k page) (sym low)
    (ap level_in (sym is) ∙ sym level_is ∙ low, subst (λ (b : List ℕ). IsUsed (stored_in b) (slice_index path 0)) is (at.0, ap (got one) at.1))

-- the way below a child, and the slot of the child before it
pub way-child : (pages : PageMap) (path path' bytes : List ℕ) (level l page at child : ℕ) → level ≡ suc l → level ≡ level_in bytes → bytes ≡ pages page → IsChildAt (stored_in bytes) at child
    → slice_index path' level ≡ at → ((i : ℕ) → i ≤ l → slice_index path' i ≡ slice_index path i) → IsWay pages path l child → IsWay pages path' level page
way-child pages path path' bytes level l page at child up level_is is there here same way =
    let slot : IsChildAt (stored_in (pages page)) (slice_index path' (suc l)) child =
    subst (λ (i : ℕ). IsChildAt (stored_in (pages page)) i child) (sym (ap (slice_index path') (sym up) ∙ here)) (subst (λ (b : List ℕ). IsChildAt (stored_in b) at child) is there) in
    subst (λ (k : ℕ). IsWay pages path' k page) (sym up) (ap level_in (sym is) ∙ sym level_is ∙ up, child, slot, way-same pages path path' l child same way)
