-- A way down a tree, as the bytes of its pages have it.
use Rattle.std.specs.Prelude.{◌≡◌, ℕ, zero, suc, List, slice_index}
use Rattle.page_face.specs.FreeList.{PageMap}
use Rattle.rtree_nodes.specs.Slots.{IsUsed, IsChildAt}
use Rattle.rtree_nodes.specs.Pages.{level_in, stored_in}

-- The slots of a path, one for each level, lead down from a page: it is of this level, each slot above the leaf names a page one level below, and the leaf's is used.
abbrev pub IsWay : PageMap → List ℕ → ℕ → ℕ → Type 0
IsWay pages path zero page = (level_in (pages page) ≡ 0) × IsUsed (stored_in (pages page)) (slice_index path 0)
IsWay pages path (suc level) page =
    (level_in (pages page) ≡ suc level) × (child : ℕ) × IsChildAt (stored_in (pages page)) (slice_index path (suc level)) child × IsWay pages path level child
