-- The way from a page of a tree down to the leaf that a key belongs to.
use Rattle.std.specs.Prelude.{◌≡◌, ℕ, zero, suc, ◌^◌}
use Rattle.page_face.specs.FreeList.{PageMap}
use Rattle.page_face.specs.Causes.{IsUncounted}
use Rattle.btree_nodes.specs.declared.form.Form.{Form}
use Rattle.btree_nodes.specs.Rows.{IsWithin}
use Rattle.btree_nodes.specs.Nodes.{IsLeaf, IsInner, rows_in, half_of, least_of_root}
use Rattle.btree_nodes.specs.Tree.{level_of}
use Rattle.btree_nodes.specs.Damages.{IsOrdered}
use Rattle.btree_nodes.specs.Steps.{StepsTo}

-- The key belongs to this leaf, which has the keys between its bounds, and each page on the way to it keeps the rules in its place: its form, its level and its least count, its keys in order between its bounds, and the child that the key belongs to counted.
abbrev pub IsWay : Form → PageMap → ℕ → ℕ → ℕ → ℕ → ℕ → ℕ → ℕ → ℕ → ℕ → ℕ → Type 0
IsWay form pages count key least zero page low high leaf from to =
    (leaf ≡ page) × (from ≡ low) × (to ≡ high) × IsLeaf form least (pages page) × IsWithin low high (rows_in form (pages page))
IsWay form pages count key least (suc level) page low high leaf from to =
    IsInner form least (suc level) (pages page) × IsOrdered form low high (pages page)
    × (child : ℕ) × (lo : ℕ) × (hi : ℕ) × StepsTo form (pages page) key low high child lo hi × ¬ IsUncounted count child
    × IsWay form pages count key (half_of form level) level child lo hi leaf from to

-- the way to a key's leaf from the root of a map, which is counted
abbrev pub IsWayOf : Form → PageMap → ℕ → ℕ → ℕ → ℕ → ℕ → ℕ → Type 0
IsWayOf form pages count root key leaf from to =
    ¬ IsUncounted count root × IsWay form pages count key (least_of_root (level_of (pages root))) (level_of (pages root)) root 0 (256 ^ form.key) leaf from to
