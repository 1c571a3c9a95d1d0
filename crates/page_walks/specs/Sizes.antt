-- The number of pages of a map.
use Rattle.std.specs.Prelude.{ℕ, zero, suc, ◌+◌}
use Rattle.page_face.specs.FreeList.{PageMap}
use Rattle.btree_nodes.specs.declared.form.Form.{Form}
use Rattle.btree_nodes.specs.Nodes.{entries_in}
use Rattle.btree_nodes.specs.Tree.{total, level_of}

-- the sum of the first n values of f
abbrev pub sum_to : ℕ → (ℕ → ℕ) → ℕ
sum_to zero f = 0
sum_to (suc n) f = f n + sum_to n f

-- the number of pages of the tree below a page of this level, itself included
abbrev pub tree_size : Form → PageMap → ℕ → ℕ → ℕ
tree_size form pages zero page = 1
tree_size form pages (suc level) page = 1 + total (tree_size form pages level) (entries_in form (pages page))

-- the number of pages of a map, by its root; 0 is an empty map, which has none
abbrev pub map_size : Form → PageMap → ℕ → ℕ
map_size form pages zero = 0
map_size form pages (suc n) = tree_size form pages (level_of (pages (suc n))) (suc n)
