-- A well-formed R-tree over its pages.
use Rattle.std.specs.Prelude.{◌≡◌, ℕ, zero, suc, ◌+◌, ◌≤◌}
use Rattle.page_face.specs.FreeList.{PageMap}
use Rattle.rtree_nodes.specs.Slots.{Item}
use Rattle.rtree_nodes.specs.Trees.{IsTree, node_below, node_uses}
use Rattle.rtree_nodes.specs.Stock.{View, IsSupplied, spare_in}
use Rattle.rtree_nodes.specs.Made.{Reads, nodes_in}

-- the level that a root's page says; the empty tree, of root 0, has none
abbrev pub level_at : Reads → PageMap → ℕ → ℕ
level_at reads pages zero = 0
level_at reads pages (suc n) = (reads (pages (suc n))).level

-- a well-formed tree by its root: 0 is the empty tree, which has no page
abbrev pub IsWell : Reads → PageMap → ℕ → Type 0
IsWell reads pages zero = Unit {0}
IsWell reads pages (suc n) = IsTree (nodes_in reads pages) (level_at reads pages (suc n)) (suc n)

-- how often a page is used by the tree at a root
abbrev pub tree_uses : Reads → PageMap → ℕ → ℕ → ℕ
tree_uses reads pages zero n = 0
tree_uses reads pages (suc m) n = node_uses (nodes_in reads pages) (level_at reads pages (suc m)) (suc m) n

-- the sum of f over the entries of the tree at a root
abbrev pub tree_sum : Reads → PageMap → ℕ → (Item → ℕ) → ℕ
tree_sum reads pages zero f = 0
tree_sum reads pages (suc m) f = node_below (nodes_in reads pages) f (level_at reads pages (suc m)) (suc m)

-- A well-formed tree stands at a root, beside the rows' map and over a free list that ends at 0: no page is in two of them or twice in one.
pub record IsWhole (reads : Reads) (v : View) (root : ℕ) : Type 0 where
  pub tree : IsWell reads v.pages root
  pub supplied : IsSupplied v
  pub once : (n : ℕ) → tree_uses reads v.pages root n + spare_in v n ≤ 1
  pub away : tree_uses reads v.pages root 0 ≡ 0
