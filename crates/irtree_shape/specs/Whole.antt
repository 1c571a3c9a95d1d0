-- A well-formed IR-tree over its pages, and what putting a place in or taking one out makes of it.
use Rattle.std.specs.Prelude.{◌≡◌, ℕ, zero, suc, ◌+◌, ◌≤◌, List, length}
use Rattle.page_face.specs.FreeList.{PageMap}
use Rattle.node_rows.specs.Rows.{bytes_in}
use Rattle.rtree_nodes.specs.Slots.{Item, NodeMap}
use Rattle.rtree_nodes.specs.Trees.{IsTree, node_below, node_uses}
use Rattle.rtree_nodes.specs.Heads.{node_heads, total_heads}
use Rattle.rtree_nodes.specs.Stock.{View, view, spare_in}
use Rattle.irtree_shape.specs.Stock.{IsSupplied, Moves}
use Rattle.rtree_nodes.specs.Made.{Reads}
use Rattle.irtree_shape.specs.Made.{nodes_in, IsBlank}

-- the level that a root's node says; the empty tree, of root 0, has none
abbrev pub level_at : NodeMap → ℕ → ℕ
level_at nodes zero = 0
level_at nodes (suc n) = (nodes (suc n)).level

-- a well-formed tree by its root: 0 is the empty tree, which has no page
abbrev pub IsWell : NodeMap → ℕ → Type 0
IsWell nodes zero = Unit {0}
IsWell nodes (suc n) = IsTree nodes (level_at nodes (suc n)) (suc n)

-- how often a page is used by the tree at a root
abbrev pub tree_uses : NodeMap → ℕ → ℕ → ℕ
tree_uses nodes zero n = 0
tree_uses nodes (suc m) n = node_uses nodes (level_at nodes (suc m)) (suc m) n

-- the sum of f over the entries of the tree at a root
abbrev pub tree_sum : NodeMap → ℕ → (Item → ℕ) → ℕ
tree_sum nodes zero f = 0
tree_sum nodes (suc m) f = node_below nodes f (level_at nodes (suc m)) (suc m)

-- the sum of g over the nodes of the tree at a root, each by its level and page
abbrev pub tree_heads : NodeMap → ℕ → (ℕ → ℕ → ℕ) → ℕ
tree_heads nodes zero g = 0
tree_heads nodes (suc m) g = node_heads nodes g (level_at nodes (suc m)) (suc m)

-- how many levels a tree has
abbrev pub levels_at : NodeMap → ℕ → ℕ
levels_at nodes zero = 0
levels_at nodes (suc n) = suc (level_at nodes (suc n))

-- A well-formed tree stands at a root with its rows, over a free list that ends at 0: no page is in two of tree, rows' map and free list, or twice in one; no byte
-- stands at an unused slot, and each row names a node of the tree.
pub record IsWhole (reads : Reads) (v : View) (root : ℕ) : Type 0 where
  pub tree : IsWell (nodes_in reads v.pages v.rows) root
  pub supplied : IsSupplied v
  pub once : (n : ℕ) → tree_uses (nodes_in reads v.pages v.rows) root n + spare_in v n ≤ 1
  pub away : tree_uses (nodes_in reads v.pages v.rows) root 0 ≡ 0
  pub blank : (n : ℕ) → IsBlank reads v.pages v.rows n
  pub named : (n w i : ℕ) → tree_uses (nodes_in reads v.pages v.rows) root n ≡ 0 → bytes_in v.pages v.rows n w i ≡ 0

-- The tree has one entry more. Each node that was there is at its page and level, and these nodes are fresh: as many as splits were made, and one for each level that the tree rose.
pub record IsPlanted (reads : Reads) (before : View) (pages : PageMap) (rows count first old_root root : ℕ) (x : Item) (rise : ℕ → Type 0) : Type 0 where
  pub free : List ℕ
  pub whole : IsWhole reads (view pages rows count first free) root
  pub moves : Moves before (view pages rows count first free) (tree_uses (nodes_in reads before.pages before.rows) old_root) (tree_uses (nodes_in reads pages rows) root)
  pub sum_is : (f : Item → ℕ) → tree_sum (nodes_in reads pages rows) root f ≡ tree_sum (nodes_in reads before.pages before.rows) old_root f + f x
  pub fresh : List (ℕ × ℕ)
  pub heads_are : (g : ℕ → ℕ → ℕ) → tree_heads (nodes_in reads pages rows) root g ≡ tree_heads (nodes_in reads before.pages before.rows) old_root g + total_heads g fresh
  pub splits : ℕ
  pub counted : rise splits
  pub many : length fresh + levels_at (nodes_in reads before.pages before.rows) old_root ≡ splits + levels_at (nodes_in reads pages rows) root

-- the tree has one entry less
pub record IsFelled (reads : Reads) (before : View) (pages : PageMap) (rows count first old_root root : ℕ) (x : Item) : Type 0 where
  pub free : List ℕ
  pub whole : IsWhole reads (view pages rows count first free) root
  pub moves : Moves before (view pages rows count first free) (tree_uses (nodes_in reads before.pages before.rows) old_root) (tree_uses (nodes_in reads pages rows) root)
  pub sum_is : (f : Item → ℕ) → tree_sum (nodes_in reads pages rows) root f + f x ≡ tree_sum (nodes_in reads before.pages before.rows) old_root f
