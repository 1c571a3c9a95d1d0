-- The tree that a search goes over.
use Rattle.std.specs.Prelude.{ℕ, List}
use Rattle.page_face.specs.FreeList.{PageMap}
use Rattle.btree_nodes.specs.Damages.{AreReadable}
use Rattle.rtree_nodes.specs.Slots.{NodeMap}
use Rattle.rtree_nodes.specs.Stock.{view}
use Rattle.rtree_nodes.specs.Pages.{node_of}
use Rattle.node_rows.specs.declared.roots.Tree.{Tree}
use Rattle.irtree_shape.specs.Made.{nodes_in}
use Rattle.irtree_shape.specs.Whole.{IsWhole}
use Rattle.rtree_nodes.specs.Subtrees.{IsNodeAt, AreCounted}

-- the tree at its roots is whole over some free list, and the pages tell their bytes
abbrev pub FitsTree : PageMap → ℕ → ℕ → Tree → Type 0
FitsTree pages count first tree = (free : List ℕ) × IsWhole node_of (view pages tree.rows count first free) tree.root × AreReadable pages count

-- the nodes of the tree, joined with their rows
abbrev pub nodes_at : PageMap → Tree → NodeMap
nodes_at pages tree = nodes_in node_of pages tree.rows

-- a well-formed node of the level stands at the page, and it and all below it are counted
abbrev pub HasNode : PageMap → ℕ → Tree → ℕ → ℕ → Type 0
HasNode pages count tree page level = IsNodeAt (nodes_at pages tree) level page × AreCounted (nodes_at pages tree) count level page
