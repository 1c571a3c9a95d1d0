-- What an update of a place makes of a tree.
use Rattle.std.specs.Prelude.{◌≡◌, ℕ, ◌+◌, List, Option}
use Rattle.page_face.specs.FreeList.{PageMap}
use Rattle.page_face.specs.declared.fault.Rule.TheVariants.{Entry as NoEntry}
use Rattle.page_face.specs.declared.fault.Damage.{Damage}
use Rattle.spatial_base.specs.Key.{Name, form_of}
use Rattle.spatial_base.specs.Point.{Position}
use Rattle.rtree_nodes.specs.Slots.{Item, got}
use Rattle.rtree_nodes.specs.Stock.{View, view}
use Rattle.rtree_nodes.specs.Made.{Reads}
use Rattle.rtree_nodes.specs.Pages.{node_of}
use Rattle.rtree_nodes.specs.Entries.{is_entry}
use Rattle.irtree_shape.specs.Stock.{Moves}
use Rattle.irtree_shape.specs.Made.{nodes_in}
use Rattle.irtree_shape.specs.Whole.{IsWhole, tree_uses, tree_sum}

-- the damage that a place's entry is missing: page 0 is named, and over every free list for which the tree is whole it has no entry of the key at the point
pub record IsMissing (pages : PageMap) (rows count first root : ℕ) (key : Name) (point : Position) (damage : Damage) : Type 0 where
  pub named : damage ≡ record { page = 0; rule = NoEntry }
  pub absent : (free : List ℕ) → IsWhole node_of (view pages rows count first free) root → tree_sum (nodes_in node_of pages rows) root (is_entry point (form_of key)) ≡ 0

-- The tree has one entry less and one entry more, where there are such: it is well formed, no page is lost, and every page that was neither its own nor free is as it was.
pub record IsRegrown (reads : Reads) (before : View) (pages : PageMap) (rows count first old_root root : ℕ) (gone come : Option Item) : Type 0 where
  pub free : List ℕ
  pub whole : IsWhole reads (view pages rows count first free) root
  pub moves : Moves before (view pages rows count first free) (tree_uses (nodes_in reads before.pages before.rows) old_root) (tree_uses (nodes_in reads pages rows) root)
  pub sum_is : (f : Item → ℕ) → tree_sum (nodes_in reads pages rows) root f + got f gone ≡ tree_sum (nodes_in reads before.pages before.rows) old_root f + got f come
