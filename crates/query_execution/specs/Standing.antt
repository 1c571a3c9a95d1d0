-- The state that the tables and the tree of a store stand for.
use Rattle.std.specs.Prelude.{◌≡◌, ℕ}
use Rattle.page_face.specs.FreeList.{PageMap}
use Rattle.page_face.specs.declared.head.Head.{Head}
use Rattle.page_store.specs.declared.superblock.Superblock.{Superblock}
use Rattle.node_rows.specs.declared.roots.Tree.{Tree}
use Rattle.place_values.specs.State.{Contents}
use Rattle.store_tables.specs.declared.tables.Tables.{Tables}
use Rattle.store_model.specs.Stands.{PagesStand, tables_in}

-- the tree's roots, which page 0 has
abbrev pub tree_of : Head → Tree
tree_of head = record { root = head.tree; rows = head.rows }

-- The pages counted stand for a state, with some fields of page 0; and these are the tables and the tree that it names.
pub record RootsStand (pages : PageMap) (count first : ℕ) (tables : Tables) (tree : Tree) (state : Contents) : Type 0 where
  pub block : Superblock
  pub stand : PagesStand block pages state
  pub count_is : block.counted ≡ count
  pub first_is : block.first_free ≡ first
  pub tables_are : tables_in block.head ≡ tables
  pub tree_is : tree_of block.head ≡ tree
