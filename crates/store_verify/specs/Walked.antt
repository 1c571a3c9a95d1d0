-- What the walks over a store's structures show once each has ended well.
use Rattle.std.specs.Prelude.{◌≡◌, ℕ, ◌+◌, List}
use Rattle.page_face.specs.Causes.{IsUncounted}
use Rattle.page_face.specs.FreeList.{PageMap, IsFreeList}
use Rattle.page_store.specs.declared.superblock.Superblock.{Superblock}
use Rattle.page_store.specs.Superblock.{IsInRange}
use Rattle.btree_nodes.specs.Damages.{AreReadable}
use Rattle.btree_nodes.specs.Supply.{times}
use Rattle.btree_nodes.specs.Tree.{IsMap, map_rows, map_uses}
use Rattle.row_codec.specs.declared.counted.Counted.{Counted}
use Rattle.rtree_nodes.specs.Pages.{node_of}
use Rattle.rtree_nodes.specs.Stock.{rows_form}
use Rattle.rtree_nodes.specs.Whole.{IsWell}
use Rattle.tree_check.specs.Nodes.{tree_pages}
use Rattle.store_tables.specs.Holding.{HoldsNumbers, HoldsTexts, table_uses}
use Rattle.store_model.specs.Stands.{tables_in}
use Rattle.tree_check.specs.Names.{AreNamed}
use Rattle.store_verify.specs.Tree.{node_uses}
use Rattle.store_verify.specs.Whole.{outside, store_uses}
use Rattle.store_verify.specs.Sites.{Site}
use Rattle.store_verify.specs.Places.{HoldsSites}

-- The tree and the map of its rows are well formed, and each row names a node. The list has the tree's pages, each after those below it.
-- Exactly the pages of both were met, each of which is counted.
pub record IsTreeWalked (block : Superblock) (pages : PageMap) (list : List ℕ) (met : ℕ → ℕ) : Type 0 where
  pub tree : IsWell node_of pages block.head.tree
  pub listed : list ≡ tree_pages pages block.head.tree
  pub map : IsMap rows_form pages block.head.rows
  pub named : AreNamed (map_rows rows_form pages block.head.rows) (node_uses block.head pages)
  pub met_are : (n : ℕ) → met n ≡ node_uses block.head pages n + map_uses rows_form pages block.head.rows n
  pub known : (n : ℕ) → IsUncounted block.counted n → node_uses block.head pages n + map_uses rows_form pages block.head.rows n ≡ 0

-- The tables hold these words by text and by number, and places at these sites with words of these numbers. Exactly their pages were met
-- since, each of which is counted.
pub record AreTablesWalked (block : Superblock) (pages : PageMap) (before now : ℕ → ℕ) (texts : List (List ℕ × ℕ)) (numbers : List (ℕ × Counted)) (sites : List Site) (held : List ℕ) : Type 0 where
  pub places : HoldsSites pages block.head.places sites held
  pub words : HoldsTexts pages block.head.texts texts
  pub counted : HoldsNumbers pages block.head.numbers numbers
  pub met_are : (n : ℕ) → now n ≡ before n + table_uses pages (tables_in block.head) n
  pub known : (n : ℕ) → IsUncounted block.counted n → table_uses pages (tables_in block.head) n ≡ 0

-- The free list ends at 0, and each counted page is once in exactly one of the structures and the free list.
pub record AreUsedOrFree (block : Superblock) (pages : PageMap) : Type 0 where
  pub free : List ℕ
  pub chain : IsFreeList pages block.counted block.first_free free
  pub once : (n : ℕ) → store_uses block.head pages n + times free n + outside block.counted n ≡ 1

-- All structures of a store were walked, over pages that are readable, and page 0's fields are in their ranges.
pub record IsStoreWalked (block : Superblock) (pages : PageMap) (list : List ℕ) (texts : List (List ℕ × ℕ)) (numbers : List (ℕ × Counted)) (sites : List Site) (held : List ℕ) : Type 0 where
  pub readable : AreReadable pages block.counted
  pub range : IsInRange block
  pub met : ℕ → ℕ
  pub before : ℕ → ℕ
  pub now : ℕ → ℕ
  pub tree : IsTreeWalked block pages list met
  pub tables : AreTablesWalked block pages before now texts numbers sites held
  pub free : AreUsedOrFree block pages
