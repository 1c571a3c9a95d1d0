-- A store is whole exactly if its pages hold a state.
use Rattle.std.proofs.Common.{◌≡◌, ℕ, zero, suc, ◌+◌, ◌<◌, ◌≤◌, refl, sym, ◌∙◌, arith}
use Rattle.std.proofs.lemmas.Bool.Decides.{nat_tests}
use Rattle.disk_model.specs.World.{Image}
use Rattle.page_face.specs.FreeList.{PageMap}
use Rattle.page_store.specs.declared.superblock.Superblock.{Superblock}
use Rattle.page_store.specs.Contents as stores
use Rattle.btree_nodes.specs.Supply.{times, uncounted, spare, view}
use Rattle.place_values.specs.State.{Contents}
use Rattle.store_model.specs.Stands.{PagesStand, Stands, TablesStand, TreeStands, state_in, tables_in}
use Rattle.store_model.proofs.Trees.{spare-away}
use Rattle.rtree_nodes.specs.Stock.{rows_form}
use Rattle.btree_nodes.specs.Tree.{map_uses}
use Rattle.store_tables.specs.Holding.{IsApart, table_uses}
use Rattle.store_verify.specs.Tree.{node_uses}
use Rattle.store_verify.specs.Whole.{IsWhole, outside, store_uses}
use Rattle.store_verify.proofs.LeafEntries.{join-leaves, part-impacts, part-leaves}
use Rattle.std.specs.List.Sorted.{IsStrictlySortedBy}
use Rattle.std.specs.Map.{keys_of}
use Rattle.spatial_base.specs.Key.{key_cmp}
use Rattle.rtree_nodes.specs.Pages.{node_of}
use Rattle.rtree_nodes.specs.Whole.{IsWell}
use Rattle.store_model.proofs.Maps.{ascending-holds}
use Rattle.store_verify.proofs.Joins.{join-uses, join-tree, part-tree, part-agree}

-- page 0 is outside
pub outside-zero : (count : ℕ) → outside count 0 ≡ 1
unfolding outside
outside-zero count = refl

-- any other page is outside exactly if it isn't counted
pub outside-some : (count n : ℕ) → 0 < n → outside count n ≡ uncounted count n
unfolding outside
outside-some count n some = grind (arith, nat_tests)

-- page 0 is counted
pub counted-zero : (count : ℕ) → 1 ≤ count → uncounted count 0 ≡ 0
unfolding uncounted
counted-zero count some = grind (arith, nat_tests)

module _ (block : Superblock) (pages : PageMap) (whole : IsWhole block pages) where
  -- the pages of the tree and of its rows
  others : ℕ → ℕ
  others n = node_uses block.head pages n + map_uses rows_form pages block.head.rows n

  -- page 0 is in no structure
  away : store_uses block.head pages 0 + times whole.free 0 ≡ 0
  away = let once = whole.once 0 in let zero = outside-zero block.counted in omega arith

  -- each other page is in one, or isn't counted
  every : (n : ℕ) → 0 < n → store_uses block.head pages n + spare whole.free block.counted n ≡ 1
  every n some = let once = whole.once n in let out = outside-some block.counted n some in omega arith

  tables_once : (n : ℕ) → table_uses pages (tables_in block.head) n + spare whole.free block.counted n ≤ 1
  tables_once zero = let none = away in let in_range = counted-zero block.counted whole.head.counted in omega arith
  tables_once (suc n) = let one = every (suc n) (omega arith) in omega arith

  apart : IsApart (view pages block.counted block.first_free whole.free) (tables_in block.head)
  apart = record { supplied = whole.chain; once = tables_once; away = (let none = away in omega arith); some = whole.head.counted }

  tables_stand : TablesStand block pages others whole.entries
  unfolding others
  tables_stand = record {
    range = whole.head;
    serials = whole.head.serials;
    free = whole.free;
    holds = whole.tables;
    apart = apart;
    every = λ n some. (let one = every n some in omega arith);
    away = (let none = away in omega arith);
    sound = record { words = whole.words; serials = whole.counts.serials };
    live = whole.counts.live;
  }

  ascend : IsStrictlySortedBy key_cmp (keys_of whole.entries.places)
  ascend = (ascending-holds pages (tables_in block.head) whole.entries whole.tables).places

  tree_stands : TreeStands block.head pages whole.entries others
  unfolding others
  tree_stands = record {
    tree = join-tree pages block.head.rows block.head.tree whole.rows.blank whole.tree whole.rows.greatest;
    entries_are = join-leaves pages block.head.rows block.head.tree whole.entries.places whole.tree whole.tables.places.each ascend whole.rows.impacts whole.leaves;
    map = whole.map;
    filled = whole.rows.filled;
    blank = whole.rows.blank;
    named = λ n w i none. whole.rows.named n w i (sym (join-uses pages block.head.rows block.head.tree n) ∙ none);
    uses_are = λ n. (let same = join-uses pages block.head.rows block.head.tree n in omega arith);
  }

  -- the pages of a whole store hold the state of its entries
  pub whole-holds : PagesStand block pages (state_in whole.entries block.head.serial block.head.number)
  whole-holds = record { entries = whole.entries; others = others; tables = tables_stand; tree = tree_stands; is = refl }

-- a store whose pages hold a state is whole
pub holds-whole : (block : Superblock) (pages : PageMap) (state : Contents) → PagesStand block pages state → IsWhole block pages
holds-whole block pages state stand = record {
  entries = stand.entries;
  free = tables.free;
  head = tables.range;
  tables = tables.holds;
  map = tree.map;
  tree = well;
  rows = record {
    impacts = part-impacts pages block.head.rows block.head.tree stand.entries.places well tables.holds.places.each ascend tree.entries_are;
    greatest = part-agree pages block.head.rows block.head.tree tree.blank tree.tree;
    filled = tree.filled;
    blank = tree.blank;
    named = λ n w i none. tree.named n w i (join-uses pages block.head.rows block.head.tree n ∙ none);
  };
  chain = tables.apart.supplied;
  once = once;
  leaves = part-leaves pages block.head.rows block.head.tree stand.entries.places well tables.holds.places.each ascend tree.entries_are;
  words = tables.sound.words;
  counts = record { live = tables.live; serials = tables.sound.serials };
}
  where
    tables : TablesStand block pages stand.others stand.entries
    tables = stand.tables

    tree : TreeStands block.head pages stand.entries stand.others
    tree = stand.tree

    well : IsWell node_of pages block.head.tree
    well = part-tree pages block.head.rows block.head.tree tree.blank tree.tree

    ascend : IsStrictlySortedBy key_cmp (keys_of stand.entries.places)
    ascend = (ascending-holds pages (tables_in block.head) stand.entries tables.holds).places

    once : (n : ℕ) → store_uses block.head pages n + times tables.free n + outside block.counted n ≡ 1
    once zero =
        let none = tables.away in
        let are = tree.uses_are 0 in
        let same = join-uses pages block.head.rows block.head.tree 0 in
        let own = tables.apart.away in
        let free = spare-away block pages stand.others stand.entries tables in
        let out = outside-zero block.counted in
        omega arith
    once (suc n) =
        let one = tables.every (suc n) (omega arith) in
        let are = tree.uses_are (suc n) in
        let same = join-uses pages block.head.rows block.head.tree (suc n) in
        let out = outside-some block.counted (suc n) (omega arith) in
        omega arith

-- the image whose pages are whole holds a state
pub whole-stands : (contents : stores.Contents) (image : Image) → stores.HoldsContents contents image → IsWhole contents.block contents.pages → (state : Contents) × Stands image state
whole-stands contents image holds whole =
    (state_in whole.entries contents.block.head.serial contents.block.head.number, record { contents = contents; holds = holds; stand = whole-holds contents.block contents.pages whole })

-- the image that holds a state has pages that are whole
pub stands-whole : (image : Image) (state : Contents) (stands : Stands image state) → IsWhole stands.contents.block stands.contents.pages
stands-whole image state stands = holds-whole stands.contents.block stands.contents.pages state stands.stand
