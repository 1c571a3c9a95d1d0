-- The tree beside tables that changed, and page 0's fields once it follows.
use Rattle.std.proofs.Common.{◌≡◌, ℕ, zero, suc, ◌+◌, ◌<◌, ◌≤◌, Option, Some, None, IfSome, refl, sym, arith}
use Rattle.spatial_base.specs.Key.{Name}
use Rattle.page_face.specs.FreeList.{PageMap}
use Rattle.page_face.specs.declared.head.Head.{Head}
use Rattle.page_store.specs.Superblock.{IsInRange}
use Rattle.page_store.specs.declared.superblock.Superblock.{Superblock}
use Rattle.btree_nodes.specs.Supply.{spare, view}
use Rattle.place_values.specs.State as states
use Rattle.row_codec.specs.declared.stored.Stored.{Stored}
use Rattle.rtree_nodes.specs.Slots.{Item}
use Rattle.rtree_nodes.specs.Stock as stock
use Rattle.rtree_nodes.specs.Pages.{node_of}
use Rattle.irtree_shape.specs.Made.{nodes_in}
use Rattle.irtree_shape.specs.Whole.{IsWhole}
use Rattle.irtree_shape.specs.Entries.{HasEntry}
use Rattle.irtree_shape.specs.Regrown.{IsRegrown}
use Rattle.node_rows.specs.declared.roots.Tree.{Tree}
use Rattle.store_tables.specs.declared.tables.Tables.{Tables}
use Rattle.store_tables.specs.Entries.{Entries, place_of_key}
use Rattle.store_tables.specs.Holding.{IsChanged}
use Rattle.store_model.specs.Stands.{PagesStandFor, TreeStands, at_number, tables_in}
use Rattle.store_model.proofs.Maps.{ascending-holds}
use Rattle.store_model.proofs.Sums.{place-has}
use Rattle.store_model.proofs.Tables.{others-apart}
use Rattle.store_model.proofs.Trees.{stands-whole, tree-kept, whole-root, whole-rows}
use Rattle.irtree_engine.specs.Changes.{block_with, head_with, tree_in}

module _ {claims : ℕ → ℕ → ℕ} {last : ℕ} (old : Superblock) (pages : PageMap) (state : states.Contents) (stand : PagesStandFor claims last old pages state) (between : PageMap) (count first : ℕ) (tables : Tables) (entries : Entries)
    (changed : IsChanged (view pages old.counted old.first_free stand.tables.free) (tables_in old.head) between count first tables entries) where
  -- a change of the tables leaves the tree's pages
  pub tree-stays : TreeStands old.head between stand.entries stand.others
  tree-stays = tree-kept old.head old.head pages between stand.entries stand.others stand.tree refl refl
      (λ n some. let apart = others-apart old pages stand.others stand.entries stand.tables n some in changed.moves.others n apart.0 apart.1)

  -- no page is the tree's and spare
  tree-once : (n : ℕ) → stand.others n + spare changed.free count n ≤ 1
  tree-once zero = let away = stand.tables.away in let once = changed.apart.once 0 in omega (arith, away, once)
  tree-once (suc m) =
      let every = stand.tables.every (suc m) (omega arith) in
      let kept = changed.moves.kept (suc m) in
      omega (arith, every, kept)

  -- so the tree is whole beside them
  pub tree-whole : IsWhole node_of (stock.view between old.head.rows count first changed.free) old.head.tree
  tree-whole = stands-whole old.head between count first changed.free stand.entries stand.others tree-stays changed.apart.supplied changed.apart.some tree-once stand.tables.away

  -- and has the entry of a place that was found
  pub tree-has : (key : Name) (found : Option Stored) → found ≡ place_of_key key stand.entries.places → IfSome found (HasEntry (nodes_in node_of between old.head.rows) old.head.tree key)
  tree-has key None is = tt
  tree-has key (Some stored) is =
      place-has old.head between stand.entries stand.others key stored tree-stays stand.tables.holds.places.each (ascending-holds pages (tables_in old.head) stand.entries stand.tables.holds).places (sym is)

-- page 0's fields with the roots of a tree that grew out of the one before are in their ranges
pub regrown-range : (old : Head) (last : ℕ) (tables : Tables) (live serial count first : ℕ) → IsInRange (at_number last (block_with count first (head_with old tables (tree_in old) live serial))) → (before : stock.View) (after : PageMap) (count_after first_after : ℕ) (tree : Tree) (taken put : Option Item)
    → IsRegrown node_of before after tree.rows count_after first_after old.tree tree.root taken put → count ≤ count_after → first_after < count_after
    → IsInRange (at_number last (block_with count_after first_after (head_with old tables tree live serial)))
regrown-range old last tables live serial count first range before after count_after first_after tree taken put regrown more counted =
    let counted_before = range.counted in
    let places = range.places in
    let texts = range.texts in
    let numbers = range.numbers in
    record {
      version = range.version;
      counted = omega (arith, counted_before, more);
      first_free = counted;
      places = omega (arith, places, more);
      texts = omega (arith, texts, more);
      numbers = omega (arith, numbers, more);
      rows = whole-rows (stock.view after tree.rows count_after first_after regrown.free) tree.root regrown.whole;
      tree = whole-root (stock.view after tree.rows count_after first_after regrown.free) tree.root regrown.whole (omega (arith, counted_before, more));
      serial = range.serial;
      serials = range.serials;
      number = range.number;
      next_word = range.next_word;
      words = range.words;
    }
