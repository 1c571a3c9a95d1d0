-- What tables and a tree keep that stand for a state.
use Rattle.std.proofs.Common.{◌≡◌, ℕ, length, sym, ap, subst, ◌∙◌}
use Rattle.std.proofs.lemmas.List.{length-map}
use Rattle.spatial_base.specs.Key.{Name}
use Rattle.row_codec.specs.declared.stored.Stored.{Stored}
use Rattle.page_face.specs.FreeList.{PageMap}
use Rattle.btree_nodes.specs.Supply as supply
use Rattle.paged_map.specs.Maps.{AreCounted}
use Rattle.page_store.specs.declared.superblock.Superblock.{Superblock}
use Rattle.node_rows.specs.declared.roots.Tree.{Tree}
use Rattle.rtree_nodes.specs.Slots.{Item}
use Rattle.rtree_nodes.specs.Pages.{node_of}
use Rattle.irtree_shape.specs.Made.{nodes_in}
use Rattle.irtree_shape.specs.Whole.{tree_sum}
use Rattle.boolean_queries.specs.Opens.{Fits}
use Rattle.place_values.specs.State.{Contents}
use Rattle.store_tables.specs.declared.tables.Tables.{Tables}
use Rattle.store_tables.specs.Entries.{Entries}
use Rattle.store_tables.specs.Holding.{Holds, table_uses}
use Rattle.store_tables.specs.Words.{WordsAgree}
use Rattle.store_tables.proofs.ToldLemmas.{apart-counted}
use Rattle.store_model.specs.Stands.{PagesStand, entry_sum, place_in, places_in, state_in, tables_in}
use Rattle.store_model.proofs.Trees.{whole-in}
use Rattle.query_execution.specs.Standing.{RootsStand, tree_of}

-- The tables hold these entries, with words that agree, on pages that are counted; a whole tree beside them has an entry for each place, and
-- no other; and the state is that of the entries.
pub record AreKept (pages : PageMap) (count first : ℕ) (tables : Tables) (tree : Tree) (state : Contents) : Type 0 where
  pub entries : Entries
  pub holds : Holds pages tables entries
  pub counted : AreCounted (table_uses pages tables) count
  pub agree : WordsAgree entries tables.next_word
  pub whole : Fits pages tree.rows count first tree.root
  pub entries_are : (f : Item → ℕ) → tree_sum (nodes_in node_of pages tree.rows) tree.root f ≡ entry_sum f entries.places
  pub serial : ℕ
  pub number : ℕ
  pub is : state ≡ state_in entries serial number

-- by the fields of page 0
block-kept : (block : Superblock) (pages : PageMap) (state : Contents) → PagesStand block pages state → AreKept pages block.counted block.first_free (tables_in block.head) (tree_of block.head) state
block-kept block pages state stand = record {
  entries = stand.entries;
  holds = stand.tables.holds;
  counted = apart-counted (supply.view pages block.counted block.first_free stand.tables.free) (tables_in block.head) stand.tables.apart;
  agree = stand.tables.sound.words;
  whole = (stand.tables.free, whole-in block pages stand.others stand.entries stand.entries stand.tables stand.tree);
  entries_are = stand.tree.entries_are;
  serial = block.head.serial;
  number = block.head.number;
  is = stand.is;
}

-- and by the roots
pub roots-kept : (pages : PageMap) (count first : ℕ) (tables : Tables) (tree : Tree) (state : Contents) → RootsStand pages count first tables tree state → AreKept pages count first tables tree state
roots-kept pages count first tables tree state roots =
    subst (λ (c : ℕ). AreKept pages c first tables tree state) roots.count_is
    (subst (λ (f : ℕ). AreKept pages roots.block.counted f tables tree state) roots.first_is
    (subst (λ (t : Tables). AreKept pages roots.block.counted roots.block.first_free t tree state) roots.tables_are
    (subst (λ (t : Tree). AreKept pages roots.block.counted roots.block.first_free (tables_in roots.block.head) t state) roots.tree_is
    (block-kept roots.block pages state roots.stand))))

-- as many places live as the entries list
pub state-places : (entries : Entries) → length (places_in entries) ≡ length entries.places
state-places entries = length-map entries.places (λ (e : Name × Stored). (e.0, place_in entries.numbers e.1))

-- so many as the entries list
pub kept-live : (pages : PageMap) (count first : ℕ) (tables : Tables) (tree : Tree) (state : Contents) → (kept : AreKept pages count first tables tree state)
    → (live : ℕ) → live ≡ length state.places → live ≡ length kept.entries.places
kept-live pages count first tables tree state kept live are = are ∙ ap (λ (s : Contents). length s.places) kept.is ∙ state-places kept.entries

-- page 0's count of live places is that of the state
pub stand-live : (block : Superblock) (pages : PageMap) (state : Contents) → PagesStand block pages state → block.head.live ≡ length state.places
stand-live block pages state stand = stand.tables.live ∙ sym (state-places stand.entries) ∙ ap (λ (s : Contents). length s.places) (sym stand.is)
