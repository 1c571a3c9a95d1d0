-- The tables and the tree that page 0 names.
use Rattle.std.proofs.Common.{◌≡◌, ℕ, length, refl, sym, ap, ◌∙◌}
use Rattle.std.proofs.lemmas.List.{length-map}
use Rattle.spatial_base.specs.Key.{Name}
use Rattle.row_codec.specs.declared.stored.Stored.{Stored}
use Rattle.page_face.specs.FreeList.{PageMap}
use Rattle.page_face.specs.declared.head.Head.{Head}
use Rattle.place_values.specs.State.{Contents}
use Rattle.node_rows.specs.declared.roots.Tree.{Tree}
use Rattle.store_tables.specs.declared.tables.Tables.{Tables}
use Rattle.store_model.specs.Stands.{PagesStand, place_in, tables_in}
use Rattle.query_execution.specs.Standing.{RootsStand}
use Rattle.irtree_engine.specs.Changes.{block_with, tree_in}

-- page 0's fields stand with the tables and the tree that they name
pub roots-stand : (pages : PageMap) (count first : ℕ) (head : Head) (tables : Tables) (tree : Tree) (state : Contents) → tables ≡ tables_in head → tree ≡ tree_in head → PagesStand (block_with count first head) pages state → RootsStand pages count first tables tree state
roots-stand pages count first head tables tree state tables_are tree_is stand = record {
  block = block_with count first head;
  stand = stand;
  count_is = refl;
  first_is = refl;
  tables_are = sym tables_are;
  tree_is = sym tree_is;
}

-- page 0 counts the places of the state
pub live-stands : (pages : PageMap) (count first : ℕ) (head : Head) (state : Contents) → PagesStand (block_with count first head) pages state → head.live ≡ length state.places
live-stands pages count first head state stand =
    stand.tables.live
    ∙ sym (length-map stand.entries.places (λ (e : Name × Stored). (e.0, place_in stand.entries.numbers e.1)))
    ∙ sym (ap (λ (s : Contents). length s.places) stand.is)
