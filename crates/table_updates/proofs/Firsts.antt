-- The first row of the map of version 1 is that of the first place.
use Rattle.std.proofs.Common.{◌≡◌, ℕ, List, [], ◌∷◌, Some, None, refl, sym, ap, ◌∙◌}
use Rattle.std.proofs.lemmas.List.Elements.{All-head}
use Rattle.spatial_base.specs.Key.{Name, IsName}
use Rattle.page_face.specs.FreeList.{PageMap}
use Rattle.btree_nodes.specs.Rows.{Row, first_from}
use Rattle.btree_nodes.specs.Tree.{map_rows}
use Rattle.row_codec.specs.declared.stored.Stored.{Stored}
use Rattle.store_tables.specs.Coded.{IsEntryOf, key_code, row_by}
use Rattle.store_tables.specs.Entries.{place_after}
use Rattle.store_tables.proofs.EntryLemmas.{first-row}
use Rattle.table_updates.specs.Version1.{HoldsPlacesVersion1, IsPlaceVersion1, places_form_version1, value_of_version1}

-- where no row is first, there is no place
pub no-first : (pages : PageMap) (root : ℕ) (places : List (Name × Stored)) → HoldsPlacesVersion1 pages root places → first_from 0 (map_rows places_form_version1 pages root) ≡ None → place_after None places ≡ None
no-first pages root [] holds none = refl
no-first pages root (e ∷ places) holds none =
    let some : Some (row_by key_code value_of_version1 e) ≡ None = sym (first-row key_code value_of_version1 e places) ∙ ap (λ (rows : List Row). first_from 0 rows) (sym holds.rows) ∙ none in
    absurd (cc some)

-- the first place, and its row
pub record IsFirst (places : List (Name × Stored)) (row : Row) : Type 0 where
  pub e : Name × Stored
  pub is : place_after None places ≡ Some e
  pub formed : IsEntryOf IsName IsPlaceVersion1 e
  pub row_is : row ≡ row_by key_code value_of_version1 e

-- the first row is that of the first place
pub is-first : (pages : PageMap) (root : ℕ) (places : List (Name × Stored)) (row : Row) → HoldsPlacesVersion1 pages root places → first_from 0 (map_rows places_form_version1 pages root) ≡ Some row → IsFirst places row
is-first pages root [] row holds some =
    let none : None ≡ Some row = ap (λ (rows : List Row). first_from 0 rows) (sym holds.rows) ∙ some in
    absurd (cc none)
is-first pages root (e ∷ places) row holds some =
    let same : Some (row_by key_code value_of_version1 e) ≡ Some row = sym (first-row key_code value_of_version1 e places) ∙ ap (λ (rows : List Row). first_from 0 rows) (sym holds.rows) ∙ some in
    record { e = e; is = refl; formed = All-head (IsEntryOf IsName IsPlaceVersion1) e places holds.each; row_is = (let row_same : row_by key_code value_of_version1 e ≡ row = cc same in sym row_same) }
