-- What a look for a place gives on any pages that tell their bytes, each page that it goes over keeping the rules in its place.
use Rattle.std.specs.Prelude.{◌≡◌, ℕ, List, [], ◌∷◌, Option, Some, None}
use Rattle.std.specs.BTreeMap.{insert_entry}
use Rattle.page_face.specs.FreeList.{PageMap}
use Rattle.paged_map.specs.Lookups.{IsLookedUp}
use Rattle.place_values.specs.declared.place.Place.{Place}
use Rattle.row_codec.specs.declared.counted.Counted.{Counted}
use Rattle.row_codec.specs.declared.stored.Stored.{Stored}
use Rattle.row_codec.specs.Counted.{counted_value}
use Rattle.row_codec.specs.Pairs.{Pair}
use Rattle.row_codec.specs.Stored.{held_pairs, place_value}
use Rattle.spatial_base.specs.Key.{Name}
use Rattle.store_tables.specs.Coded.{key_code}
use Rattle.store_tables.specs.Entries.{word_cmp}
use Rattle.store_tables.specs.Holding.{numbers_form, places_form}
use Rattle.store_tables.specs.declared.tables.Tables.{Tables}

-- the words of numbers with their impacts, each by the row that the words by number have there
abbrev pub AreWordsFound : PageMap → ℕ → ℕ → List Pair → List (List ℕ × ℕ) → Type 0
AreWordsFound pages count root [] words = words ≡ []
AreWordsFound pages count root (pair ∷ pairs) words =
    (rest : List (List ℕ × ℕ)) × (row : Counted) × AreWordsFound pages count root pairs rest
    × IsLookedUp numbers_form pages count root pair.0 (Some (counted_value row)) × (words ≡ insert_entry word_cmp rest row.word pair.1)

-- the place at a key by the place table's row there, with its words and its label, and none where there is no row
abbrev pub IsPlaceFound : PageMap → ℕ → Tables → Name → Option Place → Type 0
IsPlaceFound pages count tables key None = IsLookedUp places_form pages count tables.places (key_code key) None
IsPlaceFound pages count tables key (Some place) =
    (stored : Stored) × IsLookedUp places_form pages count tables.places (key_code key) (Some (place_value stored))
    × (place.point ≡ stored.point) × AreWordsFound pages count tables.numbers (held_pairs stored) place.words × (place.label ≡ stored.label)
