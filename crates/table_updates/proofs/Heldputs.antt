-- A place that is put whose words were held ahead.
use Rattle.std.proofs.Common.{◌≡◌, ℕ, List, [], ◌∷◌, sym, ap, subst₂, ◌∙◌}
use Rattle.std.specs.List.{AllByRecursion}
use Rattle.std.specs.Map.{keys_of}
use Rattle.spatial_base.specs.Key.{Name}
use Rattle.spatial_base.specs.Point.{Position}
use Rattle.row_codec.specs.declared.counted.Counted.{Counted}
use Rattle.row_codec.specs.declared.stored.Stored.{Stored}
use Rattle.row_codec.specs.Pairs.{Pair}
use Rattle.store_tables.specs.Entries.{Entries, place_of_key, with_place}
use Rattle.store_model.specs.Ahead.{IsNamed, pairs_for}
use Rattle.store_model.specs.Updates.{CanReleaseAll, after_held, by_number, pairs_of, placed, released_all, stored_with}
use Rattle.table_updates.specs.Numbers.{IsKnownIn}

-- a word that was held ahead has a number
pub known-in : (numbers : List (List ℕ × ℕ)) (table : List (ℕ × Counted)) (words : List (List ℕ × ℕ)) → AllByRecursion (IsNamed numbers table) (keys_of words) → AllByRecursion (IsKnownIn numbers) (keys_of words)
known-in numbers table [] named = tt
known-in numbers table (t ∷ words) named = (named.0.0, known-in numbers table words named.1)

module _ (key : Name) (point : Position) (label : List ℕ) (numbers words listed : List (List ℕ × ℕ)) (entries : Entries) (held begun pairs : List Pair) (stored : Stored)
    (held_is : held ≡ pairs_of (place_of_key key entries.places)) (begun_is : begun ≡ []) (listed_is : listed ≡ words) (pairs_are : pairs ≡ placed begun (pairs_for numbers listed)) (stored_is : stored ≡ stored_with point pairs label) where
  -- the place has the numbers in their order
  pub held-stored : stored ≡ stored_with point (by_number (pairs_for numbers words)) label
  held-stored = stored_is ∙ ap (λ (ps : List Pair). stored_with point ps label) (pairs_are ∙ (λ i. placed (begun_is i) (pairs_for numbers (listed_is i))))

  -- the entries after the put
  pub held-after : released_all [] held (record entries { places = with_place key stored entries.places }) ≡ after_held key point (pairs_for numbers words) label entries
  held-after = λ i. released_all [] (held_is i) (record entries { places = with_place key (held-stored i) entries.places })

  -- and the old words can be released
  pub can-release-after : CanReleaseAll [] (pairs_of (place_of_key key entries.places)) (record entries { places = with_place key (stored_with point (by_number (pairs_for numbers words)) label) entries.places })
      → CanReleaseAll [] held (record entries { places = with_place key stored entries.places })
  can-release-after can = subst₂ (λ (ps : List Pair) (s : Stored). CanReleaseAll [] ps (record entries { places = with_place key s entries.places })) (sym held_is) (sym held-stored) can
