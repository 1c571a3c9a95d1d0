-- The next serial is above the automatic keys.
use Rattle.std.proofs.Common.{◌≡◌, ℕ, ◌≤◌, Bool, All, sym, ap, subst, ◌∙◌, arith}
use Rattle.std.proofs.lemmas.List.Elements.{All-map, All-weaker}
use Rattle.std.proofs.lemmas.Map.Views.{All-keys-insert_entry, All-map-remove_entry}
use Rattle.std.specs.Map.{keys_of, remove_entry}
use Rattle.spatial_base.specs.Key.{Name, Text, Auto, key_cmp}
use Rattle.place_values.specs.declared.place.Place.{Place}
use Rattle.place_values.specs.Restored.{Rows, places_in}
use Rattle.place_values.specs.State.{IsSerialAbove, Places, with_place}
use Rattle.place_values.proofs.Rows.{keys_stay}

-- a later serial is above what an earlier one is above
pub later : (serial next : ℕ) → serial ≤ next → (name : Name) → IsSerialAbove serial name → IsSerialAbove next name
later serial next le (Text bytes) above = tt
later serial next le (Auto given) above = omega (arith, le, above)

-- a place is put at a key that the next serial is above
pub given_put : (serial next : ℕ) (key : Name) (place : Place) (places new : Places) → new ≡ with_place key place places → serial ≤ next → IsSerialAbove next key → All (IsSerialAbove serial) (keys_of places) → All (IsSerialAbove next) (keys_of new)
given_put serial next key place places new is le above all =
    subst (λ es. All (IsSerialAbove next) (keys_of es)) (sym is)
    (All-keys-insert_entry key_cmp key place (IsSerialAbove next) places (All-weaker (IsSerialAbove serial) (IsSerialAbove next) (later serial next le) (keys_of places) all) above)

-- a key is taken out
pub given_removed : (serial : ℕ) (test : Name → Bool) (places new : Places) → new ≡ remove_entry test places → All (IsSerialAbove serial) (keys_of places) → All (IsSerialAbove serial) (keys_of new)
given_removed serial test places new is all =
    subst (λ es. All (IsSerialAbove serial) (keys_of es)) (sym is) (All-map-remove_entry test (λ e. e.0) (IsSerialAbove serial) places all)

-- all keys are given at once
pub given_restored : (serial : ℕ) (rows : Rows) (places : Places) → places ≡ places_in rows → All (λ row. IsSerialAbove serial row.0) rows → All (IsSerialAbove serial) (keys_of places)
given_restored serial rows places is all =
    subst (All (IsSerialAbove serial)) (sym (ap keys_of is ∙ keys_stay rows)) (All-map (IsSerialAbove serial) (λ row. row.0) rows all)
