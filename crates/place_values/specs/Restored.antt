-- The places that a state is made of at once.
use Rattle.std.specs.Prelude.{ℕ, List, map, All}
use Rattle.std.specs.List.Sorted.{IsStrictlySortedBy}
use Rattle.spatial_base.specs.Key.{Name, key_cmp}
use Rattle.spatial_base.specs.Point.{Position}
use Rattle.place_values.specs.State.{AreNumbers, IsSerialAbove, Places}

-- keys, where they are, their words and their labels
abbrev pub Rows : Type 0
Rows = List (Name × Position × List (List ℕ × ℕ) × List ℕ)

-- their keys
abbrev pub keys_in : Rows → List Name
keys_in rows = map (λ row. row.0) rows

-- them as places by key
abbrev pub places_in : Rows → Places
places_in rows = map (λ row. (row.0, record { point = row.1; words = row.2; label = row.3 })) rows

-- a state may have these places, with this next serial and update number
pub record AreStatePlaces (rows : Rows) (serial number : ℕ) : Type 0 where
  pub numbers : AreNumbers serial number
  pub ascending : IsStrictlySortedBy key_cmp (keys_in rows)
  pub given : All (λ row. IsSerialAbove serial row.0) rows
