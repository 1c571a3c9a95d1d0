-- The map of live places.
use Rattle.std.specs.Prelude.{ℕ, ◌+◌, ◌<◌, ◌≤◌, ◌^◌, List, [], length, Option, Some, None, All}
use Rattle.std.specs.Borrow.{Bor}
use Rattle.std.specs.BTreeMap.{insert_entry, is_at}
use Rattle.std.specs.Map.{keys_of, lookup, remove_entry}
use Rattle.spatial_base.specs.Key.{Name, Text, Auto, key_cmp}
use Rattle.spatial_base.specs.Point.{Position}
use Rattle.place_values.specs.declared.place.Place.{Place}

-- the live places by key, in the keys' order
abbrev pub Places : Type 0
Places = List (Name × Place)

-- a state: the live places, the next serial and the update number
pub record Contents : Type 0 where
  pub places : Places
  pub serial : ℕ
  pub number : ℕ

-- a next serial and an update number that a state may have
pub record AreNumbers (serial number : ℕ) : Type 0 where
  pub some : 1 ≤ serial
  pub few : serial ≤ number + 1
  pub last : number ≤ 2 ^ 40

-- an automatic key is below the next serial
abbrev pub IsSerialAbove : ℕ → Name → Type 0
IsSerialAbove serial (Text bytes) = Unit {0}
IsSerialAbove serial (Auto given) = given < serial

-- what holds of each state: fewer than 2^32 places live, the numbers fit, and no live key is an automatic one that is yet to be given
pub record IsState (state : Contents) : Type 0 where
  pub few : length state.places < 2 ^ 32
  pub numbers : AreNumbers state.serial state.number
  pub given : All (IsSerialAbove state.serial) (keys_of state.places)

-- the state in which nothing was put yet
abbrev pub opening : Contents
opening = record { places = []; serial = 1; number = 0 }

-- the place of a key, where it has one
abbrev pub place_at : Name → Places → Option Place
place_at key places = lookup (is_at (key_cmp key)) places

-- the places with one at this key
abbrev pub with_place : Name → Place → Places → Places
with_place key place places = insert_entry key_cmp places key place

-- the places without this key's
abbrev pub without_place : Name → Places → Places
without_place key places = remove_entry (is_at (key_cmp key)) places

-- a point, words that are lent, and a label, as a place
abbrev pub shown : Option (Position × Bor (List (List ℕ × ℕ)) × List ℕ) → Option Place
shown (Some lent) = Some record { point = lent.0; words = lent.1.now; label = lent.2 }
shown None = None
