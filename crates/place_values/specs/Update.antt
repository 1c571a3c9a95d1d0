-- What an update does.
use Rattle.std.specs.Prelude.{◌≡◌, ℕ, ◌+◌, ◌^◌, ◌==◌, ◌&&◌, nat_le, if◌then◌else◌, length, Option, Some, None, is_some, is_none, Result, Ok, Err}
use Rattle.spatial_base.specs.Key.{Name, Text, Auto}
use Rattle.place_values.specs.declared.place.Place.{Place}
use Rattle.place_values.specs.declared.update.Update.{Update}
use Rattle.place_values.specs.declared.update.Update.TheVariants.{Put, Remove}
use Rattle.place_values.specs.declared.update.Applied.{Applied}
use Rattle.place_values.specs.declared.update.Applied.TheVariants.{New, Replaced, Gone, Absent}
use Rattle.place_values.specs.declared.update.UpdateFault.{UpdateFault}
use Rattle.place_values.specs.declared.update.UpdateFault.TheVariants.{Full, Worn, Memory}
use Rattle.place_values.specs.State.{Contents, place_at, with_place, without_place}

-- a key that a Put names is a text key
abbrev pub NamesText : Update → Type 0
NamesText (Put (Some (Text bytes)) point words label) = Unit {0}
NamesText (Put (Some (Auto serial)) point words label) = ⊥
NamesText (Put None point words label) = Unit {0}
NamesText (Remove key) = Unit {0}

-- the state after an update, and what it answered
pub record Effect : Type 0 where
  pub state : Contents
  pub answer : Result Applied UpdateFault

-- refused: the state stays
abbrev pub refuses : Contents → UpdateFault → Effect
refuses state fault = record { state = state; answer = Err fault }

-- a place is put at a key: full where the key is new and 1,000,000 places live, worn at update number 2^40
abbrev pub put_at : Contents → Name → ℕ → Place → Effect
put_at state key serial place =
    let lived = is_some (place_at key state.places) in
    if nat_le 1000000 (length state.places) && is_none (place_at key state.places)
    then refuses state Full
    else if state.number == 2 ^ 40
    then refuses state Worn
    else record {
      state = record { places = with_place key place state.places; serial = serial; number = state.number + 1 };
      answer = Ok (if lived then Replaced else New);
    }

-- a Put without a key takes the automatic key of the next serial
abbrev pub key_for : Contents → Option Name → Name
key_for state (Some key) = key
key_for state None = Auto state.serial

-- and raises the serial by one
abbrev pub serial_after : Contents → Option Name → ℕ
serial_after state (Some key) = state.serial
serial_after state None = state.serial + 1

-- a key is taken out: nothing changes where it is absent, worn at update number 2^40
abbrev pub removed_at : Contents → Name → Effect
removed_at state key =
    if is_none (place_at key state.places)
    then record { state = state; answer = Ok Absent }
    else if state.number == 2 ^ 40
    then refuses state Worn
    else record {
      state = record { places = without_place key state.places; serial = state.serial; number = state.number + 1 };
      answer = Ok Gone;
    }

-- what each kind of update does
abbrev pub effect_of : Contents → Update → Effect
effect_of state (Put key point words label) = put_at state (key_for state key) (serial_after state key) record { point = point; words = words; label = label }
effect_of state (Remove key) = removed_at state key

-- a call left and answered the effect; after want of memory nothing has changed
abbrev pub Gives : Contents → Effect → Contents → Result Applied UpdateFault → Type 0
Gives old effect new (Ok applied) = effect ≡ record { state = new; answer = Ok applied }
Gives old effect new (Err Full) = effect ≡ record { state = new; answer = Err Full }
Gives old effect new (Err Worn) = effect ≡ record { state = new; answer = Err Worn }
Gives old effect new (Err Memory) = new ≡ old
