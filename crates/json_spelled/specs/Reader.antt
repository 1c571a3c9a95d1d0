-- The state of the machine that a reader is in.
use Rattle.std.specs.Prelude.{◌≡◌, ℕ, ◌≤◌, List, map, reverse, Option, Some, None, string_bytes, ⊤, Result, MatchResult}
use Rattle.json_spelled.specs.View.{json_of, jsons_of, entries_of}
use Rattle.json_spelled.specs.Machine.{Frame, InList, InObject, Place, Start, Mark1, Mark2, Value, FirstItem, BehindItem, FirstName, Name, BehindName, BehindMember, Ended, Use, AsValue, AsName, InBytes, InEscape, Hex1, Hex2, Hex3, Hex4, State, Between, InWord, InNumber, InText}
use Rattle.json_spelled.specs.declared.lexeme.Lexeme.{Lexeme}
use Rattle.json_spelled.specs.declared.lexeme.Lexeme.TheVariants as lexemes
use Rattle.json_spelled.specs.declared.reader.Open.{Open}
use Rattle.json_spelled.specs.declared.reader.Open.TheVariants as opens
use Rattle.json_spelled.specs.declared.reader.Place.{Place as ReaderPlace}
use Rattle.json_spelled.specs.declared.reader.Place.TheVariants as places
use Rattle.json_spelled.specs.declared.reader.Reader.{Reader}
use Rattle.json_spelled.specs.declared.fault.StepFault.{StepFault}
use Rattle.json_spelled.specs.declared.fault.StepFault.TheVariants.{Refused, TooDeep, Memory}

-- the frame of what is open
abbrev pub frame_of : Open → Frame
frame_of (opens.List items) = InList (jsons_of items.items)
frame_of (opens.Object members name) = InObject (entries_of members.items) (string_bytes name)

-- the innermost first
unfoldable pub frames_of : List Open → List Frame
frames_of opened = reverse (map frame_of opened)

-- what may come
abbrev pub place_of : ReaderPlace → Place
place_of places.Start = Start
place_of places.Mark1 = Mark1
place_of places.Mark2 = Mark2
place_of places.Value = Value
place_of places.FirstItem = FirstItem
place_of (places.BehindItem items) = BehindItem (jsons_of items.items)
place_of places.FirstName = FirstName
place_of (places.Name members) = Name (entries_of members.items)
place_of (places.BehindName members name) = BehindName (entries_of members.items) (string_bytes name)
place_of (places.BehindMember members) = BehindMember (entries_of members.items)
place_of (places.Ended tree) = Ended (json_of tree)

-- a string is a name where a name has to come
abbrev pub use_of : ReaderPlace → Use
use_of places.Start = AsValue
use_of places.Mark1 = AsValue
use_of places.Mark2 = AsValue
use_of places.Value = AsValue
use_of places.FirstItem = AsValue
use_of (places.BehindItem items) = AsValue
use_of places.FirstName = AsValue
use_of (places.Name members) = AsName (entries_of members.items)
use_of (places.BehindName members name) = AsValue
use_of (places.BehindMember members) = AsValue
use_of (places.Ended tree) = AsValue

-- the frames around what is read
abbrev pub around : Reader → List Frame
around r = frames_of r.opened.items

-- the state within this token
abbrev pub state_by : Lexeme → Reader → State
state_by lexemes.Between r = Between (place_of r.place) (around r)
state_by (lexemes.Word word) r = InWord word (around r)
state_by (lexemes.Number part) r = InNumber part (string_bytes r.token) (around r)
state_by lexemes.Text r = InText (use_of r.place) InBytes (string_bytes r.token) r.high (around r)
state_by lexemes.Escape r = InText (use_of r.place) InEscape (string_bytes r.token) r.high (around r)
state_by lexemes.Hex1 r = InText (use_of r.place) Hex1 (string_bytes r.token) r.high (around r)
state_by lexemes.Hex2 r = InText (use_of r.place) (Hex2 r.first) (string_bytes r.token) r.high (around r)
state_by lexemes.Hex3 r = InText (use_of r.place) (Hex3 r.first r.second) (string_bytes r.token) r.high (around r)
state_by lexemes.Hex4 r = InText (use_of r.place) (Hex4 r.first r.second r.third) (string_bytes r.token) r.high (around r)

-- the state of a reader
abbrev pub state_of : Reader → State
state_of r = state_by r.lexeme r

-- From state to state by an attempt, whatever number of levels is allowed from 64 on.
abbrev pub Goes : (ℕ → Option State) → State → Type 0
Goes attempt new = (levels : ℕ) → 64 ≤ levels → attempt levels ≡ Some new

-- why an attempt fails
abbrev pub Fails : (ℕ → Option State) → StepFault → Type 0
Fails attempt Refused = (levels : ℕ) → 64 ≤ levels → attempt levels ≡ None
Fails attempt TooDeep = (attempt 64 ≡ None) × ((levels : ℕ) × (new : State) × (64 ≤ levels) × (attempt levels ≡ Some new))
Fails attempt Memory = ⊤

-- the result of an attempt that leaves this state
abbrev pub Tries : {A : Type 0} → (ℕ → Option State) → Result A StepFault → State → Type 0
Tries attempt result new = MatchResult result (λ _. Goes attempt new) (Fails attempt)

-- the result of what only memory can keep from this state
abbrev pub Makes : {A : Type 0} → Result A StepFault → State → State → Type 0
Makes result wanted new = MatchResult result (λ _. new ≡ wanted) (λ fault. fault ≡ Memory)
