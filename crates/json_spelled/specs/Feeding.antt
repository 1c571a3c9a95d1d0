-- What a reader does with a text that goes on, and what a feed that took some bytes stands for.
use Rattle.std.specs.Prelude.{◌≡◌, ◌≢◌, ℕ, ◌+◌, ◌<◌, ◌≤◌, List, [], ◌∷◌, ◌++◌, length, take, Option, Some, None, Result, MatchResult, IfOk, IfErr, OnOk}
use Rattle.std.specs.Str.{IsUtf8}
use Rattle.json_spelled.specs.Json.{Json}
use Rattle.json_spelled.specs.Grammar.{IsText, alone}
use Rattle.json_spelled.specs.Machine.{Frame, Use, State, InText, InBytes, step}
use Rattle.json_spelled.specs.Reading.{ReadsSo, StopsAt, refusal_of}
use Rattle.json_spelled.specs.Refusals.{level_limit, IsOffence, IsFirstOffence}
use Rattle.json_spelled.specs.View.{json_of}
use Rattle.json_spelled.specs.declared.tree.Tree.{Tree}
use Rattle.json_spelled.specs.declared.tree.JsonFault.{JsonFault}
use Rattle.json_spelled.specs.declared.tree.JsonFault.TheVariants as faults
use Rattle.json_spelled.specs.Reader.{state_of}
use Rattle.json_spelled.specs.declared.fault.StepFault.{StepFault}
use Rattle.json_spelled.specs.declared.feed.Feed.{Feed}

-- a string takes this byte as it is
abbrev pub IsTaken : ℕ → Type 0
IsTaken byte = (levels : ℕ) (use' : Use) (token : List ℕ) (high : Option ℕ) (frames : List Frame)
    → step levels (InText use' InBytes token high frames) byte ≡ Some (InText use' InBytes ((token ++ alone high) ++ byte ∷ []) None frames)

-- The bytes of the text from one index up to another lead from state to state, whatever whole characters came before the text.
abbrev pub Leads : List ℕ → ℕ → ℕ → State → State → Type 0
Leads text i j s t = (front : List ℕ) → IsUtf8 front → ReadsSo (front ++ take i text) s → ReadsSo (front ++ take j text) t

-- the byte at the index is refused
abbrev pub Stops : List ℕ → ℕ → State → StepFault → Type 0
Stops text i s fault = (front : List ℕ) → IsUtf8 front → ReadsSo (front ++ take i text) s → StopsAt (front ++ text) (refusal_of fault (length front + i))

-- the whole text leads from state to state
abbrev pub Reads : List ℕ → State → State → Type 0
Reads text s t = (front : List ℕ) → IsUtf8 front → ReadsSo front s → ReadsSo (front ++ text) t

-- the text behind so many bytes is refused
abbrev pub StopsFrom : List ℕ → ℕ → State → JsonFault → Type 0
StopsFrom text at s fault = (front : List ℕ) → IsUtf8 front → at ≡ length front → ReadsSo front s → StopsAt (front ++ text) fault

-- no front of the bytes is whole characters
abbrev pub NoChar : List ℕ → Type 0
NoChar xs = (n : ℕ) → 0 < n → n ≤ length xs → IsUtf8 (take n xs) → ⊥

-- The reader took the whole characters of the bytes that came. The others, fewer than four, begin a character or none.
pub record Reading (bytes pending : List ℕ) (at : ℕ) (state : State) : Type 0 where
  pub text : List ℕ
  pub cut : bytes ≡ text ++ pending
  pub chars : IsUtf8 text
  pub offset : at ≡ length text
  pub part : NoChar pending
  pub short : length pending < 4
  pub took : ReadsSo text state

-- however the bytes go on, this is their first offence
abbrev pub IsRefused : List ℕ → JsonFault → Type 0
IsRefused bytes fault = fault ≢ faults.Memory → (rest : List ℕ) → IsFirstOffence (bytes ++ rest) fault

-- what was refused, and what wasn't
abbrev pub Stands : List ℕ → Option JsonFault → List ℕ → ℕ → State → Type 0
Stands bytes None pending at state = Reading bytes pending at state
Stands bytes (Some fault) pending at state = IsRefused bytes fault

-- a feed that took these bytes, in whatever pieces
abbrev pub Took : List ℕ → Feed → Type 0
Took bytes f = Stands bytes f.fault f.pending.items f.at (state_of f.reader)

-- how many bytes a feed took
abbrev pub count : Feed → ℕ
count f = f.at + length f.pending.items

-- why a feed refused what it took, if it did
abbrev pub refusal : Feed → Option JsonFault
refusal f = f.fault

-- What is told of a text: its value, or else its first offence or want of memory.
pub record Told (bytes : List ℕ) (result : Result Tree JsonFault) : Type 0 where
  -- each text that is read follows the grammar
  pub read : IfOk result (λ tree. IsText level_limit (json_of tree) bytes)
  -- each text that follows the grammar is read, unless memory runs out
  pub only : (value : Json) → IsText level_limit value bytes → MatchResult result (λ tree. json_of tree ≡ value) (λ fault. fault ≡ faults.Memory)
  -- a refusal names the first offence, and each text with an offence is refused
  pub refused : IfErr result (λ fault. fault ≢ faults.Memory → IsFirstOffence bytes fault)
  pub no_offence : OnOk result ((fault : JsonFault) → IsOffence bytes fault → ⊥)
