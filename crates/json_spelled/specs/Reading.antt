-- What a reader keeps true from byte to byte.
use Rattle.std.specs.Prelude.{◌≡◌, ℕ, suc, ◌<◌, ◌≤◌, List, [], ◌∷◌, ◌++◌, length, take, Option, None, ⊤}
use Rattle.std.specs.Str.{IsUtf8, IsValidUpTo}
use Rattle.json_spelled.specs.Json.{Json}
use Rattle.json_spelled.specs.Grammar.{Begins}
use Rattle.json_spelled.specs.Machine.{Start, Mark1, Mark2, InBytes, State, Between, InWord, InNumber, InText, start, answer, finish}
use Rattle.json_spelled.specs.Refusals.{level_limit, BeginsSome}
use Rattle.json_spelled.specs.declared.tree.JsonFault.{JsonFault}
use Rattle.json_spelled.specs.declared.tree.JsonFault.TheVariants.{NotUtf8, Syntax, TooDeep, Memory}
use Rattle.json_spelled.specs.declared.fault.StepFault.{StepFault}
use Rattle.json_spelled.specs.declared.fault.StepFault.TheVariants as steps

-- The bytes that were read are whole characters; within a string, what it says so far goes on as they do.
abbrev pub KeepsText : List ℕ → State → Type 0
KeepsText bytes (Between Start frames) = bytes ≡ []
KeepsText bytes (Between Mark1 frames) = bytes ≡ 0xEF ∷ []
KeepsText bytes (Between Mark2 frames) = bytes ≡ 0xEF ∷ 0xBB ∷ []
KeepsText bytes (Between _ frames) = IsUtf8 bytes
KeepsText bytes (InWord word frames) = IsUtf8 bytes
KeepsText bytes (InNumber part token frames) = IsUtf8 bytes × IsUtf8 token
KeepsText bytes (InText use' InBytes token None frames) = (rest : List ℕ) → IsUtf8 (bytes ++ rest) → IsUtf8 (token ++ rest)
KeepsText bytes (InText use' _ token _ frames) = IsUtf8 bytes × IsUtf8 token

-- the bytes lead to the state
pub record ReadsSo (bytes : List ℕ) (state : State) : Type 0 where
  pub leads : (levels : ℕ) (rest : List ℕ) → level_limit ≤ levels → answer levels start (bytes ++ rest) ≡ answer levels state rest
  pub keeps : KeepsText bytes state

-- why the reading of a text of whole characters stops before its end
abbrev pub StopsAt : List ℕ → JsonFault → Type 0
StopsAt text (NotUtf8 at) = ⊥
StopsAt text (Syntax at) = (at < length text) × Begins level_limit (take at text) × (BeginsSome (take (suc at) text) → ⊥)
StopsAt text (TooDeep at) = (at < length text) × Begins level_limit (take at text) × BeginsSome (take (suc at) text) × (Begins level_limit (take (suc at) text) → ⊥)
StopsAt text Memory = ⊤

-- so many bytes are the longest front of whole characters
pub record IsValidLength (bytes : List ℕ) (len : ℕ) : Type 0 where
  pub within : len ≤ length bytes
  pub front : IsUtf8 (take len bytes)
  pub ill : len < length bytes → IsValidUpTo bytes len

-- the refusal of a byte at this offset
abbrev pub refusal_of : StepFault → ℕ → JsonFault
refusal_of steps.Refused at = Syntax at
refusal_of steps.TooDeep at = TooDeep at
refusal_of steps.Memory at = Memory

-- the text was read to its end, and gives the value, or ends too early
abbrev pub Gives : List ℕ → Option Json → Type 0
Gives text value = (state : State) × ReadsSo text state × (finish state ≡ value)
