-- What a text that isn't read offends against, and where.
use Rattle.std.specs.Prelude.{◌≡◌, ℕ, suc, ◌<◌, ◌≤◌, List, length, take}
use Rattle.std.specs.Str.{IsValidUpTo}
use Rattle.json_spelled.specs.Json.{Json}
use Rattle.json_spelled.specs.Grammar.{IsText, Begins}
use Rattle.json_spelled.specs.declared.tree.JsonFault.{JsonFault}
use Rattle.json_spelled.specs.declared.tree.JsonFault.TheVariants.{NotUtf8, Syntax, TooDeep, Memory}

-- how many arrays and objects may be open at once
abbrev pub level_limit : ℕ
level_limit = 64

-- the bytes are a JSON text, however many levels it has
abbrev pub IsSomeText : List ℕ → Type 0
IsSomeText bytes = (levels : ℕ) × (value : Json) × IsText levels value bytes

-- the bytes are a prefix of some JSON text, however many levels it has
abbrev pub BeginsSome : List ℕ → Type 0
BeginsSome bytes = (levels : ℕ) × Begins levels bytes

-- The bytes offend so. NotUtf8: the first ill-formed sequence begins there. Syntax: so many bytes begin some text, and one
-- more don't; or they are all, and no text. TooDeep: so many bytes begin a text of few enough levels, and one more begin only deeper ones.
abbrev pub IsOffence : List ℕ → JsonFault → Type 0
IsOffence bytes (NotUtf8 at) = IsValidUpTo bytes at
IsOffence bytes (Syntax at) = BeginsSome (take at bytes) × (at ≤ length bytes)
    × (at < length bytes → BeginsSome (take (suc at) bytes) → ⊥) × (at ≡ length bytes → IsSomeText bytes → ⊥)
IsOffence bytes (TooDeep at) = (at < length bytes) × Begins level_limit (take at bytes)
    × BeginsSome (take (suc at) bytes) × (Begins level_limit (take (suc at) bytes) → ⊥)
IsOffence bytes Memory = ⊥

-- where a fault is
abbrev pub offset_of : JsonFault → ℕ
offset_of (NotUtf8 at) = at
offset_of (Syntax at) = at
offset_of (TooDeep at) = at
offset_of Memory = 0

-- The first offence: no other is before it, and NotUtf8 goes before another at one offset.
pub record IsFirstOffence (bytes : List ℕ) (fault : JsonFault) : Type 0 where
  pub stands : IsOffence bytes fault
  pub first : (other : JsonFault) → IsOffence bytes other → offset_of fault ≤ offset_of other
  pub utf8_first : (at : ℕ) → IsOffence bytes (NotUtf8 at) → offset_of fault ≡ at → fault ≡ NotUtf8 at
