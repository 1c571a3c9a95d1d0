-- A place's words by number: pairs of a number and an impact.
use Rattle.std.specs.Prelude.{◌≡◌, ℕ, ◌<◌, ◌≤◌, ◌^◌, List, [], ◌∷◌, ◌++◌}
use Rattle.std.specs.Int.{w64, to_be_bytes}

-- a word's number, and its impact
abbrev pub Pair : Type 0
Pair = ℕ × ℕ

-- an impact is 1 to 255
abbrev pub HasImpact : Pair → Type 0
HasImpact pair = 1 ≤ pair.1

-- a pair behind those of the place's words
abbrev pub IsSpare : Pair → Type 0
IsSpare pair = (pair.0 ≡ 0) × (pair.1 ≡ 0)

-- the numbers of a pair are a u64 and a byte
abbrev pub IsPair : Pair → Type 0
IsPair pair = (pair.0 < 2 ^ 64) × (pair.1 < 2 ^ 8)

-- a word's number in 8 bytes, and its impact
unfoldable pub pair_bytes : Pair → List ℕ
pair_bytes pair = to_be_bytes w64 pair.0 ++ pair.1 ∷ []
