-- The numbers of JSON over bytes, as RFC 8259, section 6, has them: number = [ minus ] int [ frac ] [ exp ].
-- A part that is left out is the empty list.
use Rattle.std.specs.Prelude.{◌≡◌, ℕ, ◌≤◌, ◌⊎◌, List, [], ◌∷◌, ◌++◌, ⊤}

-- DIGIT: a byte from `0` to `9`
abbrev pub IsDigit : ℕ → Type 0
IsDigit byte = (48 ≤ byte) × (byte ≤ 57)

-- *DIGIT: digits, or nothing
abbrev pub AreDigits : List ℕ → Type 0
AreDigits [] = ⊤
AreDigits (byte ∷ rest) = IsDigit byte × AreDigits rest

-- 1*DIGIT: one digit or more
abbrev pub IsDigits : List ℕ → Type 0
IsDigits [] = ⊥
IsDigits (byte ∷ rest) = IsDigit byte × AreDigits rest

-- [ minus ]: `-`, or nothing
abbrev pub IsMinus : List ℕ → Type 0
IsMinus [] = ⊤
IsMinus (byte ∷ rest) = (byte ≡ 45) × (rest ≡ [])

-- int = zero / ( digit1-9 *DIGIT ): `0` alone, or digits that don't begin with it
abbrev pub IsInt : List ℕ → Type 0
IsInt [] = ⊥
IsInt (byte ∷ rest) = ((byte ≡ 48) × (rest ≡ [])) ⊎ ((49 ≤ byte) × (byte ≤ 57) × AreDigits rest)

-- [ frac ], frac = decimal-point 1*DIGIT: a point and digits, or nothing
abbrev pub IsFrac : List ℕ → Type 0
IsFrac [] = ⊤
IsFrac (byte ∷ rest) = (byte ≡ 46) × IsDigits rest

-- [ minus / plus ] 1*DIGIT: digits, which `-` or `+` may precede
abbrev pub IsSignedDigits : List ℕ → Type 0
IsSignedDigits [] = ⊥
IsSignedDigits (byte ∷ rest) = (((byte ≡ 45) ⊎ (byte ≡ 43)) × IsDigits rest) ⊎ (IsDigit byte × AreDigits rest)

-- [ exp ], exp = e [ minus / plus ] 1*DIGIT: `e` or `E` and digits with a sign or without, or nothing
abbrev pub IsExp : List ℕ → Type 0
IsExp [] = ⊤
IsExp (byte ∷ rest) = ((byte ≡ 101) ⊎ (byte ≡ 69)) × IsSignedDigits rest

-- the four parts of a number, each with its sign, its point or its `e`
pub record Parts : Type 0 where
  pub minus : List ℕ
  pub int : List ℕ
  pub frac : List ℕ
  pub exp : List ℕ

-- the bytes are the number of these parts
pub record IsMadeOf (bytes : List ℕ) (parts : Parts) : Type 0 where
  pub whole : bytes ≡ parts.minus ++ (parts.int ++ (parts.frac ++ parts.exp))
  pub is_minus : IsMinus parts.minus
  pub is_int : IsInt parts.int
  pub is_frac : IsFrac parts.frac
  pub is_exp : IsExp parts.exp

-- the bytes are a number
abbrev pub IsNumber : List ℕ → Type 0
IsNumber bytes = (parts : Parts) × IsMadeOf bytes parts
