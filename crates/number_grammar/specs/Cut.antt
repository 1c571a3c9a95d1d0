-- Where the parts of a number end: each takes the bytes that it can from the front of what the parts before it left.
use Rattle.std.specs.Prelude.{ℕ, List, [], ◌∷◌, ◌==◌, if◌then◌else◌}
use Rattle.std.specs.Char.{is_ascii_digit}
use Rattle.number_grammar.specs.Number.{Parts}

-- the digits that stand first
abbrev pub first_digits : List ℕ → List ℕ
first_digits [] = []
first_digits (byte ∷ rest) = if is_ascii_digit byte then byte ∷ first_digits rest else []

-- what follows the digits that stand first
abbrev pub after_digits : List ℕ → List ℕ
after_digits [] = []
after_digits (byte ∷ rest) = if is_ascii_digit byte then after_digits rest else byte ∷ rest

-- `-`, where it stands first
abbrev pub first_minus : List ℕ → List ℕ
first_minus [] = []
first_minus (byte ∷ rest) = if byte == 45 then byte ∷ [] else []

-- what follows `-`, where it stands first, or all
abbrev pub after_minus : List ℕ → List ℕ
after_minus [] = []
after_minus (byte ∷ rest) = if byte == 45 then rest else byte ∷ rest

-- the point and the digits behind it, where it stands first
abbrev pub first_frac : List ℕ → List ℕ
first_frac [] = []
first_frac (byte ∷ rest) = if byte == 46 then byte ∷ first_digits rest else []

-- what follows the point and its digits, where it stands first, or all
abbrev pub after_frac : List ℕ → List ℕ
after_frac [] = []
after_frac (byte ∷ rest) = if byte == 46 then after_digits rest else byte ∷ rest

-- the parts that the bytes have, if they are a number
abbrev pub cut : List ℕ → Parts
cut bytes = record {
  minus = first_minus bytes;
  int = first_digits (after_minus bytes);
  frac = first_frac (after_digits (after_minus bytes));
  exp = after_frac (after_digits (after_minus bytes));
}
