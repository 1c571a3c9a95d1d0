-- Units of 10^-7 degrees, written as degrees.
use Rattle.std.specs.Prelude.{ℕ, zero, suc, ◌+◌, ◌/◌, ◌%◌, ◌^◌, ℤ, pos, negsuc, List, [], ◌∷◌, ◌++◌, decimal}

-- the last so many decimal digits of n
unfoldable pub last_digits : ℕ → ℕ → List ℕ
last_digits zero n = []
last_digits (suc k) n = last_digits k (n / 10) ++ (48 + n % 10) ∷ []

-- a size in degrees: the whole degrees, a point and seven digits
unfoldable pub size_text : ℕ → List ℕ
size_text n = decimal (n / 10 ^ 7) ++ 46 ∷ last_digits 7 n

-- a value in degrees, with `-` before a negative one
unfoldable pub fixed_text : ℤ → List ℕ
fixed_text (pos n) = size_text n
fixed_text (negsuc n) = 45 ∷ size_text (suc n)
