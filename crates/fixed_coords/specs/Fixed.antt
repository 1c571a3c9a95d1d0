-- Fixed-point reading: a coordinate is its exact decimal value times 10^7, to the nearest whole number, halves away from zero.
use Rattle.std.specs.Prelude.{◌≡◌, ℕ, ◌+◌, ◌*◌, ◌/◌, ◌^◌, ◌<◌, ◌≤◌, ℤ, pos, negsuc, neg_ℤ, ◌+ℤ◌, ◌-ℤ◌, unsigned_abs, List, [], ◌∷◌, ◌++◌, length, drop, Result, Ok, Err}
use Rattle.std.specs.Str.Parse.{digits_value, signed_digits_value}
use Rattle.number_grammar.specs.Number.{Parts, IsMadeOf, IsNumber}
use Rattle.fixed_coords.specs.declared.fault.NumberFault.{NumberFault}
use Rattle.fixed_coords.specs.declared.fault.NumberFault.TheVariants.{NotANumber, TooLong, TooBig, OutOfRange}

-- the whole number that the digits before the exponent spell, without sign and point
unfoldable pub mantissa : Parts → ℕ
mantissa parts = digits_value 10 (parts.int ++ drop 1 parts.frac)

-- the number that the exponent writes behind its letter; 0 where there is none
unfoldable pub exponent : Parts → ℤ
exponent parts = signed_digits_value 10 (drop 1 parts.exp)

-- the power of ten that the mantissa is multiplied by: the exponent less the number of digits after the point
unfoldable pub power : Parts → ℤ
power parts = exponent parts -ℤ pos (length (drop 1 parts.frac))

-- m * 10^k to the nearest whole number, halves up
unfoldable pub scaled : ℕ → ℤ → ℕ
scaled m (pos k) = m * 10 ^ k
scaled m (negsuc k) = (2 * m + 10 ^ (k + 1)) / (2 * 10 ^ (k + 1))

-- the size in units of 10^-7
unfoldable pub size : Parts → ℕ
size parts = scaled (mantissa parts) (power parts +ℤ pos 7)

-- a size with the sign that stands before it
abbrev pub signed : List ℕ → ℕ → ℤ
signed [] n = pos n
signed (minus ∷ rest) n = neg_ℤ (pos n)

-- the whole number that a number stands for
unfoldable pub fixed : Parts → ℤ
fixed parts = signed parts.minus (size parts)

-- What reading a spelling answers. A spelling has just one answer.
abbrev pub IsReading : List ℕ → Result ℤ NumberFault → Type 0
IsReading bytes (Ok value) = (length bytes ≤ 64) × ((parts : Parts) × IsMadeOf bytes parts × (size parts ≤ 10 ^ 12) × (value ≡ fixed parts))
IsReading bytes (Err NotANumber) = (length bytes ≤ 64) × (IsNumber bytes → ⊥)
IsReading bytes (Err TooLong) = 64 < length bytes
IsReading bytes (Err TooBig) = (length bytes ≤ 64) × ((parts : Parts) × IsMadeOf bytes parts × (10 ^ 12 < size parts))
IsReading bytes (Err OutOfRange) = ⊥

-- The same of a coordinate, at most so many units to each side of 0.
abbrev pub IsReadingWithin : ℕ → List ℕ → Result ℤ NumberFault → Type 0
IsReadingWithin most bytes (Ok value) = IsReading bytes (Ok value) × (unsigned_abs value ≤ most)
IsReadingWithin most bytes (Err NotANumber) = IsReading bytes (Err NotANumber)
IsReadingWithin most bytes (Err TooLong) = IsReading bytes (Err TooLong)
IsReadingWithin most bytes (Err TooBig) = IsReading bytes (Err TooBig)
IsReadingWithin most bytes (Err OutOfRange) = (value : ℤ) × IsReading bytes (Ok value) × (most < unsigned_abs value)
