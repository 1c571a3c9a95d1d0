-- What the reader keeps of a number's parts.
use Rattle.std.specs.Prelude.{◌≡◌, ℕ, min, Bool, List, [], ◌∷◌, drop, if◌then◌else◌}
use Rattle.std.specs.Str.Parse.{digits_value, starts_with_minus, without_leading_sign}
use Rattle.number_grammar.specs.Number.{Parts}
use Rattle.fixed_coords.specs.declared.number.Number.{Number}
use Rattle.fixed_coords.specs.declared.number.Exponent.{Exponent}

-- the exponent is what the digits behind the letter write, up to the most that it counts
pub record IsExponentOf (exponent : Exponent) (digits : List ℕ) : Type 0 where
  pub sign : exponent.negative ≡ starts_with_minus digits
  pub size : exponent.size ≡ min (digits_value 10 (without_leading_sign digits)) 1000

-- the sign that a number was given
abbrev pub minus_of : Bool → List ℕ
minus_of negative = if negative then 45 ∷ [] else []

-- the number has these parts
pub record IsNumberOf (number : Number) (parts : Parts) : Type 0 where
  pub minus : parts.minus ≡ minus_of number.negative
  pub int : number.whole.now ≡ parts.int
  pub frac : number.fraction.now ≡ drop 1 parts.frac
  pub exp : IsExponentOf number.exponent (drop 1 parts.exp)
