-- Whole numbers of a line.
use Rattle.std.specs.Prelude.{ℕ, ◌&&◌, nat_le, if◌then◌else◌, Bool, List, length, Option, Some, None, Result, Ok, Err}
use Rattle.std.specs.List.{list_all}
use Rattle.std.specs.Char.{is_ascii_digit}
use Rattle.std.specs.Str.Parse.{digits_value}
use Rattle.line_tokens.specs.Token.{Token, Bare, Quoted, Open, Close, Broken}
use Rattle.query_replies.specs.declared.fault.LineFault.{LineFault}
use Rattle.query_replies.specs.declared.fault.LineFault.TheVariants.{Number, Range}

-- 1 to 20 digits
abbrev pub are_digits : List ℕ → Bool
are_digits bytes = nat_le 1 (length bytes) && (nat_le (length bytes) 20 && list_all is_ascii_digit bytes)

-- the number that 1 to 20 digits write
unfoldable pub number_of : List ℕ → Option ℕ
number_of bytes = if are_digits bytes then Some (digits_value 10 bytes) else None

-- a number that has to be from low to high
abbrev pub in_range : ℕ → ℕ → Option ℕ → Result ℕ LineFault
in_range low high None = Err Number
in_range low high (Some n) = if nat_le low n && nat_le n high then Ok n else Err Range

-- 1 to 20 digits that write a number from low to high
abbrev pub number_in : ℕ → ℕ → List ℕ → Result ℕ LineFault
number_in low high bytes = in_range low high (number_of bytes)

-- a token that is such a number
abbrev pub whole_of : ℕ → ℕ → Token → Result ℕ LineFault
whole_of low high (Bare bytes) = number_in low high bytes
whole_of low high (Quoted bytes) = Err Number
whole_of low high Open = Err Number
whole_of low high Close = Err Number
whole_of low high Broken = Err Number
