-- Degrees of a line, in units of 10^-7.
use Rattle.std.specs.Prelude.{ℕ, ◌^◌, ◌&&◌, not, nat_lt, if◌then◌else◌, ℤ, int_le, List, length, Result, Ok, Err}
use Rattle.number_grammar.specs.Cut.{cut}
use Rattle.number_grammar.specs.Tests.{is_number}
use Rattle.fixed_coords.specs.Fixed.{size, fixed}
use Rattle.fixed_coords.specs.declared.fault.NumberFault.{NumberFault}
use Rattle.fixed_coords.specs.declared.fault.NumberFault.TheVariants.{NotANumber, TooLong, TooBig, OutOfRange}
use Rattle.line_tokens.specs.Token.{Token, Bare, Quoted, Open, Close, Broken}
use Rattle.query_replies.specs.declared.fault.LineFault.{LineFault}
use Rattle.query_replies.specs.declared.fault.LineFault.TheVariants.{Number, Range}

-- what reading a spelling answers
unfoldable pub reading_of : List ℕ → Result ℤ NumberFault
reading_of bytes =
    if nat_lt 64 (length bytes) then Err TooLong
    else if not (is_number bytes) then Err NotANumber
    else if nat_lt (10 ^ 12) (size (cut bytes)) then Err TooBig
    else Ok (fixed (cut bytes))

-- a reading that has to be from low to high
abbrev pub reading_in : ℤ → ℤ → Result ℤ NumberFault → Result ℤ LineFault
reading_in low high (Ok value) = if int_le low value && int_le value high then Ok value else Err Range
reading_in low high (Err NotANumber) = Err Number
reading_in low high (Err TooLong) = Err Number
reading_in low high (Err TooBig) = Err Range
reading_in low high (Err OutOfRange) = Err Range

-- a token that writes degrees from low to high
abbrev pub degrees_of : ℤ → ℤ → Token → Result ℤ LineFault
degrees_of low high (Bare bytes) = reading_in low high (reading_of bytes)
degrees_of low high (Quoted bytes) = Err Number
degrees_of low high Open = Err Number
degrees_of low high Close = Err Number
degrees_of low high Broken = Err Number
