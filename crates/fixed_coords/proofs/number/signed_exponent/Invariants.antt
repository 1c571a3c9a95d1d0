use Rattle.std.proofs.Common.{◌≡◌, min, take}
use Rattle.std.specs.Str.Parse.{digits_value}
use Rattle.number_grammar.specs.Number.{AreDigits}
use Rattle.fixed_coords.proofs.number.signed_exponent.Given as goal

-- the bytes so far are digits, and their number is counted
abbrev pub invariant-loop-digit : goal.invariant-loop-digit
invariant-loop-digit l = AreDigits (take l.digit-index l.digits) × (l.size ≡ min (digits_value 10 (take l.digit-index l.digits)) 1000)
