-- Rounding on digits, as the reader does it.
use Rattle.std.specs.Prelude.{ℕ, Bool, Option, Some, None, ◌+◌, ◌-◌, ◌*◌, ◌^◌, nat_lt, List, [], ◌∷◌, length, take, drop, if◌then◌else◌}
use Rattle.std.specs.Str.Parse.{digits_value}

-- 1 where the digits that are cut off begin with 5 or more
abbrev pub round_up : List ℕ → ℕ
round_up [] = 0
round_up (digit ∷ digits) = if nat_lt digit 53 then 0 else 1

-- the number that the digits write with the point after so many of them, to the nearest
abbrev pub placed : List ℕ → ℕ → ℕ
placed digits point = digits_value 10 (take point digits) * 10 ^ (point - length digits) + round_up (drop point digits)

-- where the point stands among the digits, counted from the first of them, once an exponent has moved it and then seven
-- places; none where that is before the first
abbrev pub moved_point : ℕ → Bool → ℕ → Option ℕ
moved_point whole negative exponent =
    if negative then (if nat_lt (whole + 7) exponent then None else Some (whole + 7 - exponent)) else Some (whole + 7 + exponent)

-- the number that the digits write with the point there, to the nearest
abbrev pub size_at : List ℕ → Option ℕ → ℕ
size_at digits None = 0
size_at digits (Some point) = placed digits point
