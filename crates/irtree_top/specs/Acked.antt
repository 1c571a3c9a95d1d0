-- The updates that what was said acknowledges.
use Rattle.std.specs.Prelude.{ℕ, ◌+◌, ◌-◌, ◌*◌, Bool, if◌then◌else◌, List, length, take, drop, codes, fold}
use Rattle.std.specs.List.{count_by}
use Rattle.std.specs.Str.{bytes_eq}
use Rattle.run_outcome.specs.Script.{cut}

-- the line begins with these bytes
abbrev pub begins_with : List ℕ → List ℕ → Bool
begins_with bytes line = bytes_eq (take (length bytes) line) bytes

-- of a script: how many of the whole lines said begin with `ok`
abbrev pub acked_by_script : List ℕ → ℕ
acked_by_script spoken = count_by (begins_with (codes "ok")) (cut spoken).lines

-- the number that decimal digits spell
abbrev pub number_of_digits : List ℕ → ℕ
number_of_digits digits = fold (λ n digit. 10 * n + (digit - 48)) 0 digits

-- the number of a line `stored N`, and of another line what came before
abbrev pub stored_in : ℕ → List ℕ → ℕ
stored_in before line = if begins_with (codes "stored ") line then number_of_digits (drop 7 line) else before

-- of a load: the number in the last whole line `stored N` that was said, or 0
abbrev pub acked_by_load : List ℕ → ℕ
acked_by_load spoken = fold stored_in 0 (cut spoken).lines
