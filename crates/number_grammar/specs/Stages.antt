-- What may follow the bytes that have come of a number.
use Rattle.std.specs.Prelude.{◌≡◌, ℕ, List, ◌++◌, Option, Some, None, ◌==◌, ◌||◌, if◌then◌else◌}
use Rattle.std.specs.Char.{is_ascii_digit}
use Rattle.number_grammar.specs.declared.stage.Stage.{Stage}
use Rattle.number_grammar.specs.declared.stage.Stage.TheVariants.{Start, Minus, Zero, Whole, Point, Fraction, Letter, Sign, Exponent}
use Rattle.number_grammar.specs.Number.{AreDigits, IsDigits, IsInt, IsFrac, IsExp, IsSignedDigits, IsNumber}

-- the bytes make the number whole that has come to this stage
abbrev pub Continues : Stage → List ℕ → Type 0
Continues Start bytes = IsNumber bytes
Continues Minus bytes = (int frac exp : List ℕ) × (bytes ≡ int ++ (frac ++ exp)) × IsInt int × IsFrac frac × IsExp exp
Continues Zero bytes = (frac exp : List ℕ) × (bytes ≡ frac ++ exp) × IsFrac frac × IsExp exp
Continues Whole bytes = (digits frac exp : List ℕ) × (bytes ≡ digits ++ (frac ++ exp)) × AreDigits digits × IsFrac frac × IsExp exp
Continues Point bytes = (digits exp : List ℕ) × (bytes ≡ digits ++ exp) × IsDigits digits × IsExp exp
Continues Fraction bytes = (digits exp : List ℕ) × (bytes ≡ digits ++ exp) × AreDigits digits × IsExp exp
Continues Letter bytes = IsSignedDigits bytes
Continues Sign bytes = IsDigits bytes
Continues Exponent bytes = AreDigits bytes

-- the stage after a first digit of the integer
abbrev pub stage_of_digit : ℕ → Option Stage
stage_of_digit byte = if byte == 48 then Some Zero else (if is_ascii_digit byte then Some Whole else None)

-- the stage that a letter of an exponent begins
abbrev pub stage_of_exp : ℕ → Option Stage
stage_of_exp byte = if byte == 101 || byte == 69 then Some Letter else None

-- the stage after the integer's end: that of a point, or of an exponent's letter
abbrev pub stage_of_frac : ℕ → Option Stage
stage_of_frac byte = if byte == 46 then Some Point else stage_of_exp byte

-- the stage after one byte more
abbrev pub next_stage : Stage → ℕ → Option Stage
next_stage Start byte = if byte == 45 then Some Minus else stage_of_digit byte
next_stage Minus byte = stage_of_digit byte
next_stage Zero byte = stage_of_frac byte
next_stage Whole byte = if is_ascii_digit byte then Some Whole else stage_of_frac byte
next_stage Point byte = if is_ascii_digit byte then Some Fraction else None
next_stage Fraction byte = if is_ascii_digit byte then Some Fraction else stage_of_exp byte
next_stage Letter byte = if byte == 43 || byte == 45 then Some Sign else (if is_ascii_digit byte then Some Exponent else None)
next_stage Sign byte = if is_ascii_digit byte then Some Exponent else None
next_stage Exponent byte = if is_ascii_digit byte then Some Exponent else None
