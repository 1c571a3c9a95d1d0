-- The numbers of JSON as tests. `tests_are_the_grammar` says that they pass just what `Number.antt` has.
use Rattle.std.specs.Prelude.{ℕ, ◌==◌, ◌&&◌, ◌||◌, not, if◌then◌else◌, Bool, true, false, List, [], ◌∷◌}
use Rattle.std.specs.List.{list_all}
use Rattle.std.specs.Char.{is_ascii_digit}
use Rattle.number_grammar.specs.Cut.{cut}

-- one digit or more
abbrev pub are_some_digits : List ℕ → Bool
are_some_digits [] = false
are_some_digits (byte ∷ rest) = is_ascii_digit byte && list_all is_ascii_digit rest

-- `0` alone, or digits that don't begin with it
abbrev pub is_int : List ℕ → Bool
is_int [] = false
is_int (byte ∷ []) = is_ascii_digit byte
is_int (byte ∷ next ∷ rest) = not (byte == 48) && list_all is_ascii_digit (byte ∷ next ∷ rest)

-- a point and digits, or nothing
abbrev pub is_frac : List ℕ → Bool
is_frac [] = true
is_frac (byte ∷ rest) = (byte == 46) && are_some_digits rest

-- digits, which a sign may precede
abbrev pub are_signed_digits : List ℕ → Bool
are_signed_digits [] = false
are_signed_digits (byte ∷ rest) =
    if (byte == 45) || (byte == 43) then are_some_digits rest else is_ascii_digit byte && list_all is_ascii_digit rest

-- `e` or `E` and digits with a sign or without, or nothing
abbrev pub is_exp : List ℕ → Bool
is_exp [] = true
is_exp (byte ∷ rest) = ((byte == 101) || (byte == 69)) && are_signed_digits rest

-- the bytes are a number: the parts that `cut` finds are those of one
abbrev pub is_number : List ℕ → Bool
is_number bytes = is_int (cut bytes).int && (is_frac (cut bytes).frac && is_exp (cut bytes).exp)
