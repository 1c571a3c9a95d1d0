-- What a byte may be to the grammar.
use Rattle.std.specs.Prelude.{ℕ, ◌==◌, nat_lt, nat_le, ◌&&◌, if◌then◌else◌}
use Rattle.json_spelled.specs.declared.kind.Kind.{Kind}
use Rattle.json_spelled.specs.declared.kind.Kind.TheVariants.{Blank, Break, Control, Quote, Backslash, Comma, Colon, OpenList, CloseList, OpenObject, CloseObject, Minus, Plus, Point, Zero, Digit, Exponent, SmallN, SmallT, SmallF, Other}

-- the kind of a byte from `A` on
abbrev pub letter_kind : ℕ → Kind
letter_kind byte =
    if byte == 91 then OpenList else
    (if byte == 93 then CloseList else
    (if byte == 123 then OpenObject else
    (if byte == 125 then CloseObject else
    (if byte == 92 then Backslash else
    (if byte == 101 then Exponent else
    (if byte == 69 then Exponent else
    (if byte == 110 then SmallN else
    (if byte == 116 then SmallT else
    (if byte == 102 then SmallF else Other)))))))))

-- the kind of a byte below `A` that is no control character
abbrev pub sign_kind : ℕ → Kind
sign_kind byte =
    if byte == 32 then Blank else
    (if byte == 34 then Quote else
    (if byte == 44 then Comma else
    (if byte == 58 then Colon else
    (if byte == 45 then Minus else
    (if byte == 43 then Plus else
    (if byte == 46 then Point else
    (if byte == 48 then Zero else
    (if nat_le 49 byte && nat_le byte 57 then Digit else Other))))))))

-- the kind of a byte below 32
abbrev pub control_kind : ℕ → Kind
control_kind byte =
    if byte == 9 then Break else
    (if byte == 10 then Break else
    (if byte == 13 then Break else Control))

-- the kind of a byte
unfoldable pub kind : ℕ → Kind
kind byte = if nat_lt byte 32 then control_kind byte else (if nat_lt byte 65 then sign_kind byte else letter_kind byte)
