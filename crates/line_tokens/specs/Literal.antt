-- JSON string literals (RFC 8259, section 7), read from the front of bytes.
use Rattle.std.specs.Prelude.{ℕ, zero, suc, ◌+◌, ◌*◌, Bool, not, ◌&&◌, ◌==◌, nat_le, if◌then◌else◌, List, [], ◌∷◌, length, Option, Some, None, option_map, option_and_then}
use Rattle.json_spelled.specs.Grammar.{Piece, Byte, Code, escaped, hex_digit, said_by}

-- a byte that says itself: no control character, no quotation mark, no backslash
abbrev pub is_plain : ℕ → Bool
is_plain byte = nat_le 32 byte && (not (byte == 34) && not (byte == 92))

-- the code unit of four hexadecimal digits, and the bytes behind them
abbrev pub unit_at : List ℕ → Option (Piece × List ℕ)
unit_at [] = None
unit_at (first ∷ []) = None
unit_at (first ∷ second ∷ []) = None
unit_at (first ∷ second ∷ third ∷ []) = None
unit_at (first ∷ second ∷ third ∷ fourth ∷ bytes) =
    option_and_then (λ a. option_and_then (λ b. option_and_then (λ c.
    option_map (λ d. (Code (4096 * a + 256 * b + 16 * c + d), bytes)) (hex_digit fourth)) (hex_digit third)) (hex_digit second)) (hex_digit first)

-- what a backslash escapes: a code unit behind `u`, or the character that a letter stands for
abbrev pub escape_at : List ℕ → Option (Piece × List ℕ)
escape_at [] = None
escape_at (letter ∷ bytes) = if letter == 117 then unit_at bytes else option_map (λ byte. (Byte byte, bytes)) (escaped letter)

-- the piece that stands first, and the bytes behind it
abbrev pub piece_at : List ℕ → Option (Piece × List ℕ)
piece_at [] = None
piece_at (byte ∷ bytes) =
    if byte == 92 then escape_at bytes else if is_plain byte then Some (Byte byte, bytes) else None

-- a piece before the pieces that follow it
abbrev pub before : Piece → Option (List Piece × List ℕ) → Option (List Piece × List ℕ)
before piece found = option_map (λ more. (piece ∷ more.0, more.1)) found

-- the pieces up to the closing quotation mark, fewer than so many, and the bytes behind that
abbrev pub pieces_within : ℕ → List ℕ → Option (List Piece × List ℕ)
pieces_within zero bytes = None
pieces_within (suc left) [] = None
pieces_within (suc left) (byte ∷ bytes) =
    if byte == 34 then Some ([], bytes)
    else option_and_then (λ piece. before piece.0 (pieces_within left piece.1)) (piece_at (byte ∷ bytes))

-- the pieces of the string behind an opening quotation mark, fewer than its bytes, and the bytes behind it
abbrev pub pieces_of : List ℕ → Option (List Piece × List ℕ)
pieces_of bytes = pieces_within (length bytes) bytes

-- the bytes behind the closing quotation mark
abbrev pub behind : List ℕ → Option (List ℕ)
behind bytes = option_map (λ found. found.1) (pieces_of bytes)

-- what the literal behind an opening quotation mark says, and the bytes behind it; none where no whole literal stands there
unfoldable pub literal_of : List ℕ → Option (List ℕ × List ℕ)
literal_of bytes = option_map (λ found. (said_by None found.0, found.1)) (pieces_of bytes)
