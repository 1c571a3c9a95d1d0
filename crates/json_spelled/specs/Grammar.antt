-- The grammar of JSON over bytes (RFC 8259). A rule relates a value, the bytes that begin with a spelling of it, and
-- the rest that follows the spelling.
use Rattle.std.specs.Prelude.{◌≡◌, ◌≢◌, ℕ, suc, ◌+◌, ◌-◌, ◌*◌, ◌≤◌, ◌⊎◌, List, [], ◌∷◌, ◌++◌, Bool, true, false, ◌&&◌, nat_lt, nat_le, if◌then◌else◌, ◌==◌, Option, Some, None, encode_utf8}
use Rattle.std.specs.Str.{IsUtf8}
use Rattle.number_grammar.specs.Number.{IsNumber}
use Rattle.json_spelled.specs.Json.{Json, null, truth, spelled, text, list, object, Items, no_items, item, Members, no_members, member}

-- ws: a space, a tab, a line feed or a carriage return
abbrev pub IsSpace : ℕ → Type 0
IsSpace byte = (byte ≡ 32) ⊎ (byte ≡ 9) ⊎ (byte ≡ 10) ⊎ (byte ≡ 13)

-- any number of them, and then the rest
pub data Spaces : List ℕ → List ℕ → Type 0 where
  none : {rest : List ℕ} → Spaces rest rest
  space : {byte : ℕ} {bytes rest : List ℕ} → IsSpace byte → Spaces bytes rest → Spaces (byte ∷ bytes) rest

-- what a byte behind a backslash stands for, where it stands for one character of its own
abbrev pub escaped : ℕ → Option ℕ
escaped byte =
    if byte == 34 then Some 34 else
    (if byte == 92 then Some 92 else
    (if byte == 47 then Some 47 else
    (if byte == 98 then Some 8 else
    (if byte == 102 then Some 12 else
    (if byte == 110 then Some 10 else
    (if byte == 114 then Some 13 else
    (if byte == 116 then Some 9 else None)))))))

-- the value of a hexadecimal digit
abbrev pub hex_digit : ℕ → Option ℕ
hex_digit byte =
    if nat_le 48 byte && nat_le byte 57 then Some (byte - 48) else
    (if nat_le 65 byte && nat_le byte 70 then Some (byte - 55) else
    (if nat_le 97 byte && nat_le byte 102 then Some (byte - 87) else None))

-- a piece of a string: a byte, or the code unit of an escape with `u`
pub data Piece : Type 0 where
  Byte : ℕ → Piece
  Code : ℕ → Piece

-- an unescaped byte: no control character, no quotation mark, no backslash
abbrev pub IsPlain : ℕ → Type 0
IsPlain byte = (32 ≤ byte) × (byte ≢ 34) × (byte ≢ 92)

-- the pieces of a string up to its closing quotation mark, and then the rest
pub data Pieces : List Piece → List ℕ → List ℕ → Type 0 where
  closed : {rest : List ℕ} → Pieces [] (34 ∷ rest) rest
  plain : {byte : ℕ} {pieces : List Piece} {bytes rest : List ℕ}
      → IsPlain byte → Pieces pieces bytes rest → Pieces (Byte byte ∷ pieces) (byte ∷ bytes) rest
  escape : {letter byte : ℕ} {pieces : List Piece} {bytes rest : List ℕ}
      → escaped letter ≡ Some byte → Pieces pieces bytes rest → Pieces (Byte byte ∷ pieces) (92 ∷ letter ∷ bytes) rest
  unit : {a b c d first second third fourth : ℕ} {pieces : List Piece} {bytes rest : List ℕ}
      → hex_digit first ≡ Some a → hex_digit second ≡ Some b → hex_digit third ≡ Some c → hex_digit fourth ≡ Some d
      → Pieces pieces bytes rest
      → Pieces (Code (4096 * a + 256 * b + 16 * c + d) ∷ pieces) (92 ∷ 117 ∷ first ∷ second ∷ third ∷ fourth ∷ bytes) rest

-- a high surrogate
abbrev pub is_high : ℕ → Bool
is_high code = nat_le 0xD800 code && nat_lt code 0xDC00

-- a low surrogate
abbrev pub is_low : ℕ → Bool
is_low code = nat_le 0xDC00 code && nat_lt code 0xE000

-- the code of the character that a pair of surrogates stands for
abbrev pub paired : ℕ → ℕ → ℕ
paired high low = 0x10000 + (high - 0xD800) * 0x400 + (low - 0xDC00)

-- the character of a code in UTF-8, and U+FFFD where the code is no character's
abbrev pub said : ℕ → List ℕ
said code = if nat_lt code 0xD800 then encode_utf8 code else
    (if nat_le 0xE000 code && nat_lt code 0x110000 then encode_utf8 code else encode_utf8 0xFFFD)

-- what a high surrogate says whose partner doesn't come
abbrev pub alone : Option ℕ → List ℕ
alone None = []
alone (Some high) = said high

-- what a code unit says where that high surrogate stands right before it
abbrev pub said_behind : Option ℕ → ℕ → List ℕ
said_behind None code = if is_high code then [] else said code
said_behind (Some high) code = if is_high high && is_low code then said (paired high code) else (said high ++ (if is_high code then [] else said code))

-- the high surrogate that then waits for its partner
abbrev pub waiting_after : ℕ → Option ℕ
waiting_after code = if is_high code then Some code else None

-- what the pieces say behind a high surrogate that waits, or behind none
abbrev pub said_by : Option ℕ → List Piece → List ℕ
said_by waiting [] = alone waiting
said_by waiting (Byte byte ∷ pieces) = alone waiting ++ (byte ∷ said_by None pieces)
said_by waiting (Code code ∷ pieces) = said_behind waiting code ++ said_by (waiting_after code) pieces

-- a string: the text that it says, the bytes behind the opening quotation mark, and the rest
pub record Quoted (says bytes rest : List ℕ) : Type 0 where
  pub pieces : List Piece
  pub spelled_so : Pieces pieces bytes rest
  pub says_so : says ≡ said_by None pieces

-- A value whose arrays and objects are nested at most so many levels deep, its spelling, and the rest.
mutual
  pub data Value : ℕ → Json → List ℕ → List ℕ → Type 0 where
    -- null
    of_null : {levels : ℕ} {rest : List ℕ} → Value levels null (110 ∷ 117 ∷ 108 ∷ 108 ∷ rest) rest
    -- true
    of_true : {levels : ℕ} {rest : List ℕ} → Value levels (truth true) (116 ∷ 114 ∷ 117 ∷ 101 ∷ rest) rest
    -- false
    of_false : {levels : ℕ} {rest : List ℕ} → Value levels (truth false) (102 ∷ 97 ∷ 108 ∷ 115 ∷ 101 ∷ rest) rest
    of_number : {levels : ℕ} {number bytes rest : List ℕ}
        → IsNumber number → bytes ≡ number ++ rest → Value levels (spelled number) bytes rest
    of_string : {levels : ℕ} {says bytes rest : List ℕ} → Quoted says bytes rest → Value levels (text says) (34 ∷ bytes) rest
    -- [ ]
    of_no_items : {levels : ℕ} {bytes rest : List ℕ}
        → Spaces bytes (93 ∷ rest) → Value (suc levels) (list no_items) (91 ∷ bytes) rest
    -- [ items ]
    of_items : {levels : ℕ} {items : Items} {bytes rest : List ℕ}
        → ItemsAt levels items bytes rest → Value (suc levels) (list items) (91 ∷ bytes) rest
    -- { }
    of_no_members : {levels : ℕ} {bytes rest : List ℕ}
        → Spaces bytes (125 ∷ rest) → Value (suc levels) (object no_members) (123 ∷ bytes) rest
    -- { members }
    of_members : {levels : ℕ} {members : Members} {bytes rest : List ℕ}
        → MembersAt levels members bytes rest → Value (suc levels) (object members) (123 ∷ bytes) rest

  -- an item or more, up to the closing bracket
  pub data ItemsAt : ℕ → Items → List ℕ → List ℕ → Type 0 where
    first : {levels : ℕ} {value : Json} {items : Items} {bytes at behind rest : List ℕ}
        → Spaces bytes at → Value levels value at behind → MoreItems levels items behind rest → ItemsAt levels (item value items) bytes rest

  -- what may stand behind an item: the bracket, or a comma and further items
  pub data MoreItems : ℕ → Items → List ℕ → List ℕ → Type 0 where
    no_more : {levels : ℕ} {bytes rest : List ℕ} → Spaces bytes (93 ∷ rest) → MoreItems levels no_items bytes rest
    more : {levels : ℕ} {items : Items} {bytes at rest : List ℕ}
        → Spaces bytes (44 ∷ at) → ItemsAt levels items at rest → MoreItems levels items bytes rest

  -- a member or more, up to the closing brace: a name, a colon and a value
  pub data MembersAt : ℕ → Members → List ℕ → List ℕ → Type 0 where
    first_member : {levels : ℕ} {name : List ℕ} {value : Json} {members : Members} {bytes quoted named colon at behind rest : List ℕ}
        → Spaces bytes (34 ∷ quoted) → Quoted name quoted named → Spaces named (58 ∷ colon) → Spaces colon at
        → Value levels value at behind → MoreMembers levels members behind rest → MembersAt levels (member name value members) bytes rest

  -- what may stand behind a member: the brace, or a comma and further members
  pub data MoreMembers : ℕ → Members → List ℕ → List ℕ → Type 0 where
    no_more_members : {levels : ℕ} {bytes rest : List ℕ} → Spaces bytes (125 ∷ rest) → MoreMembers levels no_members bytes rest
    more_members : {levels : ℕ} {members : Members} {bytes at rest : List ℕ}
        → Spaces bytes (44 ∷ at) → MembersAt levels members at rest → MoreMembers levels members bytes rest

-- JSON-text = ws value ws
pub record IsSpelled (levels : ℕ) (value : Json) (bytes : List ℕ) : Type 0 where
  pub at : List ℕ
  pub behind : List ℕ
  pub before : Spaces bytes at
  pub value_at : Value levels value at behind
  pub after : Spaces behind []

-- The bytes are a JSON text of that value: UTF-8, a byte order mark or none at the front, and its spelling.
pub record IsText (levels : ℕ) (value : Json) (bytes : List ℕ) : Type 0 where
  pub utf8 : IsUtf8 bytes
  pub spelled_so : IsSpelled levels value bytes ⊎ ((rest : List ℕ) × (bytes ≡ 0xEF ∷ 0xBB ∷ 0xBF ∷ rest) × IsSpelled levels value rest)

-- the bytes are a prefix of some JSON text of at most so many levels
pub record Begins (levels : ℕ) (bytes : List ℕ) : Type 0 where
  pub rest : List ℕ
  pub value : Json
  pub whole : IsText levels value (bytes ++ rest)
