-- The tokens of a line.
use Rattle.std.specs.Prelude.{ℕ, Bool, ◌||◌, ◌==◌, not, if◌then◌else◌, List, [], ◌∷◌, drop, Option, Some, None}
use Rattle.std.specs.List.{prefix_len, take_while}
use Rattle.line_tokens.specs.Literal.{literal_of}

-- A token: a run of bytes, what a JSON string literal says, a parenthesis, or a literal that doesn't end.
pub data Token : Type 0 where
  Bare : List ℕ → Token
  Quoted : List ℕ → Token
  Open : Token
  Close : Token
  Broken : Token

-- a space or a tab
abbrev pub is_blank : ℕ → Bool
is_blank byte = (byte == 32) || (byte == 9)

-- a byte of a run: no blank, no parenthesis, no quotation mark
abbrev pub is_bare : ℕ → Bool
is_bare byte = not (is_blank byte || ((byte == 40) || ((byte == 41) || (byte == 34))))

-- the text without the blanks that stand first
abbrev pub after_blanks : List ℕ → List ℕ
after_blanks text = drop (prefix_len is_blank text) text

-- the token that a quotation mark begins: a whole literal, or else the rest of the line is one broken token
abbrev pub quoted_at : Option (List ℕ × List ℕ) → Token × List ℕ
quoted_at None = (Broken, [])
quoted_at (Some literal) = (Quoted literal.0, literal.1)

-- the longest run of bytes that stands first
abbrev pub bare_at : List ℕ → Token × List ℕ
bare_at text = (Bare (take_while is_bare text), drop (prefix_len is_bare text) text)

-- the token that begins with the first byte, and the text behind it
abbrev pub token_at : List ℕ → Option (Token × List ℕ)
token_at [] = None
token_at (byte ∷ bytes) =
    if byte == 40 then Some (Open, bytes)
    else if byte == 41 then Some (Close, bytes)
    else if byte == 34 then Some (quoted_at (literal_of bytes))
    else Some (bare_at (byte ∷ bytes))

-- the first token of a text, and the text behind it; none where only blanks are left
unfoldable pub token_of : List ℕ → Option (Token × List ℕ)
token_of text = token_at (after_blanks text)
