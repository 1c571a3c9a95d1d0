-- The label of a text: its first line, cut to 63 bytes; and the 64 bytes in which a label is kept.
use Rattle.std.specs.Prelude.{◌≡◌, ◌≢◌, ℕ, ◌-◌, ◌≤◌, ◌==◌, nat_le, if◌then◌else◌, List, [], ◌∷◌, ◌++◌, length, replicate, take, slice_index, All}
use Rattle.std.specs.Char.{len_utf8}
use Rattle.std.specs.List.{before_first}
use Rattle.std.specs.Str.{IsUtf8, chars, encode_utf8_all}

-- a text that a label may have: UTF-8 of at most 63 bytes, without LF
pub record IsLabelText (text : List ℕ) : Type 0 where
  pub utf8 : ∥ IsUtf8 text ∥₁
  pub fits : length text ≤ 63
  pub one_line : All (λ byte. byte ≢ 10) text

-- the text up to its first LF
abbrev pub first_line : List ℕ → List ℕ
first_line text = before_first (λ byte. byte == 10) text

-- the longest prefix of these characters whose UTF-8 has at most so many bytes
abbrev pub fitting : ℕ → List ℕ → List ℕ
fitting room [] = []
fitting room (c ∷ cs) = if nat_le (len_utf8 c) room then c ∷ fitting (room - len_utf8 c) cs else []

-- the label of a text: its first line, cut to its longest prefix of whole characters of at most 63 bytes
unfoldable pub label_of : List ℕ → List ℕ
label_of text = encode_utf8_all (fitting 63 (chars (first_line text)))

-- the 64 bytes that stand for a label: its text padded with zero bytes to 63, and then its length
abbrev pub label_form : List ℕ → List ℕ
label_form text = text ++ (replicate (63 - length text) 0 ++ length text ∷ [])

-- the text that a form stands for: as many of its bytes as its last one says
abbrev pub form_text : List ℕ → List ℕ
form_text form = take (slice_index form 63) form

-- the bytes stand for a label
pub record IsLabelForm (form : List ℕ) : Type 0 where
  pub text : IsLabelText (form_text form)
  pub padded : form ≡ label_form (form_text form)
