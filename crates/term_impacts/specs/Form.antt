-- The form in which a word is kept: its text, padded, and its length.
use Rattle.std.specs.Prelude.{◌≡◌, ℕ, ◌-◌, ◌≤◌, List, [], ◌∷◌, ◌++◌, length, replicate, take, slice_index}
use Rattle.std.specs.Str.{IsUtf8}

-- a text that a word may have: UTF-8 of 1 to 32 bytes
pub record IsWordText (text : List ℕ) : Type 0 where
  pub utf8 : ∥ IsUtf8 text ∥₁
  pub some : 1 ≤ length text
  pub fits : length text ≤ 32

-- the 33 bytes that stand for a word: its text padded with zero bytes to 32, and then its length
abbrev pub word_form : List ℕ → List ℕ
word_form text = text ++ (replicate (32 - length text) 0 ++ length text ∷ [])

-- the text that a form stands for: as many of its bytes as its last one says
abbrev pub form_text : List ℕ → List ℕ
form_text form = take (slice_index form 32) form

-- the bytes stand for a word
pub record IsWordForm (form : List ℕ) : Type 0 where
  pub text : IsWordText (form_text form)
  pub padded : form ≡ word_form (form_text form)
