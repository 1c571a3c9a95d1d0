-- The words of a text.
use Rattle.std.specs.Prelude.{ℕ, List, [], ◌∷◌, Option, None, Some, filter, map, length, nat_le, chars, encode_utf8_all}
use Rattle.caseless.specs.Caseless.{default_case_fold}
use Rattle.unicode_segmentation.specs.Word.{words}

-- a piece of a text after default case folding: each character as its full case folding, as toCasefold of The Unicode Standard, section 3.13
abbrev pub folded : List ℕ → List ℕ
folded piece = encode_utf8_all (default_case_fold (chars piece))

-- those of the pieces, each folded, that have at most 32 bytes
abbrev pub kept_words : List (List ℕ) → List (List ℕ)
kept_words pieces = filter (λ word. nat_le (length word) 32) (map folded pieces)

-- the words of a text: the pieces between word boundaries (UAX #29) that have a letter or a number, each folded, without those of more than 32 bytes
abbrev pub words_of : List ℕ → List (List ℕ)
words_of text = kept_words (words text)

-- the element of a list of one element
abbrev pub only : {X : Type 0} → List X → Option X
only [] = None
only (x ∷ []) = Some x
only (x ∷ (y ∷ xs)) = None
