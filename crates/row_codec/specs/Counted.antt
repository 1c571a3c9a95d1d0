-- Words by text and by number, as the word tables keep them.
use Rattle.std.specs.Prelude.{ℕ, ◌<◌, ◌^◌, List, ◌++◌}
use Rattle.std.specs.Int.{w32, w64, to_be_bytes}
use Rattle.term_impacts.specs.Form.{word_form, IsWordText}
use Rattle.row_codec.specs.declared.counted.Counted.{Counted}

-- a word's number in 8 bytes: the value of a row by text, and the key of a row by number
unfoldable pub number_bytes : ℕ → List ℕ
number_bytes number = to_be_bytes w64 number

-- the value of a row by number: the word's form, and the number of places that hold it, in 4 bytes
unfoldable pub counted_value : Counted → List ℕ
counted_value counted = word_form counted.word ++ to_be_bytes w32 counted.places

-- a word, and the number of places of a u32
pub record IsCounted (counted : Counted) : Type 0 where
  pub word : IsWordText counted.word
  pub places : counted.places < 2 ^ 32
