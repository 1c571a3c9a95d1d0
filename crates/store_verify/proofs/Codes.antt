-- Words from the bytes that spell their forms.
use Rattle.std.proofs.Common.{◌≡◌, ℕ, zero, suc, ◌-◌, ◌<◌, List, [], ◌∷◌, ◌++◌, length, replicate, sym, ◌∙◌, arith}
use Rattle.std.proofs.lemmas.Str.{IsUtf8-had}
use Rattle.term_impacts.specs.Form.{IsWordText, word_form}
use Rattle.spatial_base.specs.Key.{IsName, Text, padded}
use Rattle.page_face.specs.Number.{number}
use Rattle.btree_nodes.proofs.Numbers.{AreBytes}
use Rattle.row_codec.proofs.ValueLemmas.{length-word_form}
use Rattle.store_tables.specs.Coded.{word_code}
use Rattle.store_tables.proofs.CodeLemmas.{form-bytes}
use Rattle.store_tables.proofs.KeyLemmas.{number-same}

both : (xs ys : List ℕ) → AreBytes xs → AreBytes ys → AreBytes (xs ++ ys)
both [] ys left right i = right i
both (x ∷ xs) ys left right zero = left 0
both (x ∷ xs) ys left right (suc i) = both xs ys (λ k. left (suc k)) right i

first : (xs ys : List ℕ) → AreBytes (xs ++ ys) → AreBytes xs
first [] ys all i = omega arith
first (x ∷ xs) ys all zero = all 0
first (x ∷ xs) ys all (suc i) = first xs ys (λ k. all (suc k)) i

zeros : (n : ℕ) → AreBytes (replicate n 0)
zeros zero i = omega arith
zeros (suc n) zero = omega arith
zeros (suc n) (suc i) = zeros n i

one : (x : ℕ) → x < 256 → AreBytes (x ∷ [])
one x small zero = small
one x small (suc i) = omega arith

-- a word's bytes are those of a key's form
text-bytes : (word : List ℕ) → IsWordText word → AreBytes word
text-bytes word is =
    let few = is.fits in
    let name : IsName (Text word) = (is.some, omega arith, IsUtf8-had word is.utf8) in
    let form = form-bytes (Text word) name in
    first word (replicate (64 - length word) 0) (first (padded 64 word) (length word ∷ []) (λ i. form (suc i)))

-- a word's form is bytes
word-bytes : (word : List ℕ) → IsWordText word → AreBytes (word_form word)
word-bytes word is =
    let few = is.fits in
    both word (replicate (32 - length word) 0 ++ length word ∷ []) (text-bytes word is)
    (both (replicate (32 - length word) 0) (length word ∷ []) (zeros (32 - length word)) (one (length word) (omega arith)))

-- the bytes that spell a word's number are its form
pub form_from_code : (bytes word : List ℕ) → length bytes ≡ 33 → AreBytes bytes → IsWordText word → number bytes ≡ word_code word → bytes ≡ word_form word
unfolding word_code
form_from_code bytes word long small is same = number-same bytes (word_form word) (long ∙ sym (length-word_form word is)) small (word-bytes word is) same
