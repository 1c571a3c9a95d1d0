-- Keys, words and numbers are ordered as the numbers that their bytes spell.
use Rattle.std.proofs.Common.{◌≡◌, ℕ, zero, suc, ◌+◌, ◌-◌, ◌/◌, ◌<◌, ◌≤◌, ◌^◌, true, false, cond, ltb, ⊎_elim, List, [], ◌∷◌, ◌++◌, length, replicate, refl, sym, subst, ◌∙◌, arith}
use Rattle.std.proofs.Math.Utf8.{encode, encodes, next, scalar, scalars, scalar_cases}
use Rattle.std.proofs.lemmas.Bool.{ltb-true}
use Rattle.std.proofs.lemmas.List.{length-append, length-replicate}
use Rattle.std.proofs.lemmas.Nat.{from_be_bytes-to_be_bytes_8}
use Rattle.std.proofs.lemmas.Str.{IsUtf8-had}
use Rattle.std.specs.Int.{byte_at, bytes_high_first, from_be_bytes, to_be_bytes, w64}
use Rattle.std.specs.Ordering.{nat_cmp}
use Rattle.std.specs.Str.{IsUtf8}
use Rattle.spatial_base.specs.Key.{Name, Text, Auto, IsName, key_cmp, form_of, padded}
use Rattle.spatial_base.proofs.KeyOrder.{form_cmp}
use Rattle.term_impacts.specs.Form.{IsWordText, word_form}
use Rattle.term_impacts.proofs.FormLemmas.{slice_cmp-word_form}
use Rattle.page_face.specs.Number.{number}
use Rattle.btree_nodes.proofs.Numbers.{AreBytes, compare_numbers}
use Rattle.btree_nodes.proofs.Checks.{and-true}
use Rattle.row_codec.specs.Counted.{number_bytes}
use Rattle.row_codec.proofs.ValueLemmas.{length-word_form}
use Rattle.store_tables.specs.Entries.{word_cmp}
use Rattle.store_tables.specs.Coded.{key_code, word_code}

-- ---- bytes

none : AreBytes []
none i = omega arith

one : (x : ℕ) (xs : List ℕ) → x < 256 → AreBytes xs → AreBytes (x ∷ xs)
one x xs here rest zero = here
one x xs here rest (suc i) = rest i

both : (xs ys : List ℕ) → AreBytes xs → AreBytes ys → AreBytes (xs ++ ys)
both [] ys left right = right
both (x ∷ xs) ys left right = one x (xs ++ ys) (left 0) (both xs ys (λ i. left (suc i)) right)

zeros : (n : ℕ) → AreBytes (replicate n 0)
zeros zero = none
zeros (suc n) = one 0 (replicate n 0) (omega arith) (zeros n)

-- the bytes of a character
encode-bytes : (c : ℕ) → c < 1114112 → AreBytes (encode c)
unfolding encode
encode-bytes c small =
    elim (ltb c 128) as (λ b. ltb c 128 ≡ b → AreBytes (cond b (c ∷ []) (cond (ltb c 2048) ((192 + c / 64) ∷ next c ∷ []) (cond (ltb c 65536) ((224 + c / 4096) ∷ next (c / 64) ∷ next c ∷ []) ((240 + c / 262144) ∷ next (c / 4096) ∷ next (c / 64) ∷ next c ∷ []))))) [
      | true ↦ λ e. (let lt : c < 128 = ltb-true c 128 e in one c [] (omega arith) none)
      | false ↦ λ _. elim (ltb c 2048) as (λ b. ltb c 2048 ≡ b → AreBytes (cond b ((192 + c / 64) ∷ next c ∷ []) (cond (ltb c 65536) ((224 + c / 4096) ∷ next (c / 64) ∷ next c ∷ []) ((240 + c / 262144) ∷ next (c / 4096) ∷ next (c / 64) ∷ next c ∷ [])))) [
        | true ↦ λ e. (let lt : c < 2048 = ltb-true c 2048 e in one (192 + c / 64) (next c ∷ []) (omega arith) (one (next c) [] (omega arith) none))
        | false ↦ λ _. elim (ltb c 65536) as (λ b. ltb c 65536 ≡ b → AreBytes (cond b ((224 + c / 4096) ∷ next (c / 64) ∷ next c ∷ []) ((240 + c / 262144) ∷ next (c / 4096) ∷ next (c / 64) ∷ next c ∷ []))) [
          | true ↦ λ e. (let lt : c < 65536 = ltb-true c 65536 e in one (224 + c / 4096) (next (c / 64) ∷ next c ∷ []) (omega arith) (one (next (c / 64)) (next c ∷ []) (omega arith) (one (next c) [] (omega arith) none)))
          | false ↦ λ _. one (240 + c / 262144) (next (c / 4096) ∷ next (c / 64) ∷ next c ∷ []) (omega arith) (one (next (c / 4096)) (next (c / 64) ∷ next c ∷ []) (omega arith) (one (next (c / 64)) (next c ∷ []) (omega arith) (one (next c) [] (omega arith) none)))
        ] refl
      ] refl
    ] refl

encodes-bytes : (cs : List ℕ) → scalars cs ≡ true → AreBytes (encodes cs)
encodes-bytes [] all = none
encodes-bytes (c ∷ cs) all =
    let here : c < 1114112 = ⊎_elim (λ (l : c < 55296). omega arith) (λ (h : (57344 ≤ c) × (c < 1114112)). h.1) (scalar_cases c (and-true (scalar c) (scalars cs) all).0) in
    both (encode c) (encodes cs) (encode-bytes c here) (encodes-bytes cs (and-true (scalar c) (scalars cs) all).1)

-- a text's bytes are bytes
utf8-bytes : (text : List ℕ) → IsUtf8 text → AreBytes text
utf8-bytes text is = subst AreBytes is.1.1 (encodes-bytes is.0 is.1.0)

high_first-bytes : (k n : ℕ) → AreBytes (bytes_high_first k n)
high_first-bytes zero n = none
high_first-bytes (suc k) n = one (byte_at k n) (bytes_high_first k n) (small k) (high_first-bytes k n)
  where
    small : (k : ℕ) → byte_at k n < 256
    small zero = omega arith
    small (suc k) = omega arith

-- ---- keys

pub form-bytes : (key : Name) → IsName key → AreBytes (form_of key)
form-bytes (Text bytes) is =
    let few : length bytes ≤ 64 = is.1 in
    one 0 (padded 64 bytes ++ length bytes ∷ []) (omega arith)
    (both (padded 64 bytes) (length bytes ∷ []) (both bytes (replicate (64 - length bytes) 0) (utf8-bytes bytes is.2) (zeros (64 - length bytes))) (one (length bytes) [] (omega arith) none))
form-bytes (Auto serial) is =
    one 1 (padded 64 (to_be_bytes w64 serial) ++ 8 ∷ []) (omega arith)
    (both (padded 64 (to_be_bytes w64 serial)) (8 ∷ []) (both (to_be_bytes w64 serial) (replicate 56 0) (high_first-bytes 8 serial) (zeros 56)) (one 8 [] (omega arith) none))

-- a key's form has 66 bytes
pub length-form_of : (key : Name) → IsName key → length (form_of key) ≡ 66
length-form_of (Text bytes) is =
    let few : length bytes ≤ 64 = is.1 in
    omega (arith, length-append (padded 64 bytes) (length bytes ∷ []), length-append bytes (replicate (64 - length bytes) 0), length-replicate {A = ℕ} (64 - length bytes) 0)
length-form_of (Auto serial) is = refl

-- keys are ordered as the numbers of their forms
pub key-order : (a b : Name) → IsName a → IsName b → key_cmp a b ≡ nat_cmp (key_code a) (key_code b)
unfolding key_code
key-order a b is also =
    sym (form_cmp a b is also)
    ∙ compare_numbers (form_of a) (form_of b) (length-form_of a is ∙ sym (length-form_of b also)) (form-bytes a is) (form-bytes b also)

-- ---- words

word-bytes : (word : List ℕ) → IsWordText word → AreBytes (word_form word)
word-bytes word is =
    let few = is.fits in
    both word (replicate (32 - length word) 0 ++ length word ∷ []) (utf8-bytes word (IsUtf8-had word is.utf8))
    (both (replicate (32 - length word) 0) (length word ∷ []) (zeros (32 - length word)) (one (length word) [] (omega arith) none))

-- words are ordered as the numbers of their forms
pub word-order : (a b : List ℕ) → IsWordText a → IsWordText b → word_cmp a b ≡ nat_cmp (word_code a) (word_code b)
unfolding word_code
word-order a b is also =
    sym (slice_cmp-word_form a b is.fits also.fits)
    ∙ compare_numbers (word_form a) (word_form b) (length-word_form a is ∙ sym (length-word_form b also)) (word-bytes a is) (word-bytes b also)

-- ---- numbers

eight_bytes : (a b c d e f g h : ℕ) → number (a ∷ (b ∷ (c ∷ (d ∷ (e ∷ (f ∷ (g ∷ (h ∷ [])))))))) ≡ from_be_bytes w64 (a ∷ (b ∷ (c ∷ (d ∷ (e ∷ (f ∷ (g ∷ (h ∷ []))))))))
eight_bytes a b c d e f g h = omega arith

-- a number's bytes spell it
pub number-number_bytes : (n : ℕ) → n < 2 ^ 64 → number (number_bytes n) ≡ n
unfolding number_bytes
number-number_bytes n fits =
    eight_bytes (byte_at 7 n) (byte_at 6 n) (byte_at 5 n) (byte_at 4 n) (byte_at 3 n) (byte_at 2 n) (byte_at 1 n) (byte_at 0 n) ∙ from_be_bytes-to_be_bytes_8 n fits
