-- What an iterator over the words of a text has left.
use Rattle.std.proofs.Common.{◌≡◌, ℕ, ◌≤◌, Bool, true, false, cond, nat_le, List, [], ◌∷◌, length, filter, map, refl, sym, ap, ◌∙◌, true≢false, arith}
use Rattle.std.proofs.lemmas.List.{length-map}
use Rattle.std.proofs.lemmas.Str.{chars-nil}
use Rattle.std.specs.List.{list_any}
use Rattle.unicode_segmentation.specs.Segments.{is_alphanumeric, has_alphanumeric}
use Rattle.unicode_segmentation.proofs.SegmentsLemmas.{length-filter-le}
use Rattle.term_impacts.specs.Text.{folded, kept_words}

-- what a filter lets through passes its test
filter_head : {X : Type 0} (test : X → Bool) (xs : List X) (y : X) (ys : List X) → filter test xs ≡ y ∷ ys → test y ≡ true
filter_head test [] y ys e = absurd (cc)
filter_head {X} test (x ∷ xs) y ys e =
    elim (test x) as (λ b. test x ≡ b → cond b (x ∷ filter test xs) (filter test xs) ≡ y ∷ ys → test y ≡ true) [
      | true ↦ λ t same. let first : x ≡ y = cc in ap test (sym first) ∙ t
      | false ↦ λ t same. filter_head test xs y ys same
    ] refl e

has_alphanumeric-nil : has_alphanumeric [] ≡ false
unfolding has_alphanumeric
has_alphanumeric-nil = ap (list_any is_alphanumeric) chars-nil

some_from_alphanumeric : (piece : List ℕ) → has_alphanumeric piece ≡ true → 1 ≤ length piece
some_from_alphanumeric [] h = absurd (true≢false (sym h ∙ has_alphanumeric-nil))
some_from_alphanumeric (b ∷ bs) h = omega arith

-- no word of a text is empty
pub some_piece : (pieces : List (List ℕ)) (piece : List ℕ) (rest : List (List ℕ)) → filter has_alphanumeric pieces ≡ piece ∷ rest → 1 ≤ length piece
some_piece pieces piece rest e = some_from_alphanumeric piece (filter_head has_alphanumeric pieces piece rest e)

-- no more words are kept than there are pieces
pub length-kept_words : (pieces : List (List ℕ)) → length (kept_words pieces) ≤ length pieces
length-kept_words pieces = omega (arith, length-filter-le (λ (word : List ℕ). nat_le (length word) 32) (map folded pieces), length-map pieces folded)
