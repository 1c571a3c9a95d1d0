-- What the form of a word says of its text.
use Rattle.std.proofs.Common.{◌≡◌, ℕ, zero, suc, ◌+◌, ◌-◌, ◌<◌, ◌≤◌, List, [], ◌∷◌, ◌++◌, length, replicate, take, refl, sym, ap, subst, ◌∙◌, arith, set, drop}
use Rattle.std.proofs.lemmas.Cmp.{nat_list_cmp_total}
use Rattle.std.specs.Cmp.{nat_cmp_is}
use Rattle.std.specs.Cmp.Lexicographic.{slice_cmp}
use Rattle.std.specs.Ordering.{nat_cmp, ordering_then, ordering_reverse}
use Rattle.std.specs.declared.cmp.Ordering.TheVariants.{Less, Equal}
use Rattle.term_impacts.specs.Form.{IsWordText, word_form, form_text, IsWordForm}
use Rattle.term_impacts.proofs.PaddingLemmas.{padded, set-padded, text_of_padded, zeros_behind}

-- where the text is done and the other goes on, the padding and the lesser length come first
ended_first : (ys : List ℕ) (p q k l : ℕ) → p ≡ length ys + q → k < l → slice_cmp nat_cmp (padded [] p k) (padded ys q l) ≡ Less
ended_first [] zero zero k l e lt = ap (λ r. ordering_then r Equal) (sym (nat_cmp_is k l Less lt))
ended_first [] zero (suc q) k l e lt = absurd (omega arith)
ended_first [] (suc p) zero k l e lt = absurd (omega arith)
ended_first [] (suc p) (suc q) k l e lt = ended_first [] p q k l (omega arith) lt
ended_first (y ∷ ys) zero q k l e lt = absurd (omega arith)
ended_first (zero ∷ ys) (suc p) q k l e lt = ended_first ys p q k l (omega arith) lt
ended_first (suc y ∷ ys) (suc p) q k l e lt =
    ap (λ r. ordering_then r (slice_cmp nat_cmp (padded [] p k) (padded ys q l))) (sym (nat_cmp_is 0 (suc y) Less (omega arith)))

same_list : (xs : List ℕ) → slice_cmp nat_cmp xs xs ≡ Equal
same_list [] = refl
same_list (x ∷ xs) = ap (λ r. ordering_then r (slice_cmp nat_cmp xs xs)) (sym (nat_cmp_is x x Equal refl)) ∙ same_list xs

-- padded texts of one length compare as the texts do
order_padded : (xs ys : List ℕ) (p q k l : ℕ) → length xs + p ≡ length ys + q → k + p ≡ l + q → slice_cmp nat_cmp (padded xs p k) (padded ys q l) ≡ slice_cmp nat_cmp xs ys
order_padded [] [] p q k l e f =
    let p_is : p ≡ q = omega arith in
    let k_is : k ≡ l = omega arith in
    (λ i. slice_cmp nat_cmp (padded [] (p_is i) (k_is i)) (padded [] q l)) ∙ same_list (padded [] q l)
order_padded [] (y ∷ ys) p q k l e f = ended_first (y ∷ ys) p q k l (omega arith) (omega arith)
order_padded (x ∷ xs) [] p q k l e f =
    nat_list_cmp_total.antisymm (padded (x ∷ xs) p k) (padded [] q l)
    ∙ ap ordering_reverse (ended_first (x ∷ xs) q p l k (omega arith) (omega arith))
order_padded (x ∷ xs) (y ∷ ys) p q k l e f = ap (ordering_then (nat_cmp x y)) (order_padded xs ys p q k l (omega arith) f)

-- forms compare as the texts do
pub slice_cmp-word_form : (xs ys : List ℕ) → length xs ≤ 32 → length ys ≤ 32 → slice_cmp nat_cmp (word_form xs) (word_form ys) ≡ slice_cmp nat_cmp xs ys
slice_cmp-word_form xs ys h g = order_padded xs ys (32 - length xs) (32 - length ys) (length xs) (length ys) (omega arith) (omega arith)

-- a form gives its text back
pub form_text-word_form : (text : List ℕ) → length text ≤ 32 → form_text (word_form text) ≡ text
form_text-word_form = text_of_padded 32

-- the form of a word's text is a form
pub IsWordForm-word_form : (text : List ℕ) → IsWordText text → IsWordForm (word_form text)
IsWordForm-word_form text is =
    let same : form_text (word_form text) ≡ text = form_text-word_form text is.fits in
    record { text = subst IsWordText (sym same) is; padded = ap word_form (sym same) }

-- the text that a form stands for is the one that it was made of
pub form_text_is : (form text : List ℕ) → IsWordText text → form ≡ word_form text → form_text form ≡ text
form_text_is form text is same = ap form_text same ∙ form_text-word_form text is.fits

-- a form with the same text as a word's form is that form
pub same_form : (form bytes text : List ℕ) → IsWordForm form → form_text form ≡ form_text bytes → IsWordText text → bytes ≡ word_form text → form ≡ bytes
same_form form bytes text is same word made =
    is.padded ∙ ap word_form (same ∙ form_text_is bytes text word made) ∙ sym made

-- zero bytes are left behind what was written to the front of 33 of them
pub zeros_left : (text : List ℕ) (n : ℕ) → length text ≡ n → drop n (text ++ drop n (replicate 33 0)) ≡ replicate (33 - n) 0
zeros_left text n len = zeros_behind text n 33 len

-- a text before zero bytes, with its length in the last place, is the text's form
pub set-word_form : (form : List ℕ) (len : ℕ) → len ≤ 32 → drop len form ≡ replicate (33 - len) 0 → set form 32 len ≡ word_form (take len form)
set-word_form = set-padded 32
