-- Words that are held, one by one.
use Rattle.std.proofs.Common.{◌≡◌, ℕ, ◌≤◌, Bool, true, false, ◌&&◌, nat_lt, List, [], ◌∷◌, ◌++◌, length, refl, ap, ◌∙◌, arith}
use Rattle.std.proofs.lemmas.List.Folds.{list_all-append}
use Rattle.group_sum.specs.Held.{holds_all}

and-right : (a b : Bool) → (a && (b && true)) ≡ (a && b)
and-right true true = refl
and-right true false = refl
and-right false b = refl

-- one word more
pub held-more : (f : List ℕ → ℕ) (words : List (List ℕ)) (word : List ℕ) → holds_all f (words ++ word ∷ []) ≡ (holds_all f words && nat_lt 0 (f word))
held-more f words word = list_all-append (λ w. nat_lt 0 (f w)) words (word ∷ []) ∙ and-right (holds_all f words) (nat_lt 0 (f word))

-- a list of no length is empty
pub no-words : (words : List (List ℕ)) → length words ≤ 0 → words ≡ []
no-words [] l = refl
no-words (word ∷ words) l = absurd (omega arith)
