-- Lists that grow, and lists of which something was counted, or nothing.
use Rattle.std.proofs.Common.{◌≡◌, ℕ, List, [], ◌∷◌, ◌++◌, length, refl, ap, ◌∙◌, arith}

-- nothing was counted, and so there is nothing
pub empty-list : {X : Type 0} (xs : List X) (n : ℕ) → n ≡ length xs → n ≡ 0 → xs ≡ []
empty-list [] n counts none = refl
empty-list (x ∷ xs) n counts none = absurd (omega arith)

-- one more was appended to the same list
pub appended : {X : Type 0} (more was same : List X) (x y : X) → more ≡ was ++ x ∷ [] → was ≡ same → x ≡ y → more ≡ same ++ y ∷ []
appended more was same x y is list item = is ∙ ap (λ w. w ++ x ∷ []) list ∙ ap (λ z. same ++ z ∷ []) item
