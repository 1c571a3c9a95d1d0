-- Fronts of a text that is said piece by piece.
use Rattle.std.proofs.Common.{◌≡◌, ℕ, zero, suc, ◌+◌, List, [], ◌∷◌, ◌++◌, take, drop, sym, ap, ◌∙◌, arith, append_assoc, zero-add}
use native.Mathlib.Numerals.{unary_clauses}

-- a front, and a front of what is behind it
pub take-take-drop : {X : Type 0} (m n : ℕ) (xs : List X) → take m xs ++ take n (drop m xs) ≡ take (m + n) xs
take-take-drop zero n xs = ap (λ k. take k xs) (sym (zero-add n))
take-take-drop (suc m) zero [] = simp unary_clauses
take-take-drop (suc m) (suc n) [] = simp unary_clauses
take-take-drop (suc m) n (x ∷ xs) =
    let one_more : suc (m + n) ≡ suc m + n = omega arith in
    ap (λ l. x ∷ l) (take-take-drop m n xs) ∙ ap (λ k. take k (x ∷ xs)) one_more

-- a longer front was said
pub front-more : (bytes rest old now new : List ℕ) (at n : ℕ) → rest ≡ drop at bytes → now ≡ old ++ take at bytes → new ≡ now ++ take n rest → new ≡ old ++ take (at + n) bytes
front-more bytes rest old now new at n behind was is =
    is ∙ ap (λ s. s ++ take n rest) was ∙ append_assoc old (take at bytes) (take n rest)
    ∙ ap (λ s. old ++ (take at bytes ++ take n s)) behind ∙ ap (λ s. old ++ s) (take-take-drop at n bytes)
