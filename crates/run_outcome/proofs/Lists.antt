-- Fronts of lists, and lists of which something was counted, or nothing.
use Rattle.std.proofs.Common.{◌≡◌, ℕ, ◌≤◌, ◌==◌, Bool, true, false, List, [], ◌∷◌, ◌++◌, length, take, refl, sym, ap, ◌∙◌, arith}
use Rattle.std.proofs.lemmas.Bool.{eqb-true, eqb-false}
use Rattle.std.proofs.lemmas.List.{take-take, take-append-le}

-- nothing was counted
pub none-left : {X : Type 0} (xs : List X) (n : ℕ) (b : Bool) → n ≡ length xs → b ≡ (n == 0) → b ≡ true → xs ≡ []
none-left [] n b l e t = refl
none-left (x ∷ xs) n b l e t = absurd (let z : n ≡ 0 = eqb-true n 0 (sym e ∙ t) in omega arith)

-- something was counted
pub some-left : {X : Type 0} (xs : List X) (n : ℕ) (b : Bool) → n ≡ length xs → b ≡ (n == 0) → b ≡ false → xs ≡ [] → ⊥
some-left xs n b l e f none = eqb-false n 0 (sym e ∙ f) (l ∙ ap length none)

-- nothing is behind no bytes
pub none-behind : (front back : List ℕ) → front ++ back ≡ [] → back ≡ []
none-behind [] back is = is
none-behind (byte ∷ front) back is = absurd (omega (arith, ap length is))

-- a front of what was written over the front of a buffer
pub take-over : (n len : ℕ) (over rest : List ℕ) → n ≤ length over → length over ≤ len → take n (take len (over ++ rest)) ≡ take n over
take-over n len over rest few room = take-take n len (over ++ rest) (omega (arith, few, room)) ∙ take-append-le n over rest few
