-- Where the last `*` of a text stands.
use Rattle.std.proofs.Common.{◌≡◌, ◌≢◌, ◌<◌, ◌≤◌, ℕ, zero, suc, List, [], ◌∷◌, length, get_or, take, drop, Some, None, refl, ap, arith, true, false, nat_eq}
use Rattle.std.proofs.lemmas.Bool.Decides.{nat_tests}
use Rattle.query_lang.specs.Word.{around, at_star}

-- there is none
pub no_star : (text : List ℕ) → ((k : ℕ) → k < length text → get_or text k 0 ≢ 42) → at_star text ≡ None
no_star [] none = refl
no_star (byte ∷ text) none =
    let here : byte ≢ 42 = none 0 (omega arith) in
    let a : nat_eq byte 42 ≡ false = grind (arith, nat_tests) in
    rw (no_star text (λ k less. none (suc k) (omega arith)), a) refl

-- the last is this one
pub last_star : (text : List ℕ) (n : ℕ) → n < length text → get_or text n 0 ≡ 42 → ((k : ℕ) → suc n ≤ k → k < length text → get_or text k 0 ≢ 42) → at_star text ≡ Some (take n text, drop (suc n) text)
last_star [] n less star none = absurd (omega arith)
last_star (byte ∷ text) zero less star none =
    let a : nat_eq byte 42 ≡ true = grind (arith, nat_tests) in
    rw (no_star text (λ k less. none (suc k) (omega arith) (omega arith)), a) refl
last_star (byte ∷ text) (suc n) less star none =
    ap (around byte text) (last_star text n (omega arith) star (λ k more within. none (suc k) (omega arith) (omega arith)))
