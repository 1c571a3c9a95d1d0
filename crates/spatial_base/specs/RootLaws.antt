-- The whole square root is one, and `root` finds it.
use Rattle.std.proofs.Common.{◌≡◌, ℕ, zero, suc, ◌+◌, ◌*◌, ◌/◌, ◌^◌, ◌<◌, ◌≤◌, ⊎_elim, true, false, nat_le, arith}
use Rattle.std.proofs.lemmas.Bool.{cases_Bool, leb-true, leb-false, cases_order}
use Rattle.std.proofs.lemmas.Nat.{mul-le}
use Rattle.spatial_base.specs.Root.{IsRoot, doubled, root_of_digits, root}

-- no two numbers are both the root
pub root_is_one : (n r s : ℕ) → IsRoot n r → IsRoot n s → r ≡ s
root_is_one n r s a b = ⊎_elim
    (λ (e : r ≡ s). e)
    (⊎_elim
    (λ (l : r < s). absurd (let m = mul-le (r + 1) (r + 1) s s (omega arith) (omega arith) in omega (arith, m, a.next, b.square)))
    (λ (l : s < r). absurd (let m = mul-le (s + 1) (s + 1) r r (omega arith) (omega arith) in omega (arith, m, b.next, a.square))))
    (cases_order r s)

-- a quarter's root, doubled or one more
doubled-IsRoot : (n r : ℕ) → IsRoot (n / 4) r → IsRoot n (doubled n r)
doubled-IsRoot n r h = ⊎_elim
    (λ (t : nat_le ((2 * r + 1) * (2 * r + 1)) n ≡ true).
    rw t record { square = leb-true _ _ t; next = omega (arith, h.next) })
    (λ (f : nat_le ((2 * r + 1) * (2 * r + 1)) n ≡ false).
    rw f record { square = omega (arith, h.square); next = leb-false _ _ f })
    (cases_Bool (nat_le ((2 * r + 1) * (2 * r + 1)) n))

root_of_digits-IsRoot : (digits n : ℕ) → n < 4 ^ digits → IsRoot n (root_of_digits digits n)
unfolding root_of_digits
root_of_digits-IsRoot zero n l = record { square = omega arith; next = omega arith }
root_of_digits-IsRoot (suc digits) n l =
    doubled-IsRoot n (root_of_digits digits (n / 4)) (root_of_digits-IsRoot digits (n / 4) (omega arith))

-- what `root` answers is the root
pub root-IsRoot : (n : ℕ) → n < 2 ^ 128 → IsRoot n (root n)
unfolding root
root-IsRoot n l = root_of_digits-IsRoot 64 n l

-- and the root is what `root` answers
pub root-is : (n r : ℕ) → n < 2 ^ 128 → IsRoot n r → r ≡ root n
root-is n r l h = root_is_one n r (root n) h (root-IsRoot n l)

-- roots rise with their numbers
pub root_below : (n r most : ℕ) → IsRoot n r → n < (most + 1) * (most + 1) → r ≤ most
root_below n r most h l = ⊎_elim
    (λ (e : r ≡ most + 1). absurd (let m = mul-le (most + 1) (most + 1) r r (omega arith) (omega arith) in omega (arith, m, h.square)))
    (⊎_elim
    (λ (a : r < most + 1). omega arith)
    (λ (a : most + 1 < r). absurd (let m = mul-le (most + 1) (most + 1) r r (omega arith) (omega arith) in omega (arith, m, h.square))))
    (cases_order r (most + 1))
