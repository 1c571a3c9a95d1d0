-- The greatest and the least of the first numbers.
use Rattle.std.proofs.Common.{◌≡◌, ℕ, ℤ, ◌+◌, refl, add-one}
use Rattle.std.specs.Int.{int_max, int_min}
use Rattle.split_policy.specs.Halving.{greatest, least}

pub greatest-none : (f : ℕ → ℤ) → greatest 0 f ≡ f 0
unfolding greatest
greatest-none f = refl

pub least-none : (f : ℕ → ℤ) → least 0 f ≡ f 0
unfolding least
least-none f = refl

-- one number more
pub greatest-next : (n : ℕ) (f : ℕ → ℤ) → greatest (n + 1) f ≡ int_max (greatest n f) (f n)
unfolding greatest
greatest-next n f = rw add-one

-- one number more
pub least-next : (n : ℕ) (f : ℕ → ℤ) → least (n + 1) f ≡ int_min (least n f) (f n)
unfolding least
least-next n f = rw add-one
