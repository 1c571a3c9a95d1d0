-- Counted pages.
use Rattle.std.proofs.Common.{◌≡◌, ◌⊎◌, ℕ, ◌<◌, arith, inl, inr}
use Rattle.page_face.specs.Causes.{IsUncounted}

-- a counted page isn't page 0
pub counted-some : (count page : ℕ) → (IsUncounted count page → ⊥) → 0 < page
counted-some count page h = elim (zero_or page) [ inl e ↦ absurd (h (inl e)) | inr l ↦ l ]
  where
    zero_or : (n : ℕ) → (n ≡ 0) ⊎ (0 < n)
    zero_or n = grind arith
