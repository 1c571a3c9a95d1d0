-- A page that is used where it may not be.
use Rattle.std.specs.Prelude.{◌≡◌, ◌⊎◌, ℕ, ◌+◌, ◌<◌, ◌≤◌}
use Rattle.page_face.specs.Causes.{IsUncounted}
use Rattle.page_face.specs.declared.fault.Rule.TheVariants.{Link, Shared}
use Rattle.page_face.specs.declared.fault.Damage.{Damage}

-- The damage is of a page that is used though it is page 0 or isn't counted, or is used twice: `before n` is how often page n was used
-- before, and `now n` how often it is used here.
abbrev pub IsMisused : ℕ → (ℕ → ℕ) → (ℕ → ℕ) → Damage → Type 0
IsMisused count before now damage =
    ((damage.rule ≡ Link) × IsUncounted count damage.page × (0 < now damage.page))
    ⊎ ((damage.rule ≡ Shared) × (2 ≤ before damage.page + now damage.page))

-- each page is used once at most, counting what was used before, and each that is used is counted and isn't page 0
pub record AreUsedOnce (count : ℕ) (before now : ℕ → ℕ) : Type 0 where
  pub once : (n : ℕ) → before n + now n ≤ 1
  pub known : (n : ℕ) → IsUncounted count n → now n ≡ 0
