-- Bounds from their parts.
use Rattle.std.proofs.Common.{◌≡◌, subst, sym}
use Rattle.spatial_base.specs.Rect.{Bounds, Covers, joined}
use Rattle.spatial_base.specs.Laws.{joined-first as covers-first, joined-second as covers-second, joined-least as covers-least}

-- equal bounds
pub bounds_same : (a b : Bounds) → a.west ≡ b.west → a.south ≡ b.south → a.east ≡ b.east → a.north ≡ b.north → a ≡ b
bounds_same a b w s e n = λ i. record { west = w i; south = s i; east = e i; north = n i }

-- what is joined of two covers the first
pub joined-first : (r a b : Bounds) → r ≡ joined a b → Covers r a
joined-first r a b is = subst (λ (x : Bounds). Covers x a) (sym is) (covers-first a b)

-- and the second
pub joined-second : (r a b : Bounds) → r ≡ joined a b → Covers r b
joined-second r a b is = subst (λ (x : Bounds). Covers x b) (sym is) (covers-second a b)

-- each other rectangle that covers both covers it
pub joined-least : (r a b : Bounds) → r ≡ joined a b → (x : Bounds) → Covers x a → Covers x b → Covers x r
joined-least r a b is x h k = subst (λ (y : Bounds). Covers x y) (sym is) (covers-least a b x h k)
