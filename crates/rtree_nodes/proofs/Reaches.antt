-- How far rectangles go to each side.
use Rattle.std.proofs.Common.{◌≡◌, ℕ, ℤ, zero, suc, ◌<◌, ◌≤◌, max, arith, refl, unsigned_abs}
use Rattle.std.specs.Int.{int_max, int_min}
use Rattle.std.proofs.lemmas.Int.{ints, clamps}
use Rattle.spatial_base.specs.Rect.{Bounds, IsRect, joined}
use Rattle.rtree_nodes.specs.Reach.{below_top, above_bottom, reach_of}

-- the lesser of two is as far below as the further one
below-min : (a b : ℤ) → below_top (int_min a b) ≡ max (below_top a) (below_top b)
below-min a b = omega (arith, ints, clamps)

above-max : (a b : ℤ) → above_bottom (int_max a b) ≡ max (above_bottom a) (above_bottom b)
above-max a b = omega (arith, ints, clamps)

-- two rectangles together reach as far as the one that reaches further, on each side
pub joined-reach : (a b : Bounds) (d : ℕ) → reach_of (joined a b) d ≡ max (reach_of a d) (reach_of b d)
joined-reach a b zero = below-min a.west b.west
joined-reach a b (suc zero) = below-min a.south b.south
joined-reach a b (suc (suc zero)) = above-max a.east b.east
joined-reach a b (suc (suc (suc zero))) = above-max a.north b.north
joined-reach a b (suc (suc (suc (suc d)))) = refl

-- numbers of four bytes are told by how far they are from the ends
below-same : (a b : ℤ) → unsigned_abs a ≤ 2147483647 → unsigned_abs b ≤ 2147483647 → below_top a ≡ below_top b → a ≡ b
below-same a b h k e = omega (arith, ints, clamps)

above-same : (a b : ℤ) → unsigned_abs a ≤ 2147483647 → unsigned_abs b ≤ 2147483647 → above_bottom a ≡ above_bottom b → a ≡ b
above-same a b h k e = omega (arith, ints, clamps)

-- rectangles that reach as far on the four sides are the same
pub same-rect : (a b : Bounds) → IsRect a.west a.south a.east a.north → IsRect b.west b.south b.east b.north → ((d : ℕ) → d < 4 → reach_of a d ≡ reach_of b d) → a ≡ b
same-rect a b h k e =
    let west = below-same a.west b.west (omega (arith, h.0.0)) (omega (arith, k.0.0)) (e 0 (omega arith)) in
    let south = below-same a.south b.south (omega (arith, h.0.1)) (omega (arith, k.0.1)) (e 1 (omega arith)) in
    let east = above-same a.east b.east (omega (arith, h.1.0)) (omega (arith, k.1.0)) (e 2 (omega arith)) in
    let north = above-same a.north b.north (omega (arith, h.1.1)) (omega (arith, k.1.1)) (e 3 (omega arith)) in
    λ i. record { west = west i; south = south i; east = east i; north = north i }
