-- Where items stand, from how far they reach.
use Rattle.std.proofs.Common.{◌≡◌, ℕ, ℤ, pos, ◌≤◌, ◌≤ℤ◌, arith, List}
use Rattle.std.specs.Prelude.{unsigned_abs}
use Rattle.std.proofs.lemmas.Int.{ints, clamps}
use Rattle.spatial_base.specs.Key.{Name, IsName, form_of}
use Rattle.spatial_base.specs.Point.{Position, IsOnMap}
use Rattle.spatial_base.specs.Rect.{Bounds, IsRect}
use Rattle.rtree_nodes.specs.Reach.{place_item, child_item, below_top, above_bottom}
use Rattle.rtree_nodes.proofs.Keys.{named}
use Rattle.node_filter.specs.Entries.{point_of, name_of, rect_of_item, least_at, greatest_at}
use Rattle.node_filter.proofs.Agreements.{point-back, side-back as low-back}

-- a place stands where its item does
pub place-point : (p : Position) (key : List ℕ) → IsOnMap p.x p.y → point_of (place_item p key) ≡ p
place-point p key on = point-back (λ d. 0) p key on

-- and has its key
pub place-name : (p : Position) (key : Name) → IsName key → name_of (place_item p (form_of key)) ≡ key
place-name p key name = named key name

high-back : (z : ℤ) → unsigned_abs z ≤ 2147483648 → greatest_at (above_bottom z) ≡ z
high-back z l = omega (arith, ints, clamps)

low-far : (z : ℤ) → unsigned_abs z ≤ 1800000000 → z ≤ℤ pos 2147483648
low-far z l = omega (arith, ints)

-- a child goes to its rectangle
pub child-rect : (r : Bounds) (page : ℕ) → IsRect r.west r.south r.east r.north → rect_of_item (child_item r page) ≡ r
child-rect r page on =
    let a = on.0 in
    let b = on.1 in
    let south : unsigned_abs r.south ≤ 1800000000 = let k = a.1 in omega arith in
    let west : least_at (below_top r.west) ≡ r.west = low-back r.west (low-far r.west a.0) in
    let low : least_at (below_top r.south) ≡ r.south = low-back r.south (low-far r.south south) in
    let east : greatest_at (above_bottom r.east) ≡ r.east = high-back r.east (let k = b.0 in omega arith) in
    let high : greatest_at (above_bottom r.north) ≡ r.north = high-back r.north (let k = b.1 in omega arith) in
    λ i. record { west = west i; south = low i; east = east i; north = high i }
