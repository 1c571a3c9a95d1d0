-- What is known of distances and rectangles, for crates that speak of them without calling.
use Rattle.std.proofs.Common.{◌≡◌, ◌⊎◌, ℕ, ℤ, ◌+◌, ◌-◌, ◌*◌, ◌/◌, ◌%◌, ◌^◌, ◌<◌, ◌≤◌, min, true, false, refl, sym, ap, ◌∙◌, inl, inr, ⊎_elim, arith}
use Rattle.std.specs.Prelude.{◌≤ℤ◌, unsigned_abs}
use Rattle.std.specs.Int.Signed.{le_z, ◌<ℤ◌}
use Rattle.std.proofs.lemmas.Bool.{cases_Bool, cases_lt}
use Rattle.std.proofs.lemmas.Nat.{mul-le}
use Rattle.std.proofs.lemmas.Int.{ints, clamps}
use Rattle.spatial_base.specs.Root.{IsRoot, root}
use Rattle.spatial_base.specs.Point.{Position, IsOnMap, Viewpoint, IsViewpoint, seen_from, gap, longitude_gap, squared, line_of, distance}
use Rattle.spatial_base.specs.Rect.{Bounds, IsRect, Holds, Covers, joined, clamped, longitude_gap_to, mindist_of}
use Rattle.spatial_base.specs.RootLaws.{root-IsRoot, root-is, root_below, root_is_one}

-- a thousandth of the root is the root of a millionth
IsRoot-thousandth : (n r : ℕ) → IsRoot n r → IsRoot (n / 1000000) (r / 1000)
IsRoot-thousandth n r h =
    let q = r / 1000 in
    record {
      square = let m = mul-le (q * 1000) (q * 1000) r r (omega arith) (omega arith) in omega (arith, m, h.square);
      next = let m = mul-le (r + 1) (r + 1) ((q + 1) * 1000) ((q + 1) * 1000) (omega arith) (omega arith) in omega (arith, m, h.next);
    }

root-thousandth : (n : ℕ) → n < 2 ^ 128 → root n / 1000 ≡ root (n / 1000000)
root-thousandth n l = root-is (n / 1000000) (root n / 1000) (omega arith) (IsRoot-thousandth n (root n) (root-IsRoot n l))

-- a greater number has no lesser root
root-rises : (m n : ℕ) → n < 2 ^ 128 → m ≤ n → root m ≤ root n
root-rises m n l h =
    let r = root-IsRoot n l in
    root_below m (root m) (root n) (root-IsRoot m (omega arith)) (omega (arith, r.next))

-- the squares of lines, of twice the longest as well, have a root
few : (scale a b : ℕ) → scale ≤ 1000 → a ≤ 3600000000 → b ≤ 3600000000 → squared scale a b < 2 ^ 128
few scale a b f g h =
    let s : scale * a ≤ 3600000000000 = omega (arith, mul-le scale a 1000 3600000000 f g) in
    omega (arith, mul-le (scale * a) (scale * a) 3600000000000 3600000000000 s s, mul-le b b 3600000000 3600000000 h h)

-- a millionth of the square of what is east, whole thousandths and the rest apart: no step passes 64 bits
split : (w t : ℕ) → w * w + (2000 * w * t + t * t) / 1000000 ≡ (1000 * w + t) * (1000 * w + t) / 1000000
split w t = omega arith

pub split-square : (s : ℕ) → s / 1000 * (s / 1000) + (2000 * (s / 1000) * (s % 1000) + s % 1000 * (s % 1000)) / 1000000 ≡ s * s / 1000000
split-square s =
    let w = s / 1000 in
    let t = s % 1000 in
    let e : s ≡ 1000 * w + t = omega arith in
    let q : s * s ≡ (1000 * w + t) * (1000 * w + t) = ap (λ n. n * n) e in
    split w t ∙ ap (λ n. n / 1000000) (sym q)

-- at the full scale it is the square itself
pub full-square : (east : ℕ) → 1000 * east * (1000 * east) / 1000000 ≡ east * east
full-square east = omega arith

-- the root of a millionth of the squares is the line
pub line-is : (scale east north s r : ℕ) → scale ≤ 1000 → east ≤ 1800000000 → north ≤ 1800000000 → s ≡ scale * east * (scale * east) / 1000000 → IsRoot (s + north * north) r → r ≡ line_of scale east north
line-is scale east north s r f g h e root_of =
    let n = squared scale east north in
    let small : n < 2 ^ 128 = few scale east north f (omega arith) (omega arith) in
    let q : s + north * north ≡ n / 1000000 = omega (arith, e) in
    root-is (n / 1000000) r (omega arith) (rw q at root_of) ∙ sym (root-thousandth n small)

-- a millionth of the square of what is east is at most so much
pub square-far : (scale east : ℕ) → scale ≤ 1000 → east ≤ 1800000000 → scale * east * (scale * east) / 1000000 ≤ 3240000000000000000
square-far scale east f g =
    let s : scale * east ≤ 1800000000000 = omega (arith, mul-le scale east 1000 1800000000 f g) in
    omega (arith, mul-le (scale * east) (scale * east) 1800000000000 1800000000000 s s)

-- a line is at most so long
pub line-far : (scale east north : ℕ) → scale ≤ 1000 → east ≤ 1800000000 → north ≤ 1800000000 → line_of scale east north ≤ 2545584412
line-far scale east north f g h =
    let s : scale * east ≤ 1800000000000 = omega (arith, mul-le scale east 1000 1800000000 f g) in
    let most : squared scale east north ≤ 6480000000000000000000000 = omega (arith, mul-le (scale * east) (scale * east) 1800000000000 1800000000000 s s, mul-le north north 1800000000 1800000000 h h) in
    let r = root-IsRoot (squared scale east north) (omega arith) in
    let top : root (squared scale east north) ≤ 2545584412999 = root_below (squared scale east north) (root (squared scale east north)) 2545584412999 r (omega (arith, most)) in
    omega arith

-- shorter sides, shorter line
pub line-le : (scale x y a b : ℕ) → scale ≤ 1000 → a ≤ 3600000000 → b ≤ 3600000000 → x ≤ a → y ≤ b → line_of scale x y ≤ line_of scale a b
line-le scale x y a b s f g h k =
    let m = mul-le scale x scale a (omega arith) h in
    let up = root-rises (squared scale x y) (squared scale a b) (few scale a b s f g)
    (omega (arith, mul-le (scale * x) (scale * x) (scale * a) (scale * a) m m, mul-le y y b b k k)) in
    omega arith

-- a line of no length
pub line-zero : (scale : ℕ) → line_of scale 0 0 ≡ 0
line-zero scale =
    let z : squared scale 0 0 ≡ 0 = omega arith in
    let r = root-IsRoot 0 (omega arith) in
    let e : root 0 ≡ 0 = root_is_one 0 (root 0) 0 r record { square = omega arith; next = omega arith } in
    rw (z, e) refl

-- no point is away from itself
pub distance-itself : (p : Position) (scale : ℕ) → distance (seen_from p scale) p ≡ 0
distance-itself p scale =
    let x : longitude_gap p.x p.x ≡ 0 = omega (arith, ints) in
    let y : gap p.y p.y ≡ 0 = omega (arith, ints) in
    rw (x, y) (line-zero scale)

-- a distance is the same both ways
pub distance-comm : (p q : Position) (scale : ℕ) → distance (seen_from p scale) q ≡ distance (seen_from q scale) p
distance-comm p q scale =
    let x : longitude_gap p.x q.x ≡ longitude_gap q.x p.x = omega (arith, ints) in
    let y : gap p.y q.y ≡ gap q.y p.y = omega (arith, ints) in
    rw (x, y) refl

-- two whole numbers stand in one of the two orders
cases_z : (a b : ℤ) → (a <ℤ b) ⊎ (b ≤ℤ a)
cases_z a b = ⊎_elim (λ (t : le_z b a ≡ true). inr (grind (arith, ints))) (λ (f : le_z b a ≡ false). inl (grind (arith, ints))) (cases_Bool (le_z b a))

clamped-left : (low high a : ℤ) → low ≤ℤ high → a <ℤ low → clamped low high a ≡ low
clamped-left low high a h k = omega (arith, ints, clamps)

clamped-right : (low high a : ℤ) → low ≤ℤ high → high <ℤ a → clamped low high a ≡ high
clamped-right low high a h k = omega (arith, ints, clamps)

clamped-inside : (low high a : ℤ) → low ≤ℤ a → a ≤ℤ high → clamped low high a ≡ a
clamped-inside low high a h k = omega (arith, ints, clamps)

gap-itself : (a : ℤ) → gap a a ≡ 0
gap-itself a = omega (arith, ints)

-- 0 inside
pub longitude_gap_to-inside : (west east a : ℤ) → west ≤ℤ a → a ≤ℤ east → longitude_gap_to west east a ≡ 0
longitude_gap_to-inside west east a h k = rw (clamped-inside west east a h k, gap-itself a) (omega arith)

-- else the lesser of the two ways to an end
pub longitude_gap_to-left : (west east a : ℤ) → west ≤ℤ east → a <ℤ west → longitude_gap_to west east a ≡ min (longitude_gap a west) (longitude_gap a east)
longitude_gap_to-left west east a h k = rw (clamped-left west east a h k) (omega arith)

pub longitude_gap_to-right : (west east a : ℤ) → west ≤ℤ east → east <ℤ a → longitude_gap_to west east a ≡ min (longitude_gap a west) (longitude_gap a east)
longitude_gap_to-right west east a h k = rw (clamped-right west east a h k) (omega arith)

-- a longitude_gap to what stands between is no shorter than to one of the ends
ways : (u v w : ℕ) → u ≤ v → v ≤ w → min (min u (3600000000 - u)) (min w (3600000000 - w)) ≤ min v (3600000000 - v)
ways u v w h k = omega arith

-- no longitude of a range is nearer than that, by either way
pub longitude_gap_to-below : (west east a b : ℤ) → west ≤ℤ b → b ≤ℤ east → longitude_gap_to west east a ≤ longitude_gap a b
longitude_gap_to-below west east a b h k =
    let wide : west ≤ℤ east = omega (arith, ints) in
    ⊎_elim
    (λ (l : a <ℤ west).
    rw (longitude_gap_to-left west east a wide l) (ways (gap a west) (gap a b) (gap a east) (omega (arith, ints)) (omega (arith, ints))))
    (λ (i : west ≤ℤ a). ⊎_elim
    (λ (l : east <ℤ a).
    let m = ways (gap a east) (gap a b) (gap a west) (omega (arith, ints)) (omega (arith, ints)) in
    rw (longitude_gap_to-right west east a wide l) (omega (arith, m)))
    (λ (j : a ≤ℤ east). rw (longitude_gap_to-inside west east a i j) (omega arith))
    (cases_z east a))
    (cases_z a west)

-- one of two is the lesser
either : (west east a : ℤ) → west ≤ℤ east → longitude_gap_to west east a ≡ min (longitude_gap a west) (longitude_gap a east) → (b : ℤ) × (west ≤ℤ b) × (b ≤ℤ east) × (longitude_gap_to west east a ≡ longitude_gap a b)
either west east a h e = ⊎_elim
    (λ (l : longitude_gap a west < longitude_gap a east). (west, omega (arith, ints), h, e ∙ omega arith))
    (λ (l : longitude_gap a east ≤ longitude_gap a west). (east, h, omega (arith, ints), e ∙ omega arith))
    (cases_lt (longitude_gap a west) (longitude_gap a east))

-- and one is as near
pub longitude_gap_to-reached : (west east a : ℤ) → west ≤ℤ east → (b : ℤ) × (west ≤ℤ b) × (b ≤ℤ east) × (longitude_gap_to west east a ≡ longitude_gap a b)
longitude_gap_to-reached west east a h = ⊎_elim
    (λ (l : a <ℤ west). either west east a h (longitude_gap_to-left west east a h l))
    (λ (i : west ≤ℤ a). ⊎_elim
    (λ (l : east <ℤ a). either west east a h (longitude_gap_to-right west east a h l))
    (λ (j : a ≤ℤ east). (a, i, j, longitude_gap_to-inside west east a i j ∙ rw (gap-itself a) (omega arith)))
    (cases_z east a))
    (cases_z a west)

-- what a rectangle of the map holds is on the map
pub held-on-map : (r : Bounds) (q : Position) → IsRect r.west r.south r.east r.north → Holds r q → IsOnMap q.x q.y
held-on-map r q f h = (omega (arith, ints, f.0, f.1, h.west, h.east), omega (arith, ints, f.0, f.1, h.south, h.north))

-- no point of a rectangle is nearer than its MINDIST (Roussopoulos, Kelley and Vincent 1995, theorem 1)
pub mindist-below : (r : Bounds) (from : Viewpoint) (q : Position) → IsViewpoint from → IsOnMap q.x q.y → Holds r q → mindist_of r from ≤ distance from q
mindist-below r from q f g h =
    line-le from.scale _ _ (longitude_gap from.point.x q.x) (gap from.point.y q.y) f.1 (omega (arith, ints)) (omega (arith, ints, f.0.1, g.1))
    (longitude_gap_to-below r.west r.east from.point.x q.x h.west h.east)
    (omega (arith, ints, clamps, h.south, h.north))

-- and one is as near
pub mindist-reached : (r : Bounds) (from : Viewpoint) → IsRect r.west r.south r.east r.north → (q : Position) × Holds r q × (mindist_of r from ≡ distance from q)
mindist-reached r from h =
    let b = longitude_gap_to-reached r.west r.east from.point.x h.2 in (
      record { x = b.0; y = clamped r.south r.north from.point.y },
      record { west = b.1; east = b.2; south = omega (arith, ints, clamps, h.3); north = omega (arith, ints, clamps, h.3) },
      ap (λ n. line_of from.scale n (gap from.point.y (clamped r.south r.north from.point.y))) b.3,
    )

-- it is 0 inside
pub mindist-inside : (r : Bounds) (from : Viewpoint) → Holds r from.point → mindist_of r from ≡ 0
mindist-inside r from h =
    let x : longitude_gap_to r.west r.east from.point.x ≡ 0 = longitude_gap_to-inside r.west r.east from.point.x h.west h.east in
    let y : gap from.point.y (clamped r.south r.north from.point.y) ≡ 0 = omega (arith, ints, clamps, h.south, h.north) in
    rw (x, y) (line-zero from.scale)

-- the sum of two lines is no longer than both: the step behind the triangle inequality
mean : (a b : ℕ) → 2 * a * b ≤ a * a + b * b
mean a b = ⊎_elim
    (λ (l : a < b). let d = b - a in let e : b ≡ a + d = omega arith in rw e (omega arith))
    (λ (l : b ≤ a). let d = a - b in let e : a ≡ b + d = omega arith in rw e (omega arith))
    (cases_lt a b)

-- Cauchy's inequality
cauchy : (a b c d : ℕ) → (a * c + b * d) * (a * c + b * d) ≤ (a * a + b * b) * (c * c + d * d)
cauchy a b c d = omega (arith, mean (a * d) (b * c))

inner : (a b c d s t : ℕ) → a * a + b * b < s * s → c * c + d * d < t * t → a * c + b * d < s * t
inner a b c d s t h k = ⊎_elim
    (λ (l : a * c + b * d < s * t). l)
    (λ (l : s * t ≤ a * c + b * d). absurd (
    let up = mul-le (s * t) (s * t) (a * c + b * d) (a * c + b * d) l l in
    let one = mul-le (a * a + b * b) (c * c + d * d) (a * a + b * b) (t * t) (omega arith) (omega arith) in
    let two = mul-le (a * a + b * b + 1) (t * t) (s * s) (t * t) (omega arith) (omega arith) in
    omega (arith, cauchy a b c d)))
    (cases_lt (a * c + b * d) (s * t))

-- the sum of two lines is shorter than what is longer than each
pub minkowski : (a b c d s t : ℕ) → a * a + b * b < s * s → c * c + d * d < t * t → (a + c) * (a + c) + (b + d) * (b + d) < (s + t) * (s + t)
minkowski a b c d s t h k = omega (arith, inner a b c d s t h k)

-- a line is shorter than the next thousand
next_thousand : (n : ℕ) → n < 2 ^ 128 → n < (1000 * (root n / 1000 + 1)) * (1000 * (root n / 1000 + 1))
next_thousand n l =
    let r = root-IsRoot n l in
    let m = mul-le (root n + 1) (root n + 1) (1000 * (root n / 1000 + 1)) (1000 * (root n / 1000 + 1)) (omega arith) (omega arith) in
    omega (arith, r.next)

-- what is left of the triangle inequality where lengths are rounded down: one to spare
pub line-triangle : (scale x y a b : ℕ) → scale ≤ 1000 → x ≤ 1800000000 → y ≤ 1800000000 → a ≤ 1800000000 → b ≤ 1800000000 → line_of scale (x + a) (y + b) ≤ line_of scale x y + line_of scale a b + 1
line-triangle scale x y a b s f g h k =
    let n = squared scale (x + a) (y + b) in
    let small : n < 2 ^ 128 = few scale (x + a) (y + b) s (omega arith) (omega arith) in
    let one = next_thousand (squared scale x y) (few scale x y s (omega arith) (omega arith)) in
    let two = next_thousand (squared scale a b) (few scale a b s (omega arith) (omega arith)) in
    let c = line_of scale x y in
    let d = line_of scale a b in
    let both = minkowski (scale * x) (1000 * y) (scale * a) (1000 * b) (1000 * (c + 1)) (1000 * (d + 1)) one two in
    let top : root n ≤ 1000 * (c + d + 2) - 1 =
    (let e : 1000 * (c + d + 2) - 1 + 1 ≡ 1000 * (c + 1) + 1000 * (d + 1) = omega arith in
    root_below n (root n) (1000 * (c + d + 2) - 1) (root-IsRoot n small) (rw e (omega (arith, both)))) in
    omega arith

-- the way round over a third longitude is no shorter
pub longitude_gap-triangle : (a b c : ℤ) → unsigned_abs a ≤ 1800000000 → unsigned_abs b ≤ 1800000000 → unsigned_abs c ≤ 1800000000 → longitude_gap a c ≤ longitude_gap a b + longitude_gap b c
longitude_gap-triangle a b c f g h = omega (arith, ints)

-- so distances keep the triangle inequality with one unit to spare, since each is rounded down
pub distance-triangle : (p q r : Position) (scale : ℕ) → scale ≤ 1000 → IsOnMap p.x p.y → IsOnMap q.x q.y → IsOnMap r.x r.y → distance (seen_from p scale) r ≤ distance (seen_from p scale) q + distance (seen_from q scale) r + 1
distance-triangle p q r scale s f g h =
    let over = longitude_gap-triangle p.x q.x r.x f.0 g.0 h.0 in
    let up : gap p.y r.y ≤ gap p.y q.y + gap q.y r.y = omega (arith, ints) in
    let a : longitude_gap p.x q.x ≤ 1800000000 = omega (arith, ints) in
    let b : longitude_gap q.x r.x ≤ 1800000000 = omega (arith, ints) in
    let c : gap p.y q.y ≤ 1800000000 = omega (arith, ints) in
    let d : gap q.y r.y ≤ 1800000000 = omega (arith, ints) in
    let longer = line-le scale (longitude_gap p.x r.x) (gap p.y r.y) (longitude_gap p.x q.x + longitude_gap q.x r.x) (gap p.y q.y + gap q.y r.y) s (omega arith) (omega arith) over up in
    let spare = line-triangle scale (longitude_gap p.x q.x) (gap p.y q.y) (longitude_gap q.x r.x) (gap q.y r.y) s a c b d in
    omega (arith, longer, spare)

-- the least rectangle round two covers the first
pub joined-first : (a b : Bounds) → Covers (joined a b) a
joined-first a b = record {
  west = omega (arith, ints, clamps);
  east = omega (arith, ints, clamps);
  south = omega (arith, ints, clamps);
  north = omega (arith, ints, clamps);
}

-- and the second
pub joined-second : (a b : Bounds) → Covers (joined a b) b
joined-second a b = record {
  west = omega (arith, ints, clamps);
  east = omega (arith, ints, clamps);
  south = omega (arith, ints, clamps);
  north = omega (arith, ints, clamps);
}

-- and is covered by each that covers both
pub joined-least : (a b r : Bounds) → Covers r a → Covers r b → Covers r (joined a b)
joined-least a b r h k = record {
  west = omega (arith, ints, clamps);
  east = omega (arith, ints, clamps);
  south = omega (arith, ints, clamps);
  north = omega (arith, ints, clamps);
}
