-- The bytes of a slot say what was written.
use Rattle.std.proofs.Common.{◌≡◌, ◌↔◌, ℕ, suc, ℤ, ◌<◌, ◌≤◌, ◌^◌, Bool, true, length, unsigned_abs, arith, refl, ap, ◌∙◌, subst}
use Rattle.std.specs.Prelude.{int_le, ◌≤ℤ◌, pos, negsuc}
use Rattle.std.specs.Int.{w32, from_be_bytes, cast_signed, cast_unsigned}
use Rattle.std.proofs.Math.Facts.{Fits-lt-pow, Fits-of_z}
use Rattle.std.proofs.lemmas.Bool.{and_parts, and_from, leb-true, le-leb, false≢true}
use Rattle.std.proofs.lemmas.Int.{fits_signed_from_abs, to_z-of_z, ints}
use Rattle.std.proofs.lemmas.List.{take_all}
use Rattle.std.proofs.lemmas.Nat.{from_be_bytes-to_be_bytes_4}
use Rattle.spatial_base.specs.Key.{Name, IsName, form_of}
use Rattle.spatial_base.specs.Point.{Position, IsOnMap}
use Rattle.spatial_base.specs.Rect.{Bounds, IsRect}
use Rattle.rtree_nodes.specs.Numbers.{number_at, int_at, int_bytes}
use Rattle.rtree_nodes.specs.Reach.{place_item, child_item}
use Rattle.rtree_nodes.specs.Cells.{is_on_map, is_rect, is_key_form, key_of, rect_at, child_of, item_in, has_form, place_cell, child_cell}
use Rattle.rtree_nodes.proofs.Keys.{length-form, form-key}

-- a point on the map
pub map-from : (x y : ℤ) → is_on_map x y ≡ true → IsOnMap x y
map-from x y h = let a = and_parts _ _ h in (leb-true (unsigned_abs x) 1800000000 a.0, leb-true (unsigned_abs y) 900000000 a.1)

pub map-to : (x y : ℤ) → IsOnMap x y → is_on_map x y ≡ true
map-to x y h = and_from _ _ (le-leb (unsigned_abs x) 1800000000 h.0) (le-leb (unsigned_abs y) 900000000 h.1)

-- an order of signed numbers
pub int-le : (a b : ℤ) → int_le a b ≡ true → a ≤ℤ b
int-le (pos a) (pos b) h = let k = leb-true a b h in omega (arith, ints)
int-le (pos a) (negsuc b) h = absurd (false≢true h)
int-le (negsuc a) (pos b) h = omega (arith, ints)
int-le (negsuc a) (negsuc b) h = let k = leb-true b a h in omega (arith, ints)

pub le-int : (a b : ℤ) → a ≤ℤ b → int_le a b ≡ true
le-int (pos a) (pos b) h = le-leb a b (omega (arith, ints))
le-int (pos a) (negsuc b) h = absurd (omega (arith, ints))
le-int (negsuc a) (pos b) h = refl
le-int (negsuc a) (negsuc b) h = le-leb b a (omega (arith, ints))

-- a rectangle of the map
pub rect-from : (r : Bounds) → is_rect r ≡ true → IsRect r.west r.south r.east r.north
rect-from r h =
    let a = and_parts _ _ h in
    let b = and_parts _ _ a.0 in
    let c = and_parts _ _ b.0 in
    (map-from r.west r.south c.0, map-from r.east r.north c.1, int-le r.west r.east b.1, int-le r.south r.north a.1)

pub rect-to : (r : Bounds) → IsRect r.west r.south r.east r.north → is_rect r ≡ true
rect-to r h = and_from _ _ (and_from _ _ (and_from _ _ (map-to r.west r.south h.0) (map-to r.east r.north h.1)) (le-int r.west r.east h.2)) (le-int r.south r.north h.3)

-- a coordinate of the map fits four bytes
fits_i32 : (z : ℤ) → unsigned_abs z ≤ 1800000000 → cast_signed w32 (cast_unsigned w32 z) ≡ z
fits_i32 z small = to_z-of_z w32 z (fits_signed_from_abs w32 z (omega arith))

fits_map : (z : ℤ) → unsigned_abs z ≤ 1800000000 → cast_unsigned w32 z < 2 ^ 32
fits_map z small = Fits-lt-pow (Fits-of_z (fits_signed_from_abs w32 z (omega arith)))

int_read : (z : ℤ) → unsigned_abs z ≤ 1800000000 → cast_signed w32 (from_be_bytes w32 (int_bytes z)) ≡ z
int_read z small = ap (cast_signed w32) (from_be_bytes-to_be_bytes_4 (cast_unsigned w32 z) (fits_map z small)) ∙ fits_i32 z small

-- a place's bytes
pub length-place : (point : Position) (name : Name) → IsName name → length (place_cell point name) ≡ 74
unfolding place_cell
length-place point name is = let long = length-form name is in omega arith

pub place-x : (point : Position) (name : Name) → IsOnMap point.x point.y → int_at 0 (place_cell point name) ≡ point.x
unfolding place_cell number_at
place-x point name on = int_read point.x on.0

pub place-y : (point : Position) (name : Name) → IsOnMap point.x point.y → int_at 4 (place_cell point name) ≡ point.y
unfolding place_cell number_at
place-y point name on = let small : unsigned_abs point.y ≤ 1800000000 = omega (arith, on.1) in int_read point.y small

pub place-key : (point : Position) (name : Name) → IsName name → key_of (place_cell point name) ≡ form_of name
unfolding place_cell
place-key point name is = let long = length-form name is in take_all 66 (form_of name) (omega arith)

pub place-item : (point : Position) (name : Name) → IsOnMap point.x point.y → IsName name → item_in 0 (place_cell point name) ≡ place_item point (form_of name)
place-item point name on is = λ i. place_item (record { x = place-x point name on i; y = place-y point name on i }) (place-key point name is i)

pub place-form : (point : Position) (name : Name) → IsOnMap point.x point.y → IsName name → has_form 0 (place_cell point name) ≡ true
place-form point name on is = and_from _ _
    (ap (λ (z : ℤ). is_on_map z (int_at 4 (place_cell point name))) (place-x point name on)
    ∙ ap (λ (z : ℤ). is_on_map point.x z) (place-y point name on)
    ∙ map-to point.x point.y on)
    (ap is_key_form (place-key point name is) ∙ form-key name is)

-- a child's bytes
pub length-child : (rect : Bounds) (page : ℕ) → length (child_cell rect page) ≡ 20
unfolding child_cell
length-child rect page = refl

pub child-rect : (rect : Bounds) (page : ℕ) → IsRect rect.west rect.south rect.east rect.north → rect_at (child_cell rect page) ≡ rect
unfolding child_cell number_at
child-rect rect page is =
    let west = int_read rect.west is.0.0 in
    let south = int_read rect.south (omega (arith, is.0.1)) in
    let east = int_read rect.east is.1.0 in
    let north = int_read rect.north (omega (arith, is.1.1)) in
    λ i. record { west = west i; south = south i; east = east i; north = north i }

pub child-page : (rect : Bounds) (page : ℕ) → page < 2 ^ 32 → child_of (child_cell rect page) ≡ page
unfolding child_cell number_at
child-page rect page fits = from_be_bytes-to_be_bytes_4 page fits

pub child-item : (level : ℕ) (rect : Bounds) (page : ℕ) → IsRect rect.west rect.south rect.east rect.north → page < 2 ^ 32 → item_in (suc level) (child_cell rect page) ≡ child_item rect page
child-item level rect page is fits = λ i. child_item (child-rect rect page is i) (child-page rect page fits i)

pub child-form : (level : ℕ) (rect : Bounds) (page : ℕ) → IsRect rect.west rect.south rect.east rect.north → has_form (suc level) (child_cell rect page) ≡ true
child-form level rect page is = ap is_rect (child-rect rect page is) ∙ rect-to rect is

-- the test of a rectangle from its four numbers
pub rect-test : (b : Bool) (w s e n west south east north : ℤ) → w ≡ west → s ≡ south → e ≡ east → n ≡ north → ((b ≡ true) ↔ IsRect w s e n)
    → (b ≡ true) ↔ (is_rect (record { west = west; south = south; east = east; north = north }) ≡ true)
rect-test b w s e n west south east north p q r t h =
    let made : Bounds = record { west = west; south = south; east = east; north = north } in
    let given : Bounds = record { west = w; south = s; east = e; north = n } in
    let same : given ≡ made = λ i. record { west = p i; south = q i; east = r i; north = t i } in
    let k : (b ≡ true) ↔ IsRect west south east north = subst (λ (x : Bounds). (b ≡ true) ↔ IsRect x.west x.south x.east x.north) same h in
    (λ yes. rect-to made (k.0 yes), λ yes. k.1 (rect-from made yes))
