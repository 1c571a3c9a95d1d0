-- What is read of one slot where it lies.
use Rattle.std.proofs.Common.{◌≡◌, ℕ, zero, suc, ◌+◌, ◌*◌, ◌<◌, ◌≤◌, true, false, ◌&&◌, List, take, drop, arith, ap, ◌∙◌, sym, ⊎_elim}
use Rattle.std.proofs.lemmas.Bool.{cases_Bool}
use Rattle.std.specs.Int.{w32, cast_signed}
use Rattle.spatial_base.specs.Point.{Position}
use Rattle.spatial_base.specs.Rect.{Bounds, rect_of}
use Rattle.rtree_nodes.specs.Slots.{IsChildAt, got, one}
use Rattle.rtree_nodes.specs.Numbers.{number_at, int_at}
use Rattle.rtree_nodes.specs.Cells.{cell_width, cell_start, item_in, rect_of_cell, has_rect, has_form, is_on_map, is_rect, is_key_form, point_of, key_of, rect_at}
use Rattle.rtree_nodes.specs.Reach.{place_item, child_item}
use Rattle.rtree_nodes.specs.Pages.{level_in, is_used, cell_at, item_at, stored_in, rect_of_slot}
use Rattle.rtree_nodes.proofs.Formed.{stored-used, stored-unused}
use Rattle.rtree_nodes.proofs.Parts.{number-part, part-part}

-- the point of a slot's bytes that begin here
abbrev pub point_from : List ℕ → ℕ → Position
point_from page at = record { x = int_at at page; y = int_at (at + 4) page }

-- and the rectangle
abbrev pub rect_from : List ℕ → ℕ → Bounds
rect_from page at = record { west = int_at at page; south = int_at (at + 4) page; east = int_at (at + 8) page; north = int_at (at + 12) page }

int-part : (start width at : ℕ) (page : List ℕ) → at + 4 ≤ width → int_at at (take width (drop start page)) ≡ int_at (start + at) page
int-part start width at page fits = ap (cast_signed w32) (number-part start width at page fits)

int-start : (start width : ℕ) (page : List ℕ) → 4 ≤ width → int_at 0 (take width (drop start page)) ≡ int_at start page
int-start start width page fits = int-part start width 0 page (omega arith) ∙ ap (λ (n : ℕ). int_at n page) (omega arith)

leaf-point : (start : ℕ) (page : List ℕ) → point_of (take 74 (drop start page)) ≡ point_from page start
leaf-point start page =
    let x = int-start start 74 page (omega arith) in
    let y = int-part start 74 4 page (omega arith) in
    λ i. record { x = x i; y = y i }

leaf-key : (start : ℕ) (page : List ℕ) → key_of (take 74 (drop start page)) ≡ take 66 (drop (start + 8) page)
leaf-key start page = part-part start 74 8 66 page (omega arith)

inner-rect : (start : ℕ) (page : List ℕ) → rect_at (take 20 (drop start page)) ≡ rect_from page start
inner-rect start page =
    let west = int-start start 20 page (omega arith) in
    let south = int-part start 20 4 page (omega arith) in
    let east = int-part start 20 8 page (omega arith) in
    let north = int-part start 20 12 page (omega arith) in
    λ i. record { west = west i; south = south i; east = east i; north = north i }

-- a leaf's slot, by the bytes of the page
pub leaf-form : (page : List ℕ) (at : ℕ) → level_in page ≡ 0
    → has_form (level_in page) (cell_at page at) ≡ (is_on_map (int_at (16 + 74 * at) page) (int_at (16 + 74 * at + 4) page) && is_key_form (take 66 (drop (16 + 74 * at + 8) page)))
unfolding cell_at
leaf-form page at z =
    let start = 16 + 74 * at in
    ap (λ (n : ℕ). has_form n (take (cell_width n) (drop (cell_start n at) page))) z
    ∙ (λ i. is_on_map (leaf-point start page i).x (leaf-point start page i).y && is_key_form (leaf-key start page i))

pub leaf-item : (page : List ℕ) (at : ℕ) → level_in page ≡ 0 → item_at page at ≡ place_item (point_from page (16 + 74 * at)) (take 66 (drop (16 + 74 * at + 8) page))
unfolding cell_at
leaf-item page at z =
    let start = 16 + 74 * at in
    ap (λ (n : ℕ). item_in n (take (cell_width n) (drop (cell_start n at) page))) z
    ∙ (λ i. place_item (leaf-point start page i) (leaf-key start page i))

pub leaf-has-rect : (page : List ℕ) (at : ℕ) → level_in page ≡ 0
    → has_rect (level_in page) (cell_at page at) ≡ is_on_map (int_at (16 + 74 * at) page) (int_at (16 + 74 * at + 4) page)
unfolding cell_at
leaf-has-rect page at z =
    let start = 16 + 74 * at in
    ap (λ (n : ℕ). has_rect n (take (cell_width n) (drop (cell_start n at) page))) z
    ∙ (λ i. is_on_map (leaf-point start page i).x (leaf-point start page i).y)

pub leaf-rect : (page : List ℕ) (at : ℕ) → level_in page ≡ 0 → rect_of_slot page at ≡ rect_of (point_from page (16 + 74 * at))
unfolding cell_at
leaf-rect page at z =
    let start = 16 + 74 * at in
    ap (λ (n : ℕ). rect_of_cell n (take (cell_width n) (drop (cell_start n at) page))) z
    ∙ (λ i. rect_of (leaf-point start page i))

-- an inner node's slot, by the bytes of the page
inner-form-at : (level : ℕ) (page : List ℕ) (at : ℕ) → 0 < level → has_form level (take (cell_width level) (drop (cell_start level at) page)) ≡ is_rect (rect_from page (16 + 20 * at))
inner-form-at zero page at h = absurd (omega arith)
inner-form-at (suc level) page at h = ap is_rect (inner-rect (16 + 20 * at) page)

inner-has-rect-at : (level : ℕ) (page : List ℕ) (at : ℕ) → 0 < level → has_rect level (take (cell_width level) (drop (cell_start level at) page)) ≡ is_rect (rect_from page (16 + 20 * at))
inner-has-rect-at zero page at h = absurd (omega arith)
inner-has-rect-at (suc level) page at h = ap is_rect (inner-rect (16 + 20 * at) page)

inner-rect-at : (level : ℕ) (page : List ℕ) (at : ℕ) → 0 < level → rect_of_cell level (take (cell_width level) (drop (cell_start level at) page)) ≡ rect_from page (16 + 20 * at)
inner-rect-at zero page at h = absurd (omega arith)
inner-rect-at (suc level) page at h = inner-rect (16 + 20 * at) page

inner-item-at : (level : ℕ) (page : List ℕ) (at : ℕ) → 0 < level
    → item_in level (take (cell_width level) (drop (cell_start level at) page)) ≡ child_item (rect_from page (16 + 20 * at)) (number_at (16 + 20 * at + 16) page)
inner-item-at zero page at h = absurd (omega arith)
inner-item-at (suc level) page at h = λ i. child_item (inner-rect (16 + 20 * at) page i) (number-part (16 + 20 * at) 20 16 page (omega arith) i)

pub inner-form : (page : List ℕ) (at : ℕ) → 0 < level_in page → has_form (level_in page) (cell_at page at) ≡ is_rect (rect_from page (16 + 20 * at))
unfolding cell_at
inner-form page at h = inner-form-at (level_in page) page at h

pub inner-has-rect : (page : List ℕ) (at : ℕ) → 0 < level_in page → has_rect (level_in page) (cell_at page at) ≡ is_rect (rect_from page (16 + 20 * at))
unfolding cell_at
inner-has-rect page at h = inner-has-rect-at (level_in page) page at h

pub inner-rect-is : (page : List ℕ) (at : ℕ) → 0 < level_in page → rect_of_slot page at ≡ rect_from page (16 + 20 * at)
unfolding cell_at
inner-rect-is page at h = inner-rect-at (level_in page) page at h

pub inner-item : (page : List ℕ) (at : ℕ) → 0 < level_in page → item_at page at ≡ child_item (rect_from page (16 + 20 * at)) (number_at (16 + 20 * at + 16) page)
unfolding cell_at
inner-item page at h = inner-item-at (level_in page) page at h

-- the number of a child's page
cell-child : (level at : ℕ) (page : List ℕ) → 0 < level → (item_in level (take (cell_width level) (drop (cell_start level at) page))).to ≡ number_at (16 + 20 * at + 16) page
cell-child zero at page h = absurd (omega arith)
cell-child (suc n) at page h = number-part (16 + 20 * at) 20 16 page (omega arith)

used-where : (page : List ℕ) (at : ℕ) → got one (stored_in page at) ≡ 1 → is_used page at ≡ true
used-where page at one_is = ⊎_elim
    (λ (t : is_used page at ≡ true). t)
    (λ (f : is_used page at ≡ false). absurd (let e = ap (got one) (stored-unused page at f) in omega arith))
    (cases_Bool (is_used page at))

pub child-read : (page : List ℕ) (at n : ℕ) → 0 < level_in page → at < 32 → got one (stored_in page at) ≡ 1 → n ≡ number_at (16 + 20 * at + 16) page → IsChildAt (stored_in page) at n
unfolding cell_at
child-read page at n inner l u e = record {
  item = item_at page at;
  is = stored-used page at l (used-where page at u);
  to_is = cell-child (level_in page) at page inner ∙ sym e;
}
