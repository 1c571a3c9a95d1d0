-- Where an item doesn't touch the region, or isn't let through by the filter, no place below it is an answer.
use Rattle.std.proofs.Common.{◌≡◌, ℕ, zero, suc, ◌+◌, ◌*◌, ◌<◌, ◌≤◌, Bool, true, false, ◌||◌, List, Option, None, Some, refl, sym, ap, subst, ◌∙◌, arith, ⊎_elim}
use Rattle.std.specs.Prelude.{option_map}
use Rattle.std.proofs.lemmas.Bool.{and_parts, and_from, leb-true, le-leb, ltb-true, lt-ltb, true≢false, false≢true, cases_Bool}
use Rattle.std.proofs.lemmas.Int.{ints, clamps}
use Rattle.page_face.specs.FreeList.{PageMap}
use Rattle.spatial_base.specs.Point.{Position, IsOnMap, distance}
use Rattle.spatial_base.specs.Rect.{Holds, mindist_of}
use Rattle.spatial_base.specs.Laws.{mindist-below}
use Rattle.place_values.specs.declared.query.Expr.{Expr}
use Rattle.place_values.specs.declared.query.Expr.TheVariants.{Has, Not', And', Or'}
use Rattle.rtree_nodes.specs.Slots.{Item, NodeView, NodeMap, got, Held, Each}
use Rattle.rtree_nodes.specs.Trees.{below, IsItem, reach_of}
use Rattle.rtree_nodes.proofs.Heights.{tops-at, amount-nothing}
use Rattle.rtree_nodes.specs.Cells.{is_on_map}
use Rattle.rtree_nodes.specs.Reach.{place_item}
use Rattle.rtree_nodes.specs.Pages.{level_in, is_used, is_form, stored_in, node_of}
use Rattle.rtree_nodes.proofs.Formed.{form-parts, form-node, other-node, stored-used, stored-unused}
use Rattle.rtree_nodes.proofs.Children.{point_from, leaf-form, leaf-item}
use Rattle.rtree_nodes.proofs.Cells.{map-from, int-le, le-int}
use Rattle.node_rows.specs.Rows.{bytes_in}
use Rattle.irtree_shape.specs.Words.{joined_item}
use Rattle.irtree_shape.specs.Made.{nodes_in}
use Rattle.node_filter.specs.Entries.{point_of, rect_of_item}
use Rattle.node_filter.specs.Numbers.{Numbers, number_of, by_number, impact_of}
use Rattle.node_filter.specs.Filters.{meets as meets_words, may_meet, admits_by}
use Rattle.boolean_queries.specs.declared.region.Region.{Region}
use Rattle.boolean_queries.specs.declared.region.Region.TheVariants.{Within, Inside}
use Rattle.boolean_queries.specs.Regions.{meets, has_point, IsOnTheMap}

-- an item of a point on the map: it reaches to the east as far as its west, and to the north as far as its south
pub record IsPlace (x : Item) : Type 0 where
  pub on : IsOnMap (point_of x).x (point_of x).y
  pub across : x.reach 0 + x.reach 2 ≡ 4294967296
  pub along : x.reach 1 + x.reach 3 ≡ 4294967296

joined-place : (b : ℕ → ℕ → ℕ) (i : ℕ) (p : Position) (key : List ℕ) → IsOnMap p.x p.y → IsPlace (joined_item b i (place_item p key))
joined-place b i p key on = record {
  on = (omega (arith, ints, clamps), omega (arith, ints, clamps));
  across = omega (arith, ints, clamps);
  along = omega (arith, ints, clamps);
}

-- what stands in a slot of a leaf's page
stored-place : (page : List ℕ) (b : ℕ → ℕ → ℕ) (i : ℕ) → is_form page ≡ true → level_in page ≡ 0 → i < 32 → Held IsPlace (option_map (joined_item b i) (stored_in page i))
stored-place page b i form leaf l = ⊎_elim used unused (cases_Bool (is_used page i))
  where
    used : is_used page i ≡ true → Held IsPlace (option_map (joined_item b i) (stored_in page i))
    used u =
        let parts = form-parts page form in
        let test : is_on_map (point_from page (16 + 74 * i)).x (point_from page (16 + 74 * i)).y ≡ true = (and_parts _ _ (sym (leaf-form page i leaf) ∙ parts.values i l u)).0 in
        let on = map-from (point_from page (16 + 74 * i)).x (point_from page (16 + 74 * i)).y test in
        subst (λ (o : Option Item). Held IsPlace (option_map (joined_item b i) o)) (sym (stored-used page i l u ∙ ap Some (leaf-item page i leaf))) (joined-place b i (point_from page (16 + 74 * i)) _ on)

    unused : is_used page i ≡ false → Held IsPlace (option_map (joined_item b i) (stored_in page i))
    unused u = subst (λ (o : Option Item). Held IsPlace (option_map (joined_item b i) o)) (sym (stored-unused page i u)) tt

-- the entries of a leaf are places
pub leaf-places : (pages : PageMap) (rows page : ℕ) → (nodes_in node_of pages rows page).level ≡ 0 → Each IsPlace (nodes_in node_of pages rows page).slots
leaf-places pages rows page leaf i l = ⊎_elim formed other (cases_Bool (is_form (pages page)))
  where
    b : ℕ → ℕ → ℕ
    b = bytes_in pages rows page

    formed : is_form (pages page) ≡ true → Held IsPlace (option_map (joined_item (bytes_in pages rows page) i) ((node_of (pages page)).slots i))
    formed form =
        let is = form-node (pages page) form in
        let low : level_in (pages page) ≡ 0 = sym (ap (λ (v : NodeView). v.level) is) ∙ leaf in
        subst (λ (v : NodeView). Held IsPlace (option_map (joined_item (bytes_in pages rows page) i) (v.slots i))) (sym is) (stored-place (pages page) (bytes_in pages rows page) i form low l)

    other : is_form (pages page) ≡ false → Held IsPlace (option_map (joined_item (bytes_in pages rows page) i) ((node_of (pages page)).slots i))
    other form = subst (λ (v : NodeView). Held IsPlace (option_map (joined_item (bytes_in pages rows page) i) (v.slots i))) (sym (other-node (pages page) form)) tt

-- an item reaches nowhere farther than another one
abbrev pub IsUnder : Item → Item → Type 0
IsUnder x y = (d : ℕ) → x.reach d ≤ y.reach d

module _ (nodes : NodeMap) (f : Item → ℕ) (leaves : (page : ℕ) → (nodes page).level ≡ 0 → Each IsPlace (nodes page).slots) where
  held-under : (P : Item → Type 0) (level d : ℕ) (y z : Item) (i : ℕ) → i < 32 → IsItem nodes (suc level) y → (nodes y.to).slots i ≡ Some z → z.reach d ≤ y.reach d
  held-under P level d y z i l h e = let t = tops-at d (nodes y.to).slots i l in let g = ap (got (reach_of d)) e in let r = h.1 d in omega arith

  held-none : (g : Item → ℕ) (o : Option Item) → ((z : Item) → o ≡ Some z → g z ≡ 0) → got g o ≡ 0
  held-none g None h = refl
  held-none g (Some z) h = h z refl

  -- Where no place under an item counts, none below it does.
  pub below-nothing : (y : Item) → ((x : Item) → IsPlace x → IsUnder x y → f x ≡ 0) → (level : ℕ) (w : Item) → IsItem nodes (suc level) w → IsUnder w y → below nodes f (suc level) w ≡ 0
  below-nothing y none zero w h u = amount-nothing (λ z. below nodes f 0 z) (nodes w.to).slots (λ i l. held-none f ((nodes w.to).slots i) (λ z e.
      let places = leaves w.to h.0.level_is i l in
      none z (subst (Held IsPlace) e places) (λ d. let a = held-under IsPlace 0 d w z i l h e in let b = u d in omega arith)))
  below-nothing y none (suc level) w h u = amount-nothing (λ z. below nodes f (suc level) z) (nodes w.to).slots (λ i l. held-none (λ z. below nodes f (suc level) z) ((nodes w.to).slots i) (λ z e.
      let item : IsItem nodes (suc level) z = subst (Held (λ v. IsItem nodes (suc level) v)) e (h.0.items i l) in
      below-nothing y none level z item (λ d. let a = held-under IsPlace (suc level) d w z i l h e in let b = u d in omega arith)))

-- a place stands in the rectangle of an item that it is under
pub under-holds : (x y : Item) → IsPlace x → IsUnder x y → Holds (rect_of_item y) (point_of x)
under-holds x y place u =
    let w = u 0 in
    let s = u 1 in
    let e = u 2 in
    let n = u 3 in
    let across = place.across in
    let along = place.along in
    record { west = omega (arith, ints); east = omega (arith, ints); south = omega (arith, ints); north = omega (arith, ints) }

-- a region that has the point of a place meets the rectangle of each item that the place is under
region-meets : (region : Region) (x y : Item) → IsOnTheMap region → IsPlace x → IsUnder x y → has_point region (point_of x) ≡ true → meets region (rect_of_item y) ≡ true
region-meets (Within at radius) x y on place u has =
    let near = leb-true (distance at (point_of x)) radius has in
    let low = mindist-below (rect_of_item y) at (point_of x) on place.on (under-holds x y place u) in
    le-leb (mindist_of (rect_of_item y) at) radius (omega arith)
region-meets (Inside asked) x y on place u has =
    let r = rect_of_item y in
    let p = point_of x in
    let h = under-holds x y place u in
    let both = and_parts _ _ has in
    let lon = and_parts _ _ both.0 in
    let lat = and_parts _ _ both.1 in
    let west = int-le asked.west p.x lon.0 in
    let east = int-le p.x asked.east lon.1 in
    let south = int-le asked.south p.y lat.0 in
    let north = int-le p.y asked.north lat.1 in
    let hw = h.west in
    let he = h.east in
    let hs = h.south in
    let hn = h.north in
    and_from _ _ (and_from _ _ (le-int asked.west r.east (omega (arith, ints))) (le-int r.west asked.east (omega (arith, ints))))
    (and_from _ _ (le-int asked.south r.north (omega (arith, ints))) (le-int r.south asked.north (omega (arith, ints))))

-- so a region that doesn't meet it has none of these places
pub region-without : (region : Region) (x y : Item) → IsOnTheMap region → IsPlace x → IsUnder x y → meets region (rect_of_item y) ≡ false → has_point region (point_of x) ≡ false
region-without region x y on place u out = ⊎_elim
    (λ (t : has_point region (point_of x) ≡ true). absurd (true≢false (sym (region-meets region x y on place u t) ∙ out)))
    (λ (f : has_point region (point_of x) ≡ false). f)
    (cases_Bool (has_point region (point_of x)))

number-under : (x y : Item) (n : Option ℕ) → IsUnder x y → by_number (λ k. x.reach (4 + k)) n ≤ by_number (λ k. y.reach (4 + k)) n
number-under x y None u = omega arith
number-under x y (Some n) u = u (4 + n)

-- words that a place holds stand at each item that it is under
filter-lets : (ids : Numbers) (x y : Item) (filter : Expr) → IsUnder x y → meets_words (impact_of ids x) filter ≡ true → may_meet (impact_of ids y) filter ≡ true
filter-lets ids x y (Has word) u h =
    let some = ltb-true 0 (impact_of ids x word) h in
    let most = number-under x y (number_of ids word) u in
    lt-ltb 0 (impact_of ids y word) (omega arith)
filter-lets ids x y (Not' a one) u h = refl
filter-lets ids x y (And' a one b other) u h = let k = and_parts _ _ h in and_from _ _ (filter-lets ids x y one u k.0) (filter-lets ids x y other u k.1)
filter-lets ids x y (Or' a one b other) u h = either _ _ _ _ (filter-lets ids x y one u) (filter-lets ids x y other u) h
  where
    either : (p q r s : Bool) → (p ≡ true → r ≡ true) → (q ≡ true → s ≡ true) → (p || q) ≡ true → (r || s) ≡ true
    either true q r s f g e = rw (f refl) refl
    either false true r true f g e = or-true r
      where
        or-true : (r : Bool) → (r || true) ≡ true
        or-true true = refl
        or-true false = refl
    either false true r false f g e = absurd (false≢true (g refl))
    either false false r s f g e = absurd (false≢true e)

-- so below one that isn't let through no place passes the filter
pub filter-without : (ids : Numbers) (filter : Option Expr) (level : ℕ) (x y : Item) → IsUnder x y → admits_by (suc level) (impact_of ids y) filter ≡ false → admits_by 0 (impact_of ids x) filter ≡ false
filter-without ids None level x y u out = absurd (true≢false out)
filter-without ids (Some filter) level x y u out = ⊎_elim
    (λ (t : meets_words (impact_of ids x) filter ≡ true). absurd (true≢false (sym (filter-lets ids x y filter u t) ∙ out)))
    (λ (f : meets_words (impact_of ids x) filter ≡ false). f)
    (cases_Bool (meets_words (impact_of ids x) filter))
