-- The items of pages, joined with the bytes of their rows.
use Rattle.std.proofs.Common.{◌≡◌, ℕ, ℤ, zero, suc, ◌+◌, ◌<◌, ◌≤◌, true, false, List, Option, Some, None, refl, sym, ap, ◌∙◌, subst, arith, ⊎_elim}
use Rattle.std.specs.Prelude.{option_map, unsigned_abs}
use Rattle.std.proofs.lemmas.Bool.{cases_Bool}
use Rattle.std.proofs.lemmas.Int.{ints, clamps}
use Rattle.spatial_base.specs.Point.{Position, IsOnMap, Viewpoint}
use Rattle.rtree_nodes.specs.Slots.{NodeView, Held, got, one, filled}
use Rattle.rtree_nodes.specs.Slots as shape
use Rattle.rtree_nodes.proofs.Amounts.{amount-same}
use Rattle.rtree_nodes.specs.Reach.{place_item, below_top, above_bottom}
use Rattle.rtree_nodes.specs.Numbers.{int_at}
use Rattle.rtree_nodes.specs.Cells.{item_in, has_form, point_of as cell_point, key_of as cell_key, is_on_map, is_key_form}
use Rattle.rtree_nodes.specs.Pages.{level_in, is_used, is_form, cell_at, stored_in, node_of}
use Rattle.rtree_nodes.proofs.Cells.{map-from}
use Rattle.rtree_nodes.proofs.Formed.{form-parts, form-node, other-node, values-at, values-from, stored-used, stored-unused}
use Rattle.irtree_shape.specs.Words.{joined_item, words_on}
use Rattle.best_first.specs.declared.item.Item.{Item}
use Rattle.node_filter.specs.Numbers.{Numbers, impact_of, byte_of}
use Rattle.node_filter.proofs.Agreements.{point-back, joined-impact}
use Rattle.best_first.specs.declared.ask.Ask.{Ask}
use Rattle.best_first.specs.NodeOpenings.{given_by, given_at, spread}
use Rattle.best_first.specs.Belows.{IsPlaceItem}
use Rattle.node_rows.proofs.Counts.{and-left}

sides : (z : ℤ) → unsigned_abs z ≤ 1800000000 → below_top z + above_bottom z ≡ 4294967296
sides z l = omega (arith, ints, clamps)

-- the item of a place on the map
place-item : (b : ℕ → ℕ → ℕ) (i : ℕ) (p : Position) (key : List ℕ) → IsOnMap p.x p.y → IsPlaceItem (joined_item b i (place_item p key))
place-item b i p key on =
    let north : unsigned_abs p.y ≤ 1800000000 = let k = on.1 in omega arith in
    record {
      on = subst (λ (q : Position). IsOnMap q.x q.y) (sym (point-back (λ w. b w i) p key on)) on;
      east = sides p.x on.0;
      north = sides p.y north;
    }

cell-item : (b : ℕ → ℕ → ℕ) (i level : ℕ) (cell : List ℕ) → level ≡ 0 → has_form level cell ≡ true → IsPlaceItem (joined_item b i (item_in level cell))
cell-item b i zero cell e h = place-item b i (cell_point cell) (cell_key cell) (map-from (int_at 0 cell) (int_at 4 cell) (and-left (is_on_map (int_at 0 cell) (int_at 4 cell)) (is_key_form (cell_key cell)) h))
cell-item b i (suc level) cell e h = absurd (omega arith)

-- what stands in a leaf's slots are places
pub leaf-held : (page : List ℕ) (b : ℕ → ℕ → ℕ) (i : ℕ) → (node_of page).level ≡ 0 → i < 32 → Held IsPlaceItem (words_on b (node_of page).slots i)
leaf-held page b i level l = ⊎_elim
    (λ (t : is_form page ≡ true).
    let parts = form-parts page t in
    let leaf : level_in page ≡ 0 = sym (ap (λ (v : NodeView). v.level) (form-node page t)) ∙ level in
    let slot : words_on b (node_of page).slots i ≡ option_map (joined_item b i) (stored_in page i) = ap (λ (v : NodeView). option_map (joined_item b i) (v.slots i)) (form-node page t) in
    ⊎_elim
    (λ (u : is_used page i ≡ true).
    subst (Held IsPlaceItem) (sym (slot ∙ ap (option_map (joined_item b i)) (stored-used page i l u)))
    (cell-item b i (level_in page) (cell_at page i) leaf (values-at page (values-from page parts.values) i l u)))
    (λ (u : is_used page i ≡ false). subst (Held IsPlaceItem) (sym (slot ∙ ap (option_map (joined_item b i)) (stored-unused page i u))) tt)
    (cases_Bool (is_used page i)))
    (λ (f : is_form page ≡ false). subst (Held IsPlaceItem) (sym (ap (λ (v : NodeView). option_map (joined_item b i) (v.slots i)) (other-node page f))) tt)
    (cases_Bool (is_form page))

or_item : shape.Item → Option shape.Item → shape.Item
or_item d None = d
or_item d (Some x) = x

-- the impacts of what stands in a slot are its bytes
pub slot-impacts : (ids : Numbers) (b : ℕ → ℕ → ℕ) (i : ℕ) (o : Option shape.Item) (z : shape.Item) → option_map (joined_item b i) o ≡ Some z → impact_of ids z ≡ byte_of ids b i
unfolding or_item
slot-impacts ids b i None z e = absurd (cc)
slot-impacts ids b i (Some x) z e = ap (λ y. impact_of ids y) (sym (ap (or_item x) e)) ∙ (λ k word. joined-impact ids b i x word k)

given-plain : (at : Viewpoint) (ask : Ask) (level : ℕ) (f : List ℕ → ℕ) (b : ℕ → ℕ → ℕ) (i : ℕ) (x : shape.Item) → given_by at ask level f x ≡ given_by at ask level f (joined_item b i x)
given-plain at ask zero f b i x = refl
given-plain at ask (suc level) f b i x = refl

given-joined : (ids : Numbers) (at : Viewpoint) (ask : Ask) (level : ℕ) (b : ℕ → ℕ → ℕ) (i : ℕ) (o : Option shape.Item)
    → given_at (given_by at ask level (byte_of ids b i)) o ≡ given_at (λ x. given_by at ask level (impact_of ids x) x) (option_map (joined_item b i) o)
given-joined ids at ask level b i None = refl
given-joined ids at ask level b i (Some x) =
    given-plain at ask level (byte_of ids b i) b i x
    ∙ ap (λ (f : List ℕ → ℕ). given_by at ask level f (joined_item b i x)) (λ k word. sym (joined-impact ids b i x word) k)

-- what a node's page gives by its rows is what its items give
pub page-given : (ids : Numbers) (at : Viewpoint) (ask : Ask) (level : ℕ) (page : List ℕ) (b : ℕ → ℕ → ℕ) → is_form page ≡ true
    → spread 32 (λ i. given_at (given_by at ask level (byte_of ids b i)) (stored_in page i)) ≡ spread 32 (λ i. given_at (λ x. given_by at ask level (impact_of ids x) x) (words_on b (node_of page).slots i))
page-given ids at ask level page b t =
    ap (λ (f : ℕ → List Item). spread 32 f)
    (λ k i. (given-joined ids at ask level b i (stored_in page i)
    ∙ ap (λ (v : NodeView). given_at (λ x. given_by at ask level (impact_of ids x) x) (option_map (joined_item b i) (v.slots i))) (sym (form-node page t))) k)

got-joined : (b : ℕ → ℕ → ℕ) (i : ℕ) (o : Option shape.Item) → got one (option_map (joined_item b i) o) ≡ got one o
got-joined b i None = refl
got-joined b i (Some x) = refl

-- as many slots are used
pub filled-joined : (b : ℕ → ℕ → ℕ) (s : shape.Slots) → filled (words_on b s) ≡ filled s
filled-joined b s = amount-same one one (words_on b s) s (λ i l. got-joined b i (s i))
