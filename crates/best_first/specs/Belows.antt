-- The places below an item, each of which reaches no further than it.
use Rattle.std.proofs.Common.{◌≡◌, ℕ, zero, suc, ◌+◌, ◌<◌, ◌≤◌, Bool, true, false, if◌then◌else◌, List, [], ◌∷◌, Option, Some, None, sum_by, refl, sym, ap, ◌∙◌, arith, ⊎_elim}
use Rattle.std.specs.List.{AllByRecursion, flat_map}
use Rattle.std.proofs.lemmas.Bool.{cases_Bool}
use Rattle.std.proofs.lemmas.Int.{ints}
use Rattle.std.proofs.lemmas.List.Sums.{sum_by-append, sum_by-cons}
use Rattle.spatial_base.specs.Point.{IsOnMap, distance, Viewpoint, IsViewpoint}
use Rattle.spatial_base.specs.Rect.{Holds, mindist_of}
use Rattle.spatial_base.specs.Laws.{mindist-below}
use Rattle.place_values.specs.declared.hit.Hit.{Hit}
use Rattle.rtree_nodes.specs.Slots.{NodeMap, sum_to, got, amount, Held, Each}
use Rattle.rtree_nodes.specs.Slots as shape
use Rattle.rtree_nodes.specs.Trees.{below as below_item, IsItem, IsNode, node_below, reach_of}
use Rattle.rtree_nodes.proofs.Heights.{tops-at, amount-nothing}
use Rattle.rtree_nodes.proofs.Sums.{sum-same}
use Rattle.best_first.specs.declared.item.Item.{Item}
use Rattle.best_first.specs.declared.item.Item.TheVariants.{Node, Place}
use Rattle.best_first.specs.Leads.{led, below, at_node, IsBound, AreBounds}
use Rattle.best_first.specs.Lists.{all_append, flat_all}
use Rattle.node_filter.specs.Numbers.{Numbers, impact_of}
use Rattle.node_filter.specs.Entries.{point_of, rect_of_item}
use Rattle.best_first.specs.declared.ask.Ask.{Ask}
use Rattle.best_first.specs.Asks.{qualifies, hit_by, hits_for, bound_by}
use Rattle.best_first.specs.NodeOpenings.{given_by, given_at, spread, opened_in}
use Rattle.best_first.specs.Weighed.{qualifies-none, cost-under, impact-under}

-- a place's item: it stands on the map, and goes to its point alone
pub record IsPlaceItem (x : shape.Item) : Type 0 where
  pub on : IsOnMap (point_of x).x (point_of x).y
  pub east : x.reach 0 + x.reach 2 ≡ 4294967296
  pub north : x.reach 1 + x.reach 3 ≡ 4294967296

-- the one reaches no further than the other
abbrev pub IsWithin : shape.Item → shape.Item → Type 0
IsWithin y x = (d : ℕ) → y.reach d ≤ x.reach d

-- the rectangle of an item holds each place that reaches no further
within-holds : (y x : shape.Item) → IsPlaceItem y → IsWithin y x → Holds (rect_of_item x) (point_of y)
within-holds y x p w =
    let a = w 0 in
    let b = w 1 in
    let c = w 2 in
    let d = w 3 in
    let e = p.east in
    let n = p.north in
    record {
      west = omega (arith, ints);
      east = omega (arith, ints);
      south = omega (arith, ints);
      north = omega (arith, ints);
    }

-- it is no nearer than MINDIST
within-far : (at : Viewpoint) (y x : shape.Item) → IsViewpoint at → IsPlaceItem y → IsWithin y x → mindist_of (rect_of_item x) at ≤ distance at (point_of y)
within-far at y x on p w = mindist-below (rect_of_item x) at (point_of y) on p.on (within-holds y x p w)

got-reach : (d : ℕ) (o : Option shape.Item) (z : shape.Item) → o ≡ Some z → got (reach_of d) o ≡ z.reach d
got-reach d o z e = ap (got (reach_of d)) e

-- what stands in a slot of a child's node reaches no further than the child
pub slot-within : (nodes : NodeMap) (level i : ℕ) (x z : shape.Item) → i < 32 → IsItem nodes (suc level) x → (nodes x.to).slots i ≡ Some z → IsWithin z x
slot-within nodes level i x z l item e d =
    let a = tops-at d (nodes x.to).slots i l in
    let b = got-reach d ((nodes x.to).slots i) z e in
    let c = item.1 d in
    omega arith

module _ (nodes : NodeMap) (H : shape.Item → ℕ) (x : shape.Item) (none : (y : shape.Item) → IsWithin y x → H y ≡ 0) where
  held-none : (level : ℕ) → ((z : shape.Item) → IsItem nodes level z → IsWithin z x → below_item nodes H level z ≡ 0) → (o : Option shape.Item) → Held (λ z. IsItem nodes level z) o → ((z : shape.Item) → o ≡ Some z → IsWithin z x) → got (λ z. below_item nodes H level z) o ≡ 0
  held-none level each None h w = refl
  held-none level each (Some z) h w = each z h (w z refl)

  -- where no place that reaches no further counts, none below does
  pub below-none : (level : ℕ) (y : shape.Item) → IsItem nodes level y → IsWithin y x → below_item nodes H level y ≡ 0
  below-none zero y item w = none y w
  below-none (suc level) y item w =
      amount-nothing (λ z. below_item nodes H level z) (nodes y.to).slots
      (λ i l. held-none level (below-none level) ((nodes y.to).slots i) (item.0.items i l) (λ z e d. let a = slot-within nodes level i y z l item e d in let b = w d in omega arith))

-- the weight of what the first n slots give
spread-weight : (W : Item → ℕ) (n : ℕ) (f : ℕ → List Item) → sum_by W (spread n f) ≡ sum_to n (λ i. sum_by W (f i))
unfolding spread sum_to
spread-weight W zero f = refl
spread-weight W (suc n) f = let a = sum_by-append W (spread n f) (f n) in let b = spread-weight W n f in omega arith

weigh-flat : (w : Hit → ℕ) (g : Item → List Hit) (items : List Item) → sum_by w (flat_map g items) ≡ sum_by (λ i. sum_by w (g i)) items
weigh-flat w g [] = refl
weigh-flat w g (i ∷ items) = let a = sum_by-append w (g i) (flat_map g items) in let b = sum_by-cons (λ j. sum_by w (g j)) i items in let c = weigh-flat w g items in omega arith

-- P of each item that the first n slots give
pub all-spread : (P : Item → Type 0) (n : ℕ) (f : ℕ → List Item) → ((i : ℕ) → i < n → AllByRecursion P (f i)) → AllByRecursion P (spread n f)
unfolding spread
all-spread P zero f h = tt
all-spread P (suc n) f h = all_append P (spread n f) (f n) (all-spread P n f (λ i l. h i (omega arith))) (h n (omega arith))

module _ (ids : Numbers) (at : Viewpoint) (ask : Ask) (on : IsViewpoint at) (nodes : NodeMap) where
  abbrev opens : ℕ → ℕ → List Item
  opens = opened_in ids at ask nodes

  abbrev hits_weight : (Hit → ℕ) → shape.Item → ℕ
  hits_weight w y = sum_by w (hits_for ids at ask y)

  -- the weight that a place's item gives
  leaf-weight : (w : Hit → ℕ) (o : Option shape.Item) → sum_by (λ (i : Item). sum_by w (led (λ p. []) i)) (given_at (λ y. given_by at ask 0 (impact_of ids y) y) o) ≡ got (hits_weight w) o
  leaf-weight w None = refl
  leaf-weight w (Some y) = leaf-one w (qualifies ask 0 (impact_of ids y)) (hit_by at ask (impact_of ids y) y)
    where
      leaf-one : (w : Hit → ℕ) (b : Bool) (h : Hit) → sum_by (λ (i : Item). sum_by w (led (λ p. []) i)) (if b then Place h ∷ [] else []) ≡ sum_by w (if b then h ∷ [] else [])
      leaf-one w true h = let a = sum_by-cons (λ (i : Item). sum_by w (led (λ p. []) i)) (Place h) [] in let b = sum_by-cons w h [] in omega arith
      leaf-one w false h = refl

  -- a slot's item gives what weighs as much as the places below it
  inner-weight : (w : Hit → ℕ) (l : ℕ) → ((page : ℕ) → Each (λ y. IsItem nodes l y) (nodes page).slots → sum_by w (below opens l page) ≡ node_below nodes (hits_weight w) l page)
      → (o : Option shape.Item) → Held (λ y. IsItem nodes (suc l) y) o
      → sum_by (λ (i : Item). sum_by w (led (λ p. below opens l p) i)) (given_at (λ y. given_by at ask (suc l) (impact_of ids y) y) o) ≡ got (λ y. below_item nodes (hits_weight w) (suc l) y) o
  inner-weight w l each None h = refl
  inner-weight w l each (Some y) h = ⊎_elim
      (λ (t : qualifies ask (suc l) (impact_of ids y) ≡ true).
      let node : Item = Node y.to l (bound_by at ask (impact_of ids y) y) in
      let a = sum_by-cons (λ (i : Item). sum_by w (led (λ p. below opens l p) i)) node [] in
      let b : sum_by (λ (i : Item). sum_by w (led (λ p. below opens l p) i)) (given_by at ask (suc l) (impact_of ids y) y) ≡ sum_by (λ (i : Item). sum_by w (led (λ p. below opens l p) i)) (node ∷ []) =
      ap (λ (q : Bool). sum_by (λ (i : Item). sum_by w (led (λ p. below opens l p) i)) (if q then node ∷ [] else [])) t in
      let c : sum_by w (below opens l y.to) ≡ node_below nodes (hits_weight w) l y.to = each y.to h.0.items in
      omega arith)
      (λ (f : qualifies ask (suc l) (impact_of ids y) ≡ false).
      let node : Item = Node y.to l (bound_by at ask (impact_of ids y) y) in
      let b : sum_by (λ (i : Item). sum_by w (led (λ p. below opens l p) i)) (given_by at ask (suc l) (impact_of ids y) y) ≡ 0 =
      ap (λ (q : Bool). sum_by (λ (i : Item). sum_by w (led (λ p. below opens l p) i)) (if q then node ∷ [] else [])) f in
      let c = below-none nodes (hits_weight w) y (λ z r. ap (λ (q : Bool). sum_by w (if q then hit_by at ask (impact_of ids z) z ∷ [] else [])) (qualifies-none ask l (impact_of ids z) (impact_of ids y) (impact-under ids y z r) f)) (suc l) y h (λ d. omega arith) in
      b ∙ sym c)
      (cases_Bool (qualifies ask (suc l) (impact_of ids y)))

  -- a node leads to what weighs as much as the places below it
  pub node-weight : (w : Hit → ℕ) (level page : ℕ) → Each (λ y. IsItem nodes level y) (nodes page).slots → sum_by w (below opens level page) ≡ node_below nodes (hits_weight w) level page
  unfolding amount
  node-weight w zero page h =
      weigh-flat w (led (λ p. [])) (opens page 0)
      ∙ spread-weight (λ (i : Item). sum_by w (led (λ p. []) i)) 32 (λ i. given_at (λ y. given_by at ask 0 (impact_of ids y) y) ((nodes page).slots i))
      ∙ sum-same 32 _ (λ i. got (hits_weight w) ((nodes page).slots i)) (λ i l. leaf-weight w ((nodes page).slots i))
  node-weight w (suc l) page h =
      weigh-flat w (led (λ p. below opens l p)) (opens page (suc l))
      ∙ spread-weight (λ (i : Item). sum_by w (led (λ p. below opens l p) i)) 32 (λ i. given_at (λ y. given_by at ask (suc l) (impact_of ids y) y) ((nodes page).slots i))
      ∙ sum-same 32 _ (λ i. got (λ y. below_item nodes (hits_weight w) (suc l) y) ((nodes page).slots i)) (λ i k. inner-weight w l (node-weight w l) ((nodes page).slots i) (h i k))

  -- what a leaf's item gives costs no less than the bound of an item that it is below
  leaf-bound : (x : shape.Item) (o : Option shape.Item) → Held IsPlaceItem o → ((z : shape.Item) → o ≡ Some z → IsWithin z x)
      → AllByRecursion (λ (i : Item). AllByRecursion (λ (h : Hit). bound_by at ask (impact_of ids x) x ≤ h.cost) (led (λ p. []) i)) (given_at (λ y. given_by at ask 0 (impact_of ids y) y) o)
  leaf-bound x None p w = tt
  leaf-bound x (Some z) p w =
      let r : IsWithin z x = w z refl in
      let b : bound_by at ask (impact_of ids x) x ≤ (hit_by at ask (impact_of ids z) z).cost =
      cost-under ask (impact_of ids z) (impact_of ids x) (mindist_of (rect_of_item x) at) (distance at (point_of z)) (impact-under ids x z r) (within-far at z x on p r) in
      chosen-all (qualifies ask 0 (impact_of ids z)) (hit_by at ask (impact_of ids z) z) (bound_by at ask (impact_of ids x) x) b
    where
      chosen-all : (q : Bool) (h : Hit) (bound : ℕ) → bound ≤ h.cost → AllByRecursion (λ (i : Item). AllByRecursion (λ (h : Hit). bound ≤ h.cost) (led (λ p. []) i)) (if q then Place h ∷ [] else [])
      chosen-all true h bound l = ((l, tt), tt)
      chosen-all false h bound l = tt

  one-node : (P : Item → Type 0) (q : Bool) (i : Item) → P i → AllByRecursion P (if q then i ∷ [] else [])
  one-node P true i h = (h, tt)
  one-node P false i h = tt

  module _ (leaves : (page i : ℕ) → (nodes page).level ≡ 0 → i < 32 → Held IsPlaceItem ((nodes page).slots i)) where
    inner-bound : (x : shape.Item) (l : ℕ) → ((page : ℕ) → IsNode (λ y. IsItem nodes l y) 12 l (nodes page) → ((i : ℕ) (z : shape.Item) → i < 32 → (nodes page).slots i ≡ Some z → IsWithin z x)
        → AllByRecursion (λ (h : Hit). bound_by at ask (impact_of ids x) x ≤ h.cost) (below opens l page))
        → (o : Option shape.Item) → Held (λ y. IsItem nodes (suc l) y) o → ((z : shape.Item) → o ≡ Some z → IsWithin z x)
        → AllByRecursion (λ (i : Item). AllByRecursion (λ (h : Hit). bound_by at ask (impact_of ids x) x ≤ h.cost) (led (λ p. below opens l p) i)) (given_at (λ y. given_by at ask (suc l) (impact_of ids y) y) o)
    inner-bound x l each None h w = tt
    inner-bound x l each (Some y) h w =
        one-node (λ (i : Item). AllByRecursion (λ (h : Hit). bound_by at ask (impact_of ids x) x ≤ h.cost) (led (λ p. below opens l p) i)) (qualifies ask (suc l) (impact_of ids y)) (Node y.to l (bound_by at ask (impact_of ids y) y))
        (each y.to h.0 (λ i z k e d. let a = slot-within nodes l i y z k h e d in let b = w y refl d in omega arith))

    -- no place below a node costs less than the bound of an item that the node's slots don't reach beyond
    pub node-bound : (x : shape.Item) (level page least : ℕ) → IsNode (λ y. IsItem nodes level y) least level (nodes page) → ((i : ℕ) (z : shape.Item) → i < 32 → (nodes page).slots i ≡ Some z → IsWithin z x)
        → AllByRecursion (λ (h : Hit). bound_by at ask (impact_of ids x) x ≤ h.cost) (below opens level page)
    node-bound x zero page least n w =
        flat_all (λ (h : Hit). bound_by at ask (impact_of ids x) x ≤ h.cost) (led (λ p. [])) (opens page 0)
        (all-spread (λ (i : Item). AllByRecursion (λ (h : Hit). bound_by at ask (impact_of ids x) x ≤ h.cost) (led (λ p. []) i)) 32 (λ i. given_at (λ y. given_by at ask 0 (impact_of ids y) y) ((nodes page).slots i))
        (λ i l. leaf-bound x ((nodes page).slots i) (leaves page i n.level_is l) (λ z e. w i z l e)))
    node-bound x (suc l) page least n w =
        flat_all (λ (h : Hit). bound_by at ask (impact_of ids x) x ≤ h.cost) (led (λ p. below opens l p)) (opens page (suc l))
        (all-spread (λ (i : Item). AllByRecursion (λ (h : Hit). bound_by at ask (impact_of ids x) x ≤ h.cost) (led (λ p. below opens l p) i)) 32 (λ i. given_at (λ y. given_by at ask (suc l) (impact_of ids y) y) ((nodes page).slots i))
        (λ i k. inner-bound x l (λ p m v. node-bound x l p 12 m v) ((nodes page).slots i) (n.items i k) (λ z e. w i z k e)))

    inner-bounds : (l : ℕ) → ((page least : ℕ) → IsNode (λ y. IsItem nodes l y) least l (nodes page) → AreBounds opens l page) → (o : Option shape.Item) → Held (λ y. IsItem nodes (suc l) y) o
        → AllByRecursion (λ (i : Item). IsBound opens i × at_node (λ p. AreBounds opens l p) i) (given_at (λ y. given_by at ask (suc l) (impact_of ids y) y) o)
    inner-bounds l each None h = tt
    inner-bounds l each (Some y) h =
        one-node (λ (i : Item). IsBound opens i × at_node (λ p. AreBounds opens l p) i) (qualifies ask (suc l) (impact_of ids y)) (Node y.to l (bound_by at ask (impact_of ids y) y))
        (node-bound y l y.to 12 h.0 (λ i z k e. slot-within nodes l i y z k h e), each y.to 12 h.0)

    -- the bounds below a node hold
    pub node-bounds : (level page least : ℕ) → IsNode (λ y. IsItem nodes level y) least level (nodes page) → AreBounds opens level page
    node-bounds zero page least n = tt
    node-bounds (suc l) page least n =
        all-spread (λ (i : Item). IsBound opens i × at_node (λ p. AreBounds opens l p) i) 32 (λ i. given_at (λ y. given_by at ask (suc l) (impact_of ids y) y) ((nodes page).slots i))
        (λ i k. inner-bounds l (λ p m v. node-bounds l p m v) ((nodes page).slots i) (n.items i k))
