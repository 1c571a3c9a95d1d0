-- What a slot's place or child gives, by what stands in the slot.
use Rattle.std.proofs.Common.{◌≡◌, ℕ, zero, suc, ◌+◌, ◌*◌, ◌-◌, ◌<◌, ◌==◌, ◌&&◌, ◌||◌, nat_lt, Bool, true, false, Option, None, Some, is_some, ⊎_elim, List, [], ◌∷◌, take, drop, refl, sym, ap, subst, ◌∙◌, arith}
use Rattle.std.specs.Prelude.{if◌then◌else◌}
use Rattle.std.proofs.lemmas.Bool.{eqb-true, eqb-false, lt-ltb, le-ltb}
use Rattle.std.proofs.lemmas.Bool.Decides.{nat_tests}
use Rattle.rtree_nodes.specs.Slots.{Item}
use Rattle.rtree_nodes.proofs.Amounts.{same_or}
use Rattle.spatial_base.specs.Key.{Name, IsName, form_of}
use Rattle.spatial_base.specs.Point.{Position, IsOnMap}
use Rattle.spatial_base.specs.Rect.{Bounds, IsRect}
use Rattle.place_values.specs.declared.hit.Hit.{Hit}
use Rattle.rtree_nodes.specs.Reach.{place_item, child_item, item_of, is_place}
use Rattle.rtree_nodes.specs.declared.content.Slot.{Slot}
use Rattle.rtree_nodes.specs.declared.content.Slot.TheVariants as slots
use Rattle.rtree_nodes.specs.Pages.{level_in, is_used, stored_in}
use Rattle.rtree_nodes.proofs.Keys.{named}
use Rattle.rtree_nodes.proofs.Formed.{stored-used}
use Rattle.rtree_nodes.specs.Numbers.{number_at}
use Rattle.rtree_nodes.proofs.Children.{leaf-item, inner-item, point_from, rect_from}
use Rattle.best_first.specs.declared.item.Item as best
use Rattle.best_first.specs.declared.item.Item.TheVariants.{Node, Place}
use Rattle.node_filter.specs.Masks.{has_slot}
use Rattle.node_filter.proofs.Marking.{slot-none}
use Rattle.node_filter.specs.Entries.{point_of, rect_of_item, name_of}
use Rattle.best_first.proofs.Sides.{place-point, child-rect}
use Rattle.boolean_queries.specs.declared.region.Region.{Region}
use Rattle.boolean_queries.specs.Regions.{meets, has_point, hit_in}
use Rattle.boolean_queries.specs.Near.{near_item, is_near, alone_in, listed, touches, given}

-- a place that the region hasn't
pub place-out : (region : Region) (p : Position) (key : List ℕ) → IsOnMap p.x p.y → has_point region p ≡ false → near_item region 0 (place_item p key) ≡ []
place-out region p key on out =
    let e : has_point region (point_of (place_item p key)) ≡ false = ap (has_point region) (place-point p key on) ∙ out in
    rw e refl

-- a place that it has
pub place-in : (region : Region) (p : Position) (key : Name) → IsOnMap p.x p.y → IsName key → has_point region p ≡ true → near_item region 0 (place_item p (form_of key)) ≡ Place (hit_in region p key) ∷ []
place-in region p key on name within =
    let at = place-point p (form_of key) on in
    let e : has_point region (point_of (place_item p (form_of key))) ≡ true = ap (has_point region) at ∙ within in
    rw e (ap (λ (q : Position). Place (hit_in region q (name_of (place_item p (form_of key)))) ∷ []) at ∙ ap (λ (n : Name). Place (hit_in region p n) ∷ []) (named key name))

-- a child whose rectangle doesn't meet the region, and one whose does
pub child-out : (region : Region) (r : Bounds) (page level : ℕ) → IsRect r.west r.south r.east r.north → meets region r ≡ false → near_item region (suc level) (child_item r page) ≡ []
child-out region r page level on out =
    let e : meets region (rect_of_item (child_item r page)) ≡ false = ap (meets region) (child-rect r page on) ∙ out in
    rw e refl

pub child-in : (region : Region) (r : Bounds) (page level : ℕ) → IsRect r.west r.south r.east r.north → meets region r ≡ true → near_item region (suc level) (child_item r page) ≡ Node page level 0 ∷ []
child-in region r page level on within =
    let e : meets region (rect_of_item (child_item r page)) ≡ true = ap (meets region) (child-rect r page on) ∙ within in
    rw e refl

leaf-level : (slot : Slot) (p : Position) (key : Name) (level : ℕ) → slot ≡ slots.Place p key → is_place slot ≡ (level == 0) → level ≡ 0
leaf-level slot p key level is kind = eqb-true level 0 (sym kind ∙ ap is_place is)

inner-level : (slot : Slot) (r : Bounds) (page level : ℕ) → slot ≡ slots.Child r page → is_place slot ≡ (level == 0) → level ≡ suc (level - 1)
inner-level slot r page level is kind = let n = eqb-false level 0 (sym kind ∙ ap is_place is) in above level n
  where
    above : (level : ℕ) → (level ≡ 0 → ⊥) → level ≡ suc (level - 1)
    above zero n = absurd (n refl)
    above (suc l) n = omega arith

-- the same of what stands in a slot
pub slot-place-in : (region : Region) (slot : Slot) (p : Position) (key : Name) (level : ℕ) (hit : Hit) → slot ≡ slots.Place p key → is_place slot ≡ (level == 0) → IsOnMap p.x p.y → IsName key → has_point region p ≡ true → hit ≡ hit_in region p key
    → Place hit ∷ [] ≡ near_item region level (item_of slot)
slot-place-in region slot p key level hit is kind on name within e =
    ap (λ (h : Hit). Place h ∷ []) e
    ∙ sym (place-in region p key on name within)
    ∙ ap (λ (l : ℕ). near_item region l (place_item p (form_of key))) (sym (leaf-level slot p key level is kind))
    ∙ ap (λ (s : Slot). near_item region level (item_of s)) (sym is)

pub slot-place-out : (region : Region) (slot : Slot) (p : Position) (key : Name) (level : ℕ) → slot ≡ slots.Place p key → is_place slot ≡ (level == 0) → IsOnMap p.x p.y → has_point region p ≡ false → [] ≡ near_item region level (item_of slot)
slot-place-out region slot p key level is kind on out =
    sym (place-out region p (form_of key) on out)
    ∙ ap (λ (l : ℕ). near_item region l (place_item p (form_of key))) (sym (leaf-level slot p key level is kind))
    ∙ ap (λ (s : Slot). near_item region level (item_of s)) (sym is)

pub slot-child-in : (region : Region) (slot : Slot) (r : Bounds) (page level : ℕ) → slot ≡ slots.Child r page → is_place slot ≡ (level == 0) → IsRect r.west r.south r.east r.north → meets region r ≡ true → Node page (level - 1) 0 ∷ [] ≡ near_item region level (item_of slot)
slot-child-in region slot r page level is kind on within =
    sym (child-in region r page (level - 1) on within)
    ∙ ap (λ (l : ℕ). near_item region l (child_item r page)) (sym (inner-level slot r page level is kind))
    ∙ ap (λ (s : Slot). near_item region level (item_of s)) (sym is)

pub slot-child-out : (region : Region) (slot : Slot) (r : Bounds) (page level : ℕ) → slot ≡ slots.Child r page → is_place slot ≡ (level == 0) → IsRect r.west r.south r.east r.north → meets region r ≡ false → [] ≡ near_item region level (item_of slot)
slot-child-out region slot r page level is kind on out =
    sym (child-out region r page (level - 1) on out)
    ∙ ap (λ (l : ℕ). near_item region l (child_item r page)) (sym (inner-level slot r page level is kind))
    ∙ ap (λ (s : Slot). near_item region level (item_of s)) (sym is)

-- a used slot of a leaf whose point the region hasn't
pub slot-far : (region : Region) (page : List ℕ) (at : ℕ) (p : Position) → p ≡ point_from page (16 + 74 * at) → IsOnMap p.x p.y → has_point region p ≡ false → at < 32 → is_used page at ≡ true → level_in page ≡ 0 → listed (near_item region 0) (stored_in page at) ≡ []
slot-far region page at p is on out within used leaf =
    let key : List ℕ = take 66 (drop (16 + 74 * at + 8) page) in
    ap (listed (near_item region 0)) (stored-used page at within used)
    ∙ ap (near_item region 0) (leaf-item page at leaf)
    ∙ ap (λ (q : Position). near_item region 0 (place_item q key)) (sym is)
    ∙ place-out region p key on out

-- a used slot of an inner node whose rectangle doesn't meet the region
pub slot-beyond : (region : Region) (page : List ℕ) (at level : ℕ) (r : Bounds) → r ≡ rect_from page (16 + 20 * at) → IsRect r.west r.south r.east r.north → meets region r ≡ false → at < 32 → is_used page at ≡ true → level ≡ level_in page → 0 < level
    → listed (near_item region level) (stored_in page at) ≡ []
slot-beyond region page at zero r is on out within used same inner = absurd (omega arith)
slot-beyond region page at (suc l) r is on out within used same inner =
    let child : ℕ = number_at (16 + 20 * at + 16) page in
    ap (listed (near_item region (suc l))) (stored-used page at within used)
    ∙ ap (near_item region (suc l)) (inner-item page at (subst (λ (k : ℕ). 0 < k) same inner))
    ∙ ap (λ (q : Bounds). near_item region (suc l) (child_item q child)) (sym is)
    ∙ child-out region r child l on out

near-cond : (t : Bool) (given : best.Item) (item : Option best.Item) → alone_in item ≡ (if t then given ∷ [] else []) → is_some item ≡ t
near-cond true given None e = absurd (cc)
near-cond true given (Some item) e = refl
near-cond false given None e = refl
near-cond false given (Some item) e = absurd (cc)

-- a slot gives something where it touches the region
pub alone-near : (region : Region) (level : ℕ) (o : Option Item) (item : Option best.Item) → alone_in item ≡ listed (near_item region level) o → is_some item ≡ is_near region level o
alone-near region level None item e = near-cond false (Node 0 0 0) item e
alone-near region level (Some x) item e = near-cond (touches region level x) (given region level x) item e

no-slot : (i : ℕ) (b : Bool) → has_slot 0 i ≡ (nat_lt i 0 && b)
no-slot i b = slot-none i ∙ rw (le-ltb i 0 (omega arith)) refl

-- no slot was looked at
pub marks-begun : (test : ℕ → Bool) (i : ℕ) → has_slot 0 i ≡ (nat_lt i 0 && test i)
marks-begun test i = no-slot i (test i)

-- one slot more
pub marks-more : (mask new at : ℕ) (test : ℕ → Bool) (some : Bool) → some ≡ test at → has_slot new at ≡ (has_slot mask at || some) → ((i : ℕ) → (i ≡ at → ⊥) → has_slot new i ≡ has_slot mask i)
    → ((i : ℕ) → i < 32 → has_slot mask i ≡ (nat_lt i at && test i)) → at < 32 → (i : ℕ) → i < 32 → has_slot new i ≡ (nat_lt i (at + 1) && test i)
marks-more mask new at test some e here others so_far within i l = ⊎_elim
    (λ (same : i ≡ at).
    let none : has_slot mask at ≡ false = so_far at within ∙ rw (le-ltb at at (omega arith)) refl in
    ap (has_slot new) same
    ∙ here
    ∙ ap (λ (b : Bool). b || some) none
    ∙ e
    ∙ sym (ap (λ (b : Bool). b && test at) (lt-ltb at (at + 1) (omega arith)))
    ∙ ap (λ (n : ℕ). nat_lt n (at + 1) && test n) (sym same))
    (λ (other : i ≡ at → ⊥).
    others i other
    ∙ so_far i l
    ∙ ap (λ (b : Bool). b && test i) (before i at other))
    (same_or i at)
  where
    before : (i at : ℕ) → (i ≡ at → ⊥) → nat_lt i at ≡ nat_lt i (at + 1)
    before i at other = grind (arith, nat_tests)
