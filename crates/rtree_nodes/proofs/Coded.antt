-- Nodes in memory and the pages that stand for them.
use Rattle.std.proofs.Common.{◌≡◌, ℕ, zero, suc, ◌+◌, ◌<◌, ◌≤◌, ◌^◌, Bool, true, false, ◌&&◌, ◌||◌, not, nat_lt, List, length, get_or, Option, Some, None, arith, refl, sym, ap, ◌∙◌, subst, ⊎_elim}
use Rattle.std.specs.Prelude.{◌==◌, if◌then◌else◌, option_map, IfSome}
use Rattle.std.specs.Int.{bit_at}
use Rattle.std.proofs.Math.ListN.{set}
use Rattle.std.proofs.Math.Path.{fun_ext}
use Rattle.std.proofs.lemmas.Bool.{cases_eq, cases_lt, cases_Bool, eq-eqb, ne_eqb, lt-ltb, le-ltb, false≢true}
use Rattle.std.proofs.lemmas.List.{get_or-set_same, get_or-set_other}
use Rattle.std.proofs.lemmas.Nat.Bits.{same_from_bits_below, bit_at-lt}
use Rattle.page_face.specs.declared.fault.Rule.TheVariants.{Kind}
use Rattle.spatial_base.specs.Key.{Name, Auto, form_of}
use Rattle.spatial_base.specs.Point.{Position}
use Rattle.spatial_base.specs.Rect.{Bounds}
use Rattle.rtree_nodes.specs.Slots.{Item, Slots as SlotItems, no_slots, got, one}
use Rattle.rtree_nodes.specs.Trees.{with_slot}
use Rattle.rtree_nodes.specs.declared.held.Slots.{Slots}
use Rattle.rtree_nodes.specs.declared.held.Slots.TheVariants.{Leaf, Inner}
use Rattle.rtree_nodes.specs.declared.content.Slot.{Slot}
use Rattle.rtree_nodes.specs.declared.content.Slot.TheVariants.{Place, Child}
use Rattle.rtree_nodes.specs.Reach.{item_of, is_place, place_item, child_item, origin, origin_rect}
use Rattle.rtree_nodes.specs.Pages.{level_in, mask_of, is_used, cell_at, item_at, has_clear_spares, has_values, is_form, stored_in, node_of, slots_in}
use Rattle.rtree_nodes.specs.Breaks.{Keeps}
use Rattle.rtree_nodes.specs.Nodes.{slot_of, HoldsAt, HoldsAll, IsLeafSlot, IsInnerSlot}
use Rattle.rtree_nodes.specs.Numbers.{all_below}
use Rattle.rtree_nodes.specs.Cells.{has_form}
use Rattle.rtree_nodes.proofs.AllBelow.{used-more, used-false}
use Rattle.rtree_nodes.proofs.Masks.{slot-bit}
use Rattle.rtree_nodes.proofs.Formed.{clear-parts, values-at, parts-form, form-node, form-slots, stored-used, stored-unused, stored-past}
use Rattle.rtree_nodes.proofs.Clearings.{same as same_below}

-- the items of the slots below n that are used
abbrev pub items_to : ℕ → ℕ → Slots → SlotItems
items_to n used slots i = if nat_lt i n && (bit_at used i == 1) then Some (item_of (slot_of slots i)) else None

pub items-none : (used : ℕ) (slots : Slots) → no_slots ≡ items_to 0 used slots
items-none used slots = fun_ext (λ i. rw (le-ltb i 0 (omega arith)) refl)

-- one more
pub items-more : (n used : ℕ) (slots : Slots) (here next : SlotItems) → here ≡ items_to n used slots
    → next ≡ (if bit_at used n == 1 then with_slot n (item_of (slot_of slots n)) here else here) → next ≡ items_to (n + 1) used slots
items-more n used slots here next h e = e ∙ step (bit_at used n == 1) refl
  where
    step : (b : Bool) → (bit_at used n == 1) ≡ b → (if b then with_slot n (item_of (slot_of slots n)) here else here) ≡ items_to (n + 1) used slots
    step true t = ap (with_slot n (item_of (slot_of slots n))) h ∙ fun_ext (λ i. ⊎_elim
        (λ (e : i ≡ n). rw (eq-eqb i n e) (sym (ap (λ (b : Bool). if b && (bit_at used i == 1) then Some (item_of (slot_of slots i)) else None) (lt-ltb i (n + 1) (omega arith))
        ∙ ap (λ (b : Bool). if b then Some (item_of (slot_of slots i)) else None) (ap (λ (k : ℕ). bit_at used k == 1) e ∙ t)
        ∙ ap (λ (k : ℕ). Some (item_of (slot_of slots k))) e)))
        (λ (ne : i ≡ n → ⊥). rw (ne_eqb i n ne) (ap (λ (b : Bool). if b && (bit_at used i == 1) then Some (item_of (slot_of slots i)) else None) (same_below i n ne)))
        (cases_eq i n))
    step false f = h ∙ fun_ext (λ i. ⊎_elim
        (λ (e : i ≡ n). ap (λ (b : Bool). if b && (bit_at used i == 1) then Some (item_of (slot_of slots i)) else None) (le-ltb i n (omega arith))
        ∙ sym (ap (λ (b : Bool). if b && (bit_at used i == 1) then Some (item_of (slot_of slots i)) else None) (lt-ltb i (n + 1) (omega arith))
        ∙ ap (λ (b : Bool). if b then Some (item_of (slot_of slots i)) else None) (ap (λ (k : ℕ). bit_at used k == 1) e ∙ f)))
        (λ (ne : i ≡ n → ⊥). ap (λ (b : Bool). if b && (bit_at used i == 1) then Some (item_of (slot_of slots i)) else None) (same_below i n ne))
        (cases_eq i n))

-- a page of these items stands for the node
pub coded-node : (page : List ℕ) (level : ℕ) (items : SlotItems) → is_form page ≡ true → level_in page ≡ level → slots_in page ≡ items → node_of page ≡ record { level = level; slots = items }
coded-node page level items form l s =
    form-node page form ∙ (λ i. record { level = l i; slots = (sym (form-slots page form) ∙ s) i })

-- ---- reading

-- what stands in slot i, or what an unused slot holds
abbrev HoldsOne : List ℕ → Slot → Slot → ℕ → Type 0
HoldsOne page slot unused i = (is_used page i ≡ true → item_of slot ≡ item_at page i) × (is_used page i ≡ false → slot ≡ unused)

-- one place more was read
pub leaf-set : (page : List ℕ) (points : List Position) (keys : List Name) (i : ℕ) (point : Position) (key : Name) → i < length points → i < length keys
    → (is_used page i ≡ true → place_item point (form_of key) ≡ item_at page i) → (is_used page i ≡ false → (point ≡ origin) × (key ≡ Auto 0))
    → ((k : ℕ) → k < i → HoldsAt page (Leaf points keys) k) → (k : ℕ) → k < i + 1 → HoldsAt page (Leaf (set points i point) (set keys i key)) k
leaf-set page points keys i point key lp lk used unused so_far k l = ⊎_elim
    (λ (e : k ≡ i). subst (λ (n : ℕ). HoldsAt page (Leaf (set points i point) (set keys i key)) n) (sym e)
    (subst (λ (s : Slot). HoldsOne page s (Place origin (Auto 0)) i)
    (λ j. Place (sym (get_or-set_same points i point origin lp) j) (sym (get_or-set_same keys i key (Auto 0) lk) j))
    (used, λ f. λ j. Place ((unused f).0 j) ((unused f).1 j))))
    (λ (ne : k ≡ i → ⊥). subst (λ (s : Slot). HoldsOne page s (Place origin (Auto 0)) k)
    (λ j. Place (sym (get_or-set_other points i k point origin ne) j) (sym (get_or-set_other keys i k key (Auto 0) ne) j))
    (so_far k (below k i l ne)))
    (cases_eq k i)
  where
    below : (k i : ℕ) → k < i + 1 → (k ≡ i → ⊥) → k < i
    below k i l ne = grind arith

-- one child more
pub inner-set : (page : List ℕ) (rects : List Bounds) (children : List ℕ) (i : ℕ) (rect : Bounds) (child : ℕ) → i < length rects → i < length children
    → (is_used page i ≡ true → child_item rect child ≡ item_at page i) → (is_used page i ≡ false → (rect ≡ origin_rect) × (child ≡ 0))
    → ((k : ℕ) → k < i → HoldsAt page (Inner rects children) k) → (k : ℕ) → k < i + 1 → HoldsAt page (Inner (set rects i rect) (set children i child)) k
inner-set page rects children i rect child lr lc used unused so_far k l = ⊎_elim
    (λ (e : k ≡ i). subst (λ (n : ℕ). HoldsAt page (Inner (set rects i rect) (set children i child)) n) (sym e)
    (subst (λ (s : Slot). HoldsOne page s (Child origin_rect 0) i)
    (λ j. Child (sym (get_or-set_same rects i rect origin_rect lr) j) (sym (get_or-set_same children i child 0 lc) j))
    (used, λ f. λ j. Child ((unused f).0 j) ((unused f).1 j))))
    (λ (ne : k ≡ i → ⊥). subst (λ (s : Slot). HoldsOne page s (Child origin_rect 0) k)
    (λ j. Child (sym (get_or-set_other rects i k rect origin_rect ne) j) (sym (get_or-set_other children i k child 0 ne) j))
    (so_far k (below k i l ne)))
    (cases_eq k i)
  where
    below : (k i : ℕ) → k < i + 1 → (k ≡ i → ⊥) → k < i
    below k i l ne = grind arith

-- the arrays hold what the page does
pub holds-items : (page : List ℕ) (slots : Slots) → HoldsAll page slots → items_to 32 (mask_of page) slots ≡ stored_in page
holds-items page slots holds = fun_ext (λ i. ⊎_elim
    (λ (l : i < 32). ⊎_elim
    (λ (t : is_used page i ≡ true). ap (λ (b : Bool). if b && is_used page i then Some (item_of (slot_of slots i)) else None) (lt-ltb i 32 l)
    ∙ ap (λ (b : Bool). if b then Some (item_of (slot_of slots i)) else None) t ∙ ap Some ((holds i l).0 t) ∙ sym (stored-used page i l t))
    (λ (f : is_used page i ≡ false). ap (λ (b : Bool). if b && is_used page i then Some (item_of (slot_of slots i)) else None) (lt-ltb i 32 l)
    ∙ ap (λ (b : Bool). if b then Some (item_of (slot_of slots i)) else None) f ∙ sym (stored-unused page i f))
    (cases_Bool (is_used page i)))
    (λ (l : 32 ≤ i). ap (λ (b : Bool). if b && is_used page i then Some (item_of (slot_of slots i)) else None) (le-ltb i 32 l) ∙ sym (stored-past page i l))
    (cases_lt i 32))

-- a page that breaks no rule is a node's
pub kept-form : (page : List ℕ) → length page ≡ 4096 → Keeps Kind page → has_clear_spares page ≡ true → has_values page ≡ true → is_form page ≡ true
kept-form page long kind clear values = parts-form page record {
  long = long;
  kind = ⊎_elim (λ (e : get_or page 0 0 ≡ 3). e) (λ (ne : get_or page 0 0 ≡ 3 → ⊥). absurd (kind ne)) (cases_eq (get_or page 0 0) 3);
  clear = clear-parts page clear;
  values = values-at page values;
}

-- ---- what a slot that was read holds

pub leaf-used : (page : List ℕ) (at : ℕ) (slot : Option Slot) (point : Position) (key : Name) → at < 32 → option_map item_of slot ≡ stored_in page at
    → IfSome slot (λ s. is_place s ≡ (level_in page == 0)) → IsLeafSlot slot point key → level_in page ≡ 0 → is_used page at ≡ true → place_item point (form_of key) ≡ item_at page at
leaf-used page at None point key l is kind leaf z used = absurd (let e : None ≡ Some (item_at page at) = is ∙ stored-used page at l used in cc)
leaf-used page at (Some (Place place name)) point key l is kind leaf z used =
    let e : Some (place_item place (form_of name)) ≡ Some (item_at page at) = is ∙ stored-used page at l used in
    (λ i. place_item (leaf.0 i) (form_of (leaf.1 i))) ∙ cc e
leaf-used page at (Some (Child bounds child)) point key l is kind leaf z used = absurd (false≢true (kind ∙ ap (λ (n : ℕ). n == 0) z))

pub leaf-unused : (page : List ℕ) (at : ℕ) (slot : Option Slot) (point : Position) (key : Name) → option_map item_of slot ≡ stored_in page at
    → IsLeafSlot slot point key → is_used page at ≡ false → (point ≡ origin) × (key ≡ Auto 0)
leaf-unused page at None point key is leaf unused = leaf
leaf-unused page at (Some slot) point key is leaf unused = absurd (let e : Some (item_of slot) ≡ None = is ∙ stored-unused page at unused in cc)

pub inner-used : (page : List ℕ) (at : ℕ) (slot : Option Slot) (rect : Bounds) (child : ℕ) → at < 32 → option_map item_of slot ≡ stored_in page at
    → IfSome slot (λ s. is_place s ≡ (level_in page == 0)) → IsInnerSlot slot rect child → 0 < level_in page → is_used page at ≡ true → child_item rect child ≡ item_at page at
inner-used page at None rect child l is kind inner some used = absurd (let e : None ≡ Some (item_at page at) = is ∙ stored-used page at l used in cc)
inner-used page at (Some (Place place name)) rect child l is kind inner some used = absurd (false≢true (sym (ne_eqb (level_in page) 0 (λ e. omega arith)) ∙ sym kind))
inner-used page at (Some (Child bounds page_of)) rect child l is kind inner some used =
    let e : Some (child_item bounds page_of) ≡ Some (item_at page at) = is ∙ stored-used page at l used in
    (λ i. child_item (inner.0 i) (inner.1 i)) ∙ cc e

pub inner-unused : (page : List ℕ) (at : ℕ) (slot : Option Slot) (rect : Bounds) (child : ℕ) → option_map item_of slot ≡ stored_in page at
    → IsInnerSlot slot rect child → is_used page at ≡ false → (rect ≡ origin_rect) × (child ≡ 0)
inner-unused page at None rect child is inner unused = inner
inner-unused page at (Some slot) rect child is inner unused = absurd (let e : Some (item_of slot) ≡ None = is ∙ stored-unused page at unused in cc)

-- one slot more is of its form
pub values-more : (page : List ℕ) (i : ℕ) → all_below i (λ k. not (is_used page k) || has_form (level_in page) (cell_at page k)) ≡ true
    → ((is_used page i && not (has_form (level_in page) (cell_at page i))) ≡ true → ⊥) → all_below (i + 1) (λ k. not (is_used page k) || has_form (level_in page) (cell_at page k)) ≡ true
values-more page i all ok = used-more (is_used page) (λ k. has_form (level_in page) (cell_at page k)) i all ok

pub values-false : (page : List ℕ) (i : ℕ) → i < 32 → (is_used page i && not (has_form (level_in page) (cell_at page i))) ≡ true → has_values page ≡ false
values-false page i l h = used-false (is_used page) (λ k. has_form (level_in page) (cell_at page k)) 32 i l h

-- a page with the node's items has its mask
pub coded-mask : (page : List ℕ) (used : ℕ) (slots : Slots) → is_form page ≡ true → mask_of page < 2 ^ 32 → used < 2 ^ 32 → slots_in page ≡ items_to 32 used slots → mask_of page ≡ used
coded-mask page used slots form fits small s = same_from_bits_below 32 (mask_of page) used fits small (λ i l.
    slot-bit page i l ∙ ap (λ (x : SlotItems). got one (x i)) (sym (form-slots page form) ∙ s)
    ∙ ap (λ (b : Bool). got one (if b && (bit_at used i == 1) then Some (item_of (slot_of slots i)) else None)) (lt-ltb i 32 l)
    ∙ bit (bit_at used i) (bit_at-lt used i) (item_of (slot_of slots i)))
  where
    bit : (b : ℕ) → b < 2 → (x : Item) → got one (if b == 1 then Some x else None) ≡ b
    bit zero l x = refl
    bit (suc zero) l x = refl
    bit (suc (suc b)) l x = absurd (omega arith)
