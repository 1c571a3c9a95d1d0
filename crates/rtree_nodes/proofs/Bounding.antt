-- The rectangles of a node's slots, and the least one round them.
use Rattle.std.proofs.Common.{◌≡◌, ◌⊎◌, ℕ, zero, suc, ◌+◌, ◌<◌, ◌^◌, max, Bool, true, false, ◌&&◌, not, List, Option, Some, None, arith, refl, sym, ap, ◌∙◌, subst, ⊎_elim, inl, inr, add-one, length, get_or}
use Rattle.std.specs.Prelude.{◌||◌, if◌then◌else◌, unwrap_or}
use Rattle.std.proofs.Math.ListN.{set}
use Rattle.std.proofs.lemmas.List.{get_or-set_same, get_or-set_other}
use Rattle.std.specs.Int.{bit_at}
use Rattle.std.proofs.Math.Nat.{max_comm}
use Rattle.std.proofs.lemmas.Bool.{and_parts, cases_eq, cases_Bool}
use Rattle.std.proofs.lemmas.Nat.Bits.{same_from_bits_below, bit_at-zero}
use Rattle.spatial_base.specs.Rect.{Bounds}
use Rattle.rtree_nodes.specs.Slots.{Slots, got, one, top_to, tops, filled, Held, no_slots}
use Rattle.rtree_nodes.specs.Trees.{reach_of as reach_at}
use Rattle.rtree_nodes.proofs.Sums.{sum-zero, sum-same}
use Rattle.rtree_nodes.specs.Slots.{amount}
use Rattle.rtree_nodes.specs.Numbers.{all_below}
use Rattle.rtree_nodes.specs.Reach.{reach_of, joined_both, origin_rect}
use Rattle.rtree_nodes.specs.Cells.{item_in, rect_of_cell, has_rect, has_form}
use Rattle.rtree_nodes.specs.Pages.{level_in, mask_of, is_used, cell_at, rect_of_slot, has_rects, is_form, stored_in, slots_in}
use Rattle.rtree_nodes.proofs.AllBelow.{all_below-from, used-more, used-false}
use Rattle.rtree_nodes.proofs.Formed.{form-parts, form-slots, other-slots, stored-used, stored-unused, not_or_made, unused-bit, bit-unused}
use Rattle.rtree_nodes.proofs.Reaches.{joined-reach}

-- a slot of its form has a rectangle
pub form-rect : (level : ℕ) (cell : List ℕ) → has_form level cell ≡ true → has_rect level cell ≡ true
form-rect zero cell h = (and_parts _ _ h).0
form-rect (suc level) cell h = h

-- so each used slot of a node's page has one
pub form-rects : (page : List ℕ) → is_form page ≡ true → has_rects page ≡ true
form-rects page form = all_below-from 32 (λ i. not (is_used page i) || has_rect (level_in page) (cell_at page i))
    (λ i l. not_or_made (is_used page i) (has_rect (level_in page) (cell_at page i)) (λ u. form-rect (level_in page) (cell_at page i) ((form-parts page form).values i l u)))

-- one slot more has a rectangle, or isn't used
pub rects-more : (page : List ℕ) (i : ℕ) → all_below i (λ k. not (is_used page k) || has_rect (level_in page) (cell_at page k)) ≡ true
    → ((is_used page i && not (has_rect (level_in page) (cell_at page i))) ≡ true → ⊥)
    → all_below (i + 1) (λ k. not (is_used page k) || has_rect (level_in page) (cell_at page k)) ≡ true
rects-more page i all ok = used-more (is_used page) (λ k. has_rect (level_in page) (cell_at page k)) i all ok

-- a used slot without one
pub rects-false : (page : List ℕ) (i : ℕ) → i < 32 → (is_used page i && not (has_rect (level_in page) (cell_at page i))) ≡ true → has_rects page ≡ false
rects-false page i l h = used-false (is_used page) (λ k. has_rect (level_in page) (cell_at page k)) 32 i l h

-- an item goes as far as its slot's rectangle
pub rect-reach : (level : ℕ) (cell : List ℕ) → reach_of (rect_of_cell level cell) ≡ (item_in level cell).reach
rect-reach zero cell = refl
rect-reach (suc level) cell = refl

-- the rectangles that were read go as far as the items
pub rects-reach : (page : List ℕ) (rect : Bounds) (i : ℕ) → is_form page ≡ true → i < 32 → rect ≡ (if is_used page i then rect_of_slot page i else origin_rect)
    → Held (λ x. reach_of rect ≡ x.reach) (slots_in page i)
rects-reach page rect i form l is = subst (λ (s : Slots). Held (λ x. reach_of rect ≡ x.reach) (s i)) (sym (form-slots page form)) (⊎_elim
    (λ (t : is_used page i ≡ true). subst (Held (λ x. reach_of rect ≡ x.reach)) (sym (stored-used page i l t))
    (ap reach_of (is ∙ ap (λ (b : Bool). if b then rect_of_slot page i else origin_rect) t) ∙ rect-reach (level_in page) (cell_at page i)))
    (λ (f : is_used page i ≡ false). subst (Held (λ x. reach_of rect ≡ x.reach)) (sym (stored-unused page i f)) tt)
    (cases_Bool (is_used page i)))

-- how far a rectangle goes if there is one
abbrev pub reach_opt : Option Bounds → ℕ → ℕ
reach_opt None d = 0
reach_opt (Some r) d = reach_of r d

abbrev pub rect_opt : List ℕ → ℕ → Option Bounds
rect_opt page i = if is_used page i then Some (rect_of_slot page i) else None

both-reach : (a b : Option Bounds) (d : ℕ) → reach_opt (joined_both a b) d ≡ max (reach_opt b d) (reach_opt a d)
both-reach (Some a) (Some b) d = joined-reach a b d ∙ max_comm (reach_of a d) (reach_of b d)
both-reach (Some a) None d = omega arith
both-reach None b d = omega arith

slot-reach : (page : List ℕ) (i d : ℕ) → i < 32 → reach_opt (rect_opt page i) d ≡ got (reach_at d) (stored_in page i)
slot-reach page i d l = ⊎_elim
    (λ (t : is_used page i ≡ true). ap (λ (b : Bool). reach_opt (if b then Some (rect_of_slot page i) else None) d) t
    ∙ ap (λ (f : ℕ → ℕ). f d) (rect-reach (level_in page) (cell_at page i)) ∙ ap (got (reach_at d)) (sym (stored-used page i l t)))
    (λ (f : is_used page i ≡ false). ap (λ (b : Bool). reach_opt (if b then Some (rect_of_slot page i) else None) d) f ∙ ap (got (reach_at d)) (sym (stored-unused page i f)))
    (cases_Bool (is_used page i))

-- a slot is used below n
abbrev pub AllFree : List ℕ → ℕ → Type 0
AllFree page n = (k : ℕ) → k < n → is_used page k ≡ false

-- the rectangle round the slots below n, if one is used
pub record IsRound (page : List ℕ) (n : ℕ) (bounds : Option Bounds) : Type 0 where
  pub reach : (d : ℕ) → reach_opt bounds d ≡ top_to n (λ i. got (reach_at d) (stored_in page i))
  pub some : bounds ≡ None → AllFree page n
  pub none : AllFree page n → bounds ≡ None

pub round-none : (page : List ℕ) → IsRound page 0 None
unfolding top_to
round-none page = record { reach = λ d. refl; some = λ e k l. absurd (omega arith); none = λ free. refl }

joined-none : (a b : Option Bounds) → joined_both a b ≡ None → (a ≡ None) × (b ≡ None)
joined-none (Some a) (Some b) e = absurd (cc)
joined-none (Some a) None e = absurd (cc)
joined-none None b e = (refl, e)

opt-none : (page : List ℕ) (i : ℕ) → rect_opt page i ≡ None → is_used page i ≡ false
opt-none page i e = tell (is_used page i) e
  where
    tell : (b : Bool) → (if b then Some (rect_of_slot page i) else None) ≡ None → b ≡ false
    tell true e = absurd (cc)
    tell false e = refl

pub round-more : (page : List ℕ) (i : ℕ) (bounds rect : Option Bounds) → i < 32 → IsRound page i bounds → rect ≡ rect_opt page i → IsRound page (i + 1) (joined_both bounds rect)
unfolding top_to
round-more page i bounds rect l r is = record {
  reach = λ d. both-reach bounds rect d ∙ rw add-one (λ k. max ((ap (λ (o : Option Bounds). reach_opt o d) is ∙ slot-reach page i d l) k) (r.reach d k));
  some = λ e k m.
      let parts = joined-none bounds rect e in
      ⊎_elim
      (λ (same : k ≡ i). ap (is_used page) same ∙ opt-none page i (sym is ∙ parts.1))
      (λ (other : k < i). r.some parts.0 k other)
      (at_last k i m);
  none = λ free.
      ap (λ (o : Option Bounds). joined_both o rect) (r.none (λ k m. free k (omega arith)))
      ∙ is ∙ ap (λ (b : Bool). if b then Some (rect_of_slot page i) else None) (free i (omega arith));
}
  where
    at_last : (k i : ℕ) → k < i + 1 → (k ≡ i) ⊎ (k < i)
    at_last k i m = grind arith

-- no slot is used exactly where the mask is 0
pub free-mask : (page : List ℕ) → mask_of page < 2 ^ 32 → AllFree page 32 → mask_of page ≡ 0
free-mask page fits free = same_from_bits_below 32 (mask_of page) 0 fits (omega arith) (λ i l. bit-unused page i (free i l) ∙ sym (bit_at-zero i))

pub mask-free : (page : List ℕ) → mask_of page ≡ 0 → AllFree page 32
mask-free page e k l = unused-bit page k (ap (λ (n : ℕ). bit_at n k) e ∙ bit_at-zero k)

-- what was found round all slots goes as far as they do together
pub round-all : (page : List ℕ) (bounds : Option Bounds) (rect : Bounds) → IsRound page 32 bounds → mask_of page < 2 ^ 32 → 0 < mask_of page → bounds ≡ Some rect ⊎ (bounds ≡ None)
    → (d : ℕ) → reach_of rect d ≡ tops d (stored_in page)
unfolding tops
round-all page bounds rect r fits some which d = ⊎_elim
    (λ (e : bounds ≡ Some rect). ap (λ (o : Option Bounds). reach_opt o d) (sym e) ∙ r.reach d)
    (λ (e : bounds ≡ None). absurd (let z = free-mask page fits (r.some e) in omega arith))
    which

none-filled : (s : Slots) → s ≡ no_slots → filled s ≡ 0
unfolding amount
none-filled s e = ap filled e ∙ sum-zero 32

none-used : (page : List ℕ) → AllFree page 32 → filled (stored_in page) ≡ 0
unfolding amount
none-used page free = sum-same 32 (λ i. got one (stored_in page i)) (λ i. 0) (λ i l. ap (got one) (stored-unused page i (free i l))) ∙ sum-zero 32

-- a node with an item is a page's whose mask isn't 0
pub some-form : (page : List ℕ) → 0 < filled (slots_in page) → is_form page ≡ true
some-form page some = ⊎_elim
    (λ (t : is_form page ≡ true). t)
    (λ (f : is_form page ≡ false). absurd (let z = none-filled (slots_in page) (other-slots page f) in omega arith))
    (cases_Bool (is_form page))

pub some-mask : (page : List ℕ) → 0 < filled (slots_in page) → 0 < mask_of page
some-mask page some = ⊎_elim
    (λ (z : mask_of page ≡ 0). absurd (let none = ap filled (form-slots page (some-form page some)) ∙ none-used page (mask-free page z) in omega arith))
    (λ (n : mask_of page ≡ 0 → ⊥). above (mask_of page) n)
    (cases_zero (mask_of page))
  where
    above : (n : ℕ) → (n ≡ 0 → ⊥) → 0 < n
    above zero h = absurd (h refl)
    above (suc n) h = omega arith

    cases_zero : (n : ℕ) → (n ≡ 0) ⊎ (n ≡ 0 → ⊥)
    cases_zero n = cases_eq n 0

-- one rectangle more was read
pub rects-set : (page : List ℕ) (rects : List Bounds) (i : ℕ) (rect : Bounds) → i < length rects → rect ≡ (if is_used page i then rect_of_slot page i else origin_rect)
    → ((k : ℕ) → k < i → get_or rects k origin_rect ≡ (if is_used page k then rect_of_slot page k else origin_rect))
    → (k : ℕ) → k < i + 1 → get_or (set rects i rect) k origin_rect ≡ (if is_used page k then rect_of_slot page k else origin_rect)
rects-set page rects i rect inside is so_far k l = ⊎_elim
    (λ (e : k ≡ i). ap (λ (n : ℕ). get_or (set rects i rect) n origin_rect) e ∙ get_or-set_same rects i rect origin_rect inside ∙ is
    ∙ ap (λ (n : ℕ). if is_used page n then rect_of_slot page n else origin_rect) (sym e))
    (λ (ne : k ≡ i → ⊥). get_or-set_other rects i k rect origin_rect ne ∙ so_far k (below k i l ne))
    (cases_eq k i)
  where
    below : (k i : ℕ) → k < i + 1 → (k ≡ i → ⊥) → k < i
    below k i l ne = grind arith

-- what is behind an option
pub unwrap-which : (o : Option Bounds) (default rect : Bounds) → rect ≡ unwrap_or o default → (o ≡ Some rect) ⊎ (o ≡ None)
unwrap-which None default rect e = inr refl
unwrap-which (Some r) default rect e = inl (ap Some (sym e))

pub unwrap-none : (o : Option Bounds) (default rect : Bounds) → rect ≡ unwrap_or o default → o ≡ None → rect ≡ default
unwrap-none o default rect e n = e ∙ ap (λ (p : Option Bounds). unwrap_or p default) n
