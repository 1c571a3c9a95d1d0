-- The bits of a mask, and the slots of the page.
use Rattle.std.proofs.Common.{◌≡◌, ℕ, ◌+◌, ◌<◌, true, false, List, Option, Some, None, arith, refl, sym, ap, ◌∙◌, subst, ⊎_elim, add-one}
use Rattle.std.specs.Prelude.{MatchOption}
use Rattle.std.specs.Int.{bit_at}
use Rattle.std.proofs.lemmas.Bool.{cases_Bool}
use Rattle.rtree_nodes.specs.Slots.{Slots, sum_to, amount, filled, got, one, IsFull, IsFree}
use Rattle.rtree_nodes.specs.Masks.{marked}
use Rattle.rtree_nodes.proofs.Sums.{sum-same}
use Rattle.rtree_nodes.specs.Pages.{mask_of, is_used, is_form, stored_in, slots_in}
use Rattle.rtree_nodes.proofs.Formed.{form-slots, stored-used, stored-unused, unused-bit, bit-used, bit-unused}

-- no bit, one more, and all of them
pub marked-none : (mask : ℕ) → marked 0 mask ≡ 0
unfolding marked sum_to
marked-none mask = refl

pub marked-more : (n mask : ℕ) → marked (n + 1) mask ≡ bit_at mask n + marked n mask
unfolding marked sum_to
marked-more n mask = rw add-one refl

-- a slot that the mask names holds an item, and no other does
pub slot-bit : (page : List ℕ) (i : ℕ) → i < 32 → bit_at (mask_of page) i ≡ got one (stored_in page i)
slot-bit page i l = ⊎_elim
    (λ (t : is_used page i ≡ true). bit-used page i t ∙ sym (ap (got one) (stored-used page i l t)))
    (λ (f : is_used page i ≡ false). bit-unused page i f ∙ sym (ap (got one) (stored-unused page i f)))
    (cases_Bool (is_used page i))

-- so the mask tells how many slots are used
pub marked-filled : (page : List ℕ) → is_form page ≡ true → marked 32 (mask_of page) ≡ filled (slots_in page)
unfolding marked amount
marked-filled page form =
    sum-same 32 (λ i. bit_at (mask_of page) i) (λ i. got one (stored_in page i)) (slot-bit page)
    ∙ ap (λ (s : Slots). sum_to 32 (λ i. got one (s i))) (sym (form-slots page form))

-- and which one is free
pub free-found : (page : List ℕ) (result : Option ℕ) → is_form page ≡ true
    → MatchOption result ((i : ℕ) → i < 32 → bit_at (mask_of page) i ≡ 1) (λ at. (at < 32) × (bit_at (mask_of page) at ≡ 0) × ((i : ℕ) → i < at → bit_at (mask_of page) i ≡ 1))
    → MatchOption result (IsFull (slots_in page)) (λ at. IsFree (slots_in page) at)
free-found page None form bits = subst IsFull (sym (form-slots page form)) (λ i l. sym (slot-bit page i l) ∙ bits i l)
free-found page (Some at) form bits = subst (λ (s : Slots). IsFree s at) (sym (form-slots page form)) record {
  within = bits.0;
  free = stored-unused page at (unused-bit page at bits.1);
  lowest = λ i l. sym (slot-bit page i (let k = bits.0 in omega arith)) ∙ bits.2 i l;
}
