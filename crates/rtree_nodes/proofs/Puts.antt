-- A slot that is put or cleared, from the writes to the page.
use Rattle.std.proofs.Common.{◌≡◌, ℕ, zero, suc, ◌*◌, ◌%◌, ◌<◌, ◌≤◌, ◌^◌, true, List, length, replicate, arith, refl, sym, ap, ◌∙◌, subst, inl, true≢false}
use Rattle.std.specs.Prelude.{◌==◌}
use Rattle.std.specs.Int.{w32, to_be_bytes, bit_at, bit_not}
use Rattle.std.specs.Int.RustNames.{bit_or}
use lib.Bits.{bit_and}
use Rattle.std.proofs.lemmas.Bool.{ne_eqb, false≢true}
use Rattle.std.proofs.lemmas.List.{length-replicate}
use Rattle.std.proofs.lemmas.Nat.Bits.{bit_at_set_same, bit_at_set_other, bit_at_clear_same, bit_at_clear_other}
use Rattle.page_face.specs.FreeList.{are_zero}
use Rattle.rtree_nodes.specs.Slots.{without_slot}
use Rattle.rtree_nodes.specs.Trees.{with_slot}
use Rattle.rtree_nodes.specs.declared.content.Slot.{Slot}
use Rattle.rtree_nodes.specs.declared.content.Slot.TheVariants.{Place, Child}
use Rattle.rtree_nodes.specs.Numbers.{overwritten}
use Rattle.rtree_nodes.specs.Reach.{item_of, is_place}
use Rattle.rtree_nodes.specs.Cells.{cell_width, cell_start, cell_of, start_for, item_in, has_form, IsValid}
use Rattle.rtree_nodes.specs.Pages.{level_in, mask_of, is_form, slots_in}
use Rattle.rtree_nodes.proofs.Cells.{length-place, length-child, place-item, place-form, child-item, child-form}
use Rattle.rtree_nodes.proofs.Formed.{form-parts, parts-form, form-slots}
use Rattle.rtree_nodes.proofs.Parts.{overwritten-byte, overwritten-number}
use Rattle.rtree_nodes.proofs.Rewrites.{Rewrites, KeepsBits, rewritten, rewritten-form, rewritten-put, rewritten-clear, mask_is, start-low}
use Rattle.rtree_nodes.proofs.Images.{start-fits}

-- what stands in a slot fits a level
record Suits (slot : Slot) (level : ℕ) : Type 0 where
  start : (i : ℕ) → start_for slot i ≡ cell_start level i
  wide : length (cell_of slot) ≡ cell_width level
  formed : has_form level (cell_of slot) ≡ true
  item : item_in level (cell_of slot) ≡ item_of slot

suits : (slot : Slot) (level : ℕ) → is_place slot ≡ (level == 0) → IsValid slot → Suits slot level
suits (Place point key) zero h v = record {
  start = λ i. refl;
  wide = length-place point key v.1;
  formed = place-form point key v.0 v.1;
  item = place-item point key v.0 v.1;
}
suits (Place point key) (suc level) h v = absurd (true≢false (h ∙ ne_eqb (suc level) 0 (λ e. omega arith)))
suits (Child rect page) zero h v = absurd (false≢true h)
suits (Child rect page) (suc level) h v = record {
  start = λ i. refl;
  wide = length-child rect page;
  formed = child-form level rect page v.0;
  item = child-item level rect page v.0 v.1;
}

start-for-low : (slot : Slot) (i : ℕ) → i < 32 → (16 ≤ start_for slot i) × (start_for slot i ≤ 4096)
start-for-low (Place point key) i l = (omega arith, omega arith)
start-for-low (Child rect page) i l = (omega arith, omega arith)

-- the writes of a call that puts a slot
pub record WritesSlot (old mid new : List ℕ) (slot : Slot) (at mask : ℕ) : Type 0 where
  pub within : at < 32
  pub long : length old ≡ 4096
  pub long_mid : length mid ≡ 4096
  pub valid : IsValid slot
  pub cell : mid ≡ overwritten (start_for slot at) (cell_of slot) old
  pub mask_is : mask ≡ mask_of mid
  pub used : new ≡ overwritten 4 (to_be_bytes w32 (bit_or mask (1 * 2 ^ at % 2 ^ 32))) mid
  pub fits : bit_or mask (1 * 2 ^ at % 2 ^ 32) < 2 ^ 32

put-level : (old mid new : List ℕ) (slot : Slot) (at mask : ℕ) → WritesSlot old mid new slot at mask → level_in new ≡ level_in old
put-level old mid new slot at mask w =
    let low = start-for-low slot at w.within in
    ap level_in w.used
    ∙ overwritten-byte 4 1 (to_be_bytes w32 (bit_or mask (1 * 2 ^ at % 2 ^ 32))) mid (omega arith) (omega (arith, w.long_mid))
    ∙ ap level_in w.cell
    ∙ overwritten-byte (start_for slot at) 1 (cell_of slot) old (omega (arith, low.0)) (omega (arith, low.1, w.long))

put-mask : (old mid new : List ℕ) (slot : Slot) (at mask : ℕ) → WritesSlot old mid new slot at mask → mask ≡ mask_of old
put-mask old mid new slot at mask w =
    let low = start-for-low slot at w.within in
    w.mask_is ∙ ap mask_of w.cell ∙ overwritten-number (start_for slot at) 4 (cell_of slot) old (inl (omega (arith, low.0))) (omega (arith, low.1, w.long))

put-rewrites : (old mid new : List ℕ) (slot : Slot) (at mask : ℕ) → WritesSlot old mid new slot at mask → Suits slot (level_in old)
    → Rewrites old new at (bit_or mask (1 * 2 ^ at % 2 ^ 32)) (cell_of slot)
put-rewrites old mid new slot at mask w s =
    let used = bit_or mask (1 * 2 ^ at % 2 ^ 32) in
    let is : new ≡ overwritten 4 (to_be_bytes w32 used) (overwritten (cell_start (level_in old) at) (cell_of slot) old) =
    w.used ∙ ap (overwritten 4 (to_be_bytes w32 used)) (w.cell ∙ ap (λ (n : ℕ). overwritten n (cell_of slot) old) (s.start at)) in
    subst (λ (l : List ℕ). Rewrites old l at used (cell_of slot)) (sym is) (rewritten old (cell_of slot) at used w.within w.long s.wide w.fits)

pub put-used : (old mid new : List ℕ) (slot : Slot) (at mask : ℕ) → WritesSlot old mid new slot at mask → mask_of new ≡ bit_or mask (1 * 2 ^ at % 2 ^ 32)
put-used old mid new slot at mask w = ap mask_of w.used ∙ mask_is (bit_or mask (1 * 2 ^ at % 2 ^ 32)) mid w.fits (omega (arith, w.long_mid))

pub put-bit : (old mid new : List ℕ) (slot : Slot) (at mask : ℕ) → WritesSlot old mid new slot at mask → bit_at (mask_of new) at ≡ 1
put-bit old mid new slot at mask w = ap (λ (n : ℕ). bit_at n at) (put-used old mid new slot at mask w) ∙ bit_at_set_same w32 mask at w.within

pub put-others : (old mid new : List ℕ) (slot : Slot) (at mask : ℕ) → WritesSlot old mid new slot at mask → (i : ℕ) → i < 32 → (i ≡ at → ⊥) → bit_at (mask_of new) i ≡ bit_at (mask_of old) i
put-others old mid new slot at mask w i l ne =
    ap (λ (n : ℕ). bit_at n i) (put-used old mid new slot at mask w) ∙ bit_at_set_other w32 mask at w.within i ne ∙ ap (λ (n : ℕ). bit_at n i) (put-mask old mid new slot at mask w)

pub put-fits : (old mid new : List ℕ) (slot : Slot) (at mask : ℕ) → WritesSlot old mid new slot at mask → mask_of new < 2 ^ 32
put-fits old mid new slot at mask w = subst (λ (n : ℕ). n < 2 ^ 32) (sym (put-used old mid new slot at mask w)) w.fits

put-keeps : (old mid new : List ℕ) (slot : Slot) (at mask : ℕ) → WritesSlot old mid new slot at mask → KeepsBits (mask_of old) at (bit_or mask (1 * 2 ^ at % 2 ^ 32))
put-keeps old mid new slot at mask w = λ i l ne. bit_at_set_other w32 mask at w.within i ne ∙ ap (λ (n : ℕ). bit_at n i) (put-mask old mid new slot at mask w)

pub put-form : (old mid new : List ℕ) (slot : Slot) (at mask : ℕ) → WritesSlot old mid new slot at mask → is_form old ≡ true → is_place slot ≡ (level_in old == 0) → is_form new ≡ true
put-form old mid new slot at mask w form kind =
    let s = suits slot (level_in old) kind w.valid in
    let bit = bit_at_set_same w32 mask at w.within in
    parts-form new (rewritten-form old new (cell_of slot) at (bit_or mask (1 * 2 ^ at % 2 ^ 32)) w.within (put-rewrites old mid new slot at mask w s) (put-keeps old mid new slot at mask w)
    (λ z. absurd (omega arith)) (λ o. s.formed) (form-parts old form))

pub put-slots : (old mid new : List ℕ) (slot : Slot) (at mask : ℕ) → WritesSlot old mid new slot at mask → is_form old ≡ true → is_place slot ≡ (level_in old == 0)
    → slots_in new ≡ with_slot at (item_of slot) (slots_in old)
put-slots old mid new slot at mask w form kind =
    let s = suits slot (level_in old) kind w.valid in
    form-slots new (put-form old mid new slot at mask w form kind)
    ∙ rewritten-put old new (cell_of slot) at (bit_or mask (1 * 2 ^ at % 2 ^ 32)) (item_of slot) w.within (put-rewrites old mid new slot at mask w s) (put-keeps old mid new slot at mask w)
    (bit_at_set_same w32 mask at w.within) s.item
    ∙ ap (with_slot at (item_of slot)) (sym (form-slots old form))

pub put-same-level : (old mid new : List ℕ) (slot : Slot) (at mask : ℕ) → WritesSlot old mid new slot at mask → level_in new ≡ level_in old
put-same-level old mid new slot at mask w = put-level old mid new slot at mask w

-- zeros are spare bytes
pub zeros-clear : (n : ℕ) → are_zero (replicate n 0) ≡ true
zeros-clear zero = refl
zeros-clear (suc n) = zeros-clear n

-- the writes of a call that clears a slot
pub record ClearsSlot (old mid new : List ℕ) (at mask : ℕ) : Type 0 where
  pub within : at < 32
  pub long : length old ≡ 4096
  pub long_mid : length mid ≡ 4096
  pub cell : mid ≡ overwritten (cell_start (level_in old) at) (replicate (cell_width (level_in old)) 0) old
  pub mask_is : mask ≡ mask_of mid
  pub used : new ≡ overwritten 4 (to_be_bytes w32 (bit_and mask (bit_not w32 (1 * 2 ^ at % 2 ^ 32)))) mid
  pub fits : bit_and mask (bit_not w32 (1 * 2 ^ at % 2 ^ 32)) < 2 ^ 32

clear-rewrites : (old mid new : List ℕ) (at mask : ℕ) → ClearsSlot old mid new at mask → Rewrites old new at (bit_and mask (bit_not w32 (1 * 2 ^ at % 2 ^ 32))) (replicate (cell_width (level_in old)) 0)
clear-rewrites old mid new at mask w =
    let used = bit_and mask (bit_not w32 (1 * 2 ^ at % 2 ^ 32)) in
    let zeros = replicate (cell_width (level_in old)) 0 in
    let is : new ≡ overwritten 4 (to_be_bytes w32 used) (overwritten (cell_start (level_in old) at) zeros old) = w.used ∙ ap (overwritten 4 (to_be_bytes w32 used)) w.cell in
    subst (λ (l : List ℕ). Rewrites old l at used zeros) (sym is) (rewritten old zeros at used w.within w.long (length-replicate (cell_width (level_in old)) 0) w.fits)

clear-keeps : (old mid new : List ℕ) (at mask : ℕ) → ClearsSlot old mid new at mask → KeepsBits (mask_of old) at (bit_and mask (bit_not w32 (1 * 2 ^ at % 2 ^ 32)))
clear-keeps old mid new at mask w =
    let low = start-low (level_in old) at in
    let within = start-fits (level_in old) at w.within in
    let was : mask ≡ mask_of old = w.mask_is ∙ ap mask_of w.cell
    ∙ overwritten-number (cell_start (level_in old) at) 4 (replicate (cell_width (level_in old)) 0) old (inl (omega arith)) (omega (arith, w.long)) in
    λ i l ne. bit_at_clear_other w32 mask at w.within i l ne ∙ ap (λ (n : ℕ). bit_at n i) was

pub clear-form : (old mid new : List ℕ) (at mask : ℕ) → ClearsSlot old mid new at mask → is_form old ≡ true → is_form new ≡ true
clear-form old mid new at mask w form =
    let bit = bit_at_clear_same w32 mask at w.within in
    parts-form new (rewritten-form old new (replicate (cell_width (level_in old)) 0) at (bit_and mask (bit_not w32 (1 * 2 ^ at % 2 ^ 32))) w.within (clear-rewrites old mid new at mask w) (clear-keeps old mid new at mask w)
    (λ z. zeros-clear (cell_width (level_in old))) (λ o. absurd (omega arith)) (form-parts old form))

pub clear-slots : (old mid new : List ℕ) (at mask : ℕ) → ClearsSlot old mid new at mask → is_form old ≡ true → slots_in new ≡ without_slot at (slots_in old)
clear-slots old mid new at mask w form =
    form-slots new (clear-form old mid new at mask w form)
    ∙ rewritten-clear old new (replicate (cell_width (level_in old)) 0) at (bit_and mask (bit_not w32 (1 * 2 ^ at % 2 ^ 32))) w.within (clear-rewrites old mid new at mask w) (clear-keeps old mid new at mask w)
    (bit_at_clear_same w32 mask at w.within)
    ∙ ap (without_slot at) (sym (form-slots old form))

pub clear-level : (old mid new : List ℕ) (at mask : ℕ) → ClearsSlot old mid new at mask → level_in new ≡ level_in old
clear-level old mid new at mask w = (clear-rewrites old mid new at mask w).level

pub clear-used : (old mid new : List ℕ) (at mask : ℕ) → ClearsSlot old mid new at mask → mask_of new ≡ bit_and mask (bit_not w32 (1 * 2 ^ at % 2 ^ 32))
clear-used old mid new at mask w = ap mask_of w.used ∙ mask_is (bit_and mask (bit_not w32 (1 * 2 ^ at % 2 ^ 32))) mid w.fits (omega (arith, w.long_mid))

pub clear-bit : (old mid new : List ℕ) (at mask : ℕ) → ClearsSlot old mid new at mask → bit_at (mask_of new) at ≡ 0
clear-bit old mid new at mask w = ap (λ (n : ℕ). bit_at n at) (clear-used old mid new at mask w) ∙ bit_at_clear_same w32 mask at w.within

pub clear-others : (old mid new : List ℕ) (at mask : ℕ) → ClearsSlot old mid new at mask → (i : ℕ) → i < 32 → (i ≡ at → ⊥) → bit_at (mask_of new) i ≡ bit_at (mask_of old) i
clear-others old mid new at mask w i l ne = ap (λ (n : ℕ). bit_at n i) (clear-used old mid new at mask w) ∙ clear-keeps old mid new at mask w i l ne

pub clear-fits : (old mid new : List ℕ) (at mask : ℕ) → ClearsSlot old mid new at mask → mask_of new < 2 ^ 32
clear-fits old mid new at mask w = subst (λ (n : ℕ). n < 2 ^ 32) (sym (clear-used old mid new at mask w)) w.fits
