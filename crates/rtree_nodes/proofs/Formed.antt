-- A node's page, part by part.
use Rattle.std.proofs.Common.{◌≡◌, ℕ, ◌<◌, ◌≤◌, Bool, true, false, ◌&&◌, ◌||◌, not, nat_lt, List, take, drop, length, get_or, Some, None, arith, refl, sym, ap, true≢false}
use Rattle.std.specs.Prelude.{if◌then◌else◌}
use Rattle.std.specs.Int.{bit_at}
use Rattle.std.proofs.lemmas.Bool.{and_parts, and_from, eqb-true, eq-eqb, eqb-false, ne_eqb, lt-ltb, le-ltb}
use Rattle.std.proofs.lemmas.Nat.Bits.{bit_at-lt}
use Rattle.page_face.specs.FreeList.{are_zero}
use Rattle.rtree_nodes.specs.Slots.{NodeView, no_slots}
use Rattle.rtree_nodes.specs.Cells.{cell_start, has_form}
use Rattle.rtree_nodes.specs.Pages.{level_in, mask_of, is_used, cell_at, item_at, has_clear_spares, has_values, is_form, stored_in, node_of, slots_in}
use Rattle.rtree_nodes.proofs.AllBelow.{all_below-at, all_below-from}

-- the parts of the spare bytes
pub record IsClear (page : List ℕ) : Type 0 where
  pub two : are_zero (take 2 (drop 2 page)) ≡ true
  pub eight : are_zero (take 8 (drop 8 page)) ≡ true
  pub unused : (i : ℕ) → i < 32 → is_used page i ≡ false → are_zero (cell_at page i) ≡ true
  pub rest : are_zero (drop (cell_start (level_in page) 32) page) ≡ true

-- the parts of the form
pub record IsFormed (page : List ℕ) : Type 0 where
  pub long : length page ≡ 4096
  pub kind : get_or page 0 0 ≡ 3
  pub clear : IsClear page
  pub values : (i : ℕ) → i < 32 → is_used page i ≡ true → has_form (level_in page) (cell_at page i) ≡ true

or_other : (a b : Bool) → (a || b) ≡ true → a ≡ false → b ≡ true
or_other true b h f = absurd (true≢false f)
or_other false b h f = h

or_made : (a b : Bool) → (a ≡ false → b ≡ true) → (a || b) ≡ true
or_made true b h = refl
or_made false b h = h refl

not_or_other : (a b : Bool) → (not a || b) ≡ true → a ≡ true → b ≡ true
not_or_other true b h t = h
not_or_other false b h t = absurd (true≢false (sym t))

pub not_or_made : (a b : Bool) → (a ≡ true → b ≡ true) → (not a || b) ≡ true
not_or_made true b h = h refl
not_or_made false b h = refl

-- clear spare bytes, by their parts
pub clear-parts : (page : List ℕ) → has_clear_spares page ≡ true → IsClear page
clear-parts page h =
    let a = and_parts _ _ h in
    let b = and_parts _ _ a.0 in
    let c = and_parts _ _ b.0 in
    record {
      two = c.0;
      eight = c.1;
      unused = λ i l f. or_other (is_used page i) (are_zero (cell_at page i)) (all_below-at 32 (λ k. is_used page k || are_zero (cell_at page k)) b.1 i l) f;
      rest = a.1;
    }

pub parts-clear : (page : List ℕ) → IsClear page → has_clear_spares page ≡ true
parts-clear page c =
    and_from _ _
    (and_from _ _
    (and_from _ _ c.two c.eight)
    (all_below-from 32 (λ k. is_used page k || are_zero (cell_at page k)) (λ i l. or_made (is_used page i) (are_zero (cell_at page i)) (c.unused i l))))
    c.rest

-- values, slot by slot
pub values-at : (page : List ℕ) → has_values page ≡ true → (i : ℕ) → i < 32 → is_used page i ≡ true → has_form (level_in page) (cell_at page i) ≡ true
values-at page h i l u = not_or_other (is_used page i) (has_form (level_in page) (cell_at page i)) (all_below-at 32 (λ k. not (is_used page k) || has_form (level_in page) (cell_at page k)) h i l) u

pub values-from : (page : List ℕ) → ((i : ℕ) → i < 32 → is_used page i ≡ true → has_form (level_in page) (cell_at page i) ≡ true) → has_values page ≡ true
values-from page each = all_below-from 32 (λ k. not (is_used page k) || has_form (level_in page) (cell_at page k)) (λ i l. not_or_made (is_used page i) (has_form (level_in page) (cell_at page i)) (each i l))

-- a node's page has the parts
pub form-parts : (page : List ℕ) → is_form page ≡ true → IsFormed page
unfolding is_form
form-parts page h =
    let a = and_parts _ _ h in
    let b = and_parts _ _ a.0 in
    let c = and_parts _ _ b.0 in
    record {
      long = eqb-true (length page) 4096 c.0;
      kind = eqb-true (get_or page 0 0) 3 c.1;
      clear = clear-parts page b.1;
      values = values-at page a.1;
    }

-- and what has them is one
pub parts-form : (page : List ℕ) → IsFormed page → is_form page ≡ true
unfolding is_form
parts-form page f =
    and_from _ _
    (and_from _ _
    (and_from _ _ (eq-eqb (length page) 4096 f.long) (eq-eqb (get_or page 0 0) 3 f.kind))
    (parts-clear page f.clear))
    (values-from page f.values)

-- the slots of a node's page
pub form-node : (page : List ℕ) → is_form page ≡ true → node_of page ≡ record { level = level_in page; slots = stored_in page }
unfolding node_of
form-node page h = rw h refl

pub form-slots : (page : List ℕ) → is_form page ≡ true → slots_in page ≡ stored_in page
form-slots page h = ap (λ (v : NodeView). v.slots) (form-node page h)

-- bytes that are no node's have none
pub other-node : (page : List ℕ) → is_form page ≡ false → node_of page ≡ record { level = 0; slots = no_slots }
unfolding node_of
other-node page h = rw h refl

pub other-slots : (page : List ℕ) → is_form page ≡ false → slots_in page ≡ no_slots
other-slots page h = ap (λ (v : NodeView). v.slots) (other-node page h)

-- what is stored in a slot
pub stored-used : (page : List ℕ) (i : ℕ) → i < 32 → is_used page i ≡ true → stored_in page i ≡ Some (item_at page i)
unfolding stored_in
stored-used page i l u = rw (lt-ltb i 32 l, u) refl

pub stored-unused : (page : List ℕ) (i : ℕ) → is_used page i ≡ false → stored_in page i ≡ None
unfolding stored_in
stored-unused page i u = gone (nat_lt i 32) (is_used page i) u
  where
    gone : (a b : Bool) → b ≡ false → (if a && b then Some (item_at page i) else None) ≡ None
    gone true b e = rw e refl
    gone false b e = refl

pub stored-past : (page : List ℕ) (i : ℕ) → 32 ≤ i → stored_in page i ≡ None
unfolding stored_in
stored-past page i l = rw (le-ltb i 32 l) refl

pub unused-bit : (page : List ℕ) (i : ℕ) → bit_at (mask_of page) i ≡ 0 → is_used page i ≡ false
unused-bit page i e = ne_eqb (bit_at (mask_of page) i) 1 (λ k. omega arith)

pub bit-used : (page : List ℕ) (i : ℕ) → is_used page i ≡ true → bit_at (mask_of page) i ≡ 1
bit-used page i e = eqb-true (bit_at (mask_of page) i) 1 e

pub bit-unused : (page : List ℕ) (i : ℕ) → is_used page i ≡ false → bit_at (mask_of page) i ≡ 0
bit-unused page i e = let n = eqb-false (bit_at (mask_of page) i) 1 e in let l = bit_at-lt (mask_of page) i in grind arith
