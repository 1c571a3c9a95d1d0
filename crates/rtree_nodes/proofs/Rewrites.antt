-- A slot's bytes and the mask are written, and all else stays.
use Rattle.std.proofs.Common.{◌≡◌, ℕ, zero, suc, ◌+◌, ◌<◌, ◌≤◌, ◌^◌, true, List, take, drop, length, get_or, Some, None, arith, sym, ap, ◌∙◌, subst, ◌⊎◌, ⊎_elim, inl, inr}
use Rattle.std.specs.Prelude.{◌==◌, ◌&&◌, nat_lt, if◌then◌else◌}
use Rattle.std.specs.Int.{w32, to_be_bytes, from_be_bytes, bit_at}
use Rattle.std.proofs.Math.Path.{fun_ext}
use Rattle.std.proofs.lemmas.Bool.{cases_eq, cases_lt, cases_order, eq-eqb, ne_eqb}
use Rattle.std.proofs.lemmas.Nat.{from_be_bytes-to_be_bytes_4}
use Rattle.page_face.specs.FreeList.{are_zero}
use Rattle.rtree_nodes.specs.Slots.{Item, without_slot}
use Rattle.rtree_nodes.specs.Trees.{with_slot}
use Rattle.rtree_nodes.specs.Numbers.{number_at, overwritten}
use Rattle.rtree_nodes.specs.Cells.{cell_width, cell_start, item_in, has_form}
use Rattle.rtree_nodes.specs.Pages.{level_in, mask_of, is_used, cell_at, item_at, stored_in}
use Rattle.rtree_nodes.proofs.Formed.{IsFormed, stored-used, stored-unused, stored-past, bit-used, bit-unused}
use Rattle.rtree_nodes.proofs.Parts.{overwritten-length, overwritten-here, overwritten-behind, overwritten-apart, overwritten-byte}
use Rattle.rtree_nodes.proofs.Images.{start-fits}

-- a page with other bytes in one slot, and another mask
pub record Rewrites (old new : List ℕ) (at used : ℕ) (cell : List ℕ) : Type 0 where
  pub long : length new ≡ length old
  pub kind : get_or new 0 0 ≡ get_or old 0 0
  pub level : level_in new ≡ level_in old
  pub two : take 2 (drop 2 new) ≡ take 2 (drop 2 old)
  pub eight : take 8 (drop 8 new) ≡ take 8 (drop 8 old)
  pub rest : drop (cell_start (level_in new) 32) new ≡ drop (cell_start (level_in old) 32) old
  pub mask : mask_of new ≡ used
  pub here : cell_at new at ≡ cell
  pub others : (i : ℕ) → i < 32 → (i ≡ at → ⊥) → cell_at new i ≡ cell_at old i

-- slots don't overlap
pub cells-apart : (level i j : ℕ) → i < j → cell_start level i + cell_width level ≤ cell_start level j
cells-apart zero i j l = omega arith
cells-apart (suc level) i j l = omega arith

cell-apart : (level i at : ℕ) → (i ≡ at → ⊥) → (cell_start level i + cell_width level ≤ cell_start level at) ⊎ (cell_start level at + cell_width level ≤ cell_start level i)
cell-apart level i at ne = ⊎_elim
    (λ (e : i ≡ at). absurd (ne e))
    (⊎_elim (λ (l : i < at). inl (cells-apart level i at l)) (λ (l : at < i). inr (cells-apart level at i l)))
    (cases_order i at)

pub start-low : (level i : ℕ) → 16 ≤ cell_start level i
start-low zero i = omega arith
start-low (suc level) i = omega arith

-- bytes that are written over a slot's leave the rest
record Covers (old new : List ℕ) (at : ℕ) (cell : List ℕ) : Type 0 where
  long : length new ≡ length old
  kind : get_or new 0 0 ≡ get_or old 0 0
  level : level_in new ≡ level_in old
  two : take 2 (drop 2 new) ≡ take 2 (drop 2 old)
  eight : take 8 (drop 8 new) ≡ take 8 (drop 8 old)
  rest : drop (cell_start (level_in old) 32) new ≡ drop (cell_start (level_in old) 32) old
  here : take (cell_width (level_in old)) (drop (cell_start (level_in old) at) new) ≡ cell
  others : (i : ℕ) → (i ≡ at → ⊥) → take (cell_width (level_in old)) (drop (cell_start (level_in old) i) new) ≡ take (cell_width (level_in old)) (drop (cell_start (level_in old) i) old)

covered : (old cell : List ℕ) (at : ℕ) → at < 32 → length old ≡ 4096 → length cell ≡ cell_width (level_in old) → Covers old (overwritten (cell_start (level_in old) at) cell old) at cell
covered old cell at l long wide =
    let level = level_in old in
    let start = cell_start level at in
    let within = start-fits level at l in
    let low = start-low level at in
    let last = cells-apart level at 32 l in
    let fits : start ≤ length old = omega arith in
    record {
      long = overwritten-length start cell old (omega arith);
      kind = overwritten-byte start 0 cell old (omega arith) fits;
      level = overwritten-byte start 1 cell old (omega arith) fits;
      two = overwritten-apart start 2 2 cell old (inl (omega arith)) fits;
      eight = overwritten-apart start 8 8 cell old (inl (omega arith)) fits;
      rest = overwritten-behind start (cell_start level 32) cell old (omega arith) fits;
      here = ap (λ (n : ℕ). take n (drop start (overwritten start cell old))) (sym wide) ∙ overwritten-here start cell old fits;
      others = λ i ne. overwritten-apart start (cell_start level i) (cell_width level) cell old
          (subst (λ (n : ℕ). (cell_start level i + cell_width level ≤ start) ⊎ (start + n ≤ cell_start level i)) (sym wide) (cell-apart level i at ne)) fits;
    }

-- a mask that was written is read
pub mask_is : (used : ℕ) (mid : List ℕ) → used < 2 ^ 32 → 4 ≤ length mid → mask_of (overwritten 4 (to_be_bytes w32 used) mid) ≡ used
unfolding number_at
mask_is used mid fits size = ap (from_be_bytes w32) (overwritten-here 4 (to_be_bytes w32 used) mid size) ∙ from_be_bytes-to_be_bytes_4 used fits

-- the mask is four bytes from byte 4 on
pub rewritten : (old cell : List ℕ) (at used : ℕ) → at < 32 → length old ≡ 4096 → length cell ≡ cell_width (level_in old) → used < 2 ^ 32
    → Rewrites old (overwritten 4 (to_be_bytes w32 used) (overwritten (cell_start (level_in old) at) cell old)) at used cell
unfolding cell_at
rewritten old cell at used l long wide fits =
    let mid = overwritten (cell_start (level_in old) at) cell old in
    let new = overwritten 4 (to_be_bytes w32 used) mid in
    let c = covered old cell at l long wide in
    let size : 4 ≤ length mid = omega (arith, c.long) in
    let level : level_in new ≡ level_in old = overwritten-byte 4 1 (to_be_bytes w32 used) mid (omega arith) size ∙ c.level in
    let same = λ (i : ℕ). overwritten-apart 4 (cell_start (level_in old) i) (cell_width (level_in old)) (to_be_bytes w32 used) mid (inr (let low = start-low (level_in old) i in omega arith)) size in
    record {
      long = overwritten-length 4 (to_be_bytes w32 used) mid (omega (arith, c.long)) ∙ c.long;
      kind = overwritten-byte 4 0 (to_be_bytes w32 used) mid (omega arith) size ∙ c.kind;
      level = level;
      two = overwritten-apart 4 2 2 (to_be_bytes w32 used) mid (inl (omega arith)) size ∙ c.two;
      eight = overwritten-apart 4 8 8 (to_be_bytes w32 used) mid (inr (omega arith)) size ∙ c.eight;
      rest = ap (λ (n : ℕ). drop (cell_start n 32) new) level
          ∙ overwritten-behind 4 (cell_start (level_in old) 32) (to_be_bytes w32 used) mid (let low = start-low (level_in old) 32 in omega arith) size ∙ c.rest;
      mask = mask_is used mid fits size;
      here = ap (λ (n : ℕ). take (cell_width n) (drop (cell_start n at) new)) level ∙ same at ∙ c.here;
      others = λ i k ne. ap (λ (n : ℕ). take (cell_width n) (drop (cell_start n i) new)) level ∙ same i ∙ c.others i ne;
    }

-- the other slots are used as before
abbrev pub KeepsBits : ℕ → ℕ → ℕ → Type 0
KeepsBits old at used = (i : ℕ) → i < 32 → (i ≡ at → ⊥) → bit_at used i ≡ bit_at old i

used-other : (old new cell : List ℕ) (at used i : ℕ) → Rewrites old new at used cell → KeepsBits (mask_of old) at used → i < 32 → (i ≡ at → ⊥) → is_used new i ≡ is_used old i
used-other old new cell at used i r keeps l ne = ap (λ (n : ℕ). bit_at n i == 1) r.mask ∙ ap (λ (b : ℕ). b == 1) (keeps i l ne)

used-here : (old new cell : List ℕ) (at used : ℕ) → Rewrites old new at used cell → is_used new at ≡ (bit_at used at == 1)
used-here old new cell at used r = ap (λ (n : ℕ). bit_at n at == 1) r.mask

-- a node's page stays one where the slot is of its form, or free and zero
pub rewritten-form : (old new cell : List ℕ) (at used : ℕ) → at < 32 → Rewrites old new at used cell → KeepsBits (mask_of old) at used
    → (bit_at used at ≡ 0 → are_zero cell ≡ true) → (bit_at used at ≡ 1 → has_form (level_in old) cell ≡ true) → IsFormed old → IsFormed new
rewritten-form old new cell at used l r keeps clear formed f = record {
  long = r.long ∙ f.long;
  kind = r.kind ∙ f.kind;
  clear = record {
    two = ap are_zero r.two ∙ f.clear.two;
    eight = ap are_zero r.eight ∙ f.clear.eight;
    unused = λ i k u. ⊎_elim
        (λ (e : i ≡ at). ap (λ (n : ℕ). are_zero (cell_at new n)) e ∙ ap are_zero r.here ∙ clear (ap (λ (n : ℕ). bit_at used n) (sym e) ∙ ap (λ (n : ℕ). bit_at n i) (sym r.mask) ∙ bit-unused new i u))
        (λ (ne : i ≡ at → ⊥). ap are_zero (r.others i k ne) ∙ f.clear.unused i k (sym (used-other old new cell at used i r keeps k ne) ∙ u))
        (cases_eq i at);
    rest = ap are_zero r.rest ∙ f.clear.rest;
  };
  values = λ i k u. ⊎_elim
      (λ (e : i ≡ at). ap (λ (n : ℕ). has_form (level_in new) (cell_at new n)) e ∙ ap (λ (c : List ℕ). has_form (level_in new) c) r.here ∙ ap (λ (n : ℕ). has_form n cell) r.level
      ∙ formed (ap (λ (n : ℕ). bit_at used n) (sym e) ∙ ap (λ (n : ℕ). bit_at n i) (sym r.mask) ∙ bit-used new i u))
      (λ (ne : i ≡ at → ⊥). ap (λ (c : List ℕ). has_form (level_in new) c) (r.others i k ne) ∙ ap (λ (n : ℕ). has_form n (cell_at old i)) r.level
      ∙ f.values i k (sym (used-other old new cell at used i r keeps k ne) ∙ u))
      (cases_eq i at);
}

-- other slots hold what they held
stored-same : (old new : List ℕ) (i : ℕ) → is_used new i ≡ is_used old i → item_at new i ≡ item_at old i → stored_in new i ≡ stored_in old i
unfolding stored_in
stored-same old new i u e = λ k. if nat_lt i 32 && u k then Some (e k) else None

stored-other : (old new cell : List ℕ) (at used i : ℕ) → at < 32 → Rewrites old new at used cell → KeepsBits (mask_of old) at used → (i ≡ at → ⊥) → stored_in new i ≡ stored_in old i
stored-other old new cell at used i l r keeps ne = ⊎_elim
    (λ (k : i < 32). stored-same old new i (used-other old new cell at used i r keeps k ne)
    (ap (λ (n : ℕ). item_in n (cell_at new i)) r.level ∙ ap (λ (c : List ℕ). item_in (level_in old) c) (r.others i k ne)))
    (λ (k : 32 ≤ i). stored-past new i k ∙ sym (stored-past old i k))
    (cases_lt i 32)

-- the slot holds the new item
pub rewritten-put : (old new cell : List ℕ) (at used : ℕ) (x : Item) → at < 32 → Rewrites old new at used cell → KeepsBits (mask_of old) at used
    → bit_at used at ≡ 1 → item_in (level_in old) cell ≡ x → stored_in new ≡ with_slot at x (stored_in old)
rewritten-put old new cell at used x l r keeps bit is = fun_ext (λ i. ⊎_elim
    (λ (e : i ≡ at). rw (eq-eqb i at e)
    (ap (λ (n : ℕ). stored_in new n) e
    ∙ stored-used new at l (used-here old new cell at used r ∙ eq-eqb (bit_at used at) 1 bit)
    ∙ ap Some (ap (λ (n : ℕ). item_in n (cell_at new at)) r.level ∙ ap (λ (c : List ℕ). item_in (level_in old) c) r.here ∙ is)))
    (λ (ne : i ≡ at → ⊥). rw (ne_eqb i at ne) (stored-other old new cell at used i l r keeps ne))
    (cases_eq i at))

-- the slot holds nothing
pub rewritten-clear : (old new cell : List ℕ) (at used : ℕ) → at < 32 → Rewrites old new at used cell → KeepsBits (mask_of old) at used
    → bit_at used at ≡ 0 → stored_in new ≡ without_slot at (stored_in old)
rewritten-clear old new cell at used l r keeps bit = fun_ext (λ i. ⊎_elim
    (λ (e : i ≡ at). rw (eq-eqb i at e)
    (ap (λ (n : ℕ). stored_in new n) e
    ∙ stored-unused new at (used-here old new cell at used r ∙ ap (λ (b : ℕ). b == 1) bit)))
    (λ (ne : i ≡ at → ⊥). rw (ne_eqb i at ne) (stored-other old new cell at used i l r keeps ne))
    (cases_eq i at))
