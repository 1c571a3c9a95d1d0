-- Pages with a batch written.
use Rattle.std.proofs.Common.{◌≡◌, ◌≢◌, ◌⊎◌, inl, inr, ⊎_elim, ℕ, zero, suc, ◌+◌, ◌*◌, ◌/◌, ◌%◌, ◌<◌, ◌≤◌, ◌==◌, if◌then◌else◌, List, [], ◌∷◌, length, slice_index, get_or, Box, eq-eqb, add-one, refl, sym, ◌∙◌, ap, ap₂, subst, arith}
use Rattle.std.specs.Map.{keys_of}
use Rattle.std.specs.List.Sorted.{IsStrictlySortedBy}
use Rattle.std.specs.Ordering.{nat_cmp}
use Rattle.std.proofs.lemmas.Map.Keys.{below_from_sorted}
use mathlib.Core.Path.{fun_ext}
use Rattle.std.proofs.lemmas.Bool.{cases_lt, cases_eq, ne_eqb, cond-true, cond-false}
use Rattle.std.specs.declared.alloc.Global.{Global}
use Rattle.disk_model.specs.World.{Image, Written}
use Rattle.disk_model.specs.declared.disk.Area.TheVariants.{Pages}
use Rattle.page_journal.specs.Record.{Batch, given, batch_of, written_up_to, with_batch}

pub length_given : (entries : List (ℕ × Box (List ℕ) Global)) → length (given entries) ≡ length entries
length_given [] = refl
length_given (e ∷ entries) = ap (λ (n : ℕ). suc n) (length_given entries)

-- ---- pages with a batch written

-- at one place, the same batch over pages that agree there unless the batch writes it
pub same_up_to : (b c : Batch) (n i : ℕ) (p q : ℕ → ℕ) → ((k : ℕ) → k < n → b.number k ≡ c.number k) → ((k j : ℕ) → k < n → j < 4096 → b.byte k j ≡ c.byte k j)
    → (((k : ℕ) → k < n → i / 4096 ≢ c.number k) → p i ≡ q i) → written_up_to b n p i ≡ written_up_to c n q i
unfolding written_up_to
same_up_to b c zero i p q number byte agree = agree (λ k lt. absurd (omega arith))
same_up_to b c (suc n) i p q number byte agree =
    let here : b.number n ≡ c.number n = number n (omega arith) in
    ⊎_elim
    (λ (e : i / 4096 ≡ c.number n).
    cond-true (i / 4096 == b.number n) _ _ (eq-eqb _ _ (e ∙ sym here)) ∙ byte n (i % 4096) (omega arith) (omega arith) ∙ sym (cond-true (i / 4096 == c.number n) _ _ (eq-eqb _ _ e)))
    (λ (ne : i / 4096 ≡ c.number n → ⊥).
    cond-false (i / 4096 == b.number n) _ _ (ne_eqb _ _ (λ e. ne (e ∙ here)))
    ∙ same_up_to b c n i p q (λ k lt. number k (omega arith)) (λ k j lt fits. byte k j (omega arith) fits)
    (λ apart. agree (λ k lt. ⊎_elim (λ (l : k < n). apart k l) (λ (g : n ≤ k). let is : n ≡ k = omega arith in subst (λ (x : ℕ). i / 4096 ≢ c.number x) is ne) (cases_lt k n)))
    ∙ sym (cond-false (i / 4096 == c.number n) _ _ (ne_eqb _ _ ne)))
    (cases_eq (i / 4096) (c.number n))

-- a place that the batch doesn't write
pub untouched : (b : Batch) (n i : ℕ) (p : ℕ → ℕ) → ((k : ℕ) → k < n → i / 4096 ≢ b.number k) → written_up_to b n p i ≡ p i
unfolding written_up_to
untouched b zero i p apart = refl
untouched b (suc n) i p apart = cond-false (i / 4096 == b.number n) _ _ (ne_eqb _ _ (apart n (omega arith))) ∙ untouched b n i p (λ k lt. apart k (omega arith))

taken : (b : Batch) (k : ℕ) (p : ℕ → ℕ) (i : ℕ) → i / 4096 ≡ b.number k → written_up_to b (k + 1) p i ≡ b.byte k (i % 4096)
unfolding written_up_to
taken b k p i e = rw add-one (cond-true (i / 4096 == b.number k) _ _ (eq-eqb _ _ e))

passed : (b : Batch) (k : ℕ) (p : ℕ → ℕ) (i : ℕ) → (i / 4096 ≡ b.number k → ⊥) → written_up_to b (k + 1) p i ≡ written_up_to b k p i
unfolding written_up_to
passed b k p i ne = rw add-one (cond-false (i / 4096 == b.number k) _ _ (ne_eqb _ _ ne))

pub outside : (at n len i : ℕ) → at ≡ 4096 * n → len ≡ 4096 → i / 4096 ≢ n → (i < at) ⊎ (at + len ≤ i)
outside at n len i place long ne =
    ⊎_elim (λ (l : i < at). inl l) (λ (g : at ≤ i). ⊎_elim (λ (l : i < at + 4096). absurd (ne (omega arith))) (λ (h : at + 4096 ≤ i). inr (omega arith)) (cases_lt i (at + 4096))) (cases_lt i at)

pub written_none : (b : Batch) (p : ℕ → ℕ) → p ≡ written_up_to b 0 p
unfolding written_up_to
written_none b p = refl

-- one page more
pub page_more : (b : Batch) (k : ℕ) (p : ℕ → ℕ) (at : ℕ) (bytes : List ℕ) (s0 s1 : Image) → s0 Pages ≡ written_up_to b k p → at ≡ 4096 * b.number k → length bytes ≡ 4096
    → ((i : ℕ) → i < 4096 → slice_index bytes i ≡ b.byte k i) → Written Pages at bytes s0 s1 → s1 Pages ≡ written_up_to b (k + 1) p
page_more b k p at bytes s0 s1 so_far place long is w = fun_ext (λ i. ⊎_elim
    (λ (e : i / 4096 ≡ b.number k). w.inside (i % 4096) i (omega arith) (omega arith) ∙ is (i % 4096) (omega arith) ∙ sym (taken b k p i e))
    (λ (ne : i / 4096 ≡ b.number k → ⊥).
    w.torn.same Pages i (λ r. outside at (b.number k) (length bytes) i place long ne)
    ∙ ap (λ (f : ℕ → ℕ). f i) so_far ∙ sym (passed b k p i ne))
    (cases_eq (i / 4096) (b.number k)))

-- ---- the pages of a list, one after another

shift : (e : ℕ × List ℕ) (rest : List (ℕ × List ℕ)) (n i : ℕ) (p : ℕ → ℕ) → written_up_to (batch_of (e ∷ rest)) (suc n) p i ≡ written_up_to (batch_of rest) n (written_up_to (batch_of (e ∷ rest)) 1 p) i
unfolding written_up_to
shift e rest zero i p = refl
shift e rest (suc n) i p = ap (λ (x : ℕ). if i / 4096 == (get_or rest n (0, [])).0 then slice_index (get_or rest n (0, [])).1 (i % 4096) else x) (shift e rest n i p)

-- the first page, and then the others
pub with_first : (e : ℕ × List ℕ) (rest : List (ℕ × List ℕ)) (p : ℕ → ℕ) → with_batch (batch_of (e ∷ rest)) p ≡ with_batch (batch_of rest) (written_up_to (batch_of (e ∷ rest)) 1 p)
with_first e rest p = fun_ext (λ i. shift e rest (length rest) i p)

-- once the first page is written, the others are left
pub page_first : (e : ℕ × List ℕ) (rest : List (ℕ × List ℕ)) (at : ℕ) (bytes : List ℕ) (s0 s1 : Image) (target : ℕ → ℕ) → at ≡ 4096 * e.0 → length bytes ≡ 4096 → bytes ≡ e.1
    → Written Pages at bytes s0 s1 → with_batch (batch_of (e ∷ rest)) (s0 Pages) ≡ target → with_batch (batch_of rest) (s1 Pages) ≡ target
page_first e rest at bytes s0 s1 target place long is w so_far =
    ap (λ (p : ℕ → ℕ). with_batch (batch_of rest) p)
    (page_more (batch_of (e ∷ rest)) 0 (s0 Pages) at bytes s0 s1 (written_none (batch_of (e ∷ rest)) (s0 Pages)) place long (λ i lt. ap (λ (l : List ℕ). slice_index l i) is) w)
    ∙ sym (with_first e rest (s0 Pages)) ∙ so_far

-- no page is left
pub with_empty : (p : ℕ → ℕ) → with_batch (batch_of []) p ≡ p
with_empty p = sym (written_none (batch_of []) p)

-- ---- a map's entries

pub number_given : (entries : List (ℕ × Box (List ℕ) Global)) (k : ℕ) → (get_or (given entries) k (0, [])).0 ≡ get_or (keys_of entries) k 0
number_given [] k = refl
number_given (e ∷ entries) zero = refl
number_given (e ∷ entries) (suc k) = number_given entries k

pub ascending_given : (entries : List (ℕ × Box (List ℕ) Global)) → IsStrictlySortedBy nat_cmp (keys_of entries) → (k : ℕ) → k + 1 < length entries
    → (get_or (given entries) k (0, [])).0 < (get_or (given entries) (k + 1) (0, [])).0
ascending_given entries sorted k lt =
    let a = number_given entries k in
    let b = number_given entries (k + 1) in
    let o = below_from_sorted (keys_of entries) k (k + 1) 0 sorted (omega arith) (omega (arith, length_keys entries)) in
    omega arith
  where
    length_keys : (entries : List (ℕ × Box (List ℕ) Global)) → length (keys_of entries) ≡ length entries
    length_keys [] = refl
    length_keys (e ∷ entries) = ap (λ (n : ℕ). suc n) (length_keys entries)

-- ---- what layers above read: one page at a time

-- a page of the batch, each number of which is another
pub page_here : (b : Batch) (n k j : ℕ) (p : ℕ → ℕ) → k < n → ((m : ℕ) → k < m → m < n → b.number m ≢ b.number k) → j < 4096 → written_up_to b n p (4096 * b.number k + j) ≡ b.byte k j
unfolding written_up_to
page_here b zero k j p lt apart fits = absurd (omega arith)
page_here b (suc n) k j p lt apart fits =
    let at = 4096 * b.number k + j in
    let page : at / 4096 ≡ b.number k = omega arith in
    let place : at % 4096 ≡ j = omega arith in
    ⊎_elim
    (λ (l : k < n).
    cond-false (at / 4096 == b.number n) _ _ (ne_eqb _ _ (λ e. apart n l (omega arith) (sym e ∙ page)))
    ∙ page_here b n k j p l (λ m low high. apart m low (omega arith)) fits)
    (λ (g : n ≤ k).
    let is : k ≡ n = omega arith in
    cond-true (at / 4096 == b.number n) _ _ (eq-eqb _ _ (page ∙ ap (λ (m : ℕ). b.number m) is))
    ∙ ap₂ (λ (m i : ℕ). b.byte m i) (sym is) place)
    (cases_lt k n)

-- a page that is none of the batch's
pub page_elsewhere : (b : Batch) (number j : ℕ) (p : ℕ → ℕ) → ((k : ℕ) → k < b.count → number ≢ b.number k) → j < 4096 → with_batch b p (4096 * number + j) ≡ p (4096 * number + j)
page_elsewhere b number j p apart fits = untouched b b.count (4096 * number + j) p (λ k lt e. let page : (4096 * number + j) / 4096 ≡ number = omega arith in apart k lt (sym page ∙ e))
