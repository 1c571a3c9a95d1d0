-- Records one behind the other, and which pages an image with them stands for.
use Rattle.std.proofs.Common.{◌≡◌, ◌≢◌, ◌⊎◌, inl, inr, ⊎_elim, ℕ, zero, suc, ◌+◌, ◌*◌, ◌/◌, ◌^◌, ◌<◌, ◌≤◌, ◌==◌, eq-eqb, add-one, refl, sym, ◌∙◌, ap, ap₂, subst, arith}
use mathlib.Core.Path.{fun_ext}
use Rattle.std.proofs.lemmas.Bool.{cases_lt, cases_eq, ne_eqb, cond-true, cond-false}
use Rattle.disk_model.specs.World.{World, Image}
use Rattle.disk_model.specs.declared.disk.Area.TheVariants.{Pages, Journal}
use Rattle.page_journal.specs.Record.{Batch, word, batch_at, next_gate, written_up_to, with_batch, IsRecordAt, gate_of, with_records, first_closed, record_count, journal_end, IsJournal, HasRecords, applied, StandsFor, IsReady}
use Rattle.page_journal.proofs.Batches.{same_up_to, untouched}

-- ---- gates

pub gate_next : (journal : ℕ → ℕ) (n : ℕ) → gate_of journal (suc n) ≡ next_gate journal (gate_of journal n)
unfolding gate_of
gate_next journal n = refl

pub gate_first : (journal : ℕ → ℕ) → gate_of journal 0 ≡ 0
unfolding gate_of
gate_first journal = refl

-- a later gate stands behind
pub gate_le : (journal : ℕ → ℕ) (m n : ℕ) → m ≤ n → gate_of journal m ≤ gate_of journal n
gate_le journal m zero le = let e : m ≡ 0 = omega arith in subst (λ (x : ℕ). gate_of journal x ≤ gate_of journal 0) (sym e) (omega arith)
gate_le journal m (suc n) le = ⊎_elim
    (λ (l : m < suc n). let r = gate_le journal m n (omega arith) in let s = gate_next journal n in omega arith)
    (λ (g : suc n ≤ m). let e : m ≡ suc n = omega arith in subst (λ (x : ℕ). gate_of journal x ≤ gate_of journal (suc n)) (sym e) (omega arith))
    (cases_lt m (suc n))

-- there are no more records than bytes
pub count_le : (journal : ℕ → ℕ) (n : ℕ) → n ≤ gate_of journal n
count_le journal zero = omega arith
count_le journal (suc n) = let r = count_le journal n in let s = gate_next journal n in omega arith

-- the gate behind the records stands below 2^48 - 1
pub gate_fits : (journal : ℕ → ℕ) (n : ℕ) → ((k : ℕ) → k < n → IsRecordAt journal (gate_of journal k)) → gate_of journal n + 1 < 2 ^ 48
gate_fits journal zero records = let e = gate_first journal in omega arith
gate_fits journal (suc n) records = let r = records n (omega arith) in let s = gate_next journal n in let f = r.fits in omega arith

-- ---- how many records there are

-- looked at from the k-th gate on
first_is : (more n k : ℕ) (journal : ℕ → ℕ) → k ≤ n → n ≤ k + more → ((j : ℕ) → j < n → journal (gate_of journal j) ≢ 0) → journal (gate_of journal n) ≡ 0 → first_closed more journal k ≡ n
unfolding first_closed
first_is zero n k journal low high opened closed = omega arith
first_is (suc more) n k journal low high opened closed = ⊎_elim
    (λ (l : k < n). cond-false (journal (gate_of journal k) == 0) _ _ (ne_eqb _ _ (opened k l)) ∙ first_is more n (suc k) journal (omega arith) (omega arith) opened closed)
    (λ (g : n ≤ k).
    let is : n ≡ k = omega arith in
    cond-true (journal (gate_of journal k) == 0) _ _ (eq-eqb _ _ (subst (λ (x : ℕ). journal (gate_of journal x) ≡ 0) is closed)) ∙ sym is)
    (cases_lt k n)

-- the records before the first closed gate
pub count_is : (journal : ℕ → ℕ) (n : ℕ) → HasRecords journal n → record_count journal ≡ n
unfolding record_count
count_is journal n has =
    let few = count_le journal n in
    let fits = gate_fits journal n has.records in
    first_is (2 ^ 48) n 0 journal (omega arith) (omega arith) (λ j lt. (has.records j lt).open_gate) has.closed

-- a journal of so many records is right
pub is_journal : (journal : ℕ → ℕ) (n : ℕ) → HasRecords journal n → IsJournal journal
is_journal journal n has =
    let is = count_is journal n has in
    record {
      records = λ k lt. has.records k (subst (λ (x : ℕ). k < x) is lt);
      closed = ap (λ (x : ℕ). journal (gate_of journal x)) is ∙ has.closed;
    }

pub has_records : (journal : ℕ → ℕ) → IsJournal journal → HasRecords journal (record_count journal)
has_records journal is = record { records = is.records; closed = is.closed }

pub end_is : (journal : ℕ → ℕ) (n : ℕ) → HasRecords journal n → journal_end journal ≡ gate_of journal n
end_is journal n has = ap (gate_of journal) (count_is journal n has)

pub applied_is : (image : Image) (n : ℕ) → HasRecords (image Journal) n → applied image ≡ with_records (image Journal) n (image Pages)
unfolding applied
applied_is image n has = ap (λ (x : ℕ). with_records (image Journal) x (image Pages)) (count_is (image Journal) n has)

pub records_none : (journal p : ℕ → ℕ) → with_records journal 0 p ≡ p
unfolding with_records
records_none journal p = refl

pub records_more : (journal : ℕ → ℕ) (n : ℕ) (p : ℕ → ℕ) → with_records journal (suc n) p ≡ with_batch (batch_at journal (gate_of journal n)) (with_records journal n p)
unfolding with_records
records_more journal n p = refl

-- a first gate that is closed
pub none_at_closed : (journal : ℕ → ℕ) → journal 0 ≡ 0 → HasRecords journal 0
none_at_closed journal closed = record { records = λ k lt. absurd (omega arith); closed = ap journal (gate_first journal) ∙ closed }

-- ---- records over other pages

-- a page that one of the records writes: what stood there before doesn't matter
pub overwritten : (journal : ℕ → ℕ) (n m k i : ℕ) (p q : ℕ → ℕ) → m < n → k < (batch_at journal (gate_of journal m)).count → i / 4096 ≡ (batch_at journal (gate_of journal m)).number k
    → with_records journal n p i ≡ with_records journal n q i
overwritten journal zero m k i p q lt few page = absurd (omega arith)
overwritten journal (suc n) m k i p q lt few page =
    let b = batch_at journal (gate_of journal n) in
    ap (λ (f : ℕ → ℕ). f i) (records_more journal n p)
    ∙ same_up_to b b b.count i (with_records journal n p) (with_records journal n q) (λ j l. refl) (λ j x l f. refl)
    (λ apart. ⊎_elim
    (λ (l : m < n). overwritten journal n m k i p q l few page)
    (λ (g : n ≤ m).
    let is : m ≡ n = omega arith in
    absurd (apart k (subst (λ (x : ℕ). k < (batch_at journal (gate_of journal x)).count) is few) (subst (λ (x : ℕ). i / 4096 ≡ (batch_at journal (gate_of journal x)).number k) is page)))
    (cases_lt m n))
    ∙ sym (ap (λ (f : ℕ → ℕ). f i) (records_more journal n q))

-- pages that agree at a place, or are written there
pub pointwise : (journal : ℕ → ℕ) (n i : ℕ) (p q : ℕ → ℕ) → p i ≡ q i → with_records journal n p i ≡ with_records journal n q i
pointwise journal zero i p q same = ap (λ (f : ℕ → ℕ). f i) (records_none journal p) ∙ same ∙ sym (ap (λ (f : ℕ → ℕ). f i) (records_none journal q))
pointwise journal (suc n) i p q same =
    let b = batch_at journal (gate_of journal n) in
    ap (λ (f : ℕ → ℕ). f i) (records_more journal n p)
    ∙ same_up_to b b b.count i (with_records journal n p) (with_records journal n q) (λ j l. refl) (λ j x l f. refl) (λ apart. pointwise journal n i p q same)
    ∙ sym (ap (λ (f : ℕ → ℕ). f i) (records_more journal n q))

-- whether the first n of a batch write a place
pub batch_either : (b : Batch) (n i : ℕ) → ((k : ℕ) × (k < n) × (i / 4096 ≡ b.number k)) ⊎ ((k : ℕ) → k < n → i / 4096 ≢ b.number k)
batch_either b zero i = inr (λ k lt. absurd (omega arith))
batch_either b (suc n) i = ⊎_elim
    (λ (e : i / 4096 ≡ b.number n). inl (n, omega arith, e))
    (λ (ne : i / 4096 ≡ b.number n → ⊥). ⊎_elim
    (λ (some : (k : ℕ) × (k < n) × (i / 4096 ≡ b.number k)). inl (some.0, omega (arith, some.1), some.2))
    (λ (none : (k : ℕ) → k < n → i / 4096 ≢ b.number k).
    inr (λ k lt. ⊎_elim (λ (l : k < n). none k l) (λ (g : n ≤ k). let is : n ≡ k = omega arith in subst (λ (x : ℕ). i / 4096 ≢ b.number x) is ne) (cases_lt k n)))
    (batch_either b n i))
    (cases_eq (i / 4096) (b.number n))

-- a place is written by the records, or left alone
pub either : (journal : ℕ → ℕ) (n i : ℕ) → ((p q : ℕ → ℕ) → with_records journal n p i ≡ with_records journal n q i) ⊎ ((p : ℕ → ℕ) → with_records journal n p i ≡ p i)
either journal zero i = inr (λ p. ap (λ (f : ℕ → ℕ). f i) (records_none journal p))
either journal (suc n) i =
    let b = batch_at journal (gate_of journal n) in
    ⊎_elim
    (λ (some : (k : ℕ) × (k < b.count) × (i / 4096 ≡ b.number k)). inl (λ p q. overwritten journal (suc n) n some.0 i p q (omega arith) some.1 some.2))
    (λ (none : (k : ℕ) → k < b.count → i / 4096 ≢ b.number k). ⊎_elim
    (λ (same : (p q : ℕ → ℕ) → with_records journal n p i ≡ with_records journal n q i).
    inl (λ p q. ap (λ (f : ℕ → ℕ). f i) (records_more journal n p) ∙ untouched b b.count i (with_records journal n p) none ∙ same p q ∙ sym (untouched b b.count i (with_records journal n q) none) ∙ sym (ap (λ (f : ℕ → ℕ). f i) (records_more journal n q))))
    (λ (alone : (p : ℕ → ℕ) → with_records journal n p i ≡ p i). inr (λ p. ap (λ (f : ℕ → ℕ). f i) (records_more journal n p) ∙ untouched b b.count i (with_records journal n p) none ∙ alone p))
    (either journal n i))
    (batch_either b b.count i)

-- records written once more change nothing
pub again : (journal : ℕ → ℕ) (n : ℕ) (p : ℕ → ℕ) → with_records journal n (with_records journal n p) ≡ with_records journal n p
again journal n p = fun_ext (λ i. ⊎_elim (λ same. same (with_records journal n p) p) (λ alone. alone (with_records journal n p)) (either journal n i))

-- pages that agree where no record writes
pub covers : (journal : ℕ → ℕ) (n : ℕ) (p q : ℕ → ℕ) → ((i : ℕ) → ((m k : ℕ) → m < n → k < (batch_at journal (gate_of journal m)).count → i / 4096 ≢ (batch_at journal (gate_of journal m)).number k) → p i ≡ q i)
    → with_records journal n p ≡ with_records journal n q
covers journal n p q agree = fun_ext (λ i. ⊎_elim
    (λ same. same p q)
    (λ (alone : (r : ℕ → ℕ) → with_records journal n r i ≡ r i).
    pointwise journal n i p q (agree i (λ m k lt few page.
    let one = overwritten journal n m k i (λ x. 0) (λ x. 1) lt few page in
    let a : with_records journal n (λ x. 0) i ≡ 0 = alone (λ x. 0) in
    let b : with_records journal n (λ x. 1) i ≡ 1 = alone (λ x. 1) in
    omega arith)))
    (either journal n i))

-- ---- journals that are the same up to a gate; the first gate may hold another open value

-- a record is the same where the journal is, behind its gate and up to the next
module _ (old new : ℕ → ℕ) (at : ℕ) (r : IsRecordAt old at) (same : (i : ℕ) → at < i → i < next_gate old at → new i ≡ old i) where
  same_word : (place : ℕ) → at < place → place + 4 ≤ next_gate old at → word new place ≡ word old place
  same_word place low high =
      let e0 = same place low (omega arith) in
      let e1 = same (place + 1) (omega arith) (omega arith) in
      let e2 = same (place + 2) (omega arith) (omega arith) in
      let e3 = same (place + 3) (omega arith) (omega arith) in
      omega arith

  pub same_count : (batch_at new at).count ≡ (batch_at old at).count
  same_count = same_word (at + 1) (omega arith) (omega arith)

  pub same_next : next_gate new at ≡ next_gate old at
  same_next = ap (λ (n : ℕ). at + 5 + 4100 * n) same_count

  same_number : (k : ℕ) → k < (batch_at old at).count → (batch_at new at).number k ≡ (batch_at old at).number k
  same_number k lt = same_word (at + 5 + 4100 * k) (omega arith) (omega arith)

  pub same_batch : (p : ℕ → ℕ) → with_batch (batch_at new at) p ≡ with_batch (batch_at old at) p
  same_batch p = fun_ext (λ i. ap (λ (n : ℕ). written_up_to (batch_at new at) n p i) same_count
      ∙ same_up_to (batch_at new at) (batch_at old at) (batch_at old at).count i p p same_number (λ k j lt fits. same (at + 9 + 4100 * k + j) (omega arith) (omega arith)) (λ apart. refl))

  pub same_record_at : new at ≢ 0 → IsRecordAt new at
  same_record_at gate = record {
    open_gate = gate;
    some = let c = same_count in let s = r.some in subst (λ (n : ℕ). 0 < n) (sym c) s;
    fits = subst (λ (n : ℕ). n + 1 < 2 ^ 48) (sym same_next) r.fits;
    ascending = λ k lt.
        let below : k + 1 < (batch_at old at).count = subst (λ (n : ℕ). k + 1 < n) same_count lt in
        let a = same_number k (omega arith) in
        let b = same_number (k + 1) below in
        subst (λ (x : ℕ). (batch_at new at).number k < x) (sym b) (subst (λ (x : ℕ). x < (batch_at old at).number (k + 1)) (sym a) (r.ascending k below));
  }

-- the first n records of a journal that is the same up to the gate behind them
module _ (old new : ℕ → ℕ) (n : ℕ) (records : (k : ℕ) → k < n → IsRecordAt old (gate_of old k)) (same : (i : ℕ) → 0 < i → i < gate_of old n → new i ≡ old i) where
  -- behind the gate of one of the records
  here : (k : ℕ) → k < n → (i : ℕ) → gate_of old k < i → i < next_gate old (gate_of old k) → new i ≡ old i
  here k lt i low high = let le = gate_le old (suc k) n (omega arith) in let s = gate_next old k in same i (omega arith) (omega arith)

  pub gates_same : (m : ℕ) → m ≤ n → gate_of new m ≡ gate_of old m
  gates_same zero le = gate_first new ∙ sym (gate_first old)
  gates_same (suc m) le =
      let so_far = gates_same m (omega arith) in
      gate_next new m ∙ ap (next_gate new) so_far ∙ same_next old new (gate_of old m) (records m (omega arith)) (here m (omega arith)) ∙ sym (gate_next old m)

  pub records_same : (m : ℕ) → m ≤ n → (p : ℕ → ℕ) → with_records new m p ≡ with_records old m p
  records_same zero le p = records_none new p ∙ sym (records_none old p)
  records_same (suc m) le p =
      let so_far = records_same m (omega arith) p in
      records_more new m p
      ∙ ap₂ (λ (a : ℕ) (f : ℕ → ℕ). with_batch (batch_at new a) f) (gates_same m (omega arith)) so_far
      ∙ same_batch old new (gate_of old m) (records m (omega arith)) (here m (omega arith)) (with_records old m p)
      ∙ sym (records_more old m p)

  -- the first gate is open where there is a record
  module _ (gate : 0 < n → new 0 ≢ 0) where
    opened : (k : ℕ) → k < n → new (gate_of old k) ≢ 0
    opened zero lt = subst (λ (x : ℕ). new x ≢ 0) (sym (gate_first old)) (gate lt)
    opened (suc k) lt = λ e.
        let s = gate_next old k in
        let le = gate_le old (suc (suc k)) n (omega arith) in
        let t = gate_next old (suc k) in
        (records (suc k) lt).open_gate (sym (same (gate_of old (suc k)) (omega arith) (omega arith)) ∙ e)

    pub record_same : (k : ℕ) → k < n → IsRecordAt new (gate_of new k)
    record_same k lt = subst (IsRecordAt new) (sym (gates_same k (omega arith))) (same_record_at old new (gate_of old k) (records k lt) (here k lt) (opened k lt))

-- the whole journal, its first gate open before a record and its last one closed
pub has_same : (old new : ℕ → ℕ) (n : ℕ) → HasRecords old n → ((i : ℕ) → 0 < i → i < gate_of old n → new i ≡ old i) → (0 < n → new 0 ≢ 0) → new (gate_of old n) ≡ 0 → HasRecords new n
has_same old new n has same gate closed = record {
  records = record_same old new n has.records same gate;
  closed = ap new (gates_same old new n has.records same n (omega arith)) ∙ closed;
}

-- one record more
pub has_more : (journal : ℕ → ℕ) (n : ℕ) → ((k : ℕ) → k < n → IsRecordAt journal (gate_of journal k)) → IsRecordAt journal (gate_of journal n) → journal (next_gate journal (gate_of journal n)) ≡ 0 → HasRecords journal (suc n)
has_more journal n records one closed = record {
  records = λ k lt. ⊎_elim (λ (l : k < n). records k l) (λ (g : n ≤ k). let is : n ≡ k = omega arith in subst (λ (x : ℕ). IsRecordAt journal (gate_of journal x)) is one) (cases_lt k n);
  closed = ap journal (gate_next journal n) ∙ closed;
}

-- the gate behind one more record, from a journal that is the same
pub place_more : (j j1 : ℕ → ℕ) (n at next : ℕ) → j1 ≡ j → at ≡ gate_of j n → next ≡ next_gate j1 at → next ≡ gate_of j (n + 1)
place_more j j1 n at next same place is = rw add-one (is ∙ ap₂ (λ (f : ℕ → ℕ) (x : ℕ). next_gate f x) same place ∙ sym (gate_next j n))

-- one more record that was looked at
pub records_next : (j j1 : ℕ → ℕ) (n at : ℕ) → j1 ≡ j → at ≡ gate_of j n → ((k : ℕ) → k < n → IsRecordAt j (gate_of j k)) → IsRecordAt j1 at → (k : ℕ) → k < n + 1 → IsRecordAt j (gate_of j k)
records_next j j1 n at same place records one k lt = ⊎_elim
    (λ (l : k < n). records k l)
    (λ (g : n ≤ k). let is : n ≡ k = omega arith in subst (λ (x : ℕ). IsRecordAt j (gate_of j x)) is (subst (IsRecordAt j) place (subst (λ (f : ℕ → ℕ). IsRecordAt f at) same one)))
    (cases_lt k n)

-- the pages of one more record
pub done_more : (j j1 : ℕ → ℕ) (n at : ℕ) (p0 p1 p2 : ℕ → ℕ) → j1 ≡ j → at ≡ gate_of j n → p1 ≡ with_records j n p0 → p2 ≡ with_batch (batch_at j1 at) p1 → p2 ≡ with_records j (n + 1) p0
done_more j j1 n at p0 p1 p2 same place so_far done = rw add-one
    (done ∙ ap (λ (p : ℕ → ℕ). with_batch (batch_at j1 at) p) so_far
    ∙ ap₂ (λ (f : ℕ → ℕ) (x : ℕ). with_batch (batch_at f x) (with_records j n p0)) same place ∙ sym (records_more j n p0))

-- ---- what an image stands for

-- with its records written
pub stands_with : (image : Image) (n : ℕ) → HasRecords (image Journal) n → StandsFor image (with_records (image Journal) n (image Pages))
stands_with image n has = (is_journal (image Journal) n has, sym (applied_is image n has))

-- with its first gate closed, an image stands for its own pages
pub stands_closed : (image : Image) → image Journal 0 ≡ 0 → StandsFor image (image Pages)
stands_closed image closed =
    let has = none_at_closed (image Journal) closed in
    (is_journal (image Journal) 0 has, sym (applied_is image 0 has ∙ records_none (image Journal) (image Pages)))

-- where the journal is empty, the pages are those in the area
pub ready_0 : (world : World) → IsReady 0 world → applied world.seen ≡ world.seen Pages
ready_0 world ready =
    let journal = world.seen Journal in
    let few = count_le journal (record_count journal) in
    let none : record_count journal ≡ 0 = omega (arith, ready.end) in
    let has : HasRecords journal 0 = subst (HasRecords journal) none (has_records journal ready.journal) in
    applied_is world.seen 0 has ∙ records_none journal (world.seen Pages)
