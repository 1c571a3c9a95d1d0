-- What a crash leaves in each step of an append, a checkpoint and a recovery.
use Rattle.std.proofs.Common.{◌≡◌, ◌≢◌, ◌⊎◌, inl, inr, ⊎_elim, ℕ, suc, ◌+◌, ◌*◌, ◌/◌, ◌^◌, ◌<◌, ◌≤◌, List, length, Result, refl, sym, ◌∙◌, ap, ap₂, subst, arith}
use Rattle.std.proofs.lemmas.Bool.{cases_eq}
use mathlib.Core.Path.{fun_ext}
use Rattle.disk_model.specs.World.{World, Image, AgreeAt, LeavesOnly, LeavesOnlySeen, Keeps, WritesNothing, HasWritten, Written}
use Rattle.disk_model.specs.declared.disk.Area.{Area}
use Rattle.disk_model.specs.declared.disk.Failed.{Failed}
use Rattle.disk_model.specs.declared.disk.Area.TheVariants.{Pages, Journal}
use Rattle.disk_model.proofs.Moments.{started, then, within, reads_same, reads_then, rested as no_pair, keeps_at_later}
use Rattle.page_journal.specs.Record.{Batch, IsAscending, batch_of, batch_at, next_gate, written_up_to, with_batch, IsRecordAt, gate_of, with_records, record_count, journal_end, IsJournal, HasRecords, applied, StandsFor, LeavesPages, IsBeforeOrAfter, StandsAlike, IsReady, IsOverwritten, OverwritesAlso, AreLastImages, IsRecordOf, AllBehindGate, AllButGate, AllButPages, AllButRecords, Spares}
use Rattle.page_journal.proofs.Batches.{same_up_to}
use Rattle.page_journal.proofs.Bytes.{HoldsRecord, holds_record, record_size}
use Rattle.page_journal.proofs.Gates.{gate_next, gate_first, count_le, count_is, is_journal, has_records, end_is, applied_is, records_none, records_more, none_at_closed, pointwise, batch_either, again, covers, gates_same, records_same, record_same, has_same, has_more, stands_with, stands_closed}

-- ---- writes that spare some places, whatever was pending before

module _ {K : Area → ℕ → Type 0} where
  -- before the first call
  pub spares_at_start : (w : World) → Spares K w w
  spares_at_start w = record {
    seen = λ a i k. refl;
    may = λ image may. record { old = image; may = may; same = λ a i k. refl };
    adds = started w;
    said = refl;
    reads = reads_same refl;
  }

  -- then a call that writes nothing
  pub spares_at_rested : {a b c : World} → Spares K a b → WritesNothing b c → Spares K a c
  spares_at_rested {a = a} {b = b} {c = c} ab bc = record {
    seen = λ r i k. ap (λ (m : Image). m r i) bc.seen ∙ ab.seen r i k;
    may = λ image may. ab.may image (bc.crash image may);
    adds = then ab.adds (no_pair bc.adds);
    said = bc.said ∙ ab.said;
    reads = reads_then ab.reads bc.reads;
  }

  -- then a write elsewhere
  pub spares_at_write : {T : Type 0} {a b c : World} {area : Area} {at : ℕ} {bytes : List ℕ} {result : Result T Failed} → Spares K a b → HasWritten area at bytes b c result
      → ((i : ℕ) → K area i → (i < at) ⊎ (at + length bytes ≤ i)) → Spares K a c
  spares_at_write {a = a} {b = b} {c = c} {area = area} {at = at} {bytes = bytes} ab bc apart =
      let out : (r : Area) (i : ℕ) → K r i → r ≡ area → (i < at) ⊎ (at + length bytes ≤ i) = λ r i k e. apart i (subst (λ (x : Area). K x i) e k) in
      record {
        seen = λ r i k. bc.torn.same r i (out r i k) ∙ ab.seen r i k;
        may = λ image may.
            let from = bc.crash image may in
            let first = ab.may from.old from.may in
            record { old = first.old; may = first.may; same = λ r i k. from.torn.same r i (out r i k) ∙ first.same r i k };
        adds = then ab.adds (within bc.time.adds (λ image said d.
            let first = ab.may d.0.old d.0.may in
            (record { old = first.old; may = first.may; same = λ r i k. d.0.torn.same r i (out r i k) ∙ first.same r i k }, d.1 ∙ ab.said)));
        said = bc.said ∙ ab.said;
        reads = reads_then ab.reads (reads_same bc.reads);
      }

-- a phase that keeps some places, then writes that spare them
pub keeps_at_spares : {K L : Area → ℕ → Type 0} {a b c : World} → ((r : Area) (i : ℕ) → K r i → L r i) → Keeps K a b → Spares L b c → Keeps K a c
keeps_at_spares sub ab bc = record {
  seen = λ r i k. bc.seen r i (sub r i k) ∙ ab.seen r i k;
  may = λ image may r i k. let from = bc.may image may in from.same r i (sub r i k) ∙ ab.may from.old from.may r i k;
  adds = then ab.adds (within bc.adds (λ image said d. (λ r i k. d.0.same r i (sub r i k) ∙ ab.may d.0.old d.0.may r i k, d.1 ∙ ab.said)));
  said = bc.said ∙ ab.said;
  reads = reads_then ab.reads bc.reads;
}

-- a place that no record writes isn't one of this record's
pub records_sub : (j j1 : ℕ → ℕ) (n m at : ℕ) → j1 ≡ j → at ≡ gate_of j m → m < n → (r : Area) (i : ℕ) → AllButRecords j n r i → AllButPages (batch_at j1 at) r i
records_sub j j1 n m at same place lt r i k = λ e.
    subst (λ (f : ℕ → ℕ). AllButPages (batch_at f at) r i) (sym same) (subst (λ (x : ℕ). AllButPages (batch_at j x) r i) (sym place) (k e m lt)) e

-- calls that write nothing leave nothing pending
pub still_safe : {a b : World} → LeavesOnlySeen a → WritesNothing a b → LeavesOnlySeen b
still_safe safe ab = λ image may. safe image (ab.crash image may) ∙ sym ab.seen

-- ---- images that stand for what the start does

-- a disk whose first gate is closed
pub ready_closed : (w : World) → LeavesOnlySeen w → w.seen Journal 0 ≡ 0 → IsReady 0 w
ready_closed w safe closed =
    let has = none_at_closed (w.seen Journal) closed in
    record { safe = safe; journal = is_journal (w.seen Journal) 0 has; end = end_is (w.seen Journal) 0 has ∙ gate_first (w.seen Journal) }

pub applied_closed : (image : Image) → image Journal 0 ≡ 0 → applied image ≡ image Pages
applied_closed image closed = applied_is image 0 (none_at_closed (image Journal) closed) ∙ records_none (image Journal) (image Pages)

module _ (start image : Image) (n : ℕ) (has : HasRecords (start Journal) n) where
  -- the first gate is open before a record
  pub first_open : 0 < n → start Journal 0 ≢ 0
  first_open some e = (has.records 0 some).open_gate (ap (start Journal) (gate_first (start Journal)) ∙ e)

  -- the journal is the same up to its end, and the records lead to the same pages
  pub stands_same : ((i : ℕ) → i < gate_of (start Journal) n → image Journal i ≡ start Journal i) → image Journal (gate_of (start Journal) n) ≡ 0
      → with_records (start Journal) n (image Pages) ≡ with_records (start Journal) n (start Pages) → StandsFor image (applied start)
  stands_same same closed pages =
      let below : (i : ℕ) → 0 < i → i < gate_of (start Journal) n → image Journal i ≡ start Journal i = λ i low high. same i high in
      let few = count_le (start Journal) n in
      let gate : 0 < n → image Journal 0 ≢ 0 = λ some e. first_open some (sym (same 0 (omega arith)) ∙ e) in
      let new = has_same (start Journal) (image Journal) n has below gate closed in
      subst (StandsFor image) (records_same (start Journal) (image Journal) n has.records below n (omega arith) (image Pages) ∙ pages ∙ sym (applied_is start n has)) (stands_with image n new)

  -- the pages stand in their places, and the first gate may hold any value
  pub stands_closing : 0 < n → ((i : ℕ) → 0 < i → image Journal i ≡ start Journal i) → image Pages ≡ applied start → StandsFor image (applied start)
  stands_closing some same pages = ⊎_elim
      (λ (e : image Journal 0 ≡ 0). subst (StandsFor image) pages (stands_closed image e))
      (λ (ne : image Journal 0 ≡ 0 → ⊥).
      let below : (i : ℕ) → 0 < i → i < gate_of (start Journal) n → image Journal i ≡ start Journal i = λ i low high. same i low in
      let few = count_le (start Journal) n in
      let new = has_same (start Journal) (image Journal) n has below (λ l. ne) (same (gate_of (start Journal) n) (omega arith) ∙ has.closed) in
      let is : image Pages ≡ with_records (start Journal) n (start Pages) = pages ∙ applied_is start n has in
      subst (StandsFor image)
      (records_same (start Journal) (image Journal) n has.records below n (omega arith) (image Pages)
      ∙ ap (λ (p : ℕ → ℕ). with_records (start Journal) n p) is ∙ again (start Journal) n (start Pages) ∙ sym (applied_is start n has))
      (stands_with image n new))
      (cases_eq (image Journal 0) 0)

-- ---- append

-- the batch of a record that the journal holds
held_batch : (batch : Batch) (journal : ℕ → ℕ) (at : ℕ) → HoldsRecord batch journal at → (p : ℕ → ℕ) → with_batch (batch_at journal at) p ≡ with_batch batch p
held_batch batch journal at held p = fun_ext (λ i.
    ap (λ (n : ℕ). written_up_to (batch_at journal at) n p i) held.count
    ∙ same_up_to (batch_at journal at) batch batch.count i p p held.number held.byte (λ apart. refl))

held_next : (batch : Batch) (journal : ℕ → ℕ) (at : ℕ) → HoldsRecord batch journal at → next_gate journal at ≡ at + 5 + 4100 * batch.count
held_next batch journal at held = ap (λ (n : ℕ). at + 5 + 4100 * n) held.count

-- a gate opened before a record
held_record : (batch : Batch) (journal : ℕ → ℕ) (at : ℕ) → HoldsRecord batch journal at → 0 < batch.count → IsAscending batch → at + 5 + 4100 * batch.count + 1 < 2 ^ 48 → journal at ≢ 0 → IsRecordAt journal at
held_record batch journal at held some ascending fits gate = record {
  open_gate = gate;
  some = subst (λ (n : ℕ). 0 < n) (sym held.count) some;
  fits = subst (λ (n : ℕ). n + 1 < 2 ^ 48) (sym (held_next batch journal at held)) fits;
  ascending = λ k lt.
      let below : k + 1 < batch.count = subst (λ (n : ℕ). k + 1 < n) held.count lt in
      let a = held.number k (omega arith) in
      let b = held.number (k + 1) below in
      subst (λ (x : ℕ). (batch_at journal at).number k < x) (sym b) (subst (λ (x : ℕ). x < batch.number (k + 1)) (sym a) (ascending k below));
}

-- an image with one more record behind those of the start
module _ (start image : Image) (n : ℕ) (has : HasRecords (start Journal) n) (batch : Batch) (same : (i : ℕ) → i < gate_of (start Journal) n → image Journal i ≡ start Journal i)
    (held : HoldsRecord batch (image Journal) (gate_of (start Journal) n)) (some : 0 < batch.count) (ascending : IsAscending batch)
    (fits : gate_of (start Journal) n + 5 + 4100 * batch.count + 1 < 2 ^ 48) (gate : image Journal (gate_of (start Journal) n) ≢ 0) where
  below : (i : ℕ) → 0 < i → i < gate_of (start Journal) n → image Journal i ≡ start Journal i
  below i low high = same i high

  opened : 0 < n → image Journal 0 ≢ 0
  opened l e = let few = count_le (start Journal) n in first_open start image n has l (sym (same 0 (omega arith)) ∙ e)

  gate_is : gate_of (image Journal) n ≡ gate_of (start Journal) n
  gate_is = gates_same (start Journal) (image Journal) n has.records below n (omega arith)

  pub one_more : HasRecords (image Journal) (suc n)
  one_more = has_more (image Journal) n (record_same (start Journal) (image Journal) n has.records below opened)
      (subst (IsRecordAt (image Journal)) (sym gate_is) (held_record batch (image Journal) (gate_of (start Journal) n) held some ascending fits gate))
      (ap (λ (x : ℕ). image Journal (next_gate (image Journal) x)) gate_is ∙ ap (image Journal) (held_next batch (image Journal) (gate_of (start Journal) n) held) ∙ held.closed)

  pub end_more : journal_end (image Journal) ≡ gate_of (start Journal) n + 5 + 4100 * batch.count
  end_more = end_is (image Journal) (suc n) one_more ∙ gate_next (image Journal) n ∙ ap (next_gate (image Journal)) gate_is ∙ held_next batch (image Journal) (gate_of (start Journal) n) held

  pub records_more_is : (p : ℕ → ℕ) → with_records (image Journal) (suc n) p ≡ with_batch batch (with_records (start Journal) n p)
  records_more_is p =
      records_more (image Journal) n p
      ∙ ap₂ (λ (a : ℕ) (f : ℕ → ℕ). with_batch (batch_at (image Journal) a) f) gate_is (records_same (start Journal) (image Journal) n has.records below n (omega arith) p)
      ∙ held_batch batch (image Journal) (gate_of (start Journal) n) held (with_records (start Journal) n p)

  pub stands_after : image Pages ≡ start Pages → StandsFor image (with_batch batch (applied start))
  stands_after pages = subst (StandsFor image)
      (records_more_is (image Pages) ∙ ap (λ (p : ℕ → ℕ). with_batch batch (with_records (start Journal) n p)) pages ∙ ap (λ (p : ℕ → ℕ). with_batch batch p) (sym (applied_is start n has)))
      (stands_with image (suc n) one_more)

  -- a page that the records up to this one write
  pub overwrites : (number : ℕ) → ((p q : ℕ → ℕ) (i : ℕ) → i / 4096 ≡ number → with_batch batch (with_records (start Journal) n p) i ≡ with_batch batch (with_records (start Journal) n q) i) → IsOverwritten (image Journal) number
  overwrites number both = λ p q i page.
      let count = count_is (image Journal) (suc n) one_more in
      let of : (r : ℕ → ℕ) → with_records (image Journal) (record_count (image Journal)) r i ≡ with_batch batch (with_records (start Journal) n r) i =
      λ r. ap (λ (x : ℕ). with_records (image Journal) x r i) count ∙ ap (λ (f : ℕ → ℕ). f i) (records_more_is r) in
      of p ∙ both p q i page ∙ sym (of q)

  pub overwrites_also : OverwritesAlso batch start image
  overwrites_also = record {
    still = λ number over. overwrites number (λ p q i page.
        let count = count_is (start Journal) n has in
        let of : (r : ℕ → ℕ) → with_records (start Journal) (record_count (start Journal)) r i ≡ with_records (start Journal) n r i = λ r. ap (λ (x : ℕ). with_records (start Journal) x r i) count in
        same_up_to batch batch batch.count i (with_records (start Journal) n p) (with_records (start Journal) n q) (λ k l. refl) (λ k j l f. refl) (λ apart. sym (of p) ∙ over p q i page ∙ of q));
    also = λ k lt. overwrites (batch.number k) (λ p q i page.
        same_up_to batch batch batch.count i (with_records (start Journal) n p) (with_records (start Journal) n q) (λ j l. refl) (λ j x l f. refl) (λ apart. absurd (apart k lt page)));
  }

-- an append's steps: w1 has the record behind its gate, and w2 the gate opened
module _ (at : ℕ) (w0 : World) (ready : IsReady at w0) where
  has_0 : HasRecords (w0.seen Journal) (record_count (w0.seen Journal))
  has_0 = has_records (w0.seen Journal) ready.journal

  before : (image : Image) → ((i : ℕ) → i < at → image Journal i ≡ w0.seen Journal i) → image Journal at ≡ 0 → ((i : ℕ) → image Pages i ≡ w0.seen Pages i) → StandsFor image (applied w0.seen)
  before image same closed pages = stands_same w0.seen image (record_count (w0.seen Journal)) has_0
      (λ i lt. same i (subst (λ (x : ℕ). i < x) ready.end lt)) (ap (image Journal) ready.end ∙ closed) (ap (λ (p : ℕ → ℕ). with_records (w0.seen Journal) (record_count (w0.seen Journal)) p) (fun_ext pages))

  pub in_write : (batch : Batch) (w1 : World) → Keeps (AllBehindGate at) w0 w1 → LeavesOnly w0 w1 (IsBeforeOrAfter batch w0)
  in_write batch w1 keeps = within keeps.adds (λ image said d.
      (inl (before image (λ i lt. d.0 Journal i (λ e. omega arith)) (d.0 Journal at (λ e. omega arith) ∙ sym (ap (w0.seen Journal) ready.end) ∙ ready.journal.closed) (λ i. d.0 Pages i (λ e. cc))), d.1))

  module _ (pages : List (ℕ × List ℕ)) (bytes : List ℕ) (is : IsRecordOf pages bytes) (fits : at + 1 + length bytes < 2 ^ 48) (w1 w2 : World) (written : Keeps (AllBehindGate at) w0 w1)
      (stands : Written Journal (at + 1) bytes w0.seen w1.seen) (ends : Keeps (AllButGate at) w1 w2) where
    size : length bytes ≡ 5 + 4100 * length pages
    size = ap length is.are ∙ record_size pages is.each

    -- an image that differs from w1's in the gate alone
    module _ (image : Image) (agrees : AgreeAt (AllButGate at) w1.seen image) where
      same : (i : ℕ) → i < at → image Journal i ≡ w0.seen Journal i
      same i lt = agrees Journal i (λ e is. omega arith) ∙ written.seen Journal i (λ e. omega arith)

      held : HoldsRecord (batch_of pages) (image Journal) at
      held = holds_record pages bytes (image Journal) at is (λ i j lt place. agrees Journal j (λ e is. omega arith) ∙ stands.inside i j lt place)

      area_same : (i : ℕ) → image Pages i ≡ w0.seen Pages i
      area_same i = agrees Pages i (λ e. cc) ∙ written.seen Pages i (λ e. cc)

      module _ (gate : image Journal at ≢ 0) where
        n : ℕ
        n = record_count (w0.seen Journal)

        after : {P : Type 0} → (((i : ℕ) → i < gate_of (w0.seen Journal) (record_count (w0.seen Journal)) → image Journal i ≡ w0.seen Journal i) → HoldsRecord (batch_of pages) (image Journal) (gate_of (w0.seen Journal) (record_count (w0.seen Journal)))
            → gate_of (w0.seen Journal) (record_count (w0.seen Journal)) + 5 + 4100 * length pages + 1 < 2 ^ 48 → image Journal (gate_of (w0.seen Journal) (record_count (w0.seen Journal))) ≢ 0 → P) → P
        after goal = goal
            (λ i lt. same i (subst (λ (x : ℕ). i < x) ready.end lt))
            (subst (HoldsRecord (batch_of pages) (image Journal)) (sym ready.end) held)
            (let e = ready.end in let s = size in omega arith)
            (λ e. gate (sym (ap (image Journal) ready.end) ∙ e))

        pub opened_stands : StandsFor image (with_batch (batch_of pages) (applied w0.seen))
        opened_stands = after (λ s h f g. stands_after w0.seen image (record_count (w0.seen Journal)) has_0 (batch_of pages) s h is.some is.ascending f g (fun_ext area_same))

        pub opened_end : journal_end (image Journal) ≡ at + length bytes
        opened_end = after (λ s h f g. end_more w0.seen image (record_count (w0.seen Journal)) has_0 (batch_of pages) s h is.some is.ascending f g) ∙ (let e = ready.end in let l = size in omega arith)

        pub opened_overwrites : OverwritesAlso (batch_of pages) w0.seen image
        opened_overwrites = after (λ s h f g. overwrites_also w0.seen image (record_count (w0.seen Journal)) has_0 (batch_of pages) s h is.some is.ascending f g)

    pub in_opening : LeavesOnly w0 w2 (IsBeforeOrAfter (batch_of pages) w0)
    in_opening = then (in_write (batch_of pages) w1 written) (within ends.adds (λ image said d. (
      ⊎_elim
          (λ (e : image Journal at ≡ 0). inl (before image (same image d.0) e (area_same image d.0)))
          (λ (ne : image Journal at ≡ 0 → ⊥). inr (opened_stands image d.0 ne))
          (cases_eq (image Journal at) 0),
      d.1 ∙ written.said,
    )))

    module _ (one : w2.seen Journal at ≡ 1) where
      opened_2 : w2.seen Journal at ≢ 0
      opened_2 e = omega (arith, one, e)

      pub appended : applied w2.seen ≡ with_batch (batch_of pages) (applied w0.seen)
      appended = sym (opened_stands w2.seen ends.seen opened_2).1

      pub append_ready : LeavesOnlySeen w2 → IsReady (at + length bytes) w2
      append_ready safe = record { safe = safe; journal = (opened_stands w2.seen ends.seen opened_2).0; end = opened_end w2.seen ends.seen opened_2 }

      pub append_overwrites : OverwritesAlso (batch_of pages) w0.seen w2.seen
      append_overwrites = opened_overwrites w2.seen ends.seen opened_2

-- ---- checkpoint: w1 has the pages in their places, and w2 the first gate closed

-- pages that agree but where records write the pages of a batch whole
alike : (journal : ℕ → ℕ) (batch : Batch) → ((k : ℕ) → k < batch.count → IsOverwritten journal (batch.number k)) → (p q : ℕ → ℕ)
    → ((i : ℕ) → ((k : ℕ) → k < batch.count → i / 4096 ≢ batch.number k) → p i ≡ q i) → with_records journal (record_count journal) p ≡ with_records journal (record_count journal) q
alike journal batch each p q agree = fun_ext (λ i. ⊎_elim
    (λ (some : (k : ℕ) × (k < batch.count) × (i / 4096 ≡ batch.number k)). each some.0 some.1 p q i some.2)
    (λ (none : (k : ℕ) → k < batch.count → i / 4096 ≢ batch.number k). pointwise journal (record_count journal) i p q (agree i none))
    (batch_either batch batch.count i))

module _ (w0 w1 : World) (batch : Batch) (journal : IsJournal (w0.seen Journal)) (last : AreLastImages batch w0.seen) (keeps : Keeps (AllButPages batch) w0 w1) where
  pub in_install : LeavesOnly w0 w1 (LeavesPages (applied w0.seen) w0)
  in_install = within keeps.adds (λ image said d.
      let same : image Journal ≡ w0.seen Journal = fun_ext (λ i. d.0 Journal i (λ e. cc)) in (
        stands_same w0.seen image (record_count (w0.seen Journal)) (has_records (w0.seen Journal) journal) (λ i lt. ap (λ (f : ℕ → ℕ). f i) same) (ap (λ (f : ℕ → ℕ). f (journal_end (w0.seen Journal))) same ∙ journal.closed)
            (alike (w0.seen Journal) batch last.each (image Pages) (w0.seen Pages) (λ i apart. d.0 Pages i (λ e. apart))),
        d.1,
      ))

  module _ (some : 0 < journal_end (w0.seen Journal)) (done : w1.seen Pages ≡ with_batch batch (w0.seen Pages)) (w2 : World) (ends : Keeps (AllButGate 0) w1 w2) where
    -- there is a record
    count_some : 0 < record_count (w0.seen Journal)
    count_some = ⊎_elim
        (λ (e : record_count (w0.seen Journal) ≡ 0). let z = ap (gate_of (w0.seen Journal)) e ∙ gate_first (w0.seen Journal) in absurd (omega (arith, some, z)))
        (λ (ne : record_count (w0.seen Journal) ≡ 0 → ⊥). omega (arith, ne))
        (cases_eq (record_count (w0.seen Journal)) 0)

    in_place : w1.seen Pages ≡ applied w0.seen
    in_place = done ∙ sym last.are

    pub placed : w2.seen Pages ≡ applied w0.seen
    placed = fun_ext (λ i. ends.seen Pages i (λ e. cc)) ∙ in_place

    pub in_closing : LeavesOnly w0 w2 (LeavesPages (applied w0.seen) w0)
    in_closing = then in_install (within ends.adds (λ image said d. (
      stands_closing w0.seen image (record_count (w0.seen Journal)) (has_records (w0.seen Journal) journal) count_some
          (λ i lt. d.0 Journal i (λ e is. omega arith) ∙ keeps.seen Journal i (λ e. cc)) (fun_ext (λ i. d.0 Pages i (λ e. cc)) ∙ in_place),
      d.1 ∙ keeps.said,
    )))

    pub checkpoint_applied : w2.seen Journal 0 ≡ 0 → applied w2.seen ≡ applied w0.seen
    checkpoint_applied closed = applied_closed w2.seen closed ∙ placed

-- ---- recovery: w1 is after both syncs and the look at all records, w2 with the pages in their places, and w3 with the first gate closed

module _ (w0 wa w1 : World) (n : ℕ) (ra : WritesNothing w0 wa) (rested : WritesNothing w0 w1) (has_a : HasRecords (wa.seen Journal) n) where
  has_start : HasRecords (w0.seen Journal) n
  has_start = subst (λ (m : Image). HasRecords (m Journal) n) ra.seen has_a

  -- before a closed first gate there is no record
  pub closed_none : w0.seen Journal 0 ≡ 0 → n ≡ 0
  closed_none closed = ⊎_elim
      (λ (e : n ≡ 0). e)
      (λ (ne : n ≡ 0 → ⊥). absurd (first_open w0.seen w0.seen n has_start (omega (arith, ne)) closed))
      (cases_eq n 0)

  module _ (none : n ≡ 0) where
    has_none : HasRecords (w0.seen Journal) 0
    has_none = subst (HasRecords (w0.seen Journal)) none has_start

    closed_1 : w1.seen Journal 0 ≡ 0
    closed_1 = ap (λ (m : Image). m Journal 0) rested.seen ∙ ap (w0.seen Journal) (sym (gate_first (w0.seen Journal))) ∙ has_none.closed

    pub none_applied : StandsFor w0.seen (w1.seen Pages)
    none_applied = (is_journal (w0.seen Journal) 0 has_none, ap (λ (m : Image). m Pages) rested.seen ∙ sym (applied_is w0.seen 0 has_none ∙ records_none (w0.seen Journal) (w0.seen Pages)))

    pub none_same : StandsFor w0.seen (applied w1.seen)
    none_same = subst (StandsFor w0.seen) (sym (applied_closed w1.seen closed_1)) none_applied

    pub none_ready : LeavesOnlySeen w1 → IsReady 0 w1
    none_ready safe = ready_closed w1 safe closed_1

  module _ (w2 : World) (keeps_1 : Keeps (AllButRecords (w1.seen Journal) n) w1 w2) where
    keeps_2 : Keeps (AllButRecords (w0.seen Journal) n) w0 w2
    keeps_2 = keeps_at_later rested (subst (λ (m : Image). Keeps (AllButRecords (m Journal) n) w1 w2) rested.seen keeps_1)

    pub journal_installing : (i : ℕ) → w2.seen Journal i ≡ w0.seen Journal i
    journal_installing i = keeps_2.seen Journal i (λ e. cc)

    pub in_installing : LeavesOnly w0 w2 (StandsAlike w0)
    in_installing = within keeps_2.adds (λ image said d. (
      λ pages stands. subst (StandsFor image) (sym stands.1)
          (stands_same w0.seen image n has_start (λ i lt. d.0 Journal i (λ e. cc)) (d.0 Journal (gate_of (w0.seen Journal) n) (λ e. cc) ∙ has_start.closed)
          (covers (w0.seen Journal) n (image Pages) (w0.seen Pages) (λ i apart. d.0 Pages i (λ e m lt again k few. apart m k lt few)))),
      d.1,
    ))

    module _ (some : n ≢ 0) (done : w2.seen Pages ≡ with_records (w1.seen Journal) n (w1.seen Pages)) (w3 : World) (ends : Keeps (AllButGate 0) w2 w3) where
      installed : w2.seen Pages ≡ applied w0.seen
      installed = subst (λ (m : Image). w2.seen Pages ≡ with_records (m Journal) n (m Pages)) rested.seen done ∙ sym (applied_is w0.seen n has_start)

      pub in_finishing : LeavesOnly w0 w3 (StandsAlike w0)
      in_finishing = then in_installing (within ends.adds (λ image said d. (
        λ pages stands. subst (StandsFor image) (sym stands.1)
            (stands_closing w0.seen image n has_start (omega (arith, some))
            (λ i lt. d.0 Journal i (λ e is. omega arith) ∙ keeps_2.seen Journal i (λ e. cc)) (fun_ext (λ i. d.0 Pages i (λ e. cc)) ∙ installed)),
        d.1 ∙ keeps_2.said,
      )))

      pub recovered : StandsFor w0.seen (w3.seen Pages)
      recovered = (is_journal (w0.seen Journal) n has_start, fun_ext (λ i. ends.seen Pages i (λ e. cc)) ∙ installed)

      pub recovered_same : w3.seen Journal 0 ≡ 0 → StandsFor w0.seen (applied w3.seen)
      recovered_same closed = subst (StandsFor w0.seen) (sym (applied_closed w3.seen closed)) recovered
