-- How a run of calls goes on.
use Rattle.std.proofs.Common.{◌≡◌, ◌⊎◌, inl, inr, ⊎_elim, ℕ, ◌≤◌, List, arith, refl, ap, ◌∙◌, subst}
use Rattle.std.proofs.Common.{◌<◌, ◌+◌, ◌++◌, [], ◌∷◌, length, Result, Ok, Err, OnOk, sym, append_assoc}
use Rattle.std.proofs.lemmas.List.{append-nil}
use Rattle.disk_model.specs.declared.disk.Area.{Area}
use Rattle.disk_model.specs.declared.disk.Failed.{Failed}
use Rattle.disk_model.specs.World.{World, Image, Range, LeavesOnly, Nothing, LeavesOnlySeen, Keeps, HasRead, HasWritten, HasSynced, WritesNothing, ReadsJournalOnly}
use Rattle.disk_model.specs.declared.disk.Area.TheVariants.{Pages, Journal}
use Rattle.std.specs.List.{AllByRecursion}
use mathlib.Core.Path.{fun_ext}

module _ {P : Image → List ℕ → Type 0} where
  -- before the first call
  pub started : (w : World) → LeavesOnly w w P
  started w = record { later = omega arith; each = λ t image said le left. inl left }

  -- one run after another
  pub then : {a b c : World} → LeavesOnly a b P → LeavesOnly b c P → LeavesOnly a c P
  then ab bc = record {
    later = omega (arith, ab.later, bc.later);
    each = λ t image said le left. ⊎_elim (ab.each t image said le) inr (bc.each t image said (omega (arith, le, ab.later)) left);
  }

  -- a run whose pairs have P
  pub within : {a b : World} {Q : Image → List ℕ → Type 0} → LeavesOnly a b Q → ((image : Image) (said : List ℕ) → Q image said → P image said) → LeavesOnly a b P
  within ab holds = record { later = ab.later; each = λ t image said le left. ⊎_elim inl (λ q. inr (holds image said q)) (ab.each t image said le left) }

  -- a call that adds no pair
  pub rested : {a b : World} → LeavesOnly a b Nothing → LeavesOnly a b P
  rested ab = within ab (λ image said none. absurd none)

-- ---- reads

all-append : (xs ys : List Range) → AllByRecursion (λ (r : Range). r.area ≡ Journal) xs → AllByRecursion (λ (r : Range). r.area ≡ Journal) ys → AllByRecursion (λ (r : Range). r.area ≡ Journal) (xs ++ ys)
all-append [] ys hx hy = hy
all-append (x ∷ xs) ys hx hy = (hx.0, all-append xs ys hx.1 hy)

pub reads_same : {a b : World} → b.reads ≡ a.reads → ReadsJournalOnly a b
reads_same {a = a} is = record { more = []; are = is ∙ sym (append-nil a.reads); each = tt }

pub reads_then : {a b c : World} → ReadsJournalOnly a b → ReadsJournalOnly b c → ReadsJournalOnly a c
reads_then {a = a} ab bc = record {
  more = ab.more ++ bc.more;
  are = bc.are ∙ ap (λ (l : List Range). l ++ bc.more) ab.are ∙ append_assoc a.reads ab.more bc.more;
  each = all-append ab.more bc.more ab.each bc.each;
}

pub reads_read : {T : Type 0} {a b : World} {at : ℕ} {bytes : List ℕ} {result : Result T Failed} → HasRead Journal at bytes a b result → ReadsJournalOnly a b
reads_read {result = Ok x} h = record { more = _; are = h.taken; each = (refl, tt) }
reads_read {result = Err e} h = ⊎_elim reads_same (λ is. record { more = _; are = is; each = (refl, tt) }) h.taken_err

-- ---- runs that write nothing

pub rested_then : {a b c : World} → WritesNothing a b → WritesNothing b c → WritesNothing a c
rested_then ab bc = record {
  seen = bc.seen ∙ ab.seen;
  crash = λ image may. ab.crash image (bc.crash image may);
  adds = then ab.adds bc.adds;
  said = bc.said ∙ ab.said;
  reads = reads_then ab.reads bc.reads;
}

pub rested_read : {T : Type 0} {a b : World} {at : ℕ} {bytes : List ℕ} {result : Result T Failed} → HasRead Journal at bytes a b result → WritesNothing a b
rested_read h = record { seen = h.rests.seen; crash = h.rests.crash; adds = h.rests.time.adds; said = h.said; reads = reads_read h }

pub rested_sync : {T : Type 0} {a b : World} {area : Area} {result : Result T Failed} → HasSynced area a b result → WritesNothing a b
rested_sync h = record { seen = h.rests.seen; crash = h.rests.crash; adds = h.rests.time.adds; said = h.said; reads = reads_same h.reads }

-- after both areas have been synced nothing is pending
pub quiet_by_syncs : {b c : World} → ((image : Image) → b.may_leave image → image Journal ≡ b.seen Journal) → WritesNothing b c → ((image : Image) → c.may_leave image → image Pages ≡ c.seen Pages) → LeavesOnlySeen c
quiet_by_syncs {b = b} {c = c} journal bc pages image may =
    let j : image Journal ≡ c.seen Journal = journal image (bc.crash image may) ∙ sym (ap (λ (m : Image). m Journal) bc.seen) in
    let each : (area : Area) → image area ≡ c.seen area = elim [ Pages ↦ pages image may | Journal ↦ j ] in
    fun_ext each

-- phases of calls that keep some places
module _ {K : Area → ℕ → Type 0} where
  pub keeps_at_start : (w : World) → LeavesOnlySeen w → Keeps K w w
  keeps_at_start w quiet = record {
    seen = λ a i k. refl;
    may = λ image may a i k. ap (λ (m : Image). m a i) (quiet image may);
    adds = started w;
    said = refl;
    reads = reads_same refl;
  }

  pub keeps_at_write : {T : Type 0} {a b c : World} {area : Area} {at : ℕ} {bytes : List ℕ} {result : Result T Failed} → Keeps K a b → HasWritten area at bytes b c result
      → ((i : ℕ) → K area i → (i < at) ⊎ (at + length bytes ≤ i)) → Keeps K a c
  keeps_at_write {a = a} {b = b} {c = c} {area = area} {at = at} {bytes = bytes} ab bc apart =
      let out : (r : Area) (i : ℕ) → K r i → r ≡ area → (i < at) ⊎ (at + length bytes ≤ i) = λ r i k e. apart i (subst (λ (x : Area). K x i) e k) in
      record {
        seen = λ r i k. bc.torn.same r i (out r i k) ∙ ab.seen r i k;
        may = λ image may r i k. let from = bc.crash image may in from.torn.same r i (out r i k) ∙ ab.may from.old from.may r i k;
        adds = then ab.adds (within bc.time.adds (λ image said d. (λ r i k. d.0.torn.same r i (out r i k) ∙ ab.may d.0.old d.0.may r i k, d.1 ∙ ab.said)));
        said = bc.said ∙ ab.said;
        reads = reads_then ab.reads (reads_same bc.reads);
      }

  -- a phase that comes after calls that write nothing
  pub keeps_at_later : {a b c : World} → WritesNothing a b → Keeps K b c → Keeps K a c
  keeps_at_later {a = a} {b = b} {c = c} ab bc =
      let same : (r : Area) (i : ℕ) → b.seen r i ≡ a.seen r i = λ r i. ap (λ (m : Image). m r i) ab.seen in
      record {
        seen = λ r i k. bc.seen r i k ∙ same r i;
        may = λ image may r i k. bc.may image may r i k ∙ same r i;
        adds = then (rested ab.adds) (within bc.adds (λ image said d. (λ r i k. d.0 r i k ∙ same r i, d.1 ∙ ab.said)));
        said = bc.said ∙ ab.said;
        reads = reads_then ab.reads bc.reads;
      }

  -- a phase that kept the journal, and ends with a sync of the pages
  pub quiet_in_pages : {T : Type 0} {a b c : World} {result : Result T Failed} → Keeps K a b → ((i : ℕ) → K Journal i) → HasSynced Pages b c result → OnOk result (LeavesOnlySeen c)
  quiet_in_pages {a = a} {b = b} {c = c} {result = Ok x} ab kept bc = λ image may.
      let journal : (i : ℕ) → image Journal i ≡ c.seen Journal i = λ i. ab.may image (bc.rests.crash image may) Journal i (kept i) ∙ sym (ab.seen Journal i (kept i)) ∙ sym (ap (λ (m : Image). m Journal i) bc.rests.seen) in
      let each : (area : Area) → image area ≡ c.seen area = elim [ Pages ↦ bc.durable image may | Journal ↦ fun_ext journal ] in
      fun_ext each
  quiet_in_pages {result = Err e} ab kept bc = tt
