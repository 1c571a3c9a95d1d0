-- What opening a store reads.
use Rattle.std.proofs.Common.{◌≡◌, ℕ, ◌<◌, inl, inr, ⊎_elim, List, [], ◌∷◌, ◌++◌, ◌*◌, refl, ap, ◌∙◌, arith, append_assoc}
use Rattle.std.specs.List.{AllByRecursion}
use Rattle.disk_model.specs.World.{World, Range, Image, WritesNothing}
use Rattle.disk_model.specs.declared.disk.Area.TheVariants.{Pages, Journal}
use Rattle.page_journal.specs.Record.{SaysNothing}
use Rattle.page_store.specs.Opening.{IsOpeningRead, SaysNothingReadsHead, Recovers}
use Rattle.page_store.specs.Store.{ReadsPage, rests_then}

-- reads of the journal alone are an opening's
are_opening : (reads : List Range) → AllByRecursion (λ (r : Range). r.area ≡ Journal) reads → AllByRecursion IsOpeningRead reads
are_opening [] all = tt
are_opening (r ∷ reads) all = (inl all.0, are_opening reads all.1)

-- and so are these with a read of page 0 behind them
are_opening-more : (reads : List Range) → AllByRecursion IsOpeningRead reads → AllByRecursion IsOpeningRead (reads ++ record { area = Pages; at = 4096 * 0; len = 4096 } ∷ [])
are_opening-more [] all = (inr (refl, omega arith), tt)
are_opening-more (r ∷ reads) all = (all.0, are_opening-more reads all.1)

-- a recovery reads the journal alone
pub recovery_is_quiet : {a b : World} → SaysNothing a b → SaysNothingReadsHead a b
recovery_is_quiet h = record { said = h.said; more = h.reads.more; reads = h.reads.are; each = are_opening h.reads.more h.reads.each }

-- a recovery and then a read of page 0
pub opening_is_quiet : {a b c : World} → SaysNothing a b → ReadsPage 0 b c → SaysNothingReadsHead a c
opening_is_quiet {a = a} h read = ⊎_elim
    (λ none. record { said = read.rests.said ∙ h.said; more = h.reads.more; reads = none ∙ h.reads.are; each = are_opening h.reads.more h.reads.each })
    (λ one. record {
      said = read.rests.said ∙ h.said;
      more = h.reads.more ++ record { area = Pages; at = 4096 * 0; len = 4096 } ∷ [];
      reads = one ∙ ap (λ (l : List Range). l ++ record { area = Pages; at = 4096 * 0; len = 4096 } ∷ []) h.reads.are ∙ append_assoc a.reads h.reads.more (record { area = Pages; at = 4096 * 0; len = 4096 } ∷ []);
      each = are_opening-more h.reads.more (are_opening h.reads.more h.reads.each);
    })
    read.reads

-- a recovery, by what it says of the first gate and of the bytes behind it
pub recovery_recovers : {a b : World} → (a.seen Journal 0 ≡ 0 → WritesNothing a b) → ((i : ℕ) → 0 < i → b.seen Journal i ≡ a.seen Journal i) → Recovers a b
recovery_recovers closed journal = record {
  closed = λ e. let none = closed e in record { seen = none.seen; crash = none.crash; adds = none.adds; said = none.said };
  journal = journal;
}

-- a recovery and then a read of page 0
pub opening_recovers : {a b c : World} → (a.seen Journal 0 ≡ 0 → WritesNothing a b) → ((i : ℕ) → 0 < i → b.seen Journal i ≡ a.seen Journal i) → ReadsPage 0 b c → Recovers a c
opening_recovers closed journal read = record {
  closed = λ e. rests_then ((recovery_recovers closed journal).closed e) read.rests;
  journal = λ i lt. ap (λ (m : Image). m Journal i) read.rests.seen ∙ journal i lt;
}
