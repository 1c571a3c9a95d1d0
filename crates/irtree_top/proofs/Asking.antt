-- What a script that only asks reads, from its opening to its end.
use Rattle.std.proofs.Common.{◌≡◌, ℕ, inl, inr, List, ap, subst}
use Rattle.std.specs.Prelude.{Result, OnOk}
use Rattle.std.proofs.lemmas.Result.{on_ok_weaker}
use Rattle.disk_model.specs.World.{World, Range, ReadsJournalOnly}
use Rattle.disk_model.specs.declared.disk.Area.TheVariants.{Journal}
use Rattle.page_journal.specs.Record.{StandsFor, applied}
use Rattle.page_store.specs.Contents as stores
use Rattle.page_store.specs.Opening.{IsOpeningRead, SaysNothingReadsHead}
use Rattle.place_values.specs.State.{Contents}
use Rattle.irtree_engine.specs.Queries.{EachRead, contents_held}
use Rattle.irtree_engine.proofs.EachRead.{reads-by, reads-then}
use Rattle.run_outcome.specs.Asking.{IsReadForOneOf, ReadsForLines}
use Rattle.run_outcome.specs.Script.{script_lines}
use Rattle.run_outcome.specs.declared.ended.Ended.{Ended}
use Rattle.irtree_top.specs.Run.{IsAllowedRead, OpensFew}

module _ (state : Contents) (input : List ℕ) where
  -- the script's own reads are allowed
  pub script-opens : {T : Type 0} (result : Result T Ended) (old new : World) → OnOk result (ReadsForLines state (script_lines input) old new) → OnOk result (OpensFew state input old new)
  script-opens result old new asks =
      let held = contents_held old.seen in
      let lines = script_lines input in
      on_ok_weaker result (λ (reads : ReadsForLines state lines old new). reads-by (IsReadForOneOf held state lines) (IsAllowedRead held state lines) old new (λ r read. inr read) reads.1) asks

  -- so are those that settle the journal behind it
  pub settled-opens : {T : Type 0} (result : Result T Ended) (old now new : World) → OnOk result (OpensFew state input old now) → ReadsJournalOnly now new → OnOk result (OpensFew state input old new)
  settled-opens result old now new opens journal =
      let allowed = IsAllowedRead (contents_held old.seen) state (script_lines input) in
      let settles = reads-by (λ (r : Range). r.area ≡ Journal) allowed now new (λ r is. inl (inl is)) (record { taken = journal.more; are = journal.are; each = journal.each }) in
      on_ok_weaker result (λ (few : OpensFew state input old now). reads-then allowed old now new few settles) opens

  -- and those that open the store before it
  pub opened-opens : {T : Type 0} (result : Result T Ended) (old now new : World) → SaysNothingReadsHead old now → StandsFor old.seen (applied now.seen) → OnOk result (OpensFew state input now new) → OnOk result (OpensFew state input old new)
  opened-opens result old now new quiet stands opens =
      let allowed = IsAllowedRead (contents_held old.seen) state (script_lines input) in
      let opening = reads-by IsOpeningRead allowed old now (λ r is. inl is) (record { taken = quiet.more; are = quiet.reads; each = quiet.each }) in
      let same : contents_held now.seen ≡ contents_held old.seen = ap stores.contents_in stands.1 in
      on_ok_weaker result (λ (few : OpensFew state input now new). reads-then allowed old now new opening
      (subst (λ (held : stores.Contents). EachRead (IsAllowedRead held state (script_lines input)) now new) same few)) opens
