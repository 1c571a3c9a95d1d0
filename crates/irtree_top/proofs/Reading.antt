-- Which rule a script that only reads names.
use Rattle.std.proofs.Common.{◌≡◌, ◌⊎◌, inl, inr, refl, ap, subst}
use Rattle.std.specs.Prelude.{Bool, IsTrue, Result, Ok, Err, IfErr}
use Rattle.disk_model.specs.World.{World}
use Rattle.page_journal.specs.Record.{StandsFor, applied}
use Rattle.page_store.specs.Contents as pages
use Rattle.irtree_engine.specs.Damages.{IsQueryDamageIn, IsShownDamageIn}
use Rattle.irtree_engine.specs.Queries.{contents_held}
use Rattle.place_values.specs.declared.query.Query.{Query}
use Rattle.irtree_engine.specs.declared.fault.EngineFault.{EngineFault}
use Rattle.irtree_engine.specs.declared.fault.EngineFault.TheVariants as engine
use Rattle.run_outcome.specs.Causes.{end_of_engine}
use Rattle.run_outcome.specs.Reading.{IsMetIn}
use Rattle.run_outcome.specs.declared.ended.Ended.{Ended}
use Rattle.run_outcome.specs.declared.ended.Ended.TheVariants as ends
use Rattle.run_outcome.specs.declared.ended.StoreFault.TheVariants as stores
use Rattle.irtree_top.specs.Run.{NamesBrokenRule}
use Rattle.irtree_top.proofs.Openings.{Refuses}

-- a refused opening names the rule Head at page 0
pub refused-names : (readable : Bool) (old new : World) (fault : EngineFault) → IsTrue readable → Refuses readable old new fault → NamesBrokenRule old.seen (end_of_engine fault)
refused-names readable old new (engine.Damaged damage) told refuses = inl (refuses.head told damage refl)
refused-names readable old new engine.Disk told refuses = tt
refused-names readable old new engine.NotAStore told refuses = tt
refused-names readable old new engine.Version1 told refuses = tt
refused-names readable old new (engine.BadJournal at) told refuses = tt
refused-names readable old new engine.Full told refuses = tt
refused-names readable old new engine.Worn told refuses = tt
refused-names readable old new engine.NoRoom told refuses = tt
refused-names readable old new engine.Stopped told refuses = tt
refused-names readable old new engine.Memory told refuses = tt

module _ (old now : World) (stands : StandsFor old.seen (applied now.seen)) where
  -- what is met behind the opening the image at the start holds, too
  met-opened : (end : Ended) → IsMetIn now.seen end → NamesBrokenRule old.seen end
  met-opened (ends.Store (stores.Damaged damage)) met =
      let same : contents_held now.seen ≡ contents_held old.seen = ap pages.contents_in stands.1 in
      inr (subst (λ (held : pages.Contents). ((query : Query) × IsQueryDamageIn held query damage) ⊎ IsShownDamageIn held damage) same met)
  met-opened (ends.Store stores.NotAStore) met = tt
  met-opened (ends.Store stores.Version1) met = tt
  met-opened (ends.Store (stores.BadJournal at)) met = tt
  met-opened ends.Done met = tt
  met-opened ends.Memory met = tt
  met-opened ends.Words met = tt
  met-opened ends.Disk met = tt
  met-opened ends.Source met = tt
  met-opened ends.Sink met = tt
  met-opened (ends.Input fault) met = tt
  met-opened (ends.Limit fault) met = tt

  -- so a job names it
  pub opened-names : {T : Type 0} (result : Result T Ended) → IfErr result (IsMetIn now.seen) → IfErr result (NamesBrokenRule old.seen)
  opened-names (Ok done) met = tt
  opened-names (Err end) met = met-opened end met
