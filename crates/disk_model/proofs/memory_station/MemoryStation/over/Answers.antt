use Rattle.std.proofs.Common.{List, sym, ap, ◌∙◌, refl, rules}
use Rattle.disk_model.specs.declared.call.Call.{Call}
use Rattle.disk_model.specs.Replay.{replay, reads_in}
use Rattle.disk_model.specs.Stored.{first_state}
use Rattle.disk_model.proofs.Replays.{safe_at_first}
use Rattle.disk_model.proofs.memory_station.MemoryStation.over.Goals as goal

pub invariant_of-result : goal.invariant_of-result
invariant_of-result c = record {
  seen_is = ap (λ (l : List Call). (replay (first_state c.args.first) l).seen) c.new.ensures.items ∙ sym c.requires;
  said_is = ap (λ (l : List Call). (replay (first_state c.args.first) l).said) c.new.ensures.items ∙ sym c.new-2.ensures.items;
}

pub returns-clause-fresh : goal.returns-clause-fresh
returns-clause-fresh c = record {
  safe = safe_at_first _ _ c.new.ensures.items refl;
  said = ap (λ (l : List Call). (replay (first_state c.args.first) l).said) c.new.ensures.items;
  taken = ap reads_in c.new.ensures.items;
  faults = refl;
  lacks = refl;
  calls = search rules;
  listed = search rules;
  stop = search rules;
}
