use Rattle.std.proofs.Common.{◌+◌, ℕ, refl, sym, ◌∙◌, ap, rules}
use Rattle.disk_model.specs.Replay.{replay}
use Rattle.disk_model.specs.Stored.{first_state}
use Rattle.disk_model.specs.World.{Image}
use Rattle.disk_model.proofs.Replays.{read_noted, read_lost, seen_after, said_after}
use Rattle.disk_model.proofs.memory_station.MemoryStationDisk.read.Goals as goal

pub returns-in_default-clause-told : goal.returns-in_default-clause-told
returns-in_default-clause-told c = λ t. read_lost _ _ _ _ _ _ _ _ _ _ _ c.in_default.ensures.err

pub invariant_of-self-then-due : goal.invariant_of-self-then-due
invariant_of-self-then-due c = record {
  seen_is = seen_after _ _ _ _ _ c.in-Ok.ensures.ok c.args.self.now.seen_is;
  said_is = said_after _ _ _ _ _ c.in-Ok.ensures.ok c.args.self.now.said_is;
}

pub returns-then-due-clause-told : goal.returns-then-due-clause-told
returns-then-due-clause-told c = λ t. read_noted _ _ _ _ _ _ _ _ _ _ _ _ c.in-Ok.ensures.ok refl tt

pub invariant_of-self-else-due : goal.invariant_of-self-else-due
invariant_of-self-else-due c = record {
  seen_is = seen_after _ _ _ _ _ c.in-Ok.ensures.ok c.args.self.now.seen_is;
  said_is = said_after _ _ _ _ _ c.in-Ok.ensures.ok c.args.self.now.said_is;
}

pub returns-clause-told : goal.returns-clause-told
returns-clause-told c = λ t. read_noted _ _ _ _ _ _ _ _ _ _ _ _ c.in-Ok.ensures.ok (search rules) (λ i j lt is.
    c.read.ensures i lt
    ∙ sym (ap (λ (s : Image). s c.args.area (c.args.at + i)) c.args.self.now.seen_is)
    ∙ ap (λ (k : ℕ). (replay (first_state c.args.self.now.first) c.args.self.now.made.items).seen c.args.area k) is)
