use Rattle.std.proofs.Common.{not, ap}
use Rattle.disk_model.proofs.Replays.{sync_done, sync_failed, sync_lost, seen_after, said_after}
use Rattle.disk_model.proofs.memory_station.MemoryStationDisk.sync.Goals as goal

pub returns-in_default-clause-told : goal.returns-in_default-clause-told
returns-in_default-clause-told c = λ t. sync_lost _ _ _ _ _ _ _ _ _ c.in_default.ensures.err

pub invariant_of-self-then-due : goal.invariant_of-self-then-due
invariant_of-self-then-due c = record {
  seen_is = seen_after _ _ _ _ _ c.in-Ok.ensures.ok c.args.self.now.seen_is;
  said_is = said_after _ _ _ _ _ c.in-Ok.ensures.ok c.args.self.now.said_is;
}

pub returns-then-due-clause-told : goal.returns-then-due-clause-told
returns-then-due-clause-told c = λ t. sync_failed _ _ _ _ _ _ _ _ _ _ c.in-Ok.ensures.ok (ap not c.if-due.true)

pub invariant_of-self-else-due : goal.invariant_of-self-else-due
invariant_of-self-else-due c = record {
  seen_is = seen_after _ _ _ _ _ c.in-Ok.ensures.ok c.args.self.now.seen_is;
  said_is = said_after _ _ _ _ _ c.in-Ok.ensures.ok c.args.self.now.said_is;
}

pub returns-clause-told : goal.returns-clause-told
returns-clause-told c = λ t. sync_done _ _ _ _ _ _ _ _ _ _ c.in-Ok.ensures.ok (ap not c.if-due.false)
