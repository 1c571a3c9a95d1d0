use Rattle.std.proofs.Common.{◌≡◌, [], refl, arith}
use Rattle.script_run.proofs.Feeding.{last-none, last-reads, last-some}
use Rattle.script_run.proofs.script.Script.end.Goals as goal
use Rattle.run_outcome.proofs.Lists.{none-left, some-left}

pub returns-then-is_empty-clause-told : goal.returns-then-is_empty-clause-told
returns-then-is_empty-clause-told g c = λ front is told state holds.
    let none : c.args.self.now.line.items ≡ [] = none-left _ _ _ (omega arith) c.is_empty.ensures c.if-is_empty.true in
    last-none state c.args.self.now.line.items front (g.T.Disk.world c.args.engine.now.store.disk.now) none is holds

pub returns-clause-told : goal.returns-clause-told
returns-clause-told g c = λ front is told state holds.
    let some : c.args.self.now.line.items ≡ [] → ⊥ = some-left _ _ _ (omega arith) c.is_empty.ensures c.if-is_empty.false in
    last-some state c.args.self.now.line.items front (g.T.Disk.world c.args.engine.now.store.disk.now) (g.T.Disk.world c.act.new.engine.store.disk.now) c.act.result some is
    (rw (← c.deref.ensures.value) (c.act.ensures.told told state holds))

pub returns-then-is_empty-clause-kept : goal.returns-then-is_empty-clause-kept
returns-then-is_empty-clause-kept g c = λ front is told reads. record { seen = refl; met = tt }

pub returns-clause-kept : goal.returns-clause-kept
returns-clause-kept g c = λ front is told reads.
    let some : c.args.self.now.line.items ≡ [] → ⊥ = some-left _ _ _ (omega arith) c.is_empty.ensures c.if-is_empty.false in
    c.act.ensures.kept told (rw c.deref.ensures.value (last-reads c.args.self.now.line.items front some is reads))
