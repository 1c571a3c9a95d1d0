use Rattle.std.proofs.Common.{◌≡◌, sym, ap, subst, ◌∙◌}
use Rattle.std.specs.Prelude.{Err}
use Rattle.run_outcome.specs.declared.ended.Ended.{Ended}
use Rattle.irtree_top.specs.Verify.{EndsVerify}
use Rattle.irtree_top.proofs.Verified.{fault-told}
use Rattle.irtree_top.proofs.verifying.run_verify.Goals as goal

pub returns-in-Err-clause-told : goal.returns-in-Err-clause-told
returns-in-Err-clause-told g c = λ told state holds.
    let world = g.T.Disk.world in
    subst (λ (end : Ended). EndsVerify {T = Unit {0}} state (world c.args.engine.now.store.disk.now) (world c.verify.new.self.store.disk.now) (Err end)) (sym c.ended_by.ensures)
    (fault-told (Unit {0}) state (world c.args.engine.now.store.disk.now) (world c.verify.new.self.store.disk.now) c.in-Err.fault c.in-Err.ensures.fails.causes (λ damage is. c.in-Err.ensures.undamaged damage (ap Err is)) (c.verify.ensures.frame.rests told).said)
