use Rattle.std.proofs.Common.{length, refl, ap, ◌∙◌, arith}
use Rattle.std.proofs.lemmas.List.{take_rest, length-drop}
use Rattle.std.proofs.lemmas.Result.{err_from_is_err_and}
use Rattle.disk_model.specs.declared.disk.Failed.{Failed}
use Rattle.run_outcome.proofs.Saying.{says-all, says-failed, says-more, says-none}
use Rattle.irtree_top.proofs.Upgrades.{quiet-said}
use Rattle.irtree_top.proofs.upgrading.say_bytes.Goals as goal

pub loop-at-init : goal.loop-at-init
loop-at-init g c = record {
  within = omega arith;
  said = λ told. says-none c.args.bytes.now (g.T.Disk.world c.args.station.now);
  quiet = c.requires.quiet;
  later = omega arith;
  stays = refl;
  disk = refl;
}

pub returns-in_err-at-clause-said : goal.returns-in_err-at-clause-said
returns-in_err-at-clause-said g c = λ told.
    let world = g.T.Disk.world in
    let passed = err_from_is_err_and c.from_residual.result c.from_residual.ensures.1 in
    rw passed.1 (says-failed c.loop-at.at c.args.bytes.now _ (world c.args.station.now) (world c.loop-at.station) (world c.say.new.self)
    (c.loop-at.invariant.said told) (c.loop-at.invariant.quiet told) (take_rest c.args.bytes.now c.loop-at.at) (Unit {0}) _ (c.in_err-at.ensures.told told))

pub returns-in_err-at-clause-quiet : goal.returns-in_err-at-clause-quiet
returns-in_err-at-clause-quiet g c = λ told. quiet-said (c.loop-at.invariant.quiet told) (c.in_err-at.ensures.told told)

pub returns-clause-said : goal.returns-clause-said
returns-clause-said g c = λ told. says-all Failed c.loop-at.at c.args.bytes.now _ _ _ (omega (arith, c.loop-at-test.false)) (c.loop-at.invariant.said told)

pub loop-at-preserved : goal.loop-at-preserved
loop-at-preserved g c = record {
  within = omega (arith, c.in_ok-at.ensures.count.1, ap length (take_rest c.args.bytes.now c.loop-at.at), length-drop c.loop-at.at c.args.bytes.now, c.loop-at.invariant.within);
  said = λ told.
      let world = g.T.Disk.world in
      says-more c.loop-at.at c.args.bytes.now _ (world c.args.station.now) (world c.loop-at.station) (world c.say.new.self)
      (c.loop-at.invariant.said told) (c.loop-at.invariant.quiet told) (take_rest c.args.bytes.now c.loop-at.at) c.in_ok-at.field-0 (c.in_ok-at.ensures.told told);
  quiet = λ told. quiet-said (c.loop-at.invariant.quiet told) (c.in_ok-at.ensures.told told);
  later = omega (arith, c.in_ok-at.ensures.cause.later, c.loop-at.invariant.later);
  stays = c.in_ok-at.ensures.cause.stays ∙ c.loop-at.invariant.stays;
  disk = c.in_ok-at.ensures.cause.disk ∙ c.loop-at.invariant.disk;
}
