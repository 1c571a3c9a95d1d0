use Rattle.std.proofs.Common.{length, refl, sym, ap, ◌∙◌, arith}
use Rattle.std.proofs.lemmas.List.{take_rest, length-drop}
use Rattle.std.proofs.lemmas.Result.{err_from_is_err_and}
use Rattle.disk_model.specs.declared.disk.Failed.{Failed}
use Rattle.run_outcome.proofs.Saying.{says-all, says-failed, says-more, says-none}
use Rattle.run_outcome.proofs.say.say_all.Goals as goal

pub loop-at-init : goal.loop-at-init
loop-at-init g c = record {
  within = omega arith;
  on = c.requires.on;
  loan = refl;
  said = λ told. says-none c.args.bytes.now (g.T.Disk.world c.args.engine.now.store.disk.now);
  reads = λ told. refl;
  later = omega arith;
  stays = refl;
  disk = refl;
  head = refl;
  room = refl;
}

pub returns-in_err-at-clause-said : goal.returns-in_err-at-clause-said
returns-in_err-at-clause-said g c = λ told.
    let world = g.T.Disk.world in
    let safe = (c.loop-at.engine.store.ready told (sym c.loop-at.engine.stops ∙ c.loop-at.invariant.on)).ready.safe in
    let passed = err_from_is_err_and c.from_residual.result c.from_residual.ensures.1 in
    rw passed.1 (says-failed c.loop-at.at c.args.bytes.now _ (world c.args.engine.now.store.disk.now) (world c.loop-at.engine.store.disk.now) (world c.say.new.self.store.disk.now)
    (c.loop-at.invariant.said told) safe (take_rest c.args.bytes.now c.loop-at.at) (Unit {0}) _ (c.in_err-at.ensures.told told))

pub returns-in_err-at-clause-reads : goal.returns-in_err-at-clause-reads
returns-in_err-at-clause-reads g c = λ told. (c.in_err-at.ensures.told told).reads ∙ c.loop-at.invariant.reads told

pub returns-clause-said : goal.returns-clause-said
returns-clause-said g c = λ told. says-all Failed c.loop-at.at c.args.bytes.now _ _ _ (omega (arith, c.loop-at-test.false)) (c.loop-at.invariant.said told)

pub loop-at-preserved : goal.loop-at-preserved
loop-at-preserved g c = record {
  within = omega (arith, c.in_ok-at.ensures.count.1, ap length (take_rest c.args.bytes.now c.loop-at.at), length-drop c.loop-at.at c.args.bytes.now, c.loop-at.invariant.within);
  on = c.in_ok-at.ensures.goes_on ∙ c.loop-at.invariant.on;
  loan = c.in_ok-at.ensures.same_loan ∙ c.loop-at.invariant.loan;
  said = λ told.
      let world = g.T.Disk.world in
      let safe = (c.loop-at.engine.store.ready told (sym c.loop-at.engine.stops ∙ c.loop-at.invariant.on)).ready.safe in
      says-more c.loop-at.at c.args.bytes.now _ (world c.args.engine.now.store.disk.now) (world c.loop-at.engine.store.disk.now) (world c.say.new.self.store.disk.now)
      (c.loop-at.invariant.said told) safe (take_rest c.args.bytes.now c.loop-at.at) c.in_ok-at.field-0 (c.in_ok-at.ensures.told told);
  reads = λ told. (c.in_ok-at.ensures.told told).reads ∙ c.loop-at.invariant.reads told;
  later = omega (arith, c.in_ok-at.ensures.cause.later, c.loop-at.invariant.later);
  stays = c.in_ok-at.ensures.cause.stays ∙ c.loop-at.invariant.stays;
  disk = c.in_ok-at.ensures.cause.disk ∙ c.loop-at.invariant.disk;
  head = c.in_ok-at.ensures.head ∙ c.loop-at.invariant.head;
  room = c.in_ok-at.ensures.room ∙ c.loop-at.invariant.room;
}
