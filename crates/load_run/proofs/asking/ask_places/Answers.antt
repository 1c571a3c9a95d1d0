use Rattle.std.proofs.Common.{◌≡◌, ℕ, refl, subst, ◌∙◌, arith}
use Rattle.std.specs.Prelude.{Result, Ok, Err}
use Rattle.run_outcome.specs.declared.ended.Ended.{Ended}
use Rattle.run_outcome.proofs.Counts.{keeps-done}
use Rattle.run_outcome.proofs.Reading.{holds-same}
use Rattle.load_run.proofs.Causes.{engine-lacks, engine-none, engine-then}
use Rattle.load_run.proofs.Numbers.{rises-then}
use Rattle.load_run.specs.declared.found.Found.{Found}
use Rattle.load_run.specs.Asking.{Counts, found_in}
use Rattle.load_run.proofs.Hits.{counts-more, counts-none}
use Rattle.load_run.proofs.asking.ask_places.Goals as goal
use Rattle.page_store.specs.Store.{rests_still, rests_then}

-- a call that ended well
abbrev done : Result (Unit {0}) Ended
done = Ok tt

pub loop-number-init : goal.loop-number-init
loop-number-init g c =
    let old = g.T.Disk.world c.args.engine.now.store.disk.now in
    record {
      at = c.new-maker.ensures.at;
      few = omega arith;
      cheap = omega arith;
      on = c.requires.on;
      loan = refl;
      told = λ told state holds. counts-none state c.args.seed _ refl refl;
      rests = λ told. rests_still old;
      rises = record { live = omega arith; number = omega arith; limit = tt };
      cause = engine-none g.T.Disk.readable old (Unit {0}) tt;
    }

pub loop-number-preserved : goal.loop-number-preserved
loop-number-preserved g c =
    let i = c.loop-number.invariant in
    let seed : ℕ = c.args.seed in
    let n : ℕ = c.loop-number._number in
    let first = g.T.Disk.world c.args.engine.now.store.disk.now in
    let now = g.T.Disk.world c.loop-number.engine.store.disk.now in
    let asked = c.in-Ok-ask.ensures.cause in
    record {
      at = c.in-Ok.ensures.at seed n (omega arith) i.at;
      few = omega (arith, i.few, c.in-Ok-ask.ensures.few.0);
      cheap = omega (arith, i.cheap, c.in-Ok-ask.ensures.few.1);
      on = c.in-Ok-ask.ensures.on;
      loan = c.in-Ok-ask.ensures.same_loan ∙ i.loan;
      told = λ told state holds.
          counts-more state seed n _ c.loop-number.found c.in-Ok-ask.here _ (c.in-Ok.ensures.place seed n i.at) (i.told told state holds)
          (c.in-Ok-ask.ensures.told told state (holds-same first now state (i.rests told).seen holds)) refl refl;
      rests = λ told. rests_then (i.rests told) (c.in-Ok-ask.ensures.rests told);
      rises = rises-then 0 0 0 c.args.engine.now.store.current.head tt 0 0 c.loop-number.engine.store.current.head c.ask.new.engine.store.current.head done i.rises
          (record { live = c.in-Ok-ask.ensures.rises.live; number = c.in-Ok-ask.ensures.rises.number; limit = tt });
      cause = engine-then i.cause done (record { faults = asked.faults; sink = asked.sink; keeps = keeps-done now _ c.in-Ok-ask.here done asked.keeps; stands = asked.stands; cause = tt });
    }

-- ---- want of memory

pub returns-in-Err-clause-cause : goal.returns-in-Err-clause-cause
returns-in-Err-clause-cause g c = engine-then c.loop-number.invariant.cause _ (engine-lacks g.T.Disk.readable (g.T.Disk.world c.loop-number.engine.store.disk.now) Found)

pub returns-in-Err-clause-rises : goal.returns-in-Err-clause-rises
returns-in-Err-clause-rises g c = record { live = tt; number = tt; limit = tt }

-- ---- a query that is refused

pub returns-in-Err-ask-clause-rests : goal.returns-in-Err-ask-clause-rests
returns-in-Err-ask-clause-rests g c = λ told. rests_then (c.loop-number.invariant.rests told) (c.in-Err-ask.ensures.rests told)

pub returns-in-Err-ask-clause-ends : goal.returns-in-Err-ask-clause-ends
returns-in-Err-ask-clause-ends g c = λ told state holds.
    c.in-Err-ask.ensures.ends told state (holds-same (g.T.Disk.world c.args.engine.now.store.disk.now) (g.T.Disk.world c.loop-number.engine.store.disk.now) state (c.loop-number.invariant.rests told).seen holds)

pub returns-in-Err-ask-clause-cause : goal.returns-in-Err-ask-clause-cause
returns-in-Err-ask-clause-cause g c = engine-then c.loop-number.invariant.cause _ c.in-Err-ask.ensures.cause

pub returns-in-Err-ask-clause-rises : goal.returns-in-Err-ask-clause-rises
returns-in-Err-ask-clause-rises g c =
    let rises = rises-then {T = Found} 0 0 0 c.args.engine.now.store.current.head tt 0 0 c.loop-number.engine.store.current.head c.ask.new.engine.store.current.head (Err c.in-Err-ask.end) c.loop-number.invariant.rises c.in-Err-ask.ensures.rises in
    record { live = tt; number = tt; limit = rises.limit }

-- ---- all were asked

pub returns-clause-told : goal.returns-clause-told
returns-clause-told g c = λ told state holds.
    let all : c.loop-number._number ≡ c.args.queries = omega arith in
    subst (λ (n : ℕ). Counts (found_in state c.args.seed n) c.loop-number.found) all (c.loop-number.invariant.told told state holds)

pub returns-clause-cause : goal.returns-clause-cause
returns-clause-cause g c =
    let i = c.loop-number.invariant.cause in
    record { faults = i.faults; sink = i.sink; keeps = keeps-done _ _ tt (Ok c.loop-number.found) i.keeps; stands = i.stands; cause = tt }

pub returns-clause-rises : goal.returns-clause-rises
returns-clause-rises g c =
    let i = c.loop-number.invariant.rises in
    record { live = i.live; number = i.number; limit = tt }
