use Rattle.std.proofs.Common.{◌+◌, subst}
use Rattle.std.specs.Prelude.{Result, IfErr}
use Rattle.run_outcome.specs.declared.ended.Ended.{Ended}
use Rattle.load_run.specs.Loading.{IsLimitAt}
use Rattle.load_run.proofs.Outcomes.{concluded-ends, started-left}
use Rattle.load_run.specs.Making.{items_from, says_made}
use Rattle.load_run.proofs.Ends.{limit-of}
use Rattle.load_run.proofs.making.run_make.Goals as goal

pub returns-clause-told : goal.returns-clause-told
returns-clause-told g c = λ told state holds.
    concluded-ends (says_made c.args.seed c.args.count) c.args.batch state (items_from c.args.seed 0 c.args.count) _ _ (Unit {0}) c.make_places.result (c.make_places.ensures.told told state holds).ends

pub returns-clause-any_moment : goal.returns-clause-any_moment
returns-clause-any_moment g c = λ told state holds.
    started-left (says_made c.args.seed c.args.count) c.args.batch state (items_from c.args.seed 0 c.args.count) _ _ (c.make_places.ensures.told told state holds).left

pub returns-clause-limit : goal.returns-clause-limit
returns-clause-limit g c = λ fault is.
    let head = c.args.engine.now.store.current.head in
    limit-of c.args.count head.live head.number fault
    (subst (λ (r : Result (Unit {0}) Ended). IfErr r (IsLimitAt (head.live + (0 + c.args.count)) (head.number + (0 + c.args.count)))) is c.make_places.ensures.rises.limit)
