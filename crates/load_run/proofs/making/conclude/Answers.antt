use Rattle.std.proofs.Common.{◌≡◌, ◌++◌, [], ap, ◌∙◌, rules}
use Rattle.load_run.specs.Loading.{stage}
use Rattle.load_run.proofs.Causes.{engine-then}
use Rattle.load_run.proofs.Numbers.{rises-then}
use Rattle.load_run.proofs.Stages.{goes-concludes, goes-read}
use Rattle.load_run.specs.Making.{made_line, says_made}
use Rattle.load_run.proofs.Ends.{concludes-unasked, made-says}
use Rattle.run_outcome.proofs.Going.{on-behind}
use Rattle.load_run.proofs.making.conclude.Goals as goal

pub returns-in-Err-clause-told : goal.returns-in-Err-clause-told
returns-in-Err-clause-told g c = λ told state holds.
    concludes-unasked (Unit {0}) (stage (says_made c.args.seed c.args.count) c.args.load.now state []) _ _ c.in-Err.end (c.in-Err.ensures.rests told) (c.in-Err.ensures.ends told state holds)

pub returns-in-Ok-write_made-clause-told : goal.returns-in-Ok-write_made-clause-told
returns-in-Ok-write_made-clause-told g c = λ told state holds.
    let closing = says_made c.args.seed c.args.count in
    let goes = goes-read (stage closing c.args.load.now state []) _ _ (c.in-Ok.ensures.rests told) holds in
    let line = made-says c.args.seed c.args.count c.min-queries.result c.args.load.now.stored c.args.load.now.skipped state c.in-Ok.found c.min-queries.ensures (c.in-Ok.ensures.told told state holds) in
    let empty : c.new-line.result.items ≡ [] = search rules in
    goes-concludes goes (c.say_last.ensures.told told closing state goes.holds (c.deref.ensures.value ∙ c.in-Ok-write_made.ensures ∙ ap (λ t. t ++ made_line c.args.count c.min-queries.result c.in-Ok.found.hits c.in-Ok.found.cost) empty ∙ line))

pub returns-in-Ok-write_made-clause-cause : goal.returns-in-Ok-write_made-clause-cause
returns-in-Ok-write_made-clause-cause g c = engine-then c.in-Ok.ensures.cause _ c.say_last.ensures.cause

pub returns-in-Ok-write_made-clause-rises : goal.returns-in-Ok-write_made-clause-rises
returns-in-Ok-write_made-clause-rises g c = rises-then 0 0 0 c.args.engine.now.store.current.head c.in-Ok.found 0 0 c.ask_places.new.engine.store.current.head c.say_last.new.engine.store.current.head c.say_last.result c.in-Ok.ensures.rises c.say_last.ensures.rises

pub returns-in-Err-clause-goes_on : goal.returns-in-Err-clause-goes_on
returns-in-Err-clause-goes_on g c = on-behind _ c.in-Err.end c.in-Err.ensures.on
