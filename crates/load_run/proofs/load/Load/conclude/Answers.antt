use Rattle.std.proofs.Common.{◌≡◌, ◌∙◌, ◌++◌, [], ap, rules}
use Rattle.run_outcome.specs.Load.{loaded_line, says_loaded}
use Rattle.load_run.specs.Loading.{stage}
use Rattle.load_run.proofs.Stages.{lacks-memory}
use Rattle.load_run.proofs.load.Load.conclude.Goals as goal

pub returns-in-Ok-clause-told : goal.returns-in-Ok-clause-told
returns-in-Ok-clause-told g c = λ told state holds.
    let s = c.args.self.now in
    let empty : c.new-line.result.items ≡ [] = search rules in
    c.say_last.ensures.told told says_loaded state holds (c.deref.ensures.value ∙ c.in-Ok.ensures ∙ ap (λ t. t ++ loaded_line s.stored s.skipped) empty)

pub returns-clause-told : goal.returns-clause-told
returns-clause-told g c = λ told state holds. lacks-memory (stage says_loaded c.args.self.now state _) (g.T.Disk.world c.args.engine.now.store.disk.now) (Unit {0})

pub returns-clause-rises : goal.returns-clause-rises
returns-clause-rises g c = record { live = tt; number = tt; limit = tt }
