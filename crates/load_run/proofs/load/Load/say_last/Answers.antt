use Rattle.std.proofs.Common.{◌++◌, ◌∙◌, ap, arith}
use Rattle.page_store.specs.declared.superblock.Superblock.{Superblock}
use Rattle.load_run.specs.Loading.{stage}
use Rattle.load_run.proofs.Stages.{lacks-memory}
use Rattle.load_run.proofs.Moves.{concludes-said}
use Rattle.load_run.proofs.Numbers.{rises-said, said-room}
use Rattle.load_run.proofs.load.Load.say_last.Goals as goal

pub returns-in-Ok-clause-told : goal.returns-in-Ok-clause-told
returns-in-Ok-clause-told g c = λ told closing state holds is.
    let s = c.args.self.now in
    concludes-said closing state s.stored s.skipped s.text.items _ (g.T.Disk.world c.args.engine.now.store.disk.now) (g.T.Disk.world c.say_text.new.engine.store.disk.now) (c.in-Ok.ensures ∙ ap (λ t. s.text.items ++ t) is) holds c.say_text.result (c.say_text.ensures.said told) c.say_text.ensures.ends

pub returns-in-Err-clause-told : goal.returns-in-Err-clause-told
returns-in-Err-clause-told g c = λ told closing state holds is. lacks-memory (stage closing c.args.self.now state _) (g.T.Disk.world c.args.engine.now.store.disk.now) (Unit {0})

pub returns-in-Ok-clause-rises : goal.returns-in-Ok-clause-rises
returns-in-Ok-clause-rises g c = rises-said 0 0 0 c.args.engine.now.store.current.head c.args.engine.now.store.current.head c.say_text.new.engine.store.current.head c.say_text.result
    (omega arith) (omega arith) (ap (λ (b : Superblock). b.head) c.say_text.ensures.head) c.say_text.ensures.ends

pub returns-in-Err-clause-rises : goal.returns-in-Err-clause-rises
returns-in-Err-clause-rises g c = record { live = tt; number = tt; limit = tt }

pub returns-in-Ok-clause-room : goal.returns-in-Ok-clause-room
returns-in-Ok-clause-room g c = λ is. absurd (said-room c.say_text.result c.say_text.ensures.ends is)
