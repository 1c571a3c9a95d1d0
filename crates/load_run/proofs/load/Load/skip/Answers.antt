use Rattle.std.proofs.Common.{◌+◌, length, ap, arith}
use Rattle.page_store.specs.declared.superblock.Superblock.{Superblock}
use Rattle.run_outcome.specs.Load.{steps}
use Rattle.load_run.specs.Loading.{Stage, stage_before}
use Rattle.load_run.proofs.Stages.{lacks-memory, goes-moves}
use Rattle.load_run.proofs.Moves.{goes-skipped, moves-said}
use Rattle.load_run.proofs.Numbers.{rises-said, said-room}
use Rattle.load_run.proofs.load.Load.skip.Goals as goal

pub returns-in-Err-clause-told : goal.returns-in-Err-clause-told
returns-in-Err-clause-told g c = λ told closing state items holds. lacks-memory (stage_before closing c.args.self.now state _) (g.T.Disk.world c.args.engine.now.store.disk.now) (Unit {0})

pub returns-then-len-lt-TEXT_KEPT-clause-told : goal.returns-then-len-lt-TEXT_KEPT-clause-told
returns-then-len-lt-TEXT_KEPT-clause-told g c = λ told closing state items holds.
    let s = c.args.self.now in
    (state, goes-skipped closing state s.stored s.skipped c.args.index c.args.reason s.text.items _ s.batch s.waiting.items items (g.T.Disk.world c.args.engine.now.store.disk.now) c.in-Ok.ensures holds)

pub returns-clause-told : goal.returns-clause-told
returns-clause-told g c = λ told closing state items holds.
    let s = c.args.self.now in
    let old = g.T.Disk.world c.args.engine.now.store.disk.now in
    let new = g.T.Disk.world c.say_text.new.engine.store.disk.now in
    let says = c.say_text.ensures in
    let behind : Stage = record { closing = closing; state = state; stored = s.stored; skipped = s.skipped + 1; rest = steps s.batch s.waiting.items items; waits = c.write_skip.new.out.items } in
    goes-moves (goes-skipped closing state s.stored s.skipped c.args.index c.args.reason s.text.items _ s.batch s.waiting.items items old c.in-Ok.ensures holds) new _ c.say_text.result
    (moves-said behind c.say_text.new.text.items old new holds c.say_text.result (says.said told) says.none says.ends)

pub returns-in-Err-clause-rises : goal.returns-in-Err-clause-rises
returns-in-Err-clause-rises g c = record { live = tt; number = tt; limit = tt }

pub returns-then-len-lt-TEXT_KEPT-clause-rises : goal.returns-then-len-lt-TEXT_KEPT-clause-rises
returns-then-len-lt-TEXT_KEPT-clause-rises g c = record { live = omega arith; number = omega arith; limit = tt }

pub returns-clause-rises : goal.returns-clause-rises
returns-clause-rises g c =
    let waits = length c.args.self.now.waiting.items in
    rises-said 0 waits waits c.args.engine.now.store.current.head c.args.engine.now.store.current.head c.say_text.new.engine.store.current.head c.say_text.result
    (omega arith) (omega arith) (ap (λ (b : Superblock). b.head) c.say_text.ensures.head) c.say_text.ensures.ends

pub returns-clause-room : goal.returns-clause-room
returns-clause-room g c = λ is. absurd (said-room c.say_text.result c.say_text.ensures.ends is)
