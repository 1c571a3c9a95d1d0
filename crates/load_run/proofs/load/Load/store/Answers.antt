use Rattle.std.specs.Prelude.{Err}
use Rattle.std.proofs.Common.{◌≡◌, ◌+◌, List, ℕ, [], ◌++◌, length, refl, sym, ap, subst, ◌∙◌, arith}
use Rattle.page_store.specs.declared.superblock.Superblock.{Superblock}
use Rattle.page_face.specs.declared.head.Head.{Head}
use Rattle.run_outcome.specs.Load.{stored_line}
use Rattle.load_run.specs.Loading.{RisesBy, Stage, stage}
use Rattle.load_run.proofs.Causes.{engine-then}
use Rattle.load_run.proofs.Stages.{goes-then, goes-as, goes-concludes, goes-moves, lacks-memory}
use Rattle.load_run.proofs.Numbers.{rises-said, said-room}
use Rattle.load_run.proofs.Moves.{goes-said, goes-stored, concludes-unsaid, concludes-unstored, moves-said, behind_batch}
use Rattle.load_run.proofs.load.Load.store.Goals as goal

pub returns-in-Err-clause-told : goal.returns-in-Err-clause-told
returns-in-Err-clause-told g c = λ told closing state rest holds.
    concludes-unsaid (stage closing c.args.self.now state _) [] (g.T.Disk.world c.args.engine.now.store.disk.now) (g.T.Disk.world c.say_text.new.engine.store.disk.now) holds c.in-Err.end (c.in-Err.ensures.said told) c.in-Err.ensures.ends

pub returns-in-Err-store_batch-clause-told : goal.returns-in-Err-store_batch-clause-told
returns-in-Err-store_batch-clause-told g c = λ told closing state rest holds.
    let s = c.args.self.now in
    let old = g.T.Disk.world c.args.engine.now.store.disk.now in
    let mid = g.T.Disk.world c.say_text.new.engine.store.disk.now in
    let new = g.T.Disk.world c.store_batch.new.engine.store.disk.now in
    let said = goes-said (stage closing s state _) [] old mid holds _ (c.in-Ok.ensures.said told) refl in
    goes-concludes said (concludes-unstored closing state s.stored s.skipped c.args.updates.now rest mid new c.in-Err-store_batch.end (c.in-Err-store_batch.ensures.told told state said.holds))

pub returns-in-Err-store_batch-clause-cause : goal.returns-in-Err-store_batch-clause-cause
returns-in-Err-store_batch-clause-cause g c = engine-then c.in-Ok.ensures.cause _ c.in-Err-store_batch.ensures.cause

pub returns-in-Ok-write_stored-clause-cause : goal.returns-in-Ok-write_stored-clause-cause
returns-in-Ok-write_stored-clause-cause g c = engine-then c.in-Ok.ensures.cause _ (engine-then c.in-Ok-store_batch.ensures.cause _ c.say_text-in-Ok-write_stored.ensures.cause)

pub returns-in-Ok-write_stored-clause-told : goal.returns-in-Ok-write_stored-clause-told
returns-in-Ok-write_stored-clause-told g c = λ told closing state rest holds.
    let s = c.args.self.now in
    let old = g.T.Disk.world c.args.engine.now.store.disk.now in
    let mid = g.T.Disk.world c.say_text.new.engine.store.disk.now in
    let new = g.T.Disk.world c.store_batch.new.engine.store.disk.now in
    let last = g.T.Disk.world c.say_text-in-Ok-write_stored.new.engine.store.disk.now in
    let said = goes-said (stage closing s state _) [] old mid holds _ (c.in-Ok.ensures.said told) refl in
    let stored = goes-stored closing state s.stored s.skipped c.args.updates.now rest mid new _ (c.in-Ok-store_batch.ensures.told told state said.holds) in
    let at = behind_batch closing state s.stored s.skipped c.args.updates.now rest mid new stored.0 in
    let adds : c.write_stored.new.out.items ≡ stored_line (s.stored + length c.args.updates.now) =
    c.in-Ok-write_stored.ensures ∙ ap (λ t. t ++ stored_line (s.stored + length c.args.updates.now)) c.in-Ok.ensures.none in
    let behind : Stage = record at { waits = c.write_stored.new.out.items } in
    let line = goes-as at behind new (ap (λ (w : List ℕ). record at { waits = w }) (sym adds)) stored.1.holds in
    let says = c.say_text-in-Ok-write_stored.ensures in
    goes-moves (goes-then said (goes-then stored.1 line)) last _ c.say_text-in-Ok-write_stored.result
    (moves-said behind c.say_text-in-Ok-write_stored.new.text.items new last stored.1.holds c.say_text-in-Ok-write_stored.result (says.said told) says.none says.ends)

pub returns-in-Err-write_stored-clause-told : goal.returns-in-Err-write_stored-clause-told
returns-in-Err-write_stored-clause-told g c = λ told closing state rest holds.
    let s = c.args.self.now in
    let old = g.T.Disk.world c.args.engine.now.store.disk.now in
    let mid = g.T.Disk.world c.say_text.new.engine.store.disk.now in
    let new = g.T.Disk.world c.store_batch.new.engine.store.disk.now in
    let said = goes-said (stage closing s state _) [] old mid holds _ (c.in-Ok.ensures.said told) refl in
    let stored = goes-stored closing state s.stored s.skipped c.args.updates.now rest mid new _ (c.in-Ok-store_batch.ensures.told told state said.holds) in
    goes-concludes said (goes-concludes stored.1 (lacks-memory (behind_batch closing state s.stored s.skipped c.args.updates.now rest mid new stored.0) new (Unit {0})))

pub returns-in-Err-clause-rises : goal.returns-in-Err-clause-rises
returns-in-Err-clause-rises g c = rises-said {T = Unit {0}} (length c.args.updates.now) 0 0 c.args.engine.now.store.current.head c.args.engine.now.store.current.head c.say_text.new.engine.store.current.head (Err c.in-Err.end)
    (omega arith) (omega arith) (ap (λ (b : Superblock). b.head) c.in-Err.ensures.head) c.in-Err.ensures.ends

pub returns-in-Err-store_batch-clause-rises : goal.returns-in-Err-store_batch-clause-rises
returns-in-Err-store_batch-clause-rises g c =
    subst (λ (h : Head). RisesBy {T = Unit {0}} (length c.args.updates.now) 0 0 h c.store_batch.new.engine.store.current.head (Err c.in-Err-store_batch.end)) (ap (λ (b : Superblock). b.head) c.in-Ok.ensures.head)
    c.in-Err-store_batch.ensures.rises

pub returns-in-Ok-write_stored-clause-rises : goal.returns-in-Ok-write_stored-clause-rises
returns-in-Ok-write_stored-clause-rises g c =
    let same : c.say_text.new.engine.store.current.head ≡ c.args.engine.now.store.current.head = ap (λ (b : Superblock). b.head) c.in-Ok.ensures.head in
    rises-said (length c.args.updates.now) 0 0 c.args.engine.now.store.current.head c.store_batch.new.engine.store.current.head c.say_text-in-Ok-write_stored.new.engine.store.current.head c.say_text-in-Ok-write_stored.result
    (omega (arith, c.in-Ok-store_batch.ensures.rises.live, ap (λ (h : Head). h.live) same)) (omega (arith, c.in-Ok-store_batch.ensures.rises.number, ap (λ (h : Head). h.number) same))
    (ap (λ (b : Superblock). b.head) c.say_text-in-Ok-write_stored.ensures.head) c.say_text-in-Ok-write_stored.ensures.ends

pub returns-in-Err-write_stored-clause-rises : goal.returns-in-Err-write_stored-clause-rises
returns-in-Err-write_stored-clause-rises g c = record { live = tt; number = tt; limit = tt }

pub returns-in-Ok-write_stored-clause-lacks : goal.returns-in-Ok-write_stored-clause-lacks
returns-in-Ok-write_stored-clause-lacks g c = λ told is. absurd (said-room c.say_text-in-Ok-write_stored.result c.say_text-in-Ok-write_stored.ensures.ends is)
