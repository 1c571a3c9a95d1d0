use Rattle.std.proofs.Common.{◌≡◌, max, List, [], ◌∷◌, length, sym, ap, ◌∙◌, arith, rules}
use Rattle.run_outcome.specs.Load.{Step, Store, steps}
use Rattle.run_outcome.proofs.Rooms.{lacks-more}
use Rattle.run_outcome.proofs.Lists.{none-left, some-left}
use Rattle.load_run.specs.declared.load.Load.{Load}
use Rattle.load_run.specs.Loading.{stage, stage_before}
use Rattle.load_run.proofs.Causes.{engine-none}
use Rattle.load_run.proofs.Moves.{moves-as}
use Rattle.load_run.proofs.Numbers.{rises-within}
use Rattle.load_run.proofs.Stages.{goes-as}
use Rattle.load_run.proofs.Steps.{steps-left, steps-none}
use Rattle.load_run.proofs.load.Load.store_rest.Goals as goal

pub returns-then-is_empty-clause-told : goal.returns-then-is_empty-clause-told
returns-then-is_empty-clause-told g c = λ told closing state holds.
    let s : Load = c.args.self.now in
    let same : c.replace-updates.result.items ≡ s.waiting.items = search rules in
    let none : s.waiting.items ≡ [] = sym same ∙ none-left c.replace-updates.result.items _ _ (omega arith) c.is_empty.ensures c.if-is_empty.true in
    (state, goes-as (stage_before closing s state []) (stage closing s state []) (g.T.Disk.world c.args.engine.now.store.disk.now) (ap (λ (r : List Step). stage closing s state r) (steps-none s.batch s.waiting.items none)) holds)

pub returns-clause-told : goal.returns-clause-told
returns-clause-told g c = λ told closing state holds.
    let s : Load = c.args.self.now in
    let same : c.replace-updates.result.items ≡ s.waiting.items = search rules in
    let some : c.replace-updates.result.items ≡ [] → ⊥ = some-left c.replace-updates.result.items _ _ (omega arith) c.is_empty.ensures c.if-is_empty.false in
    let left = steps-left s.batch s.waiting.items c.deref.result.now (c.deref.ensures.value ∙ same) (λ none. some (sym c.deref.ensures.value ∙ none)) in
    moves-as closing s state (steps s.batch s.waiting.items []) (Store c.deref.result.now ∷ []) _ _ _ c.store.result left (c.store.ensures.told told closing state [] holds)

pub returns-then-is_empty-clause-cause : goal.returns-then-is_empty-clause-cause
returns-then-is_empty-clause-cause g c = engine-none g.T.Disk.readable (g.T.Disk.world c.args.engine.now.store.disk.now) (Unit {0}) tt

pub returns-then-is_empty-clause-rises : goal.returns-then-is_empty-clause-rises
returns-then-is_empty-clause-rises g c = record { live = omega arith; number = omega arith; limit = tt }

pub returns-clause-rises : goal.returns-clause-rises
returns-clause-rises g c =
    let same : c.replace-updates.result.items ≡ c.args.self.now.waiting.items = search rules in
    let counts = ap length (c.deref.ensures.value ∙ same) in
    rises-within (length c.deref.result.now) 0 0 c.args.engine.now.store.current.head 0 (length c.args.self.now.waiting.items) c.store.new.engine.store.current.head c.store.result (omega (arith, counts)) c.store.ensures.rises

pub returns-clause-lacks : goal.returns-clause-lacks
returns-clause-lacks g c = λ told is.
    let disk = c.store.new.engine.store.disk.now in
    let same : c.replace-updates.result.items ≡ c.args.self.now.waiting.items = search rules in
    let counts = ap length (c.deref.ensures.value ∙ same) in
    lacks-more (length c.deref.result.now) (max c.args.self.now.batch 1) (g.T.Disk.room_of disk) (g.T.Disk.world disk).seen (omega (arith, counts, c.requires.waits.few)) (c.store.ensures.lacks told is)
