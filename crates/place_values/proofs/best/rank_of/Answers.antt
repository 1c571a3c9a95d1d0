use Rattle.std.proofs.Common.{◌≡◌, ◌<◌, ◌-◌, true, sym, ◌∙◌, arith, get_or}
use Rattle.std.proofs.lemmas.List.{get_or_default}
use Rattle.place_values.specs.Laws.{placed_behind}
use Rattle.place_values.specs.Hit.{comes_before, hits_linear}
use Rattle.place_values.specs.declared.hit.Hit.{Hit}
use Rattle.place_values.proofs.best.rank_of.Goals as goal

pub returns-else-not-is_before-clause-place : goal.returns-else-not-is_before-clause-place
returns-else-not-is_before-clause-place c =
    let front : (d : Hit) → 0 < c.loop-at.at → comes_before (get_or c.args.best.now (c.loop-at.at - 1) d) c.args.hit.now ≡ true =
    λ d some. rw (get_or_default c.args.best.now (c.loop-at.at - 1) d c.index-best-at.result (omega arith), ← c.index-best-at.is)
    (sym c.is_before.ensures ∙ c.if-not-is_before.false) in
    placed_behind hits_linear c.args.hit.now c.args.best.now c.loop-at.at c.requires c.loop-at.invariant.0 front c.loop-at.invariant.1

pub returns-after-loop-at-clause-place : goal.returns-after-loop-at-clause-place
returns-after-loop-at-clause-place c =
    placed_behind hits_linear c.args.hit.now c.args.best.now c.loop-at.at c.requires c.loop-at.invariant.0 (λ d some. absurd (omega arith)) c.loop-at.invariant.1
