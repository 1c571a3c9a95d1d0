use Rattle.std.proofs.Common.{◌+◌, arith, sym, subst}
use Rattle.text_policy.specs.declared.beginners.Pair.{Pair}
use Rattle.text_policy.proofs.Pairs.{IsBest, best-first, best-kept, best-next}
use Rattle.text_policy.proofs.beginners.beginners.Goals as goal
use Rattle.text_policy.proofs.beginners.beginners.Goals.{then-pair-best, else-pair-best}

pub loop-first-init : goal.loop-first-init
loop-first-init c =
    let pair = c.partner-best.ensures in
    best-first c.args.like.now c.partner-best.result pair.first pair.shared pair.second

pub loop-first-preserved : goal.loop-first-preserved
loop-first-preserved c =
    let best = c.loop-first.best in
    let pair = c.partner-pair.result in
    let its = c.partner-pair.ensures in
    let P : Pair → Type 0 = λ s. IsBest (c.loop-first.first + 1) c.args.like.now s in
    elim c.if-pair-best.branch [
      | then-pair-best w ↦
          let fewer = w.if-pair-best.true in
          subst P (sym w.best-is) (best-next c.loop-first.first c.args.like.now best pair c.loop-first.invariant its.first its.shared its.second (omega arith))
      | else-pair-best w ↦
          let no_fewer = w.if-pair-best.false in
          subst P (sym w.best-is) (best-kept c.loop-first.first c.args.like.now best pair c.loop-first.invariant its.shared its.second (omega arith))
    ]

pub returns : goal.returns
returns c =
    let beginners = c.loop-first.invariant.beginners in
    record {
      partner = beginners.partner;
      fewest = λ k l order within. beginners.fewest k l (omega arith) order within;
      number = λ k l order within same. beginners.number k l (omega arith) order within same;
    }
