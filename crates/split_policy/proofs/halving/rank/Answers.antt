use Rattle.std.proofs.Common.{arith, sym, ◌∙◌}
use Rattle.split_policy.specs.Halving.{sum_at}
use Rattle.split_policy.proofs.Ranks.{rank-none, rank-next}
use Rattle.split_policy.proofs.halving.rank.Goals as goal
use Rattle.split_policy.proofs.halving.rank.Goals.{then-is_before, else-is_before}

pub loop-other-init : goal.loop-other-init
loop-other-init c = record { rank = sym (rank-none (sum_at c.args.rects.now c.args.axis) c.args.entry); within = omega arith }

pub loop-other-preserved : goal.loop-other-preserved
loop-other-preserved c =
    let next = rank-next c.loop-other.other (sum_at c.args.rects.now c.args.axis) c.args.entry in
    elim c.if-is_before.branch [
      | then-is_before w ↦ let t = w.if-is_before.true in let e = next.0 (sym c.is_before.ensures ∙ t) in record { rank = omega arith; within = omega arith }
      | else-is_before w ↦ let t = w.if-is_before.false in let e = next.1 (sym c.is_before.ensures ∙ t) in record { rank = omega arith; within = omega arith }
    ]
