use Rattle.std.proofs.Common.{◌≡◌, ℕ, ◌+◌, ◌≤◌, arith, sym, ap, ◌∙◌, subst, bit_or, ◌↔◌}
use Rattle.std.specs.Int.{bit_at}
use Rattle.split_policy.specs.declared.axis.Axis.{Axis}
use Rattle.split_policy.specs.Halving.{rank_among, sum_at}
use Rattle.split_policy.proofs.Ranks.{MovesBelow, moves-none, moves-next, moves-kept, rank-apart, rank-below, sixteen-marked}
use Rattle.split_policy.proofs.halving.halving_split.Goals as goal
use Rattle.split_policy.proofs.halving.halving_split.Goals.{then-rank-ge-STAYING, else-rank-ge-STAYING}

pub loop-entry-init : goal.loop-entry-init
loop-entry-init c = moves-none _

pub loop-entry-preserved : goal.loop-entry-preserved
loop-entry-preserved c =
    let ranks = rank_among 33 (sum_at c.args.rects.now c.of-axis.result) in
    let P : ℕ → Type 0 = λ mask. MovesBelow (c.loop-entry.entry + 1) ranks mask in
    elim c.if-rank-ge-STAYING.branch [
      | then-rank-ge-STAYING w ↦
          let moves = w.if-rank-ge-STAYING.true in
          let is = w.mask-is ∙ ap (bit_or c.loop-entry.mask) w.bit-mask.ensures in
          subst P (sym is) (moves-next c.loop-entry.entry ranks c.loop-entry.mask (omega arith) c.loop-entry.invariant (omega arith))
      | else-rank-ge-STAYING w ↦
          let stays = w.if-rank-ge-STAYING.false in
          subst P (sym w.mask-is) (moves-kept c.loop-entry.entry ranks c.loop-entry.mask c.loop-entry.invariant (omega arith))
    ]

pub returns-clause-mask : goal.returns-clause-mask
returns-clause-mask c =
    let sums = sum_at c.args.rects.now c.of-axis.result in
    let is = c.loop-entry.invariant in
    let sixteen = sixteen-marked c.loop-entry.mask (rank_among 33 sums) (rank-apart 33 sums) (rank-below 33 sums) (λ i l. is.moves i (omega arith)) in
    record { within = is.within; enough = omega arith; few = omega arith }

pub returns-clause-split : goal.returns-clause-split
returns-clause-split c =
    let is = c.loop-entry.invariant in
    record {
      within = is.within;
      moves = λ i l.
          let Q : Axis → Type 0 = λ axis. (bit_at c.loop-entry.mask i ≡ 1) ↔ (17 ≤ rank_among 33 (sum_at c.args.rects.now axis) i) in
          subst Q c.of-axis.ensures (is.moves i (omega arith));
    }
