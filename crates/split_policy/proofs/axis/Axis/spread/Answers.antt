use Rattle.std.proofs.Common.{◌≡◌, ℕ, arith, ap, ◌∙◌}
use Rattle.std.proofs.lemmas.Int.{ints, clamps}
use Rattle.split_policy.proofs.Areas.{read-rect}
use Rattle.split_policy.specs.Halving.{sum_on, sum_at, greatest, least, spread_on}
use Rattle.split_policy.proofs.Spreads.{greatest-none, greatest-next, least-none, least-next}
use Rattle.split_policy.proofs.axis.Axis.spread.Goals as goal

pub loop-i-init : goal.loop-i-init
loop-i-init c =
    let sums = sum_at c.args.rects.now c.args.self in
    let first : c.sum-greatest.result ≡ sums 0 = c.sum-greatest.ensures.value ∙ ap (sum_on c.args.self) (read-rect c.args.rects.now 0 33 c.index-rects-0.result c.told-rects (omega arith)) in
    record {
      greatest = omega (arith, ints, greatest-none sums);
      least = omega (arith, ints, least-none sums);
      greatest_within = omega (arith, ints);
      least_within = omega (arith, ints);
    }

pub loop-i-preserved : goal.loop-i-preserved
loop-i-preserved c =
    let sums = sum_at c.args.rects.now c.args.self in
    let here : c.sum-sum.result ≡ sums c.loop-i.i = c.sum-sum.ensures.value ∙ ap (sum_on c.args.self) (read-rect c.args.rects.now c.loop-i.i 33 c.index-rects-i.result c.told-rects (omega arith)) in
    record {
      greatest = omega (arith, ints, clamps, greatest-next c.loop-i.i sums);
      least = omega (arith, ints, clamps, least-next c.loop-i.i sums);
      greatest_within = omega (arith, ints, clamps);
      least_within = omega (arith, ints, clamps);
    }

pub returns : goal.returns
unfolding spread_on
returns c =
    let sums = sum_at c.args.rects.now c.args.self in
    let all : c.loop-i.i ≡ 33 = omega arith in
    let high = ap (λ (n : ℕ). greatest n sums) all in
    let low = ap (λ (n : ℕ). least n sums) all in
    omega (arith, ints)
