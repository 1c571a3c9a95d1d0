use Rattle.std.proofs.Common.{◌+◌, arith, sym, subst}
use Rattle.std.proofs.lemmas.Int.{ints}
use Rattle.split_policy.specs.declared.seeds.Seeds.{Seeds}
use Rattle.split_policy.proofs.Partners.{IsBest, best-first, best-kept, best-next}
use Rattle.split_policy.proofs.seeds.pick_seeds.Goals as goal
use Rattle.split_policy.proofs.seeds.pick_seeds.Goals.{then-best-pair, else-best-pair}

pub loop-first-init : goal.loop-first-init
loop-first-init c =
    let pair = c.partner-best.ensures in
    best-first c.args.rects.now c.partner-best.result pair.first pair.waste pair.second

pub loop-first-preserved : goal.loop-first-preserved
loop-first-preserved c =
    let best = c.loop-first.best in
    let pair = c.partner-pair.result in
    let its = c.partner-pair.ensures in
    let P : Seeds → Type 0 = λ s. IsBest (c.loop-first.first + 1) c.args.rects.now s in
    elim c.if-best-pair.branch [
      | then-best-pair w ↦
          let more = w.if-best-pair.true in
          subst P (sym w.best-is) (best-next c.loop-first.first c.args.rects.now best pair c.loop-first.invariant its.first its.waste its.second (omega (arith, ints)))
      | else-best-pair w ↦
          let no_more = w.if-best-pair.false in
          subst P (sym w.best-is) (best-kept c.loop-first.first c.args.rects.now best pair c.loop-first.invariant its.waste its.second (omega (arith, ints)))
    ]

pub returns : goal.returns
returns c =
    let seeds = c.loop-first.invariant.seeds in
    record {
      partner = seeds.partner;
      waste = λ k l order within. seeds.waste k l (omega arith) order within;
      number = λ k l order within same. seeds.number k l (omega arith) order within same;
    }
