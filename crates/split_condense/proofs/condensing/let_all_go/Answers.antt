use Rattle.std.proofs.Common.{arith, ◌≡◌, ℕ, ap}
use Rattle.rtree_nodes.specs.Slots.{got, sum_to}
use Rattle.rtree_nodes.proofs.Looses.{sum_none, sum_next, sum_all}
use Rattle.rtree_nodes.specs.Pages.{stored_in}
use Rattle.irtree_shape.specs.Words.{words_on}
use Rattle.split_condense.proofs.condensing.let_all_go.Goals as goal

pub loop-at-init : goal.loop-at-init
loop-at-init c = record {
  sums = λ F b is. let z = sum_none (λ k. got (F c.args.level) (words_on b (stored_in c.args.bytes.now) k)) in omega arith;
  items = λ nodes b is e a. a;
  low = λ top within a. a;
}

pub loop-at-preserved : goal.loop-at-preserved
loop-at-preserved c = record {
  sums = λ F b is. let n = sum_next c.loop-at.at (λ k. got (F c.args.level) (words_on b (stored_in c.args.bytes.now) k)) in
      let a = c.in-Ok.ensures.sums F b is in let d = c.loop-at.invariant.sums F b is in omega arith;
  items = λ nodes b is e a. c.in-Ok.ensures.items nodes b is (e c.loop-at.at (omega arith)) (c.loop-at.invariant.items nodes b is e a);
  low = λ top within a. c.in-Ok.ensures.low top within (c.loop-at.invariant.low top within a);
}

pub returns-clause-sums : goal.returns-clause-sums
returns-clause-sums c = λ F b is. let a = c.loop-at.invariant.sums F b is in let s = sum_all (F c.args.level) (words_on b (stored_in c.args.bytes.now)) in
    let e : c.loop-at.at ≡ 32 = omega arith in
    let d : sum_to c.loop-at.at (λ k. got (F c.args.level) (words_on b (stored_in c.args.bytes.now) k)) ≡ sum_to 32 (λ k. got (F c.args.level) (words_on b (stored_in c.args.bytes.now) k)) =
    ap (λ (m : ℕ). sum_to m (λ k. got (F c.args.level) (words_on b (stored_in c.args.bytes.now) k))) e in
    omega arith
