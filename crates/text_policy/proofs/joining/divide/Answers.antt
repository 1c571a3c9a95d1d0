use Rattle.std.proofs.Common.{subst}
use Rattle.split_policy.specs.declared.division.Division.{Division}
use Rattle.split_policy.specs.Quadratic.{IsOpen}
use Rattle.text_policy.specs.Splits.{EndsByWords, rest_goes, next_joins}
use Rattle.text_policy.proofs.joining.divide.Goals as goal

pub loop-division-preserved : goal.loop-division-preserved
loop-division-preserved c =
    let d = c.loop-division.division in
    let at = c.first_left-next.result in
    let is_open : IsOpen d = c.is_open.ensures.0 c.loop-division-test.true in
    record {
      divided = c.join-division.ensures.divided;
      ends = λ mask ends.
          let P : Division → Type 0 = λ e. EndsByWords c.args.rects.now c.args.like.now c.args.first c.args.second e mask in
          c.loop-division.invariant.ends mask (next_joins d at mask is_open c.first_left-next.ensures (subst P c.join-division.ensures.joined ends));
    }

pub returns-clause-ends : goal.returns-clause-ends
returns-clause-ends c =
    let d = c.loop-division.division in
    let closed : IsOpen d → ⊥ = λ o. let open_too = c.is_open.ensures.1 o in let shut = c.loop-division-test.false in cc in
    let P : Division → Type 0 = λ e. EndsByWords c.args.rects.now c.args.like.now c.args.first c.args.second e c.end.result in
    subst P c.begin-division.ensures.begun (c.loop-division.invariant.ends c.end.result (rest_goes d c.end.result closed c.end.ensures.ends))
