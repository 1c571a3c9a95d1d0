use Rattle.std.proofs.Common.{subst}
use Rattle.split_policy.specs.declared.division.Division.{Division}
use Rattle.split_policy.specs.Quadratic.{EndsWith, next_joins, IsOpen, IsQuadraticSplit}
use Rattle.split_policy.proofs.Once.{quadratic-once}
use Rattle.split_policy.proofs.quadratic.quadratic_split.Goals as goal

pub loop-division-preserved : goal.loop-division-preserved
loop-division-preserved c =
    let d = c.loop-division.division in
    let at = c.pick_next-next.result in
    let is_open : IsOpen d = c.is_open.ensures.0 c.loop-division-test.true in
    record {
      divided = c.place-division.ensures.divided;
      ends = λ mask ends.
          let P : Division → Type 0 = λ e. EndsWith c.args.rects.now e mask in
          c.loop-division.invariant.ends mask (next_joins d at mask is_open c.pick_next-next.ensures (subst P c.place-division.ensures.placed ends));
    }

-- the mask that is returned is that of the quadratic split
is_split : (c : goal.After-end) → IsQuadraticSplit c.args.rects.now c.end.result
is_split c =
    let P : Division → Type 0 = λ d. EndsWith c.args.rects.now d c.end.result in
    record {
      i = c.pick_seeds-seeds.result.first;
      j = c.pick_seeds-seeds.result.second;
      seeds = c.pick_seeds-seeds.ensures;
      ends = subst P c.begin-division.ensures.begun (c.loop-division.invariant.ends c.end.result c.end.ensures.ends);
    }

pub returns-clause-split : goal.returns-clause-split
returns-clause-split c = is_split c

pub returns-clause-only : goal.returns-clause-only
returns-clause-only c = λ mask other. quadratic-once c.args.rects.now c.end.result mask (is_split c) other
