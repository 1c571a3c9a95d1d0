use Rattle.std.proofs.Common.{◌≡◌, ℕ, ◌+◌, ◌++◌, ◌∷◌, [], List, Bool, true, false, ap, sym, ◌∙◌}
use Rattle.place_values.specs.declared.query.Pick.{Pick}
use Rattle.group_sum.specs.Sets.{has_word}
use Rattle.group_sum.specs.Splits.{sides_of, joined}
use Rattle.group_sum.proofs.Loops.{sides_from, sides-in, sides-out, joined-left, joined-right, joined-no-left, joined-no-right, joined-none, no-picks}
use Rattle.group_sum.proofs.splits.joined.Goals as goal
use Rattle.group_sum.proofs.splits.joined.Goals.{then-has_word+then-has_word-2+in-Some+in_ok-push, then-has_word+then-has_word-2+in_default, then-has_word+else-has_word-2+in-Some-split_first+in_ok-push-2, then-has_word+else-has_word-2+in_default-split_first, else-has_word}

pub loop-word-preserved : goal.loop-word-preserved
loop-word-preserved c =
    let count : ℕ = c.args.split.count in
    let set : ℕ = c.args.split.set in
    let part : ℕ = c.args.split.part in
    let at : ℕ = c.loop-word.word in
    let picks : List Pick = c.loop-word.picks.items in
    let first : List Pick = c.loop-word.first.now in
    let second : List Pick = c.loop-word.second.now in
    let rest : List Bool = sides_from count set part (at + 1) in
    let all : List Pick = joined (sides_of count set part) c.args.left.now c.args.right.now in
    elim c.if-has_word.branch [
      | then-has_word+then-has_word-2+in-Some+in_ok-push w ↦
          let is : sides_from count set part at ≡ true ∷ rest =
          sides-in count set part at true c.loop-word-test.true (sym c.has_word.ensures ∙ w.if-has_word.true) (sym w.has_word-then-has_word.ensures ∙ w.if-has_word-2.true) in
          (λ i. (ap (λ v. v.items) w.picks-is ∙ w.in_ok-push.ensures.items) i ++ joined rest (w.first-is i).now (w.second-is i).now)
          ∙ joined-left picks all (sides_from count set part at) rest first second w.in-Some.pick.now w.in-Some.others.now is w.in-Some.ensures.cases.0 c.loop-word.invariant
      | then-has_word+then-has_word-2+in_default w ↦
          let is : sides_from count set part at ≡ true ∷ rest =
          sides-in count set part at true c.loop-word-test.true (sym c.has_word.ensures ∙ w.if-has_word.true) (sym w.has_word-then-has_word.ensures ∙ w.if-has_word-2.true) in
          (λ i. (w.picks-is i).items ++ joined rest (w.first-is i).now (w.second-is i).now)
          ∙ joined-no-left picks all (sides_from count set part at) rest first second is (no-picks first w.in_default.ensures.cases) c.loop-word.invariant
      | then-has_word+else-has_word-2+in-Some-split_first+in_ok-push-2 w ↦
          let is : sides_from count set part at ≡ false ∷ rest =
          sides-in count set part at false c.loop-word-test.true (sym c.has_word.ensures ∙ w.if-has_word.true) (sym w.has_word-then-has_word.ensures ∙ w.if-has_word-2.false) in
          (λ i. (ap (λ v. v.items) w.picks-is ∙ w.in_ok-push-2.ensures.items) i ++ joined rest (w.first-is i).now (w.second-is i).now)
          ∙ joined-right picks all (sides_from count set part at) rest first second w.in-Some-split_first.pick.now w.in-Some-split_first.others.now is w.in-Some-split_first.ensures.cases.0 c.loop-word.invariant
      | then-has_word+else-has_word-2+in_default-split_first w ↦
          let is : sides_from count set part at ≡ false ∷ rest =
          sides-in count set part at false c.loop-word-test.true (sym c.has_word.ensures ∙ w.if-has_word.true) (sym w.has_word-then-has_word.ensures ∙ w.if-has_word-2.false) in
          (λ i. (w.picks-is i).items ++ joined rest (w.first-is i).now (w.second-is i).now)
          ∙ joined-no-right picks all (sides_from count set part at) rest first second is (no-picks second w.in_default-split_first.ensures.cases) c.loop-word.invariant
      | else-has_word w ↦
          let is : sides_from count set part at ≡ rest = sides-out count set part at c.loop-word-test.true (sym c.has_word.ensures ∙ w.if-has_word.false) in
          (λ i. (w.picks-is i).items ++ joined rest (w.first-is i).now (w.second-is i).now)
          ∙ joined-none picks all (sides_from count set part at) rest first second is c.loop-word.invariant
    ]
