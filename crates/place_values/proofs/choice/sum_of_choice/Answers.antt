use Rattle.std.proofs.Common.{◌≡◌, ◌≤◌, ◌+◌, ◌<◌, ℕ, true, false, cond, get_or, take, length, List, [], ◌∷◌, ◌∙◌, ap, sym, subst, zero, suc, arith}
use Rattle.std.specs.List.{AllByRecursion}
use Rattle.place_values.specs.declared.query.Pick.{Pick}
use Rattle.place_values.specs.Sum.{sum_cost}
use Rattle.place_values.specs.SumLaws.{has_place_of, sum_more}
use Rattle.place_values.proofs.choice.sum_of_choice.Goals as goal
use Rattle.place_values.proofs.choice.sum_of_choice.Goals.{then-not-has_place, else-not-has_place}

near_at : (xs : List Pick) (i : ℕ) (d : Pick) → AllByRecursion (λ (pick : Pick). pick.dist ≤ 2545584412) xs → i < length xs → (get_or xs i d).dist ≤ 2545584412
near_at [] i d h below = absurd (omega arith)
near_at (x ∷ xs) zero d h below = h.0
near_at (x ∷ xs) (suc i) d h below = near_at xs i d h.1 (omega arith)

new_place : (xs : List Pick) (i : ℕ) (pick : Pick) (old new : ℕ) → i < length xs → pick ≡ get_or xs i pick → has_place_of (take i xs) pick ≡ false → old ≡ sum_cost (take i xs) → new ≡ old + pick.dist → new ≡ sum_cost (take (i + 1) xs)
new_place xs i pick old new below is has was e =
    let more : sum_cost (take (i + 1) xs) ≡ sum_cost (take i xs) + cond (has_place_of (take i xs) pick) 0 pick.dist =
    sum_more xs i pick below ∙ ap (λ (p : Pick). sum_cost (take i xs) + cond (has_place_of (take i xs) p) 0 p.dist) (sym is) in
    let paid : cond (has_place_of (take i xs) pick) 0 pick.dist ≡ pick.dist = ap (λ b. cond b 0 pick.dist) has in
    omega arith

same_places : (xs : List Pick) (i : ℕ) (pick : Pick) (old new : ℕ) → i < length xs → pick ≡ get_or xs i pick → has_place_of (take i xs) pick ≡ true → old ≡ sum_cost (take i xs) → new ≡ old → new ≡ sum_cost (take (i + 1) xs)
same_places xs i pick old new below is has was e =
    let more : sum_cost (take (i + 1) xs) ≡ sum_cost (take i xs) + cond (has_place_of (take i xs) pick) 0 pick.dist =
    sum_more xs i pick below ∙ ap (λ (p : Pick). sum_cost (take i xs) + cond (has_place_of (take i xs) p) 0 p.dist) (sym is) in
    let paid : cond (has_place_of (take i xs) pick) 0 pick.dist ≡ 0 = ap (λ b. cond b 0 pick.dist) has in
    omega arith

pub loop-i-preserved : goal.loop-i-preserved
loop-i-preserved c =
    let xs : List Pick = c.args.picks.now in
    let near : c.index-picks-i.result.dist ≤ 2545584412 =
    subst (λ (p : Pick). p.dist ≤ 2545584412) (sym c.index-picks-i.is) (near_at xs c.loop-i.i c.index-picks-i.result c.requires.near c.loop-i-test.true) in
    elim c.if-not-has_place.branch [
      | then-not-has_place w ↦ record {
        sum = new_place xs c.loop-i.i c.index-picks-i.result c.loop-i.sum _ c.loop-i-test.true c.index-picks-i.is (sym c.has_place.ensures ∙ w.if-not-has_place.true) c.loop-i.invariant.sum w.sum-is;
        most = omega arith;
      }
      | else-not-has_place w ↦ record {
        sum = same_places xs c.loop-i.i c.index-picks-i.result c.loop-i.sum _ c.loop-i-test.true c.index-picks-i.is (sym c.has_place.ensures ∙ w.if-not-has_place.false) c.loop-i.invariant.sum w.sum-is;
        most = omega arith;
      }
    ]
