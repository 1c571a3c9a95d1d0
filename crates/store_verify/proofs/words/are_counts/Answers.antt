use Rattle.std.proofs.Common.{◌≡◌, ℕ, List, drop, inl, inr, subst, arith, eq-eqb, eqb-true}
use Rattle.store_verify.proofs.Runs.{IsRun, run-apart, run-taken, taken-all, taken-none}
use Rattle.store_verify.proofs.words.are_counts.Goals as goal
use Rattle.store_verify.proofs.words.are_counts.Goals.{then-run-eq0-via-then-run-eq0, then-run-eq0-via-else-run-eq0+then-run-row}

-- a run of a list that is another
run : (xs ys : List ℕ) (number n : ℕ) → xs ≡ ys → IsRun xs number n → IsRun ys number n
run xs ys number n same is = subst (λ (zs : List ℕ). IsRun zs number n) same is

pub loop-row-init : goal.loop-row-init
loop-row-init c = taken-none c.args.numbers.now c.args.held.now

pub returns-then-run-eq0 : goal.returns-then-run-eq0
returns-then-run-eq0 c = λ ascend.
    let apart = run-apart c.args.numbers.now c.loop-row.row-index c.loop-row.at c.row-item.result c.args.held.now c.run_of-run.result ascend (omega arith) c.row-item.is c.loop-row.invariant
    (run c.from_place.result.now (drop c.loop-row.at c.args.held.now) c.row-item.result.0 c.run_of-run.result c.from_place.ensures
    (record { within = c.run_of-run.ensures.within; same = c.run_of-run.ensures.same; other = c.run_of-run.ensures.other })) in (
      (λ never. absurd (cc)),
      (λ all. absurd (elim c.then-run-eq0.branch [
        | then-run-eq0-via-then-run-eq0 w ↦ apart (inl w.if-run-eq0.true) all
        | then-run-eq0-via-else-run-eq0+then-run-row w ↦ apart (inr w.if-run-row.true) all
      ])),
    )

pub loop-row-preserved : goal.loop-row-preserved
loop-row-preserved c =
    run-taken c.args.numbers.now c.loop-row.row-index c.loop-row.at c.row-item.result c.args.held.now c.run_of-run.result (omega arith) c.row-item.is c.loop-row.invariant
    (run c.from_place.result.now (drop c.loop-row.at c.args.held.now) c.row-item.result.0 c.run_of-run.result c.from_place.ensures
    (record { within = c.run_of-run.ensures.within; same = c.run_of-run.ensures.same; other = c.run_of-run.ensures.other })) c.if-run-row.false c.if-run-eq0.false

pub returns : goal.returns
returns c = λ ascend.
    let all = taken-all c.args.numbers.now c.loop-row.row-index c.loop-row.at c.args.held.now (omega arith) c.loop-row.invariant in (
      (λ same. all.0 (eqb-true c.loop-row.at _ same)),
      (λ is. eq-eqb c.loop-row.at _ (all.1 is)),
    )
