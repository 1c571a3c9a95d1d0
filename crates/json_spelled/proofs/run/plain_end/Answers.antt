use Rattle.std.proofs.Common.{◌≡◌, ◌<◌, ◌≤◌, ℕ, true, get_or, subst, arith, rules}
use Rattle.std.proofs.Math.Logic.{⊎_elim}
use Rattle.std.proofs.lemmas.Bool.{cases_lt}
use Rattle.json_spelled.specs.Feeding.{IsTaken}
use Rattle.json_spelled.proofs.run.plain_end.Goals as goal

pub loop-end-preserved : goal.loop-end-preserved
loop-end-preserved c =
    let end = c.loop-end.end in
    let plain : c.is_plain.result ≡ true = search rules in
    record {
      from = omega arith;
      taken = λ k low high. ⊎_elim
          (λ (before : k < end). c.loop-end.invariant.taken k low before)
          (λ (at : end ≤ k). let same : end ≡ k = omega arith in subst (λ (i : ℕ). IsTaken (get_or c.args.text.now i 0)) same (c.is_plain.ensures.taken plain))
          (cases_lt k end);
    }

pub returns-clause-taken : goal.returns-clause-taken
returns-clause-taken c = λ k low short. c.loop-end.invariant.taken k low (omega arith)
