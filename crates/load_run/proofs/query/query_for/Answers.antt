use Rattle.std.proofs.Common.{◌≡◌, ◌++◌, ◌∷◌, [], codes, decimal, rules, subst, sym, arith}
use Rattle.place_values.specs.Query.{IsWeights}
use Rattle.load_run.proofs.Queries.{own_weights}
use Rattle.load_run.proofs.query.query_for.Goals as goal

pub returns-clause-limits : goal.returns-clause-limits
returns-clause-limits c =
    let is : c.from_vec.result ≡ (codes "place", 1) ∷ (codes "a" ++ decimal c.args.made.now.first, 2) ∷ [] = search rules in
    (omega arith, record { some = omega arith; few = omega arith }, record { share = omega arith; some = omega arith; far = omega arith }, subst IsWeights (sym is) (own_weights c.args.made.now.first))
