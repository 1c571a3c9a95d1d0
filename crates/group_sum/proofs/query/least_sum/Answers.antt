use Rattle.std.proofs.Common.{ℕ}
use Rattle.collective_query.proofs.Searches.{searches-give, searches-then}
use Rattle.group_sum.proofs.query.least_sum.Goals as goal

pub returns-in-Ok-true-clause-search : goal.returns-in-Ok-true-clause-search
returns-in-Ok-true-clause-search g c =
    searches-then {X = ℕ} g.P.Pages g.met.P.Pages.goes_further g.met.P.Pages.reads_further c.args.tree.now _ _ _ _ _ (searches-give g.P.Pages c.args.tree.now _ _ _ _ 0 c.in-Ok-true.is c.has_each.ensures.search) c.fill.ensures.search
