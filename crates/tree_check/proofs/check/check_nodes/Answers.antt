use Rattle.std.proofs.Common.{arith}
use Rattle.page_walks.specs.Met.{held}
use Rattle.tree_check.proofs.Trees.{broken-apart}
use Rattle.tree_check.proofs.check.check_nodes.Goals as goal

pub returns-in-Err-clause-exact : goal.returns-in-Err-clause-exact
returns-in-Err-clause-exact g c = λ told damage e whole.
    let p = g.P.Pages in
    broken-apart (p.pages c.args.pages.now) (p.count c.args.pages.now) (held c.args.met.now) c.args.root damage (omega (arith, c.counted-counted.ensures)) (c.in-Err.ensures.damaged told damage e) whole
