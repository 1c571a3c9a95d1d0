use Rattle.std.proofs.Common.{sym, ◌∙◌}
use Rattle.best_first.proofs.Firsts.{first_one}
use Rattle.best_first.proofs.Limits.{dear-alone, cheap-alone}
use Rattle.best_first.proofs.Queued.{ok_always, found_begun}
use Rattle.best_first.proofs.search.sort_one.Goals as goal

pub returns-in-Node-clause-found : goal.returns-in-Node-clause-found
returns-in-Node-clause-found c = rw c.in-Node.is (ok_always c.put.result _ (found_begun c.args.k c.args.found.now.items c.requires.ranked c.requires.short))

pub returns-then-is_over-clause-found : goal.returns-then-is_over-clause-found
returns-then-is_over-clause-found c =
    let dear = dear-alone c.args.limit c.in-Place.hit (sym c.is_over.ensures ∙ c.if-is_over.true) in
    rw c.in-Place.is (rw dear (found_begun c.args.k c.args.found.now.items c.requires.ranked c.requires.short))

pub returns-else-is_over-clause-found : goal.returns-else-is_over-clause-found
returns-else-is_over-clause-found c =
    let cheap = cheap-alone c.args.limit c.in-Place.hit (sym c.is_over.ensures ∙ c.if-is_over.false) in
    rw c.in-Place.is (rw cheap (rw (first_one c.args.k c.args.found.now.items c.in-Place.hit c.requires.ranked c.requires.short) at c.keep.ensures))
