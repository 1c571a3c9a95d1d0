use Rattle.std.proofs.Common.{ℕ, [], Ok}
use Rattle.best_first.specs.Fits.{FitsTree}
use Rattle.collective_query.specs.Opened.{FindsPicks}
use Rattle.collective_query.specs.Searches.{Searches}
use Rattle.group_sum.proofs.filling.has_each.Given as goal

-- the nodes that were opened for the words so far
abbrev pub invariant-loop-word : goal.invariant-loop-word
invariant-loop-word g l =
    let p = g.P.Pages in
    record {
      opened : FitsTree (p.pages l.fn.pages) (p.count l.fn.pages) (p.first l.fn.pages) l.tree → FindsPicks (p.pages l.fn.pages) l.tree l.ids l.at l.words (p.asked l.fn.pages) (p.asked l.pages) [];
      search : Searches {X = ℕ} p l.tree l.fn.pages l.pages (Ok 0);
    }
