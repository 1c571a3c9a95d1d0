use Rattle.std.proofs.Common.{◌≡◌, ℕ, Vec, Global, take, Ok}
use Rattle.std.specs.List.{AllByRecursion}
use Rattle.place_values.specs.declared.query.Pick.{Pick}
use Rattle.place_values.specs.Search.{lists_in}
use Rattle.best_first.specs.Fits.{FitsTree, nodes_at}
use Rattle.collective_query.specs.Opened.{FindsPicks}
use Rattle.group_search.specs.Picks.{AreNear, AreMeasured, picks_of}
use Rattle.collective_query.specs.Searches.{Searches}
use Rattle.collective_query.specs.TreePicks.{first_lists}
use Rattle.collective_query.proofs.nearest.nearest_each.Given as goal

-- each of the words so far has its nearest picks
abbrev pub invariant-loop-word : goal.invariant-loop-word
invariant-loop-word g l =
    let p = g.P.Pages in
    record {
      lists : FitsTree (p.pages l.fn.pages) (p.count l.fn.pages) (p.first l.fn.pages) l.tree
          → lists_in l.lists.items ≡ first_lists l.ids l.at (nodes_at (p.pages l.fn.pages) l.tree) l.tree.root (take l.word-index l.words);
      near : AllByRecursion (λ (list : Vec Pick Global). AreNear list.items) l.lists.items;
      measured : AllByRecursion (λ (list : Vec Pick Global). AreMeasured l.at list.items) l.lists.items;
      opened : FitsTree (p.pages l.fn.pages) (p.count l.fn.pages) (p.first l.fn.pages) l.tree
          → FindsPicks (p.pages l.fn.pages) l.tree l.ids l.at l.words (p.asked l.fn.pages) (p.asked l.pages) (picks_of l.lists.items);
      search : Searches {X = ℕ} p l.tree l.fn.pages l.pages (Ok 0);
    }
