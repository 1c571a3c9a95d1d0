use Rattle.std.proofs.Common.{◌≡◌, ℕ, List, Vec, Global, ◌++◌, take, Ok}
use Rattle.std.specs.List.{AllByRecursion, Contains}
use Rattle.place_values.specs.declared.query.Pick.{Pick}
use Rattle.place_values.specs.Search.{lists_in}
use Rattle.best_first.specs.Fits.{FitsTree, nodes_at}
use Rattle.group_search.specs.Choices.{IsInBoth, AreCut}
use Rattle.collective_query.specs.Opened.{FindsPicks}
use Rattle.group_search.specs.Picks.{AreNear, AreMeasured, picks_of}
use Rattle.collective_query.specs.Searches.{Searches}
use Rattle.collective_query.specs.TreePicks.{tree_lists, first_lists}
use Rattle.collective_query.proofs.anchoring.within_each.Given as goal

-- the lists of the words so far are cut
abbrev pub invariant-loop-index : goal.invariant-loop-index
invariant-loop-index g l =
    let p = g.P.Pages in
    let nodes = nodes_at (p.pages l.fn.pages) l.tree in
    record {
      cut : FitsTree (p.pages l.fn.pages) (p.count l.fn.pages) (p.first l.fn.pages) l.tree
          → lists_in l.nearest ≡ first_lists l.ids l.at nodes l.tree.root l.words
          → AreCut (IsInBoth l.at l.most l.at l.most) (take l.index (tree_lists l.ids l.at nodes l.tree.root l.words)) (lists_in l.lists.items);
      near : AllByRecursion (λ (list : Vec Pick Global). AreNear list.items) l.lists.items;
      measured : AllByRecursion (λ (list : Vec Pick Global). AreMeasured l.at list.items) l.lists.items;
      opened : FitsTree (p.pages l.fn.pages) (p.count l.fn.pages) (p.first l.fn.pages) l.tree
          → (before : List ℕ) → (found : List Pick) → ((pick : Pick) → Contains (picks_of l.nearest) pick → Contains found pick)
          → FindsPicks (p.pages l.fn.pages) l.tree l.ids l.at l.words before (p.asked l.fn.pages) found
          → FindsPicks (p.pages l.fn.pages) l.tree l.ids l.at l.words before (p.asked l.pages) (found ++ picks_of l.lists.items);
      search : Searches {X = ℕ} p l.tree l.fn.pages l.pages (Ok 0);
    }
