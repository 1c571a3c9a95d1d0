use Rattle.std.proofs.Common.{◌≡◌, ◌≤◌, ℕ, List, ◌++◌, take, Ok, IfSome}
use Rattle.std.specs.List.{Contains}
use Rattle.place_values.specs.declared.query.Pick.{Pick}
use Rattle.place_values.specs.Search.{lists_in}
use Rattle.best_first.specs.Fits.{FitsTree, nodes_at}
use Rattle.group_search.specs.Leads.{AreLeads, Follows}
use Rattle.collective_query.specs.Opened.{FindsPicks}
use Rattle.group_search.specs.Picks.{picks_of}
use Rattle.collective_query.specs.Searches.{Searches}
use Rattle.collective_query.specs.TreePicks.{tree_lists, first_lists}
use Rattle.group_search.specs.Tried.{IsChosen}
use Rattle.collective_query.proofs.following.follow_each.Given as goal

-- the lead picks so far were followed, the last of them among them
abbrev pub invariant-loop-anchor : goal.invariant-loop-anchor
invariant-loop-anchor g l =
    let p = g.P.Pages in
    let nodes = nodes_at (p.pages l.fn.pages) l.tree in
    record {
      followed : FitsTree (p.pages l.fn.pages) (p.count l.fn.pages) (p.first l.fn.pages) l.tree
          → lists_in l.nearest ≡ first_lists l.ids l.at nodes l.tree.root l.words
          → AreLeads (tree_lists l.ids l.at nodes l.tree.root l.words) l.own l.leads
          → IsChosen l.at (tree_lists l.ids l.at nodes l.tree.root l.words) l.fn.best
          → (before : List ℕ) → (known : List Pick) → ((pick : Pick) → Contains (picks_of l.nearest) pick → Contains known pick) → ((pick : Pick) → Contains l.leads pick → Contains known pick)
          → FindsPicks (p.pages l.fn.pages) l.tree l.ids l.at l.words before (p.asked l.fn.pages) (known ++ l.fn.best.picks)
          → Follows l.at (tree_lists l.ids l.at nodes l.tree.root l.words) l.own (take l.anchor-index l.leads) l.fn.best l.best
          × FindsPicks (p.pages l.fn.pages) l.tree l.ids l.at l.words before (p.asked l.pages) (known ++ l.best.picks);
      last : IfSome l.last (Contains (take l.anchor-index l.leads));
      cost : l.best.cost ≤ l.fn.best.cost;
      search : Searches {X = ℕ} p l.tree l.fn.pages l.pages (Ok 0);
    }
