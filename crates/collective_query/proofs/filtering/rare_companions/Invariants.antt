use Rattle.std.proofs.Common.{◌≡◌, ◌≤◌, ◌<◌, ℕ, List, Vec, Global, ◌++◌, length, Ok}
use Rattle.std.specs.List.{AllByRecursion, Contains}
use Rattle.place_values.specs.declared.query.Pick.{Pick}
use Rattle.place_values.specs.Group.{choice_cost}
use Rattle.place_values.specs.Search.{lists_in}
use Rattle.best_first.specs.Fits.{FitsTree, nodes_at}
use Rattle.group_search.specs.Choices.{IsChoice}
use Rattle.group_search.specs.Leads.{led_by}
use Rattle.collective_query.specs.Opened.{FindsPicks}
use Rattle.group_search.specs.Picks.{AreNear, AreMeasured, picks_of}
use Rattle.collective_query.specs.Searches.{Searches}
use Rattle.collective_query.specs.TreePicks.{tree_lists, first_lists}
use Rattle.collective_query.proofs.filtering.rare_companions.Given as goal

-- a cheap choice with the lead has a pick of each of the lists so far
abbrev pub invariant-loop-index : goal.invariant-loop-index
invariant-loop-index g l =
    let p = g.P.Pages in
    let nodes = nodes_at (p.pages l.fn.pages) l.tree in
    record {
      met : FitsTree (p.pages l.fn.pages) (p.count l.fn.pages) (p.first l.fn.pages) l.tree
          → lists_in l.nearest ≡ first_lists l.ids l.at nodes l.tree.root l.words → l.own < length l.words
          → (choice : List Pick) → IsChoice (led_by l.own l.anchor (tree_lists l.ids l.at nodes l.tree.root l.words)) choice
          → choice_cost l.at choice ≤ l.most → (list : List Pick) → Contains (lists_in l.lists.items) list → (pick : Pick) × Contains choice pick × Contains list pick;
      near : AllByRecursion (λ (list : Vec Pick Global). AreNear list.items) l.lists.items;
      measured : AllByRecursion (λ (list : Vec Pick Global). AreMeasured l.at list.items) l.lists.items;
      opened : FitsTree (p.pages l.fn.pages) (p.count l.fn.pages) (p.first l.fn.pages) l.tree
          → (before : List ℕ) → (found : List Pick) → ((pick : Pick) → Contains (picks_of l.nearest) pick → Contains found pick) → Contains found l.anchor
          → FindsPicks (p.pages l.fn.pages) l.tree l.ids l.at l.words before (p.asked l.fn.pages) found
          → FindsPicks (p.pages l.fn.pages) l.tree l.ids l.at l.words before (p.asked l.pages) (found ++ picks_of l.lists.items);
      search : Searches {X = ℕ} p l.tree l.fn.pages l.pages (Ok 0);
    }
