use Rattle.std.proofs.Common.{◌≡◌, ◌<◌, ◌≤◌, ◌++◌, ◌∷◌, List, Vec, take, length}
use Rattle.std.specs.List.{AllByRecursion}
use Rattle.std.specs.declared.alloc.Global.{Global}
use Rattle.place_values.specs.declared.query.Pick.{Pick}
use Rattle.place_values.specs.Group.{farthest, diameter, choice_cost}
use Rattle.place_values.specs.Search.{lists_in}
use Rattle.group_search.specs.Choices.{IsChoice}
use Rattle.group_search.specs.Fronts.{Completes}
use Rattle.group_search.specs.Picks.{AreMeasured}
use Rattle.group_search.proofs.costing.+least_cost.Given as goal

abbrev pub decreases-least_cost : goal.decreases-least_cost
decreases-least_cost l = length l.lists.now

-- the choices that go on with one of the picks so far were looked at
abbrev pub invariant-loop-pick : goal.invariant-loop-pick
invariant-loop-pick l = record {
  same : l.front.items ≡ l.fn.front.items;
  most : l.least ≤ l.bound;
  least : l.floor < l.least → l.far ≡ farthest l.at l.fn.front.items → l.wide ≡ diameter l.at.scale l.fn.front.items
      → AllByRecursion (λ (list : Vec Pick Global). AreMeasured l.at list.items) l.lists
      → (choice : List Pick) → IsChoice (take l.pick-index l.pick-items ∷ lists_in l.others) choice → l.least ≤ choice_cost l.at (l.fn.front.items ++ choice);
  found : l.least < l.bound → l.far ≡ farthest l.at l.fn.front.items → l.wide ≡ diameter l.at.scale l.fn.front.items
      → AllByRecursion (λ (list : Vec Pick Global). AreMeasured l.at list.items) l.lists → Completes l.at (lists_in l.lists) l.least l.fn.front.items;
}
