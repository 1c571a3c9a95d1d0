use Rattle.std.proofs.Common.{◌≡◌, ◌≤◌, Vec, IfSome, take}
use Rattle.std.specs.List.{AllByRecursion}
use Rattle.std.specs.declared.alloc.Global.{Global}
use Rattle.place_values.specs.declared.query.Pick.{Pick}
use Rattle.place_values.specs.Group.{farthest, diameter}
use Rattle.place_values.specs.Search.{lists_in}
use Rattle.group_search.specs.Fronts.{IsNext}
use Rattle.group_search.specs.Picks.{AreMeasured}
use Rattle.group_search.proofs.keys.least_next.Given as goal

-- the least of the picks so far
abbrev pub invariant-loop-pick : goal.invariant-loop-pick
invariant-loop-pick l = record {
  same : l.front.items ≡ l.fn.front.items;
  near : IfSome l.next (λ next. next.dist ≤ 2545584412);
  next : l.far ≡ farthest l.at l.fn.front.items → l.wide ≡ diameter l.at.scale l.fn.front.items
      → AllByRecursion (λ (list : Vec Pick Global). AreMeasured l.at list.items) l.lists → AreMeasured l.at l.list
      → IsNext l.at (lists_in l.lists) l.most l.fn.front.items (take l.pick-index l.list) l.next;
}
