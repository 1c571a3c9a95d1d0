use Rattle.std.proofs.Common.{Vec, Global, take}
use Rattle.std.specs.List.{AllByRecursion}
use Rattle.spatial_base.specs.Point.{Viewpoint}
use Rattle.place_values.specs.declared.query.Pick.{Pick}
use Rattle.place_values.specs.Search.{lists_in}
use Rattle.group_search.specs.Choices.{AreCut}
use Rattle.group_search.specs.Picks.{AreNear, AreMeasured}
use Rattle.group_search.proofs.joining.closest_each.Given as goal

-- so it is with the lists so far
abbrev pub invariant-loop-list : goal.invariant-loop-list
invariant-loop-list l = record {
  same : AreCut (λ _. Unit {0}) (lists_in (take l.list-index l.lists)) (lists_in l.sorted.items);
  near : AllByRecursion (λ (list : Vec Pick Global). AreNear list.items) l.sorted.items;
  measured : (from : Viewpoint) → AllByRecursion (λ (list : Vec Pick Global). AreMeasured from list.items) l.lists → AllByRecursion (λ (list : Vec Pick Global). AreMeasured from list.items) l.sorted.items;
}
