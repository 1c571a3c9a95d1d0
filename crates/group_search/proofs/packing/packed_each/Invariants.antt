use Rattle.std.proofs.Common.{Vec, Global, take}
use Rattle.std.specs.List.{AllByRecursion}
use Rattle.spatial_base.specs.Point.{Viewpoint}
use Rattle.place_values.specs.declared.query.Pick.{Pick}
use Rattle.place_values.specs.Search.{lists_in}
use Rattle.group_search.specs.Blocks.{ArePacks, packed_lists}
use Rattle.group_search.specs.Choices.{AreCut}
use Rattle.group_search.specs.Picks.{AreMeasured}
use Rattle.group_search.proofs.packing.packed_each.Given as goal

-- so it is with the lists so far
abbrev pub invariant-loop-list : goal.invariant-loop-list
invariant-loop-list l = record {
  same : AreCut (λ _. Unit {0}) (lists_in (take l.list-index l.lists)) (packed_lists l.packs.items);
  blocks : (at : Viewpoint) → AllByRecursion (λ (list : Vec Pick Global). AreMeasured at list.items) l.lists → ArePacks at l.packs.items;
}
