use Rattle.std.proofs.Common.{◌≡◌, Vec, Global, map, take}
use Rattle.std.specs.List.{AllByRecursion}
use Rattle.place_values.specs.declared.query.Pick.{Pick}
use Rattle.place_values.specs.Search.{lists_in}
use Rattle.group_search.specs.Joins.{joined_by}
use Rattle.group_search.specs.Picks.{AreNear}
use Rattle.group_search.proofs.joining.joined_each.Given as goal

-- so it is with the lists so far
abbrev pub invariant-loop-list : goal.invariant-loop-list
invariant-loop-list l = record {
  kept : lists_in l.kept.items ≡ map (joined_by l.at.scale l.most l.others) (lists_in (take l.list-index l.lists));
  near : AllByRecursion (λ (list : Vec Pick Global). AreNear list.items) l.kept.items;
}
