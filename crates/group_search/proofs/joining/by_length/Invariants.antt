use Rattle.std.proofs.Common.{List, Vec, Global, take}
use Rattle.std.specs.List.{AllByRecursion, Contains}
use Rattle.place_values.specs.declared.query.Pick.{Pick}
use Rattle.place_values.specs.Search.{lists_in}
use Rattle.group_search.specs.Picks.{AreNear}
use Rattle.group_search.proofs.joining.by_length.Given as goal

-- the lists so far are there
abbrev pub invariant-loop-list : goal.invariant-loop-list
invariant-loop-list l = record {
  near : AllByRecursion (λ (list : Vec Pick Global). AreNear list.items) l.sorted.items;
  among : (list : List Pick) → Contains (lists_in l.sorted.items) list → Contains (lists_in (take l.list-index l.lists)) list;
  whole : (list : List Pick) → Contains (lists_in (take l.list-index l.lists)) list → Contains (lists_in l.sorted.items) list;
}
