use Rattle.std.proofs.Common.{◌≡◌, map, take}
use Rattle.std.specs.List.{AllByRecursion}
use Rattle.place_values.specs.Group.{picks_for}
use Rattle.place_values.specs.Search.{lists_in}
use Rattle.place_map.specs.Prices.{AreNear}
use Rattle.place_map.proofs.group.picks_of_each.Given as goal

abbrev pub invariant-loop-word : goal.invariant-loop-word
invariant-loop-word l = record {
  lists : lists_in l.lists.items ≡ map (picks_for l.places.entries l.at) (take l.word-index l.words);
  near : AllByRecursion AreNear (lists_in l.lists.items);
}
