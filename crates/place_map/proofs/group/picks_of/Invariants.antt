use Rattle.std.proofs.Common.{◌≡◌, ◌++◌, List}
use Rattle.std.specs.List.{flat_map}
use Rattle.place_values.specs.Group.{word_picks}
use Rattle.place_map.specs.Prices.{AreNear}
use Rattle.place_map.proofs.group.picks_of.Given as goal

abbrev pub invariant-loop-key : goal.invariant-loop-key
invariant-loop-key l =
    (goal.iterator-loop-key).can_next l.key-iterator
    × (goal.iterator-loop-key).is_finite l.key-iterator
    × ((done : List _) × (done ++ l.key-iterator ≡ l.places.entries) × (l.picks.items ≡ flat_map (word_picks l.at l.word) done))
    × AreNear l.picks.items
