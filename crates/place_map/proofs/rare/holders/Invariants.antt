use Rattle.std.proofs.Common.{◌≡◌, ◌++◌, List, length}
use Rattle.place_values.specs.Rarity.{holders_of}
use Rattle.place_map.proofs.rare.holders.Given as goal

abbrev pub invariant-loop-place : goal.invariant-loop-place
invariant-loop-place l =
    (goal.iterator-loop-place).can_next l.place-iterator
    × (goal.iterator-loop-place).is_finite l.place-iterator
    × ((done : List _) × (done ++ l.place-iterator ≡ l.places.entries) × (l.count ≡ length (holders_of l.word done)))
