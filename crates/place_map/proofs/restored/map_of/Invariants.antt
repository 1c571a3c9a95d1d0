use Rattle.std.proofs.Common.{◌≡◌, ◌++◌}
use Rattle.place_values.specs.Restored.{places_in}
use Rattle.place_map.proofs.restored.map_of.Given as goal

abbrev pub invariant-loop-key : goal.invariant-loop-key
invariant-loop-key l =
    (goal.iterator-loop-key).can_next l.key-iterator
    × (goal.iterator-loop-key).is_finite l.key-iterator
    × (l.yielded ++ l.key-iterator.rest.items ≡ l.fn.places.items)
    × (l.map.entries ≡ places_in l.yielded)
