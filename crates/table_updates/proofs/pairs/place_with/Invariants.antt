use Rattle.std.proofs.Common.{◌≡◌, ◌+◌, ◌-◌, ◌++◌, length, take, drop, replicate}
use Rattle.table_updates.proofs.pairs.place_with.Given as goal

abbrev pub invariant-loop-number : goal.invariant-loop-number
invariant-loop-number l =
    (goal.iterator-loop-number).can_next l.number-iterator
    × (goal.iterator-loop-number).is_finite l.number-iterator
    × (take l.count l.pairs ++ l.number-iterator ≡ l.numbers.entries)
    × (l.count + length l.number-iterator ≡ length l.numbers.entries)
    × (length l.pairs ≡ 64)
    × (drop l.count l.pairs ≡ replicate (64 - l.count) (0, 0))
