use Rattle.std.proofs.Common.{◌≡◌, ◌++◌, take}
use Rattle.std.specs.Map.{keys_of}
use Rattle.store_verify.proofs.places.add_numbers.Given as goal

abbrev pub invariant-loop-pair : goal.invariant-loop-pair
invariant-loop-pair l = l.numbers.items ≡ l.fn.numbers.items ++ keys_of (take l.pair-index l.pairs)
