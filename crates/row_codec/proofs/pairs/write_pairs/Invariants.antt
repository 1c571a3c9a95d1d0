use Rattle.std.proofs.Common.{◌≡◌, ℕ, ◌+◌, ◌*◌, ◌<◌, ◌++◌, take, get_or}
use Rattle.std.specs.List.{flat_map}
use Rattle.row_codec.specs.Pairs.{Pair, IsPair, pair_bytes}
use Rattle.row_codec.proofs.pairs.write_pairs.Given as goal

abbrev pub invariant-loop-i : goal.invariant-loop-i
invariant-loop-i l =
    record {
      front : take (l.at + 9 * l.i) l.out ≡ take l.at l.fn.out ++ flat_map pair_bytes (take l.i l.pairs);
      fits : (k : ℕ) (d : Pair) → k < l.i → IsPair (get_or l.pairs k d);
    }
