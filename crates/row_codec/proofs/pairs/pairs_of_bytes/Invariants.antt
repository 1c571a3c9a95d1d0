use Rattle.std.proofs.Common.{◌≡◌, ℕ, ◌*◌, ◌<◌, length, take, get_or}
use Rattle.std.specs.List.{flat_map}
use Rattle.row_codec.specs.Pairs.{Pair, IsPair, pair_bytes}
use Rattle.row_codec.proofs.pairs.pairs_of_bytes.Given as goal

abbrev pub invariant-loop-i : goal.invariant-loop-i
invariant-loop-i l =
    record {
      size : length l.pairs ≡ 64;
      bytes : flat_map pair_bytes (take l.i l.pairs) ≡ take (9 * l.i) l.bytes;
      fits : (k : ℕ) (d : Pair) → k < l.i → IsPair (get_or l.pairs k d);
    }
