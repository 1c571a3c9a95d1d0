use Rattle.std.proofs.Common.{◌≡◌, ◌+◌, length}
use Rattle.json_spelled.specs.Feeding.{count}
use Rattle.text_tests.proofs.json_feed_tests.in_pieces.Given as goal

-- what was taken and what is left are the whole
abbrev pub invariant-loop-rest : goal.invariant-loop-rest
invariant-loop-rest l = record {
  counted : count l.feed + length l.rest ≡ length l.bytes;
}

abbrev pub decreases-loop-rest : goal.decreases-loop-rest
decreases-loop-rest l = length l.rest
