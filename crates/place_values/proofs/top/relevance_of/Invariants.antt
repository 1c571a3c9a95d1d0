use Rattle.std.proofs.Common.{◌≡◌, ◌*◌, ◌≤◌, take}
use Rattle.place_values.specs.Top.{relevance}
use Rattle.place_values.proofs.top.relevance_of.Given as goal

abbrev pub invariant-loop-word : goal.invariant-loop-word
invariant-loop-word l = record {
  sum : l.sum ≡ relevance (take l.word-index l.words) l.place;
  most : l.sum ≤ 65025 * l.word-index;
}
