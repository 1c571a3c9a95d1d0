use Rattle.std.proofs.Common.{◌≡◌, ◌+◌, ◌-◌, ◌++◌, ◌≤◌, ℕ, List, take, length, None}
use Rattle.json_spelled.specs.Reader.{state_of}
use Rattle.json_spelled.specs.Feeding.{Reading, count}
use Rattle.json_spelled.proofs.feed.Feed.push.Given as goal

-- the bytes of the piece so far were taken
abbrev pub invariant-loop-index : goal.invariant-loop-index
invariant-loop-index l = record {
  within : l.index ≤ length l.piece;
  going : l.self.fault ≡ None;
  counted : count l.self ≡ count l.fn.self + l.index;
  reading : (bytes : List ℕ) → Reading bytes l.fn.self.pending.items l.fn.self.at (state_of l.fn.self.reader) → Reading (bytes ++ take l.index l.piece) l.self.pending.items l.self.at (state_of l.self.reader);
}

abbrev pub decreases-loop-index : goal.decreases-loop-index
decreases-loop-index l = length l.piece - l.index
