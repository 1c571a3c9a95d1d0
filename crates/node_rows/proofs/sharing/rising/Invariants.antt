use Rattle.std.proofs.Common.{◌≡◌, ℕ, filter, take}
use Rattle.node_rows.specs.Rows.{Bytes}
use Rattle.node_rows.specs.Known.{AreRowsAt, rises}
use Rattle.node_rows.proofs.sharing.rising.Given as goal

-- of the words so far those that rise are listed
abbrev pub invariant-loop-at : goal.invariant-loop-at
invariant-loop-at l = (b : Bytes) (node : ℕ) → AreRowsAt b node l.words l.rows → l.rising.items ≡ filter (rises b node l.slot) (take l.at l.words)
