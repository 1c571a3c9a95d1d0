use Rattle.std.proofs.Common.{◌≡◌, ◌-◌, ◌≤◌, ◌++◌, length}
use Rattle.std.specs.Prelude.{IsTrue, vec_len}
use Rattle.load_run.proofs.run.read_text.Given as goal

abbrev pub invariant-pieces : goal.invariant-pieces
invariant-pieces g l = record {
  short : length l.text.items ≤ 67108864;
  room : vec_len l.piece ≡ 65536;
  came : IsTrue g.S.Source.readable → g.S.Source.left l.fn.source ≡ l.text.items ++ g.S.Source.left l.source;
  later : g.S.Source.faults l.fn.source ≤ g.S.Source.faults l.source;
  stays : g.S.Source.faults l.source ≡ g.S.Source.faults l.fn.source;
}

abbrev pub decreases-pieces : goal.decreases-pieces
decreases-pieces g l = 67108864 - vec_len l.text
