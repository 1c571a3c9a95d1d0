use Rattle.std.specs.Io.KnownBytes.{Keeps}
use Rattle.std_devices.proofs.std_source.read_some.Given as goal

-- so far the reader gave nothing
abbrev pub invariant-loop : goal.invariant-loop
invariant-loop g l = Keeps (g.R.Read.remaining l.fn.input) (g.R.Read.remaining l.input)
