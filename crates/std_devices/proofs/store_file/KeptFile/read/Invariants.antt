use Rattle.std.proofs.Common.{◌≡◌, length}
use Rattle.std_devices.specs.FileCalls.{OnlyReads}
use Rattle.std_devices.proofs.store_file.KeptFile.read.Given as goal

-- so far only reads were made
abbrev pub invariant-loop : goal.invariant-loop
invariant-loop g l = (l.self.is_whole ≡ l.fn.self.is_whole)
    × OnlyReads l.fn.at (length l.fn.buf) (g.F.StoreFile.made l.fn.self.file) (g.F.StoreFile.made l.self.file)
