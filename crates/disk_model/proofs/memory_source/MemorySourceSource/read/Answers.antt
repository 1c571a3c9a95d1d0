use Rattle.std.proofs.Common.{rules, ap}
use Rattle.disk_model.specs.MemorySource.{Held}
use Rattle.disk_model.proofs.Pieces.{piece_given}
use Rattle.disk_model.proofs.memory_source.MemorySourceSource.read.Goals as goal

pub returns-clause-told : goal.returns-clause-told
returns-clause-told c =
    piece_given c.self.inside.bytes.items c.copy_from_slice.new.self c.args.buf.now c.args.self.now.left c.self.inside.at c.min-n.result c.self.inside.piece
    (search rules)
    (search rules)
    (ap (λ (held : Held). held.left) c.self.view_is)
    (search rules)
    c.requires
    c.self.invariant.1
