use Rattle.json_spelled.proofs.Bytes.{goes_small}
use Rattle.json_spelled.proofs.reader.Reader.number.Goals as goal

pub push_ascii-requires : goal.push_ascii-requires
push_ascii-requires c = goes_small c.args.byte c.args.part c.in-Some.next c.args.kind c.requires (rw c.in-Some.is at c.part_behind.ensures)
