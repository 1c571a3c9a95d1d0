use Rattle.std.proofs.Common.{take}
use Rattle.btree_nodes.specs.Nodes.{rows_in}
use Rattle.row_codec.specs.Counted.{IsCounted, counted_value}
use Rattle.store_tables.specs.Coded.{IsU64, number_code}
use Rattle.store_tables.specs.Holding.{numbers_form}
use Rattle.store_verify.specs.Gains.{Gains}
use Rattle.store_verify.proofs.numbers.NumberSinkSink.leaf.Given as goal

abbrev pub invariant-loop-at : goal.invariant-loop-at
invariant-loop-at l = Gains number_code counted_value IsU64 IsCounted (take l.at (rows_in numbers_form l.page)) l.fn.self.rows.items l.self.rows.items
