use Rattle.std.proofs.Common.{take}
use Rattle.btree_nodes.specs.Nodes.{rows_in}
use Rattle.term_impacts.specs.Form.{IsWordText}
use Rattle.row_codec.specs.Counted.{number_bytes}
use Rattle.store_tables.specs.Coded.{IsU64, word_code}
use Rattle.store_tables.specs.Holding.{texts_form}
use Rattle.store_verify.specs.Gains.{Gains}
use Rattle.store_verify.proofs.texts.TextSinkSink.leaf.Given as goal

abbrev pub invariant-loop-at : goal.invariant-loop-at
invariant-loop-at l = Gains word_code number_bytes IsWordText IsU64 (take l.at (rows_in texts_form l.page)) l.fn.self.rows.items l.self.rows.items
