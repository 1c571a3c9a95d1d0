use Rattle.std.proofs.Common.{◌∙◌, sym, ap}
use Rattle.std.proofs.lemmas.Result.{on_ok_weaker}
use Rattle.node_rows.specs.Rows.{Bytes}
use Rattle.node_inverted.specs.Drafts.{with_rows}
use Rattle.node_inverted.proofs.Gathers.{row-more, row-renewed}
use Rattle.node_rows.proofs.Impacts.{byte-same}
use Rattle.node_inverted.proofs.refreshing.renew_row.Goals as goal

pub returns-then-row-slot-clause-renewed : goal.returns-then-row-slot-clause-renewed
returns-then-row-slot-clause-renewed c = λ node bytes b same is beside right n w i.
    same n w i ∙ byte-same node c.args.number c.args.slot c.args.byte b (right (sym (is c.args.slot) ∙ c.if-row-slot.true)) n w i

pub returns-clause-renewed : goal.returns-clause-renewed
returns-clause-renewed c = λ node bytes b same is beside right.
    on_ok_weaker c.push_row.result (λ more n w i. ap (λ (d : Bytes). d n w i)
    (row-more node c.args.rows.now.items c.push_row.new.rows.items (record { number = c.args.number; bytes = c.put_byte.new.row }) bytes more)
    ∙ row-renewed node c.args.number c.args.slot c.args.byte bytes b (with_rows node c.args.rows.now.items bytes) c.args.row.now c.put_byte.new.row same is beside c.put_byte.ensures n w i)
    c.push_row.ensures.items
