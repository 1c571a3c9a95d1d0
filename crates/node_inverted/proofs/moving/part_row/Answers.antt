use Rattle.std.proofs.Common.{◌∙◌, sym, ap}
use Rattle.std.proofs.lemmas.Result.{on_ok_weaker}
use Rattle.node_rows.specs.Rows.{Bytes}
use Rattle.node_rows.specs.Turns.{with_row}
use Rattle.node_inverted.specs.Drafts.{with_rows}
use Rattle.node_inverted.specs.declared.taking.NodeRow.{NodeRow}
use Rattle.node_inverted.proofs.Gathers.{both-more, row-same}
use Rattle.node_rows.proofs.Moves.{moved-none, moved-set}
use Rattle.node_inverted.proofs.moving.part_row.Goals as goal

pub returns-then-is_clear-clause-parted : goal.returns-then-is_clear-clause-parted
returns-then-is_clear-clause-parted c = λ node to bytes b apart same is clear n w i.
    same n w i ∙ moved-none node c.args.slots to c.args.number b c.args.row.now c.moving-go.result apart is clear c.moving-go.ensures (sym c.is_clear.ensures ∙ c.if-is_clear.true) n w i

pub returns-clause-parted : goal.returns-clause-parted
returns-clause-parted c = λ node to bytes b apart same is clear.
    let s : NodeRow = record { number = c.args.number; bytes = c.staying-stay.result } in
    let g : NodeRow = record { number = c.args.number; bytes = c.moving-go.result } in
    let v : Bytes = with_rows to c.args.goes.now.items (with_rows node c.args.stays.now.items bytes) in
    let mid : Bytes = with_row node c.args.number c.staying-stay.result v in
    on_ok_weaker c.push_row-2.result (λ more n w i. ap (λ (d : Bytes). d n w i)
    (both-more node to c.args.stays.now.items c.push_row.new.rows.items c.args.goes.now.items c.push_row-2.new.rows.items s g bytes apart c.in_ok-push_row.ensures.items more)
    ∙ moved-set node c.args.slots to c.args.number b c.args.row.now c.moving-go.result apart is clear c.moving-go.ensures c.staying-stay.result c.staying-stay.ensures mid
    (row-same node c.args.number c.staying-stay.result v b same) n w i)
    c.push_row-2.ensures.items
