use Rattle.std.proofs.Common.{ℕ, subst}
use Rattle.std.specs.Result.{OnOk}
use Rattle.btree_nodes.specs.Supply.{view}
use Rattle.node_rows.specs.Rows.{Bytes, bytes_in}
use Rattle.node_rows.specs.Turns.{Turns}
use Rattle.node_inverted.proofs.Drafts.{raised-all}
use Rattle.node_inverted.proofs.raising.raise.Goals as goal

pub returns-clause-turns : goal.returns-clause-turns
returns-clause-turns g c = λ free rows.
    let p = g.P.Pages in
    let old = c.args.pages.now in
    let new = c.edit_rows.new.pages in
    let root : ℕ = c.args.tree.now.rows in
    subst (λ (b : Bytes). OnOk c.edit_rows.result (Turns (view (p.pages old) (p.count old) (p.first old) free) root (p.pages new) (p.count new) (p.first new) c.edit_rows.new.tree.rows b))
    (raised-all c.args.node c.args.slot c.args.pairs.now (bytes_in (p.pages old) root)) (c.edit_rows.ensures.turns free rows)
