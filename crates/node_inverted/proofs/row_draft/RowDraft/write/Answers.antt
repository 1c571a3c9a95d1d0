use Rattle.std.proofs.Common.{ℕ, sym, subst}
use Rattle.std.proofs.lemmas.Result.{on_ok_weaker}
use Rattle.btree_nodes.specs.declared.form.Form.{Form}
use Rattle.btree_nodes.specs.Supply.{View, view}
use Rattle.paged_map.specs.Maps.{HasBecome, IsKept}
use Rattle.node_inverted.proofs.Drafts.{turned-become}
use Rattle.node_inverted.proofs.row_draft.RowDraft.write.Goals as goal

pub returns-clause-turns : goal.returns-clause-turns
returns-clause-turns g c = λ free b rows d.
    let before : View = view (g.P.Pages.pages c.args.pages.now) (g.P.Pages.count c.args.pages.now) (g.P.Pages.first c.args.pages.now) free in
    let root : ℕ = c.args.tree.now.rows in
    let same = c.args.self.now.form in
    on_ok_weaker c.write.result
    (λ h. turned-become before (g.P.Pages.pages c.write.new.pages) (g.P.Pages.count c.write.new.pages) (g.P.Pages.first c.write.new.pages) root root d.rows b d.filled d.is
    (subst (λ (f : Form). HasBecome f before (g.P.Pages.pages c.write.new.pages) (g.P.Pages.count c.write.new.pages) (g.P.Pages.first c.write.new.pages) root root d.rows) same h))
    (c.write.ensures.becomes root d.rows free (subst (λ (f : Form). IsKept f before root) (sym same) rows.kept) d.drafted)
