use Rattle.std.proofs.Common.{ℕ, List, ◌++◌, ◌∙◌, sym, ap}
use Rattle.btree_nodes.specs.declared.form.Form.{Form}
use Rattle.btree_nodes.specs.Nodes.{rows_in}
use Rattle.paged_map.proofs.draft.LeafDraft.open.Goals as goal

pub returns-in-Ok-clause-drafts : goal.returns-in-Ok-clause-drafts
returns-in-Ok-clause-drafts g c = λ map.
    let form : Form = c.args.self.now.form in
    let l = c.in-Ok.ensures.located map in
    record {
      leaf = l.1;
      is = l.1.rows ∙ ap (λ (x : List ℕ). l.1.front ++ (rows_in form x ++ l.1.back)) (sym (c.looked.ensures ∙ l.0));
    }
