use Rattle.std.proofs.Common.{◌+◌}
use Rattle.paged_map.specs.declared.draft.LeafDraft.{LeafDraft}
use Rattle.paged_map.proofs.draft.LeafDraft.edit.Goals as goal

pub returns-clause-bytes : goal.returns-clause-bytes
returns-clause-bytes c = λ leaf size.
    let d : LeafDraft = c.args.self.now in
    c.edit_cells.ensures d.form.map 1 0 (d.form.key + d.form.value) d.least leaf size
