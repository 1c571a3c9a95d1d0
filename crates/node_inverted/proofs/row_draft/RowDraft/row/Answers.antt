use Rattle.std.proofs.Common.{◌≡◌, ℕ, List, sym, ap, ◌∙◌, subst, Option, Some, None, ◌<◌, ◌≤◌}
use Rattle.btree_nodes.specs.Rows.{lookup}
use Rattle.btree_nodes.specs.Steps.{low_of, high_of}
use Rattle.paged_map.specs.declared.draft.LeafDraft.{LeafDraft}
use Rattle.node_rows.specs.Rows.{Bytes, byte_in, key_of}
use Rattle.node_rows.proofs.Bytes.{bytes-small}
use Rattle.node_inverted.proofs.row_draft.RowDraft.row.Goals as goal

pub returns-then-get : goal.returns-then-get
returns-then-get c = λ count pages root b is here d slot.
    let leaf : LeafDraft = c.args.self.now.leaf in
    let k = c.bytes.ensures in
    let small = c.ranges.number.fits in
    let there = subst (λ (n : ℕ). (low_of leaf.form leaf.bounds ≤ n) × (n < high_of leaf.form leaf.bounds)) (sym k) here in
    let found : lookup (key_of c.args.node c.args.number) d.rows ≡ Some c.get.new.value = ap (λ (n : ℕ). lookup n d.rows) (sym k) ∙ c.if-get.ensures.found count pages root d.rows is there d.drafted in
    sym (ap (λ (f : Bytes). f c.args.node c.args.number slot) (sym d.is) ∙ bytes-small d.rows c.args.node c.args.number slot small ∙ ap (λ (o : Option (List ℕ)). byte_in o slot) found)

pub returns-else-get : goal.returns-else-get
returns-else-get c = λ count pages root b is here d slot.
    let leaf : LeafDraft = c.args.self.now.leaf in
    let k = c.bytes.ensures in
    let small = c.ranges.number.fits in
    let there = subst (λ (n : ℕ). (low_of leaf.form leaf.bounds ≤ n) × (n < high_of leaf.form leaf.bounds)) (sym k) here in
    let missed : lookup (key_of c.args.node c.args.number) d.rows ≡ None = ap (λ (n : ℕ). lookup n d.rows) (sym k) ∙ c.if-get.ensures.found count pages root d.rows is there d.drafted in
    sym (ap (λ (f : Bytes). f c.args.node c.args.number slot) (sym d.is) ∙ bytes-small d.rows c.args.node c.args.number slot small ∙ ap (λ (o : Option (List ℕ)). byte_in o slot) missed ∙ sym (c.clear_row.ensures.none slot))
