use Rattle.std.proofs.Common.{◌≡◌, ℕ, ◌^◌, ◌<◌, ◌≤◌, sym, ◌∙◌, subst, true, false}
use Rattle.page_face.specs.FreeList.{are_zero}
use Rattle.btree_nodes.specs.Rows.{put, without}
use Rattle.btree_nodes.specs.Steps.{low_of, high_of}
use Rattle.paged_map.specs.Drafts.{Drafts}
use Rattle.paged_map.specs.declared.draft.LeafDraft.{LeafDraft}
use Rattle.node_rows.specs.Rows.{key_of}
use Rattle.node_rows.proofs.Bytes.{filled-put, filled-without}
use Rattle.node_inverted.proofs.Drafts.{drafted-within, put-bytes, without-bytes}
use Rattle.node_inverted.proofs.row_draft.RowDraft.set.Goals as goal

-- the key belongs to the leaf, said by its bytes
of-bytes : (leaf : LeafDraft) (n k : ℕ) → n ≡ k → (low_of leaf.form leaf.bounds ≤ k) × (k < high_of leaf.form leaf.bounds) → (low_of leaf.form leaf.bounds ≤ n) × (n < high_of leaf.form leaf.bounds)
of-bytes leaf n k e here = rw e here

pub returns-then-is_clear-clause-sound : goal.returns-then-is_clear-clause-sound
returns-then-is_clear-clause-sound c = λ count is here. c.remove.ensures.sound count is (of-bytes c.args.self.now.leaf _ _ c.bytes-key.ensures here)

pub returns-then-is_clear-clause-set : goal.returns-then-is_clear-clause-set
returns-then-is_clear-clause-set c = λ count pages root b is here d yes.
    let leaf : LeafDraft = c.args.self.now.leaf in
    let key : ℕ = key_of c.args.node c.args.number in
    let small = c.ranges.number.fits in
    let none : are_zero c.args.row.now ≡ true = sym c.is_clear.ensures ∙ c.if-is_clear.true in
    let within = drafted-within leaf.form pages root leaf.least leaf.page (low_of leaf.form leaf.bounds) (high_of leaf.form leaf.bounds) leaf.bytes d.rows d.drafted is.within in
    record {
      rows = without key d.rows;
      drafted = subst (λ (k : ℕ). Drafts pages root (without k d.rows) c.remove.new.self) c.bytes-key.ensures
          (c.remove.ensures.removed count pages root d.rows is (of-bytes leaf _ _ c.bytes-key.ensures here) d.drafted yes);
      filled = filled-without 0 (256 ^ leaf.form.key) key d.rows within d.filled;
      is = without-bytes 0 (256 ^ leaf.form.key) d.rows c.args.node c.args.number c.args.row.now b within small none d.is;
    }

pub returns-else-is_clear-clause-sound : goal.returns-else-is_clear-clause-sound
returns-else-is_clear-clause-sound c = λ count is here. c.put.ensures.sound count is (of-bytes c.args.self.now.leaf _ _ c.bytes-key.ensures here)

pub returns-else-is_clear-clause-set : goal.returns-else-is_clear-clause-set
returns-else-is_clear-clause-set c = λ count pages root b is here d yes.
    let leaf : LeafDraft = c.args.self.now.leaf in
    let key : ℕ = key_of c.args.node c.args.number in
    let small = c.ranges.number.fits in
    let some : are_zero c.args.row.now ≡ false = sym c.is_clear.ensures ∙ c.if-is_clear.false in
    record {
      rows = put key c.args.row.now d.rows;
      drafted = subst (λ (k : ℕ). Drafts pages root (put k c.args.row.now d.rows) c.put.new.self) c.bytes-key.ensures
          (c.put.ensures.put count pages root d.rows is (of-bytes leaf _ _ c.bytes-key.ensures here) d.drafted yes);
      filled = filled-put key c.args.row.now d.rows some d.filled;
      is = put-bytes d.rows c.args.node c.args.number c.args.row.now b small d.is;
    }
