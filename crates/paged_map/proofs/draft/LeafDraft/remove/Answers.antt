use Rattle.std.proofs.Common.{arith, ◌≡◌, ◌+◌, ◌-◌, ◌*◌, ◌≤◌, ℕ, List, [], ◌∙◌, refl, sym, ap, subst, None}
use Rattle.std.proofs.Math.Nat.{mul-add, mul-suc, mul-zero}
use Rattle.page_face.specs.Nodes.{count_of}
use Rattle.page_face.specs.Number.{number}
use Rattle.btree_nodes.specs.Build.{image}
use Rattle.btree_nodes.specs.Rows.{Row, lookup, without}
use Rattle.btree_nodes.proofs.Finds.{missed, place_as}
use Rattle.btree_nodes.proofs.Puts.{without-edit}
use Rattle.btree_delete.proofs.Joins.{few, width-some}
use Rattle.btree_nodes.specs.Steps.{low_of, high_of}
use Rattle.paged_map.specs.Drafts.{IsDrafted, IsKeyOf, IsLeafDraft}
use Rattle.paged_map.specs.Edits.{edited}
use Rattle.paged_map.specs.declared.draft.LeafDraft.{LeafDraft}
use Rattle.paged_map.specs.declared.editing.Cut.{Cut}
use Rattle.paged_map.proofs.Drafts.{drafted-leaf, drafted-edit, drafted-lookup, made-count}
use Rattle.paged_map.proofs.Edits.{IsEdited, without-leaf}
use Rattle.paged_map.proofs.Removes.{without-absent}
use Rattle.paged_map.proofs.draft.LeafDraft.remove.Goals as goal

pub returns-then-spot-eq0-clause-removed : goal.returns-then-spot-eq0-clause-removed
returns-then-spot-eq0-clause-removed c = λ count pages root rows is key drafted yes.
    let d : LeafDraft = c.args.self.now in
    let k : ℕ = number c.args.key.now in
    let none : lookup k rows ≡ None =
    drafted-lookup d.form pages root d.least d.page (low_of d.form d.bounds) (high_of d.form d.bounds) d.bytes rows drafted k key.0 key.1
    ∙ missed d.form d.bytes (low_of d.form d.bounds) (high_of d.form d.bounds) k c.spot_of-spot.result.at (place_as refl is.is refl c.spot_of-spot.ensures.place) is.within key.0 key.1
    (λ small same. c.spot_of-spot.ensures.none (λ one. absurd (omega arith)) (omega (arith, is.is, small)) same) in
    subst (λ (r : List Row). IsDrafted d.form pages root d.least d.page (low_of d.form d.bounds) (high_of d.form d.bounds) d.bytes r) (sym (without-absent k rows none)) drafted

-- the bytes of all cells
whole : (c : goal.After-edit) (count : ℕ) → IsLeafDraft count c.args.self.now
    → c.cut_of-cut.result.size ≡ (c.args.self.now.form.key + c.args.self.now.form.value) * count_of c.args.self.now.bytes
whole c count is = ap (λ (x : Cut). x.size) c.cut_of-cut.ensures.is ∙ ap (λ (n : ℕ). (c.args.self.now.form.key + c.args.self.now.form.value) * n) is.is

-- the bytes are those of the leaf without the row
made : (c : goal.After-edit) (count : ℕ) → IsLeafDraft count c.args.self.now → IsKeyOf c.args.self.now (number c.args.key.now)
    → IsEdited c.args.self.now.form c.args.self.now.least (low_of c.args.self.now.form c.args.self.now.bounds) (high_of c.args.self.now.form c.args.self.now.bounds) (without (number c.args.key.now)) c.args.self.now.bytes c.edit.new.self.bytes
made c count is key =
    let d : LeafDraft = c.args.self.now in
    let p = c.spot_of-spot.ensures in
    let n : ℕ = d.count in
    let at : ℕ = c.spot_of-spot.result.at in
    let gone : ℕ = c.spot_of-spot.result.gone in
    let one : gone ≡ 1 = omega arith in
    let w : ℕ = d.form.key + d.form.value in
    let here = p.some one in
    let until : w * at + w ≡ w * (at + gone) = sym (mul-add w at 1 ∙ omega (arith, mul-suc w 0, mul-zero w)) ∙ ap (λ (k : ℕ). w * (at + k)) (sym one) in
    let left = subst (λ (k : ℕ). IsEdited d.form d.least (low_of d.form d.bounds) (high_of d.form d.bounds) (without (number c.args.key.now)) d.bytes (image d.form.map 1 0 (n - 1) (edited (w * n) (w * at) k [] [] d.bytes))) until
    (without-leaf d.form d.bytes (low_of d.form d.bounds) (high_of d.form d.bounds) d.least n at is.leaf is.within is.is (number c.args.key.now) key.0 key.1 p.place here.0 here.1 (omega arith) is.some) in
    subst (λ (x : List ℕ). IsEdited d.form d.least (low_of d.form d.bounds) (high_of d.form d.bounds) (without (number c.args.key.now)) d.bytes x)
    (sym (c.edit.ensures.bytes is.leaf (whole c count is) ∙ ap (λ (x : Cut). image d.form.map 1 0 (n - 1) (edited x.size x.from x.until [] [] d.bytes)) c.cut_of-cut.ensures.is)) left

pub returns-clause-sound : goal.returns-clause-sound
returns-clause-sound c = λ count is key.
    let d : LeafDraft = c.args.self.now in
    let e = c.edit.ensures in
    let fits : 16 + (d.form.key + d.form.value) * d.count ≤ 4096 = d.fits in
    let small = few (d.form.key + d.form.value) d.count (width-some d.form 0).0 (omega arith) in
    drafted-leaf count (without (number c.args.key.now)) d c.edit.new.self e.form e.page e.least e.bounds
    (e.count ∙ sym (ap count_of (e.bytes is.leaf (whole c count is)) ∙ made-count d.form.map (d.count - 1) (edited c.cut_of-cut.result.size c.cut_of-cut.result.from c.cut_of-cut.result.until [] [] d.bytes) (omega (arith, small)))) (made c count is key) is

pub returns-clause-removed : goal.returns-clause-removed
returns-clause-removed c = λ count pages root rows is key drafted yes.
    let d : LeafDraft = c.args.self.now in
    let e = c.edit.ensures in
    let m = made c count is key in
    rw (e.form, e.least, e.page, e.bounds) (drafted-edit d.form pages root d.least d.page (low_of d.form d.bounds) (high_of d.form d.bounds) d.bytes rows drafted (number c.args.key.now) key.0 key.1
    (without (number c.args.key.now)) c.edit.new.self.bytes (without-edit (number c.args.key.now)) m.made.is)
