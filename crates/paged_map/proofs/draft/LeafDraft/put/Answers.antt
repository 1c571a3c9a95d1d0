use Rattle.std.proofs.Common.{rules, arith, ◌≡◌, ◌+◌, ◌-◌, ◌*◌, ◌≤◌, ℕ, List, ◌∙◌, refl, sym, ap, subst}
use Rattle.page_face.specs.Nodes.{count_of}
use Rattle.page_face.specs.Number.{number}
use Rattle.btree_nodes.specs.Build.{image}
use Rattle.btree_nodes.specs.Rows.{put}
use Rattle.btree_nodes.proofs.Finds.{missed, place_as}
use Rattle.btree_nodes.proofs.Puts.{put-edit}
use Rattle.btree_delete.proofs.Joins.{few, width-some}
use Rattle.btree_nodes.specs.Steps.{low_of, high_of}
use Rattle.paged_map.specs.Drafts.{IsKeyOf, IsLeafDraft}
use Rattle.paged_map.specs.Edits.{edited}
use Rattle.paged_map.specs.declared.draft.LeafDraft.{LeafDraft}
use Rattle.paged_map.specs.declared.editing.Cut.{Cut}
use Rattle.paged_map.proofs.Drafts.{drafted-leaf, drafted-edit, drafted-lookup, made-count}
use Rattle.paged_map.proofs.Edits.{IsEdited, put-leaf, room-fits}
use Rattle.paged_map.proofs.draft.LeafDraft.put.Goals as goal

-- a leaf without room has no row at the key: one row in place of another always fits
pub returns-then-not-has_room-clause-absent : goal.returns-then-not-has_room-clause-absent
returns-then-not-has_room-clause-absent c = λ count pages root rows is key drafted no.
    let d : LeafDraft = c.args.self.now in
    let k : ℕ = number c.args.key.now in
    let p = c.spot_of-spot.ensures in
    let fits : 16 + (d.form.key + d.form.value) * d.count ≤ 4096 = d.fits in
    drafted-lookup d.form pages root d.least d.page (low_of d.form d.bounds) (high_of d.form d.bounds) d.bytes rows drafted k key.0 key.1
    ∙ missed d.form d.bytes (low_of d.form d.bounds) (high_of d.form d.bounds) k c.spot_of-spot.result.at (place_as refl is.is refl p.place) is.within key.0 key.1
    (λ small same. p.none (λ one.
    let same_count : (d.count + 1 - c.spot_of-spot.result.gone) ≡ d.count = omega (arith, one) in
    let room : 16 + (d.form.key + d.form.value) * (d.count + 1 - c.spot_of-spot.result.gone) ≤ 4096 = subst (λ (n : ℕ). 16 + (d.form.key + d.form.value) * n ≤ 4096) (sym same_count) fits in
    absurd (search rules)) (omega (arith, is.is, small)) same)

pub edit-requires-clause-fits : goal.edit-requires-clause-fits
edit-requires-clause-fits c =
    let e = c.cut_of-cut.ensures.is in
    let size = ap (λ (x : Cut). x.size) e in
    let from = ap (λ (x : Cut). x.from) e in
    let until = ap (λ (x : Cut). x.until) e in
    let d : LeafDraft = c.args.self.now in
    let r = room-fits (d.form.key + d.form.value) d.count c.spot_of-spot.result.at c.spot_of-spot.result.gone c.spot_of-spot.ensures.within (c.if-not-has_room.ensures.0 (search rules)) in
    omega (arith, size, from, until, r)

-- the bytes of all cells
whole : (c : goal.After-edit) (count : ℕ) → IsLeafDraft count c.args.self.now
    → c.cut_of-cut.result.size ≡ (c.args.self.now.form.key + c.args.self.now.form.value) * count_of c.args.self.now.bytes
whole c count is = ap (λ (x : Cut). x.size) c.cut_of-cut.ensures.is ∙ ap (λ (n : ℕ). (c.args.self.now.form.key + c.args.self.now.form.value) * n) is.is

-- the bytes are those of the leaf with the row
made : (c : goal.After-edit) (count : ℕ) → IsLeafDraft count c.args.self.now → IsKeyOf c.args.self.now (number c.args.key.now)
    → IsEdited c.args.self.now.form c.args.self.now.least (low_of c.args.self.now.form c.args.self.now.bounds) (high_of c.args.self.now.form c.args.self.now.bounds) (put (number c.args.key.now) c.args.value.now) c.args.self.now.bytes c.edit.new.self.bytes
made c count is key =
    let d : LeafDraft = c.args.self.now in
    let p = c.spot_of-spot.ensures in
    let n : ℕ = d.count + 1 - c.spot_of-spot.result.gone in
    subst (λ (x : List ℕ). IsEdited d.form d.least (low_of d.form d.bounds) (high_of d.form d.bounds) (put (number c.args.key.now) c.args.value.now) d.bytes x)
    (sym (c.edit.ensures.bytes is.leaf (whole c count is) ∙ ap (λ (x : Cut). image d.form.map 1 0 n (edited x.size x.from x.until c.args.key.now c.args.value.now d.bytes)) c.cut_of-cut.ensures.is))
    (put-leaf d.form d.bytes (low_of d.form d.bounds) (high_of d.form d.bounds) d.least d.count c.spot_of-spot.result.at is.leaf is.within is.is c.args.key.now c.args.value.now c.spot_of-spot.result.gone c.requires.key c.requires.value key.0 key.1
    p.place p.some p.none p.small p.within (c.if-not-has_room.ensures.0 (search rules)))

pub returns-clause-sound : goal.returns-clause-sound
returns-clause-sound c = λ count is key.
    let d : LeafDraft = c.args.self.now in
    let e = c.edit.ensures in
    let n : ℕ = d.count + 1 - c.spot_of-spot.result.gone in
    let room : 16 + (d.form.key + d.form.value) * n ≤ 4096 = c.if-not-has_room.ensures.0 (search rules) in
    let small = few (d.form.key + d.form.value) n (width-some d.form 0).0 (omega arith) in
    drafted-leaf count (put (number c.args.key.now) c.args.value.now) d c.edit.new.self e.form e.page e.least e.bounds
    (e.count ∙ sym (ap count_of (e.bytes is.leaf (whole c count is)) ∙ made-count d.form.map n (edited c.cut_of-cut.result.size c.cut_of-cut.result.from c.cut_of-cut.result.until c.args.key.now c.args.value.now d.bytes) (omega (arith, small)))) (made c count is key) is

pub returns-clause-put : goal.returns-clause-put
returns-clause-put c = λ count pages root rows is key drafted yes.
    let d : LeafDraft = c.args.self.now in
    let e = c.edit.ensures in
    let m = made c count is key in
    rw (e.form, e.least, e.page, e.bounds) (drafted-edit d.form pages root d.least d.page (low_of d.form d.bounds) (high_of d.form d.bounds) d.bytes rows drafted (number c.args.key.now) key.0 key.1
    (put (number c.args.key.now) c.args.value.now) c.edit.new.self.bytes (put-edit (number c.args.key.now) c.args.value.now) m.made.is)
