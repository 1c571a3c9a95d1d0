use Rattle.std.proofs.Common.{arith, ℕ, List, ◌∙◌, refl, sym, ap, Some}
use Rattle.page_face.specs.Number.{number}
use Rattle.btree_nodes.proofs.Finds.{found, missed, place_as}
use Rattle.btree_nodes.specs.Steps.{low_of, high_of}
use Rattle.paged_map.specs.declared.draft.LeafDraft.{LeafDraft}
use Rattle.paged_map.proofs.Drafts.{drafted-lookup}
use Rattle.paged_map.proofs.draft.LeafDraft.get.Goals as goal

pub returns-then-spot-eq0 : goal.returns-then-spot-eq0
returns-then-spot-eq0 c = record {
  found = λ count pages root rows is key drafted.
      let d : LeafDraft = c.args.self.now in
      let k : ℕ = number c.args.key.now in
      drafted-lookup d.form pages root d.least d.page (low_of d.form d.bounds) (high_of d.form d.bounds) d.bytes rows drafted k key.0 key.1
      ∙ missed d.form d.bytes (low_of d.form d.bounds) (high_of d.form d.bounds) k c.spot_of-spot.result.at (place_as refl is.is refl c.spot_of-spot.ensures.place) is.within key.0 key.1
      (λ small same. c.spot_of-spot.ensures.none (λ one. absurd (omega arith)) (omega (arith, is.is, small)) same);
}

pub returns : goal.returns
returns c = record {
  found = λ count pages root rows is key drafted.
      let d : LeafDraft = c.args.self.now in
      let k : ℕ = number c.args.key.now in
      let s = c.spot_of-spot.ensures.some (omega arith) in
      drafted-lookup d.form pages root d.least d.page (low_of d.form d.bounds) (high_of d.form d.bounds) d.bytes rows drafted k key.0 key.1
      ∙ found d.form d.bytes (low_of d.form d.bounds) (high_of d.form d.bounds) k c.spot_of-spot.result.at (place_as refl is.is refl c.spot_of-spot.ensures.place) is.within key.0 key.1 (omega (arith, is.is, s.0)) s.1
      ∙ ap (λ (v : List ℕ). Some v) (sym c.copy_value.ensures);
}
