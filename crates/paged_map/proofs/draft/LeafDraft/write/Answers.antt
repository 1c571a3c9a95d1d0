use Rattle.std.proofs.Common.{sym, subst}
use Rattle.page_face.specs.FreeList.{PageMap}
use Rattle.page_face.specs.Sound.{IsSound}
use Rattle.page_face.specs.declared.seal.Seal.{Seal}
use Rattle.btree_nodes.specs.Steps.{low_of, high_of}
use Rattle.btree_nodes.proofs.Soundness.{leaf-sound}
use Rattle.paged_map.specs.declared.draft.LeafDraft.{LeafDraft}
use Rattle.paged_map.proofs.Drafts.{drafted-becomes}
use Rattle.paged_map.proofs.Spots.{on_ok}
use Rattle.paged_map.proofs.draft.LeafDraft.write.Goals as goal

pub write_sealed-requires : goal.write_sealed-requires
write_sealed-requires g c =
    let d : LeafDraft = c.args.self.now in
    subst (λ (s : Seal). IsSound s d.bytes) (sym c.seal_of.ensures) (leaf-sound d.form d.least (low_of d.form d.bounds) (high_of d.form d.bounds) d.bytes c.requires.leaf c.requires.within)

pub returns-clause-becomes : goal.returns-clause-becomes
returns-clause-becomes g c = λ root rows free kept drafted.
    let d : LeafDraft = c.args.self.now in
    let old : PageMap = g.P.Pages.pages c.args.pages.now in
    on_ok c.write_sealed.result c.write_sealed.ensures.written
    (λ w. drafted-becomes d.form old root d.least d.page (low_of d.form d.bounds) (high_of d.form d.bounds) d.bytes rows drafted free (g.P.Pages.count c.args.pages.now) (g.P.Pages.first c.args.pages.now)
    (g.P.Pages.pages c.write_sealed.new.self) (g.P.Pages.count c.write_sealed.new.self) (g.P.Pages.first c.write_sealed.new.self) c.requires.leaf c.requires.within kept w c.write_sealed.ensures.count c.write_sealed.ensures.first)
