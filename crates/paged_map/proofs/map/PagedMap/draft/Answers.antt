use Rattle.std.proofs.Common.{◌≡◌, ℕ, ap, sym, subst, Err}
use Rattle.std.proofs.lemmas.Result.{err_from_is_err_and}
use Rattle.page_face.specs.declared.fault.PageFault.TheVariants.{Damaged}
use Rattle.page_face.specs.FreeList.{PageMap}
use Rattle.btree_nodes.specs.declared.form.Form.{Form}
use Rattle.btree_nodes.specs.Tree.{IsMap, map_rows, map_uses}
use Rattle.btree_nodes.specs.Damages.{AsksOnly}
use Rattle.btree_nodes.specs.Steps.{low_of, high_of}
use Rattle.paged_map.specs.Drafts.{IsDrafted}
use Rattle.paged_map.specs.Maps.{IsMapDamaged}
use Rattle.paged_map.specs.declared.draft.LeafDraft.{LeafDraft}
use Rattle.paged_map.proofs.Maps.{map-undamaged}
use Rattle.paged_map.proofs.map.PagedMap.draft.Goals as goal

pub returns-in_err-open-clause-no_false_damage : goal.returns-in_err-open-clause-no_false_damage
returns-in_err-open-clause-no_false_damage g c = λ map counted told damage e.
    let old : PageMap = g.P.Pages.pages c.args.pages.now in
    let count : ℕ = g.P.Pages.count c.args.pages.now in
    let root : ℕ = c.args.self.now.root in
    let p = err_from_is_err_and c.from_residual.result c.from_residual.ensures.1 in
    let same : c.in_err-open.field-0.0 ≡ Damaged damage = cc (p.1, p.2, e) in
    map-undamaged g.L.Layout.form old count root damage map counted (subst (λ (f : Form). IsMapDamaged f old count root damage) c.requires.form (c.in_err-open.ensures.damaged told damage (ap Err same)))

pub returns-in_err-open-clause-own : goal.returns-in_err-open-clause-own
returns-in_err-open-clause-own g c = λ told.
    subst (λ (f : Form). AsksOnly (map_uses f (g.P.Pages.pages c.args.pages.now) c.args.self.now.root) (g.P.Pages.asked c.args.pages.now) (g.P.Pages.asked c.open.new.pages)) c.requires.form (c.in_err-open.ensures.own told)

pub returns-clause-drafts : goal.returns-clause-drafts
returns-clause-drafts g c = λ map yes.
    let old : PageMap = g.P.Pages.pages c.args.pages.now in
    let root : ℕ = c.args.self.now.root in
    let d : LeafDraft = c.open.new.self in
    subst (λ (f : Form). IsDrafted d.form old root d.least d.page (low_of d.form d.bounds) (high_of d.form d.bounds) d.bytes (map_rows f old root)) c.requires.form
    (c.in_ok-open.ensures.drafts (subst (λ (f : Form). IsMap f old root) (sym c.requires.form) map))

pub returns-clause-own : goal.returns-clause-own
returns-clause-own g c = λ told.
    subst (λ (f : Form). AsksOnly (map_uses f (g.P.Pages.pages c.args.pages.now) c.args.self.now.root) (g.P.Pages.asked c.args.pages.now) (g.P.Pages.asked c.open.new.pages)) c.requires.form (c.in_ok-open.ensures.own told)
