use Rattle.std.proofs.Common.{ℕ, Some, None, is_some, if◌then◌else◌, subst}
use Rattle.std.specs.Prelude.{IfOk, IfSome}
use Rattle.page_face.specs.FreeList.{PageMap}
use Rattle.btree_nodes.specs.declared.form.Form.{Form}
use Rattle.btree_nodes.specs.Tree.{map_uses}
use Rattle.btree_nodes.specs.Damages.{AsksOnly}
use Rattle.page_face.specs.Number.{number}
use Rattle.paged_map.specs.Answers.{HasRead}
use Rattle.paged_map.specs.Lookups.{IsLookedUp}
use Rattle.paged_map.specs.Maps.{IsMapDamaged}
use Rattle.paged_map.specs.Spots.{leaf_of}
use Rattle.paged_map.proofs.Lookups.{looked-nowhere}
use Rattle.paged_map.proofs.Maps.{map-undamaged}
use Rattle.paged_map.proofs.map.PagedMap.find.Goals as goal

pub returns-clause-no_false_damage : goal.returns-clause-no_false_damage
returns-clause-no_false_damage g c = λ map counted told damage e.
    let old : PageMap = g.P.Pages.pages c.args.pages.now in
    let count : ℕ = g.P.Pages.count c.args.pages.now in
    let root : ℕ = c.args.self.now.root in
    map-undamaged g.L.Layout.form old count root damage map counted (subst (λ (f : Form). IsMapDamaged f old count root damage) c.form_of.ensures (c.find_below.ensures.damaged told damage e))

pub returns-clause-own : goal.returns-clause-own
returns-clause-own g c = λ told.
    subst (λ (f : Form). AsksOnly (map_uses f (g.P.Pages.pages c.args.pages.now) c.args.self.now.root) (g.P.Pages.asked c.args.pages.now) (g.P.Pages.asked c.find_below.new.pages)) c.form_of.ensures (c.find_below.ensures.own told)

pub returns-clause-read : goal.returns-clause-read
returns-clause-read g c = λ told. subst (λ (f : Form). IfOk c.find_below.result (λ found. IfSome (leaf_of found) (HasRead f (g.P.Pages.pages c.args.pages.now) (g.P.Pages.asked c.args.pages.now) (g.P.Pages.asked c.find_below.new.pages) (number c.args.key.now, c.find_below.new.value)))) c.form_of.ensures (c.find_below.ensures.read told)

pub returns-clause-kept : goal.returns-clause-kept
returns-clause-kept g c = λ told. subst (λ (f : Form). IfOk c.find_below.result (λ found. IsLookedUp f (g.P.Pages.pages c.args.pages.now) (g.P.Pages.count c.args.pages.now) c.args.self.now.root (number c.args.key.now) (if is_some found then Some c.find_below.new.value else None))) c.form_of.ensures (c.find_below.ensures.kept told)

pub returns-then-self-eq0-clause-kept : goal.returns-then-self-eq0-clause-kept
returns-then-self-eq0-clause-kept g c = λ told. looked-nowhere g.L.Layout.form (g.P.Pages.pages c.args.pages.now) (g.P.Pages.count c.args.pages.now) c.args.self.now.root (number c.args.key.now) c.if-self-eq0.true
