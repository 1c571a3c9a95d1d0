use Rattle.std.proofs.Common.{ℕ, ◌<◌, List, Option, Some, None, is_some, if◌then◌else◌, Result, Ok, Err, subst, arith}
use Rattle.std.specs.Prelude.{IfOk, IfSome}
use Rattle.page_face.specs.FreeList.{PageMap}
use Rattle.page_face.specs.declared.fault.PageFault.{PageFault}
use Rattle.btree_nodes.specs.declared.form.Form.{Form}
use Rattle.btree_nodes.specs.Rows.{Row}
use Rattle.btree_nodes.specs.Tree.{map_uses}
use Rattle.btree_nodes.specs.Damages.{AsksOnly}
use Rattle.page_face.specs.Number.{number}
use Rattle.paged_map.specs.Answers.{HasRead}
use Rattle.paged_map.specs.Lookups.{IsFirstFound, IsFirstPast}
use Rattle.paged_map.specs.Maps.{IsMapDamaged}
use Rattle.paged_map.proofs.Lookups.{first-found, first-nowhere}
use Rattle.paged_map.proofs.Maps.{map-undamaged}
use Rattle.paged_map.proofs.map.PagedMap.first_from.Goals as goal

pub returns-clause-no_false_damage : goal.returns-clause-no_false_damage
returns-clause-no_false_damage g c = λ map counted told damage e.
    let old : PageMap = g.P.Pages.pages c.args.pages.now in
    let count : ℕ = g.P.Pages.count c.args.pages.now in
    let root : ℕ = c.args.self.now.root in
    map-undamaged g.L.Layout.form old count root damage map counted (subst (λ (f : Form). IsMapDamaged f old count root damage) c.form_of.ensures (c.first_below.ensures.damaged told damage e))

pub returns-clause-own : goal.returns-clause-own
returns-clause-own g c = λ told.
    subst (λ (f : Form). AsksOnly (map_uses f (g.P.Pages.pages c.args.pages.now) c.args.self.now.root) (g.P.Pages.asked c.args.pages.now) (g.P.Pages.asked c.first_below.new.pages)) c.form_of.ensures (c.first_below.ensures.own told)

pub returns-clause-read : goal.returns-clause-read
returns-clause-read g c = λ told. subst (λ (f : Form). IfOk c.first_below.result (λ leaf. IfSome leaf (HasRead f (g.P.Pages.pages c.args.pages.now) (g.P.Pages.asked c.args.pages.now) (g.P.Pages.asked c.first_below.new.pages) (number c.first_below.new.found, c.first_below.new.value)))) c.form_of.ensures (c.first_below.ensures.read told)

first-of : (answer : Result (Option ℕ) PageFault) (form : Form) (pages : PageMap) (count root key : ℕ) (row : Row) → 0 < root
    → IfOk answer (λ leaf. (keys : List ℕ) × IsFirstPast form pages count root keys key (if is_some leaf then Some row else None)) → IfOk answer (λ leaf. IsFirstFound form pages count root key (if is_some leaf then Some row else None))
first-of (Ok leaf) form pages count root key row some past = first-found form pages count root key _ past.0 some past.1
first-of (Err fault) form pages count root key row some past = tt

pub returns-clause-kept : goal.returns-clause-kept
returns-clause-kept g c = λ told.
    let old : PageMap = g.P.Pages.pages c.args.pages.now in
    let count : ℕ = g.P.Pages.count c.args.pages.now in
    let root : ℕ = c.args.self.now.root in
    let row : Row = (number c.first_below.new.found, c.first_below.new.value) in
    subst (λ (f : Form). IfOk c.first_below.result (λ leaf. IsFirstFound f old count root (number c.args.key.now) (if is_some leaf then Some row else None))) c.form_of.ensures
    (first-of c.first_below.result c.form_of.result old count root (number c.args.key.now) row (let e = c.if-self-eq0.false in omega (arith, e)) (c.first_below.ensures.kept told))

pub returns-then-self-eq0-clause-kept : goal.returns-then-self-eq0-clause-kept
returns-then-self-eq0-clause-kept g c = λ told. first-nowhere g.L.Layout.form (g.P.Pages.pages c.args.pages.now) (g.P.Pages.count c.args.pages.now) c.args.self.now.root (number c.args.key.now) c.if-self-eq0.true
