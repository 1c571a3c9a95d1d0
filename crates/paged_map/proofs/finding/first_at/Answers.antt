use Rattle.std.proofs.Common.{◌≡◌, ◌^◌, ◌≤◌, ℕ, Bool, true, false, List, Option, Some, None, if◌then◌else◌, take, ◌∙◌, sym, ap, subst, refl}
use Rattle.std.specs.Prelude.{IfSome}
use Rattle.std.specs.Bool.{then_some}
use Rattle.page_face.specs.FreeList.{PageMap}
use Rattle.page_face.specs.Number.{number}
use Rattle.btree_nodes.specs.Bounds.{upper_of}
use Rattle.btree_nodes.specs.declared.form.Form.{Form}
use Rattle.btree_nodes.specs.Nodes.{IsLeaf, rows_in}
use Rattle.btree_nodes.specs.Rows.{Row, IsWithin, first_from}
use Rattle.btree_nodes.specs.Tree.{map_rows}
use Rattle.btree_nodes.specs.Steps.{low_of, high_of}
use Rattle.paged_map.proofs.Leaves.{first-found-leaf, first-end}
use Rattle.paged_map.proofs.Lookups.{hit-some}
use Rattle.paged_map.proofs.Readings.{leaf-read}
use Rattle.paged_map.proofs.finding.first_at.Goals as goal

pub returns-in-Ok-clause-found : goal.returns-in-Ok-clause-found
returns-in-Ok-clause-found g c = λ map.
    let l = c.in-Ok.ensures.located map in
    let s = c.in-Ok.ensures.shown in
    let low : ℕ = low_of c.args.form c.locate.new.bounds in
    let high : ℕ = high_of c.args.form c.locate.new.bounds in
    let within : IsWithin low high (rows_in c.args.form c.looked.result.now) = subst (λ (x : List ℕ). IsWithin low high (rows_in c.args.form x)) (sym c.looked.ensures) s.within in
    first-found-leaf c.args.form (g.P.Pages.pages c.args.pages.now) c.args.root c.in-Ok.leaf.least c.in-Ok.leaf.page low high l.1
    (number c.args.key.now) s.from s.to c.looked.result.now c.first_in-hit.new.value (number c.first_in-hit.new.found) c.first_in-hit.result c.then_some.result (c.looked.ensures ∙ l.0)
    (c.first_in-hit.ensures.found low high within) (c.first_in-hit.ensures.holds low high within) c.then_some.ensures

pub returns-in-Ok-clause-last : goal.returns-in-Ok-clause-last
returns-in-Ok-clause-last g c = λ map top.
    let l = c.in-Ok.ensures.located map in
    let old : PageMap = g.P.Pages.pages c.args.pages.now in
    let e : high_of c.args.form c.locate.new.bounds ≡ 256 ^ c.args.form.key = ap (λ (n : ℕ). upper_of c.args.form.key (take n c.locate.new.bounds.high)) top in
    ap (λ (k : ℕ). first_from k (map_rows c.args.form old c.args.root)) e
    ∙ first-end c.args.form old c.args.root c.in-Ok.leaf.least c.in-Ok.leaf.page (low_of c.args.form c.locate.new.bounds) (high_of c.args.form c.locate.new.bounds) l.1

hit-on : (hit : Bool) (page : ℕ) (answer : Option ℕ) (key found : ℕ) → answer ≡ then_some hit page → (hit ≡ true → key ≤ found) → IfSome answer (λ n. key ≤ found)
hit-on true page answer key found e h = subst (λ (o : Option ℕ). IfSome o (λ n. key ≤ found)) (sym e) (h refl)
hit-on false page answer key found e h = subst (λ (o : Option ℕ). IfSome o (λ n. key ≤ found)) (sym e) tt

pub returns-in-Ok-clause-on : goal.returns-in-Ok-clause-on
returns-in-Ok-clause-on g c =
    let s = c.in-Ok.ensures.shown in
    let low : ℕ = low_of c.args.form c.locate.new.bounds in
    let high : ℕ = high_of c.args.form c.locate.new.bounds in
    let within : IsWithin low high (rows_in c.args.form c.looked.result.now) = subst (λ (x : List ℕ). IsWithin low high (rows_in c.args.form x)) (sym c.looked.ensures) s.within in
    hit-on c.first_in-hit.result c.in-Ok.leaf.page c.then_some.result (number c.args.key.now) (number c.first_in-hit.new.found) c.then_some.ensures (c.first_in-hit.ensures.on low high within)

pub returns-in-Ok-clause-read : goal.returns-in-Ok-clause-read
returns-in-Ok-clause-read g c = λ told.
    let l = c.in-Ok.ensures.read told in
    let s = c.in-Ok.ensures.shown in
    let form : Form = c.args.form in
    let low : ℕ = low_of form c.locate.new.bounds in
    let high : ℕ = high_of form c.locate.new.bounds in
    let within : IsWithin low high (rows_in form c.looked.result.now) = subst (λ (x : List ℕ). IsWithin low high (rows_in form x)) (sym c.looked.ensures) s.within in
    leaf-read form (g.P.Pages.pages c.args.pages.now) (g.P.Pages.asked c.args.pages.now) (g.P.Pages.asked c.locate.new.pages) c.looked.result.now c.first_in-hit.new.value c.in-Ok.leaf.least (number c.first_in-hit.new.found) c.in-Ok.leaf.page
    c.first_in-hit.result c.then_some.result l.0 (c.looked.ensures ∙ l.1) (subst (IsLeaf form c.in-Ok.leaf.least) (sym c.looked.ensures) s.sound) (c.first_in-hit.ensures.holds low high within) c.then_some.ensures

pub returns-in-Ok-clause-way : goal.returns-in-Ok-clause-way
returns-in-Ok-clause-way g c = λ told.
    let l = c.in-Ok.ensures.read told in
    let s = c.in-Ok.ensures.shown in
    let form : Form = c.args.form in
    let key : ℕ = number c.args.key.now in
    let low : ℕ = low_of form c.locate.new.bounds in
    let high : ℕ = high_of form c.locate.new.bounds in
    let row : Row = (number c.first_in-hit.new.found, c.first_in-hit.new.value) in
    let within : IsWithin low high (rows_in form c.looked.result.now) = subst (λ (x : List ℕ). IsWithin low high (rows_in form x)) (sym c.looked.ensures) s.within in (
      c.in-Ok.leaf.page,
      low,
      c.in-Ok.ensures.way told,
      ap (λ (x : List ℕ). first_from key (rows_in form x)) (sym (c.looked.ensures ∙ l.1)) ∙ c.first_in-hit.ensures.found low high within
          ∙ ap (λ (b : Bool). if b then Some row else None) (sym (hit-some c.first_in-hit.result c.in-Ok.leaf.page c.then_some.result c.then_some.ensures)),
    )
