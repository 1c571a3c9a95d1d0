use Rattle.std.proofs.Common.{◌∙◌, ℕ, List, is_some, sym, ap, subst}
use Rattle.std.specs.Prelude.{IfSome}
use Rattle.page_face.specs.Causes.{IsUncounted}
use Rattle.page_face.specs.Number.{number}
use Rattle.btree_nodes.specs.declared.form.Form.{Form}
use Rattle.btree_nodes.specs.Nodes.{IsLeaf, rows_in}
use Rattle.btree_nodes.specs.Rows.{IsWithin, lookup}
use Rattle.btree_nodes.specs.Leaves.{IsShown}
use Rattle.btree_nodes.specs.Steps.{low_of, high_of}
use Rattle.paged_map.specs.Spots.{IsRowAt, leaf_of}
use Rattle.paged_map.proofs.Leaves.{found-leaf}
use Rattle.paged_map.proofs.Lookups.{looked-up}
use Rattle.paged_map.proofs.Readings.{hit-there, leaf-read}
use Rattle.paged_map.proofs.Spots.{leaf-found, spots}
use Rattle.paged_map.proofs.finding.find_below.Goals as goal

pub returns-in-Ok-clause-found : goal.returns-in-Ok-clause-found
returns-in-Ok-clause-found g c = λ map.
    let l = c.in-Ok.ensures.located map in
    let s = c.in-Ok.ensures.shown in
    let low : ℕ = low_of c.args.form c.locate.new.bounds in
    let high : ℕ = high_of c.args.form c.locate.new.bounds in
    let within : IsWithin low high (rows_in c.args.form c.looked.result.now) = subst (λ (x : List ℕ). IsWithin low high (rows_in c.args.form x)) (sym c.looked.ensures) s.within in
    found-leaf c.args.form (g.P.Pages.pages c.args.pages.now) c.args.root c.in-Ok.leaf.least c.in-Ok.leaf.page low high l.1
    (number c.args.key.now) s.from s.to c.looked.result.now c.row_at.new.value (is_some c.row_at.result) (leaf_of c.row_at.result) (c.looked.ensures ∙ l.0)
    (c.row_at.ensures.found low high within s.from s.to) (leaf-found c.row_at.result c.in-Ok.leaf.page c.row_at.ensures.page)

pub returns-in-Ok-clause-spot : goal.returns-in-Ok-clause-spot
returns-in-Ok-clause-spot g c =
    let s = c.in-Ok.ensures.shown in
    let f = c.in-Ok.ensures.frame in
    let count : ℕ = g.P.Pages.count c.locate.new.pages in
    let bytes : List ℕ = g.P.Pages.looked c.locate.new.pages in
    let key : ℕ = number c.args.key.now in
    spots c.args.form (g.P.Pages.pages c.args.pages.now) (g.P.Pages.pages c.locate.new.pages) count c.args.root c.in-Ok.leaf.least c.in-Ok.leaf.page (low_of c.args.form c.locate.new.bounds) (high_of c.args.form c.locate.new.bounds)
    key bytes c.row_at.result f.pages c.row_at.ensures.page c.in-Ok.ensures.located s.from s.to
    (subst (λ (x : List ℕ). IfSome c.row_at.result (IsRowAt c.args.form count x key)) c.looked.ensures
    (c.row_at.ensures.spot count (low_of c.args.form c.locate.new.bounds) (high_of c.args.form c.locate.new.bounds) (λ u. c.in-Ok.ensures.counted (subst (λ (n : ℕ). IsUncounted n c.in-Ok.leaf.page) f.count u))
    (subst (λ (x : List ℕ). IsShown c.args.form x key (low_of c.args.form c.locate.new.bounds) (high_of c.args.form c.locate.new.bounds) c.in-Ok.leaf) (sym c.looked.ensures) s)))

pub returns-in-Ok-clause-read : goal.returns-in-Ok-clause-read
returns-in-Ok-clause-read g c = λ told.
    let l = c.in-Ok.ensures.read told in
    let s = c.in-Ok.ensures.shown in
    let form : Form = c.args.form in
    let low : ℕ = low_of form c.locate.new.bounds in
    let high : ℕ = high_of form c.locate.new.bounds in
    let within : IsWithin low high (rows_in form c.looked.result.now) = subst (λ (x : List ℕ). IsWithin low high (rows_in form x)) (sym c.looked.ensures) s.within in
    leaf-read form (g.P.Pages.pages c.args.pages.now) (g.P.Pages.asked c.args.pages.now) (g.P.Pages.asked c.locate.new.pages) c.looked.result.now c.row_at.new.value c.in-Ok.leaf.least (number c.args.key.now) c.in-Ok.leaf.page
    (is_some c.row_at.result) (leaf_of c.row_at.result) l.0 (c.looked.ensures ∙ l.1) (subst (IsLeaf form c.in-Ok.leaf.least) (sym c.looked.ensures) s.sound)
    (hit-there (is_some c.row_at.result) c.row_at.new.value _ (c.row_at.ensures.found low high within s.from s.to)) (leaf-found c.row_at.result c.in-Ok.leaf.page c.row_at.ensures.page)

pub returns-in-Ok-clause-kept : goal.returns-in-Ok-clause-kept
returns-in-Ok-clause-kept g c = λ told.
    let l = c.in-Ok.ensures.read told in
    let s = c.in-Ok.ensures.shown in
    let form : Form = c.args.form in
    let low : ℕ = low_of form c.locate.new.bounds in
    let high : ℕ = high_of form c.locate.new.bounds in
    let within : IsWithin low high (rows_in form c.looked.result.now) = subst (λ (x : List ℕ). IsWithin low high (rows_in form x)) (sym c.looked.ensures) s.within in
    looked-up form (g.P.Pages.pages c.args.pages.now) (g.P.Pages.count c.args.pages.now) c.args.root (number c.args.key.now) _ c.in-Ok.leaf.page low high c.requires.root (c.in-Ok.ensures.way told)
    (sym (c.row_at.ensures.found low high within s.from s.to) ∙ ap (λ (x : List ℕ). lookup (number c.args.key.now) (rows_in form x)) (c.looked.ensures ∙ l.1))
