use Rattle.std.proofs.Common.{◌≡◌, ℕ, Err, IfSome, Option, ap, refl, sym, subst, ◌∙◌}
use Rattle.std.proofs.lemmas.Result.{err_from_is_err_and}
use Rattle.page_face.specs.FreeList.{PageMap}
use Rattle.page_face.specs.Number.{number}
use Rattle.page_face.specs.declared.fault.PageFault.TheVariants.{Damaged}
use Rattle.page_face.specs.declared.fault.Rule.TheVariants.{Head, Value}
use Rattle.btree_nodes.specs.Damages.{AskedSince}
use Rattle.btree_nodes.specs.Rows.{Row}
use Rattle.store_tables.proofs.Heads.{map-spares_head}
use Rattle.store_tables.proofs.LookupLemmas.{first-none, first-some, same_fault, value_at}
use Rattle.table_updates.specs.Version1.{places_form_version1}
use Rattle.table_updates.proofs.Firsts.{is-first, no-first}
use Rattle.table_updates.proofs.reading.first_place.Goals as goal

pub returns-in_err-leaf-clause-no_false_damage : goal.returns-in_err-leaf-clause-no_false_damage
returns-in_err-leaf-clause-no_false_damage g c places holds told counted damage =
    let p = err_from_is_err_and c.from_residual.result c.from_residual.ensures.1 in
    λ e. (let same : c.in_err-leaf.field-0.0 ≡ Damaged damage = cc (p.1, p.2, e) in
    c.in_err-leaf.ensures.no_false_damage holds.tree told counted damage (ap Err same))

pub returns-in_err-leaf-clause-damaged : goal.returns-in_err-leaf-clause-damaged
returns-in_err-leaf-clause-damaged g c told damage =
    let p = err_from_is_err_and c.from_residual.result c.from_residual.ensures.1 in
    λ e. (let same : c.in_err-leaf.field-0.0 ≡ Damaged damage = cc (p.1, p.2, e) in
    (c.in_err-leaf.ensures.damaged told damage (ap Err same)).1)

pub returns-in_err-leaf-clause-no_head : goal.returns-in_err-leaf-clause-no_head
returns-in_err-leaf-clause-no_head g c told damage =
    let p = err_from_is_err_and c.from_residual.result c.from_residual.ensures.1 in
    λ e. (let same : c.in_err-leaf.field-0.0 ≡ Damaged damage = cc (p.1, p.2, e) in
    map-spares_head places_form_version1 (g.P.Pages.pages c.args.pages.now) (g.P.Pages.count c.args.pages.now) c.args.root damage (c.in_err-leaf.ensures.damaged told damage (ap Err same)).0)

pub returns-in_err-leaf-clause-own : goal.returns-in_err-leaf-clause-own
returns-in_err-leaf-clause-own g c told = c.first_row.ensures.own told

pub returns-in_default-clause-own : goal.returns-in_default-clause-own
returns-in_default-clause-own g c told = c.first_row.ensures.own told

pub returns-in-Some-entry_of_version1-clause-own : goal.returns-in-Some-entry_of_version1-clause-own
returns-in-Some-entry_of_version1-clause-own g c told = c.first_row.ensures.own told

pub returns-in-None-clause-own : goal.returns-in-None-clause-own
returns-in-None-clause-own g c told = c.first_row.ensures.own told

pub returns-in_default-clause-first : goal.returns-in_default-clause-first
returns-in_default-clause-first g c places holds =
    let pages : PageMap = g.P.Pages.pages c.args.pages.now in
    let none = first-none places_form_version1 pages c.args.root 0 0 _ _ refl c.in_default.is (c.in_ok-leaf.ensures.found holds.tree) in
    sym (no-first pages c.args.root places holds none)

pub returns-in-Some-entry_of_version1-clause-first : goal.returns-in-Some-entry_of_version1-clause-first
returns-in-Some-entry_of_version1-clause-first g c places holds =
    let pages : PageMap = g.P.Pages.pages c.args.pages.now in
    let row : Row = (number c.first_row.new.key, c.first_row.new.value) in
    let some = first-some places_form_version1 pages c.args.root 0 0 row _ c.in-Some.leaf refl c.in-Some.is (c.in_ok-leaf.ensures.found holds.tree) in
    let first = is-first pages c.args.root places row holds some.0 in
    c.in-Some-entry_of_version1.ensures.every first.e first.formed.0 first.formed.1 (ap (λ (r : Row). r.0) first.row_is) (ap (λ (r : Row). r.1) first.row_is) ∙ sym first.is

pub returns-in-None-clause-no_false_damage : goal.returns-in-None-clause-no_false_damage
returns-in-None-clause-no_false_damage g c places holds told counted damage e =
    let pages : PageMap = g.P.Pages.pages c.args.pages.now in
    let row : Row = (number c.first_row.new.key, c.first_row.new.value) in
    let some = first-some places_form_version1 pages c.args.root 0 0 row _ c.in-Some.leaf refl c.in-Some.is (c.in_ok-leaf.ensures.found holds.tree) in
    let first = is-first pages c.args.root places row holds some.0 in
    let no = c.in-None.ensures.every first.e first.formed.0 first.formed.1 (ap (λ (r : Row). r.0) first.row_is) (ap (λ (r : Row). r.1) first.row_is) in cc no

pub returns-in-None-clause-damaged : goal.returns-in-None-clause-damaged
returns-in-None-clause-damaged g c told damage e =
    let at = value_at c.in-Some.leaf (Damaged (record { page = c.in-Some.leaf; rule = Value })) damage refl (same_fault _ (Damaged damage) _ _ refl refl e) in
    subst (AskedSince (g.P.Pages.asked c.args.pages.now) (g.P.Pages.asked c.first_row.new.pages)) at.0
    (subst (λ (o : Option ℕ). IfSome o (AskedSince (g.P.Pages.asked c.args.pages.now) (g.P.Pages.asked c.first_row.new.pages))) c.in-Some.is (c.in_ok-leaf.ensures.read told))

pub returns-in-None-clause-no_head : goal.returns-in-None-clause-no_head
returns-in-None-clause-no_head g c told damage e =
    let at = value_at c.in-Some.leaf (Damaged (record { page = c.in-Some.leaf; rule = Value })) damage refl (same_fault _ (Damaged damage) _ _ refl refl e) in
    λ head. (let no : Value ≡ Head = sym at.1 ∙ head in absurd (cc no))
