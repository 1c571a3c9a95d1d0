use Rattle.std.proofs.Common.{◌≡◌, ℕ, ◌≤◌, List, Err, Option, Some, IfSome, inr, ap, refl, sym, subst, ◌∙◌, arith}
use Rattle.std.proofs.lemmas.Result.{err_from_is_err_and}
use Rattle.std.specs.Option.{option_copied}
use Rattle.btree_nodes.specs.Rows.{Row}
use Rattle.page_face.specs.Number.{number}
use Rattle.page_face.specs.FreeList.{PageMap}
use Rattle.page_face.specs.declared.fault.PageFault.TheVariants.{Damaged}
use Rattle.btree_nodes.specs.Tree.{IsMap}
use Rattle.paged_map.specs.Answers.{HasRead}
use Rattle.paged_map.specs.Lookups.{IsFirstFound}
use Rattle.paged_map.proofs.Lookups.{kept-none, kept-some}
use Rattle.store_tables.specs.Broken.{IsBrokenPlace}
use Rattle.store_tables.specs.Coded.{next_code}
use Rattle.store_tables.specs.Holding.{places_form}
use Rattle.store_tables.proofs.LookupLemmas.{first-none, first-some, next-none, next-some, place-unread, same_fault, value_at}
use Rattle.store_tables.proofs.tables.Tables.next_place.Goals as goal

pub returns-in_err-leaf-clause-no_false_damage : goal.returns-in_err-leaf-clause-no_false_damage
returns-in_err-leaf-clause-no_false_damage g c entries holds told counted damage =
    let p = err_from_is_err_and c.from_residual.result c.from_residual.ensures.1 in
    λ e. (let same : c.in_err-leaf.field-0.0 ≡ Damaged damage = cc (p.1, p.2, e) in
    c.in_err-leaf.ensures.no_false_damage holds.places.tree told (λ n used. counted n (omega arith)) damage (ap Err same))

pub returns-in_err-leaf-clause-own : goal.returns-in_err-leaf-clause-own
returns-in_err-leaf-clause-own g c told = c.first_row.ensures.own told

pub returns-in_default-clause-own : goal.returns-in_default-clause-own
returns-in_default-clause-own g c told = c.first_row.ensures.own told

pub returns-in-Some-entry_of_bytes-clause-own : goal.returns-in-Some-entry_of_bytes-clause-own
returns-in-Some-entry_of_bytes-clause-own g c told = c.first_row.ensures.own told

pub returns-in-None-clause-own : goal.returns-in-None-clause-own
returns-in-None-clause-own g c told = c.first_row.ensures.own told

pub returns-in_default-clause-found : goal.returns-in_default-clause-found
returns-in_default-clause-found g c entries holds =
    let pages : PageMap = g.P.Pages.pages c.args.pages.now in
    let root : ℕ = c.args.self.now.places in
    let none = first-none places_form pages root _ (next_code (option_copied c.args.after)) _ _ c.first_behind-from.ensures.number c.in_default.is (c.in_ok-leaf.ensures.found holds.places.tree) in
    sym (next-none pages root entries.places (option_copied c.args.after) c.first_behind-from.ensures.name holds.places none)

pub returns-in_default-clause-formed : goal.returns-in_default-clause-formed
returns-in_default-clause-formed g c tree =
    (first-none places_form (g.P.Pages.pages c.args.pages.now) c.args.self.now.places _ (next_code (option_copied c.args.after)) _ _ c.first_behind-from.ensures.number c.in_default.is (c.in_ok-leaf.ensures.found tree), tt)

pub returns-in-Some-entry_of_bytes-clause-found : goal.returns-in-Some-entry_of_bytes-clause-found
returns-in-Some-entry_of_bytes-clause-found g c entries holds =
    let pages : PageMap = g.P.Pages.pages c.args.pages.now in
    let root : ℕ = c.args.self.now.places in
    let row : Row = (number c.first_row.new.found, c.first_row.new.value) in
    let some = first-some places_form pages root _ (next_code (option_copied c.args.after)) row _ c.in-Some.leaf c.first_behind-from.ensures.number c.in-Some.is (c.in_ok-leaf.ensures.found holds.places.tree) in
    let next = next-some pages root entries.places (option_copied c.args.after) row c.first_behind-from.ensures.name holds.places some.0 in
    c.in-Some-entry_of_bytes.ensures.every next.e next.formed (ap (λ (r : Row). r.0) next.row_is) (ap (λ (r : Row). r.1) next.row_is) ∙ sym next.is

pub returns-in-Some-entry_of_bytes-clause-formed : goal.returns-in-Some-entry_of_bytes-clause-formed
returns-in-Some-entry_of_bytes-clause-formed g c tree =
    let form = c.in-Some-entry_of_bytes.ensures.form in
    let row : Row = (number c.first_row.new.found, c.first_row.new.value) in
    let some = first-some places_form (g.P.Pages.pages c.args.pages.now) c.args.self.now.places _ (next_code (option_copied c.args.after)) row _ c.in-Some.leaf c.first_behind-from.ensures.number c.in-Some.is (c.in_ok-leaf.ensures.found tree) in
    (some.0 ∙ (λ i. Some (form.1 i, form.2 i)), form.0)

pub returns-in-None-clause-no_false_damage : goal.returns-in-None-clause-no_false_damage
returns-in-None-clause-no_false_damage g c entries holds told counted damage e =
    let pages : PageMap = g.P.Pages.pages c.args.pages.now in
    let root : ℕ = c.args.self.now.places in
    let row : Row = (number c.first_row.new.found, c.first_row.new.value) in
    let some = first-some places_form pages root _ (next_code (option_copied c.args.after)) row _ c.in-Some.leaf c.first_behind-from.ensures.number c.in-Some.is (c.in_ok-leaf.ensures.found holds.places.tree) in
    let next = next-some pages root entries.places (option_copied c.args.after) row c.first_behind-from.ensures.name holds.places some.0 in
    let no = c.in-None.ensures.every next.e next.formed (ap (λ (r : Row). r.0) next.row_is) (ap (λ (r : Row). r.1) next.row_is) in cc no

pub returns-in-None-clause-damaged : goal.returns-in-None-clause-damaged
returns-in-None-clause-damaged g c told damage e =
    let pages : PageMap = g.P.Pages.pages c.args.pages.now in
    let root : ℕ = c.args.self.now.places in
    let before : List ℕ = g.P.Pages.asked c.args.pages.now in
    let asked : List ℕ = g.P.Pages.asked c.first_row.new.pages in
    let from : ℕ = next_code (option_copied c.args.after) in
    let row : Row = (number c.first_row.new.found, c.first_row.new.value) in
    let some = λ (tree : IsMap places_form pages root). first-some places_form pages root _ from row _ c.in-Some.leaf c.first_behind-from.ensures.number c.in-Some.is (c.in_ok-leaf.ensures.found tree) in
    let at = value_at c.in-Some.leaf c.broken.result damage c.broken.ensures (same_fault c.broken.result (Damaged damage) _ _ refl refl e) in
    inr (
      at.1,
      row,
      subst (λ (n : ℕ). n ≤ row.0) c.first_behind-from.ensures.number (subst (λ (o : Option ℕ). IfSome o (λ page. number c.first_behind-from.result ≤ row.0)) c.in-Some.is c.in_ok-leaf.ensures.on),
      subst (λ leaf. IsBrokenPlace pages root before asked row leaf) at.0
          (place-unread pages root before asked row c.in-Some.leaf (subst (λ (o : Option ℕ). IfSome o (HasRead places_form pages before asked row)) c.in-Some.is (c.in_ok-leaf.ensures.read told)) (λ tree. (some tree).1)
          (λ entry is key value. let no = c.in-None.ensures.every entry is key value in cc no)),
      λ tree. (some tree).0,
    )

pub returns-in_default-clause-kept : goal.returns-in_default-clause-kept
returns-in_default-clause-kept g c told =
    let row : Row = (number c.first_row.new.found, c.first_row.new.value) in
    kept-none (IsFirstFound places_form (g.P.Pages.pages c.args.pages.now) (g.P.Pages.count c.args.pages.now) c.args.self.now.places) _ (next_code (option_copied c.args.after)) row _
    c.first_behind-from.ensures.number c.in_default.is (c.in_ok-leaf.ensures.kept told)

pub returns-in-Some-entry_of_bytes-clause-kept : goal.returns-in-Some-entry_of_bytes-clause-kept
returns-in-Some-entry_of_bytes-clause-kept g c told =
    let form = c.in-Some-entry_of_bytes.ensures.form in
    let row : Row = (number c.first_row.new.found, c.first_row.new.value) in
    kept-some (IsFirstFound places_form (g.P.Pages.pages c.args.pages.now) (g.P.Pages.count c.args.pages.now) c.args.self.now.places) _ (next_code (option_copied c.args.after)) row _ _ c.in-Some.leaf
    c.first_behind-from.ensures.number c.in-Some.is (λ i. (form.1 i, form.2 i)) (c.in_ok-leaf.ensures.kept told)
