use Rattle.std.proofs.Common.{◌≡◌, ℕ, List, Err, Option, Some, inr, ap, refl, sym, subst, ◌∙◌, arith, rules}
use Rattle.std.proofs.lemmas.Result.{err_from_is_err_and}
use Rattle.page_face.specs.FreeList.{PageMap}
use Rattle.page_face.specs.Number.{number}
use Rattle.page_face.specs.declared.fault.PageFault.TheVariants.{Damaged}
use Rattle.paged_map.specs.Lookups.{IsLookedUp}
use Rattle.paged_map.proofs.Lookups.{kept-none, kept-some}
use Rattle.paged_map.specs.Spots.{leaf_of}
use Rattle.store_tables.specs.Broken.{IsBrokenNumber}
use Rattle.store_tables.specs.Rows.{IsNumberSpot}
use Rattle.paged_map.specs.declared.replacing.RowSpot.{RowSpot}
use Rattle.std.specs.Prelude.{IfSome}
use Rattle.store_tables.specs.Holding.{numbers_form}
use Rattle.store_tables.proofs.LookupLemmas.{number-broken, number-none, number-of_number, number-some, read-some, same_fault, told-none, told-some, value_at}
use Rattle.store_tables.proofs.tables.Tables.counted_row.Goals as goal

pub returns-in_err-spot-clause-no_false_damage : goal.returns-in_err-spot-clause-no_false_damage
returns-in_err-spot-clause-no_false_damage g c entries holds told counted damage =
    let p = err_from_is_err_and c.from_residual.result c.from_residual.ensures.1 in
    λ e. (let same : c.in_err-spot.field-0.0 ≡ Damaged damage = cc (p.1, p.2, e) in
    c.in_err-spot.ensures.no_false_damage holds.numbers.tree told (λ n used. counted n (omega arith)) damage (ap Err same))

pub returns-in_err-spot-clause-own : goal.returns-in_err-spot-clause-own
returns-in_err-spot-clause-own g c told = c.find_row.ensures.own told

pub returns-in_default-clause-own : goal.returns-in_default-clause-own
returns-in_default-clause-own g c told = c.find_row.ensures.own told

pub returns-in-Some-decode-clause-own : goal.returns-in-Some-decode-clause-own
returns-in-Some-decode-clause-own g c told = c.find_row.ensures.own told

pub returns-in-None-clause-own : goal.returns-in-None-clause-own
returns-in-None-clause-own g c told = c.find_row.ensures.own told

pub returns-in_default-clause-found : goal.returns-in_default-clause-found
returns-in_default-clause-found g c entries holds =
    let pages : PageMap = g.P.Pages.pages c.args.pages.now in
    let root : ℕ = c.args.self.now.numbers in
    let none = told-none numbers_form pages root _ c.args.number _ _ (number-of_number c.number_bytes-key.result c.args.number (search rules) c.number_bytes-key.ensures) (ap leaf_of c.in_default.is) (c.in_ok-spot.ensures.found holds.numbers.tree) in
    sym (number-none pages root entries.numbers c.args.number (search rules) holds.numbers none)

pub returns-in_default-clause-formed : goal.returns-in_default-clause-formed
returns-in_default-clause-formed g c tree =
    (told-none numbers_form (g.P.Pages.pages c.args.pages.now) c.args.self.now.numbers _ c.args.number _ _ (number-of_number c.number_bytes-key.result c.args.number (search rules) c.number_bytes-key.ensures) (ap leaf_of c.in_default.is) (c.in_ok-spot.ensures.found tree), tt)

pub returns-in-Some-decode-clause-found : goal.returns-in-Some-decode-clause-found
returns-in-Some-decode-clause-found g c entries holds =
    let pages : PageMap = g.P.Pages.pages c.args.pages.now in
    let root : ℕ = c.args.self.now.numbers in
    let some = told-some numbers_form pages root _ c.args.number _ _ c.in-Some.spot.page (number-of_number c.number_bytes-key.result c.args.number (search rules) c.number_bytes-key.ensures) (ap leaf_of c.in-Some.is) (c.in_ok-spot.ensures.found holds.numbers.tree) in
    let found = number-some pages root entries.numbers c.args.number c.find_row.new.value (search rules) holds.numbers some.is in
    c.in-Some-decode.ensures.every found.v found.formed found.bytes_are ∙ sym found.is

pub returns-in-Some-decode-clause-formed : goal.returns-in-Some-decode-clause-formed
returns-in-Some-decode-clause-formed g c tree =
    let form = c.in-Some-decode.ensures.form in
    let some = told-some numbers_form (g.P.Pages.pages c.args.pages.now) c.args.self.now.numbers _ c.args.number _ _ c.in-Some.spot.page (number-of_number c.number_bytes-key.result c.args.number (search rules) c.number_bytes-key.ensures) (ap leaf_of c.in-Some.is) (c.in_ok-spot.ensures.found tree) in
    (some.is ∙ ap Some form.1, form.0)

pub returns-in-None-clause-no_false_damage : goal.returns-in-None-clause-no_false_damage
returns-in-None-clause-no_false_damage g c entries holds told counted damage e =
    let pages : PageMap = g.P.Pages.pages c.args.pages.now in
    let root : ℕ = c.args.self.now.numbers in
    let some = told-some numbers_form pages root _ c.args.number _ _ c.in-Some.spot.page (number-of_number c.number_bytes-key.result c.args.number (search rules) c.number_bytes-key.ensures) (ap leaf_of c.in-Some.is) (c.in_ok-spot.ensures.found holds.numbers.tree) in
    let found = number-some pages root entries.numbers c.args.number c.find_row.new.value (search rules) holds.numbers some.is in
    let no = c.in-None.ensures.every found.v found.formed found.bytes_are in cc no

pub returns-in-None-clause-damaged : goal.returns-in-None-clause-damaged
returns-in-None-clause-damaged g c told damage e =
    let pages : PageMap = g.P.Pages.pages c.args.pages.now in
    let root : ℕ = c.args.self.now.numbers in
    let before : List ℕ = g.P.Pages.asked c.args.pages.now in
    let asked : List ℕ = g.P.Pages.asked c.find_row.new.pages in
    let value : List ℕ = c.find_row.new.value in
    let same = number-of_number c.number_bytes-key.result c.args.number (search rules) c.number_bytes-key.ensures in
    let at = value_at c.in-Some.spot.page c.broken.result damage c.broken.ensures (same_fault c.broken.result (Damaged damage) _ _ refl refl e) in
    inr (
      at.1,
      value,
      subst (λ leaf. IsBrokenNumber pages root before asked (c.args.number, value) leaf) at.0
          (number-broken pages root before asked (c.args.number, value) c.in-Some.spot.page (read-some numbers_form pages before asked _ c.args.number value _ c.in-Some.spot.page same (ap leaf_of c.in-Some.is) (c.in_ok-spot.ensures.read told))
          (λ tree. (told-some numbers_form pages root _ c.args.number _ _ c.in-Some.spot.page same (ap leaf_of c.in-Some.is) (c.in_ok-spot.ensures.found tree)).held)
          (λ counted is bytes. let no = c.in-None.ensures.every counted is bytes in cc no)),
    )

pub returns-in-Some-decode-clause-spot : goal.returns-in-Some-decode-clause-spot
returns-in-Some-decode-clause-spot g c =
    let found = subst (λ (x : Option RowSpot). IfSome x (IsNumberSpot (g.P.Pages.pages c.find_row.new.pages) (g.P.Pages.count c.find_row.new.pages) c.args.self.now.numbers (g.P.Pages.looked c.find_row.new.pages) (number c.number_bytes-key.result))) c.in-Some.is c.in_ok-spot.ensures.spot in
    subst (λ (n : ℕ). IsNumberSpot (g.P.Pages.pages c.find_row.new.pages) (g.P.Pages.count c.find_row.new.pages) c.args.self.now.numbers (g.P.Pages.looked c.find_row.new.pages) n c.in-Some.spot)
    (number-of_number c.number_bytes-key.result c.args.number (search rules) c.number_bytes-key.ensures) found

pub returns-in_default-clause-kept : goal.returns-in_default-clause-kept
returns-in_default-clause-kept g c told =
    kept-none (IsLookedUp numbers_form (g.P.Pages.pages c.args.pages.now) (g.P.Pages.count c.args.pages.now) c.args.self.now.numbers) _ c.args.number c.find_row.new.value _
    (number-of_number c.number_bytes-key.result c.args.number (search rules) c.number_bytes-key.ensures) c.in_default.is (c.in_ok-spot.ensures.kept told)

pub returns-in-Some-decode-clause-kept : goal.returns-in-Some-decode-clause-kept
returns-in-Some-decode-clause-kept g c told =
    kept-some (IsLookedUp numbers_form (g.P.Pages.pages c.args.pages.now) (g.P.Pages.count c.args.pages.now) c.args.self.now.numbers) _ c.args.number c.find_row.new.value _ _ c.in-Some.spot
    (number-of_number c.number_bytes-key.result c.args.number (search rules) c.number_bytes-key.ensures) c.in-Some.is (let form = c.in-Some-decode.ensures.form in form.1) (c.in_ok-spot.ensures.kept told)
