use Rattle.std.proofs.Common.{◌≡◌, ℕ, List, Err, Some, inr, ap, refl, sym, subst, ◌∙◌, arith}
use Rattle.std.proofs.lemmas.Result.{err_from_is_err_and}
use Rattle.page_face.specs.FreeList.{PageMap}
use Rattle.page_face.specs.declared.fault.PageFault.TheVariants.{Damaged}
use Rattle.paged_map.specs.Answers.{HasRead}
use Rattle.paged_map.specs.Lookups.{IsLookedUp}
use Rattle.paged_map.proofs.Lookups.{kept-none, kept-some}
use Rattle.store_tables.specs.Broken.{IsBrokenPlace}
use Rattle.store_tables.specs.Coded.{key_code}
use Rattle.store_tables.specs.Holding.{places_form}
use Rattle.store_tables.proofs.LookupLemmas.{number-key, place-broken, place-none, place-some, read-some, same_fault, told-none, told-some, value_at}
use Rattle.store_tables.proofs.tables.Tables.place.Goals as goal

pub returns-in_err-leaf-clause-no_false_damage : goal.returns-in_err-leaf-clause-no_false_damage
returns-in_err-leaf-clause-no_false_damage g c entries holds told counted damage =
    let p = err_from_is_err_and c.from_residual.result c.from_residual.ensures.1 in
    λ e. (let same : c.in_err-leaf.field-0.0 ≡ Damaged damage = cc (p.1, p.2, e) in
    c.in_err-leaf.ensures.no_false_damage holds.places.tree told (λ n used. counted n (omega arith)) damage (ap Err same))

pub returns-in_err-leaf-clause-own : goal.returns-in_err-leaf-clause-own
returns-in_err-leaf-clause-own g c told = c.get_row.ensures.own told

pub returns-in_default-clause-own : goal.returns-in_default-clause-own
returns-in_default-clause-own g c told = c.get_row.ensures.own told

pub returns-in-Some-decode-clause-own : goal.returns-in-Some-decode-clause-own
returns-in-Some-decode-clause-own g c told = c.get_row.ensures.own told

pub returns-in-None-clause-own : goal.returns-in-None-clause-own
returns-in-None-clause-own g c told = c.get_row.ensures.own told

pub returns-in_default-clause-found : goal.returns-in_default-clause-found
returns-in_default-clause-found g c entries holds =
    let pages : PageMap = g.P.Pages.pages c.args.pages.now in
    let root : ℕ = c.args.self.now.places in
    let none = told-none places_form pages root _ (key_code c.args.key.now) _ _ (number-key c.bytes.result c.args.key.now c.bytes.ensures.form) c.in_default.is (c.in_ok-leaf.ensures.found holds.places.tree) in
    sym (place-none pages root entries.places c.args.key.now c.bytes.ensures.name holds.places none)

pub returns-in_default-clause-formed : goal.returns-in_default-clause-formed
returns-in_default-clause-formed g c tree =
    (told-none places_form (g.P.Pages.pages c.args.pages.now) c.args.self.now.places _ (key_code c.args.key.now) _ _ (number-key c.bytes.result c.args.key.now c.bytes.ensures.form) c.in_default.is (c.in_ok-leaf.ensures.found tree), tt)

pub returns-in-Some-decode-clause-found : goal.returns-in-Some-decode-clause-found
returns-in-Some-decode-clause-found g c entries holds =
    let pages : PageMap = g.P.Pages.pages c.args.pages.now in
    let root : ℕ = c.args.self.now.places in
    let some = told-some places_form pages root _ (key_code c.args.key.now) _ _ c.in-Some.leaf (number-key c.bytes.result c.args.key.now c.bytes.ensures.form) c.in-Some.is (c.in_ok-leaf.ensures.found holds.places.tree) in
    let found = place-some pages root entries.places c.args.key.now c.get_row.new.value c.bytes.ensures.name holds.places some.is in
    c.in-Some-decode.ensures.every found.v found.formed.0 found.formed.1 found.bytes_are ∙ sym found.is

pub returns-in-Some-decode-clause-formed : goal.returns-in-Some-decode-clause-formed
returns-in-Some-decode-clause-formed g c tree =
    let form = c.in-Some-decode.ensures.form in
    let some = told-some places_form (g.P.Pages.pages c.args.pages.now) c.args.self.now.places _ (key_code c.args.key.now) _ _ c.in-Some.leaf (number-key c.bytes.result c.args.key.now c.bytes.ensures.form) c.in-Some.is (c.in_ok-leaf.ensures.found tree) in
    (some.is ∙ ap Some form.2, (form.0, form.1))

pub returns-in-None-clause-no_false_damage : goal.returns-in-None-clause-no_false_damage
returns-in-None-clause-no_false_damage g c entries holds told counted damage e =
    let pages : PageMap = g.P.Pages.pages c.args.pages.now in
    let root : ℕ = c.args.self.now.places in
    let some = told-some places_form pages root _ (key_code c.args.key.now) _ _ c.in-Some.leaf (number-key c.bytes.result c.args.key.now c.bytes.ensures.form) c.in-Some.is (c.in_ok-leaf.ensures.found holds.places.tree) in
    let found = place-some pages root entries.places c.args.key.now c.get_row.new.value c.bytes.ensures.name holds.places some.is in
    let no = c.in-None.ensures.every found.v found.formed.0 found.formed.1 found.bytes_are in cc no

pub returns-in-None-clause-damaged : goal.returns-in-None-clause-damaged
returns-in-None-clause-damaged g c told damage e =
    let pages : PageMap = g.P.Pages.pages c.args.pages.now in
    let root : ℕ = c.args.self.now.places in
    let before : List ℕ = g.P.Pages.asked c.args.pages.now in
    let asked : List ℕ = g.P.Pages.asked c.get_row.new.pages in
    let code : ℕ = key_code c.args.key.now in
    let value : List ℕ = c.get_row.new.value in
    let same = number-key c.bytes.result c.args.key.now c.bytes.ensures.form in
    let at = value_at c.in-Some.leaf c.broken.result damage c.broken.ensures (same_fault c.broken.result (Damaged damage) _ _ refl refl e) in
    inr (
      at.1,
      value,
      subst (λ leaf. IsBrokenPlace pages root before asked (code, value) leaf) at.0
          (place-broken pages root before asked (code, value) c.in-Some.leaf (read-some places_form pages before asked _ code value _ c.in-Some.leaf same c.in-Some.is (c.in_ok-leaf.ensures.read told))
          (λ tree. (told-some places_form pages root _ code _ _ c.in-Some.leaf same c.in-Some.is (c.in_ok-leaf.ensures.found tree)).held)
          (λ stored is bytes. let no = c.in-None.ensures.every stored is.0 is.1 bytes in cc no)),
    )

pub returns-in-Some-decode-clause-read : goal.returns-in-Some-decode-clause-read
returns-in-Some-decode-clause-read g c told =
    let pages : PageMap = g.P.Pages.pages c.args.pages.now in
    let before : List ℕ = g.P.Pages.asked c.args.pages.now in
    let asked : List ℕ = g.P.Pages.asked c.get_row.new.pages in
    let code : ℕ = key_code c.args.key.now in (
      c.in-Some.leaf,
      subst (λ (bytes : List ℕ). HasRead places_form pages before asked (code, bytes) c.in-Some.leaf) c.in-Some-decode.ensures.form.2
          (read-some places_form pages before asked _ code c.get_row.new.value _ c.in-Some.leaf (number-key c.bytes.result c.args.key.now c.bytes.ensures.form) c.in-Some.is (c.in_ok-leaf.ensures.read told)),
    )

pub returns-in_default-clause-kept : goal.returns-in_default-clause-kept
returns-in_default-clause-kept g c told =
    kept-none (IsLookedUp places_form (g.P.Pages.pages c.args.pages.now) (g.P.Pages.count c.args.pages.now) c.args.self.now.places) _ (key_code c.args.key.now) c.get_row.new.value _ (number-key c.bytes.result c.args.key.now c.bytes.ensures.form) c.in_default.is (c.in_ok-leaf.ensures.kept told)

pub returns-in-Some-decode-clause-kept : goal.returns-in-Some-decode-clause-kept
returns-in-Some-decode-clause-kept g c told =
    kept-some (IsLookedUp places_form (g.P.Pages.pages c.args.pages.now) (g.P.Pages.count c.args.pages.now) c.args.self.now.places) _ (key_code c.args.key.now) c.get_row.new.value _ _ c.in-Some.leaf (number-key c.bytes.result c.args.key.now c.bytes.ensures.form) c.in-Some.is (let form = c.in-Some-decode.ensures.form in form.2) (c.in_ok-leaf.ensures.kept told)
