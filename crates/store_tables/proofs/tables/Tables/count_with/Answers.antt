use Rattle.std.proofs.Common.{◌≡◌, ℕ, Err, Option, inl, inr, ⊎_elim, unwrap_or, ap, sym, subst, ◌∙◌}
use Rattle.std.specs.Prelude.{IfSome}
use Rattle.std.proofs.lemmas.Result.{err_from_is_err_and}
use Rattle.page_face.specs.declared.fault.PageFault.TheVariants.{Damaged}
use Rattle.paged_map.specs.declared.replacing.RowSpot.{RowSpot}
use Rattle.store_tables.specs.Entries.{word_of_number}
use Rattle.store_tables.specs.Rows.{IsNumberSpot, spot_in}
use Rattle.store_tables.proofs.Heads.{number-spares_head, words-spares_head}
use Rattle.store_tables.proofs.HoldLemmas.{can_hold-read, cannot_hold-read, known-read, places-read}
use Rattle.store_tables.proofs.ToldLemmas.{asks-numbers}
use Rattle.store_tables.proofs.tables.Tables.count_with.Goals as goal

pub returns-in-Some-clause-held : goal.returns-in-Some-clause-held
returns-in-Some-clause-held g c entries holds was =
    let is = c.in_ok-row.ensures.found entries holds ∙ ap (λ (n : ℕ). word_of_number n entries.numbers) c.unwrap_or.ensures in
    let some = c.in-Some.ensures.some in
    (can_hold-read c.args.places c.args.word.now c.args.self.now.next_word entries _ _ was is some.0, places-read c.args.places c.args.word.now c.args.self.now.next_word _ entries _ _ was is some.1)

pub returns-in-Some-clause-known : goal.returns-in-Some-clause-known
returns-in-Some-clause-known g c = known-read c.args.places c.args.word.now c.args.found c.in_ok-row.row c.in-Some.hold.spot c.in-Some.ensures.spot c.in-Some.ensures.some.0

pub returns-in-Some-clause-spot : goal.returns-in-Some-clause-spot
returns-in-Some-clause-spot g c =
    subst (λ (o : Option RowSpot). IfSome o (IsNumberSpot (g.P.Pages.pages c.counted_row.new.pages) (g.P.Pages.count c.counted_row.new.pages) c.args.self.now.numbers (g.P.Pages.looked c.counted_row.new.pages) (unwrap_or c.args.found c.args.self.now.next_word)))
    (sym c.in-Some.ensures.spot)
    (subst (λ (n : ℕ). IfSome (spot_in c.in_ok-row.row) (IsNumberSpot (g.P.Pages.pages c.counted_row.new.pages) (g.P.Pages.count c.counted_row.new.pages) c.args.self.now.numbers (g.P.Pages.looked c.counted_row.new.pages) n)) c.unwrap_or.ensures c.in_ok-row.ensures.spot)

pub returns-in-None-clause-no_false_damage : goal.returns-in-None-clause-no_false_damage
returns-in-None-clause-no_false_damage g c entries holds was told counted damage =
    let is = c.in_ok-row.ensures.found entries holds ∙ ap (λ (n : ℕ). word_of_number n entries.numbers) c.unwrap_or.ensures in
    λ e. (cc, cannot_hold-read c.args.places c.args.word.now c.args.self.now.next_word entries _ _ was is c.in-None.ensures.none)

pub returns-in_err-row-clause-no_false_damage : goal.returns-in_err-row-clause-no_false_damage
returns-in_err-row-clause-no_false_damage g c entries holds was told counted damage =
    let p = err_from_is_err_and c.from_residual.result c.from_residual.ensures.1 in
    λ e. (let same : c.in_err-row.field-0.0 ≡ Damaged damage = cc (p.1, p.2, e) in
    absurd (c.in_err-row.ensures.no_false_damage entries holds told counted damage (ap Err same)))

pub returns-in_err-row-clause-damaged : goal.returns-in_err-row-clause-damaged
returns-in_err-row-clause-damaged g c told sought damage =
    let p = err_from_is_err_and c.from_residual.result c.from_residual.ensures.1 in
    λ e. (let same : c.in_err-row.field-0.0 ≡ Damaged damage = cc (p.1, p.2, e) in
    ⊎_elim
    (λ map. inr (inl map))
    (λ row. inr (inr (inl (row.0, c.args.found, sought, row.1, rw (sym c.unwrap_or.ensures) row.2))))
    (c.in_err-row.ensures.damaged told damage (ap Err same)))

pub returns-in_err-row-clause-own : goal.returns-in_err-row-clause-own
returns-in_err-row-clause-own g c told = asks-numbers (g.P.Pages.pages c.args.pages.now) c.args.self.now _ _ (c.counted_row.ensures.own told)

pub returns-in-Some-clause-own : goal.returns-in-Some-clause-own
returns-in-Some-clause-own g c told = asks-numbers (g.P.Pages.pages c.args.pages.now) c.args.self.now _ _ (c.counted_row.ensures.own told)

pub returns-in-None-clause-own : goal.returns-in-None-clause-own
returns-in-None-clause-own g c told = asks-numbers (g.P.Pages.pages c.args.pages.now) c.args.self.now _ _ (c.counted_row.ensures.own told)

pub returns-in_err-row-clause-no_head : goal.returns-in_err-row-clause-no_head
returns-in_err-row-clause-no_head g c told damage =
    let p = err_from_is_err_and c.from_residual.result c.from_residual.ensures.1 in
    λ e. (let same : c.in_err-row.field-0.0 ≡ Damaged damage = cc (p.1, p.2, e) in
    number-spares_head (g.P.Pages.pages c.args.pages.now) (g.P.Pages.count c.args.pages.now) c.args.self.now.numbers _ _ _ damage (c.in_err-row.ensures.damaged told damage (ap Err same)))

pub returns-in-None-clause-no_head : goal.returns-in-None-clause-no_head
returns-in-None-clause-no_head g c told damage = λ e. words-spares_head damage cc
