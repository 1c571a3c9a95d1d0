use Rattle.std.proofs.Common.{◌≡◌, ℕ, Err, Option, false, cond, unwrap_or, ap, sym, subst, ◌∙◌}
use Rattle.std.proofs.lemmas.Result.{IfOk-weaker, err_from_is_err_and}
use Rattle.page_face.specs.declared.fault.PageFault.TheVariants.{Damaged}
use Rattle.btree_nodes.specs.Supply.{View, view}
use Rattle.store_tables.specs.Entries.{number_of_word}
use Rattle.store_tables.specs.Holding.{Holds, IsApart, IsChanged, texts_form}
use Rattle.store_tables.specs.Words.{next_after, number_for, with_hold}
use Rattle.store_tables.proofs.Heads.{map-spares_head}
use Rattle.store_tables.proofs.ToldLemmas.{apart-counted}
use Rattle.store_model.specs.Updates.{has_pair}
use Rattle.table_updates.proofs.numbering.take_hold.Goals as goal

pub returns-in_err-found-clause-no_false_damage : goal.returns-in_err-found-clause-no_false_damage
returns-in_err-found-clause-no_false_damage g c entries free holds apart can told damage =
    let before : View = view (g.P.Pages.pages c.args.pages.now) (g.P.Pages.count c.args.pages.now) (g.P.Pages.first c.args.pages.now) free in
    let p = err_from_is_err_and c.from_residual.result c.from_residual.ensures.1 in
    λ e. (let same : c.in_err-found.field-0.0 ≡ Damaged damage = cc (p.1, p.2, e) in
    c.in_err-found.ensures.no_false_damage entries holds told (apart-counted before c.args.tables.now apart) damage (ap Err same))

pub returns-clause-held : goal.returns-clause-held
returns-clause-held g c entries free holds apart =
    let before : View = view (g.P.Pages.pages c.args.pages.now) (g.P.Pages.count c.args.pages.now) (g.P.Pages.first c.args.pages.now) free in
    let r = c.number_of.ensures in
    let next : ℕ = c.args.tables.now.next_word in
    let held : Holds (g.P.Pages.pages c.number_of.new.pages) c.args.tables.now entries = rw r.frame.pages holds in
    let kept : IsApart (view (g.P.Pages.pages c.number_of.new.pages) (g.P.Pages.count c.number_of.new.pages) (g.P.Pages.first c.number_of.new.pages) free) c.args.tables.now = rw (r.frame.pages, r.frame.count, r.frame.first) apart in
    let number_is : c.unwrap_or-number.result ≡ number_for c.args.word.now next entries.texts = c.unwrap_or-number.ensures ∙ ap (λ (f : Option ℕ). unwrap_or f next) (c.in_ok-found.ensures.found entries holds) in
    let fresh : has_pair c.unwrap_or-number.result c.args.old.now ≡ false = sym c.has_pair.ensures ∙ c.if-has_pair.false in
    IfOk-weaker c.hold_numbered.result _ _
    (λ number h.
    let other : has_pair number c.args.old.now ≡ false = ap (λ (n : ℕ). has_pair n c.args.old.now) (h.1 ∙ sym number_is) ∙ fresh in (
      h.1,
      h.2 ∙ ap (λ b. cond b next (next_after (number_of_word c.args.word.now entries.texts) next)) (sym other),
      subst (λ b. IsChanged before c.args.tables.now (g.P.Pages.pages c.hold_numbered.new.pages) (g.P.Pages.count c.hold_numbered.new.pages) (g.P.Pages.first c.hold_numbered.new.pages) c.hold_numbered.new.self (cond b entries (with_hold c.args.word.now next entries))) (sym other)
          (rw (sym r.frame.pages, sym r.frame.count, sym r.frame.first) h.3),
    ))
    (c.hold_numbered.ensures.held entries free held kept (c.in_ok-found.ensures.found entries holds))

pub returns-in_err-found-clause-no_head : goal.returns-in_err-found-clause-no_head
returns-in_err-found-clause-no_head g c told damage =
    let p = err_from_is_err_and c.from_residual.result c.from_residual.ensures.1 in
    λ e. (let same : c.in_err-found.field-0.0 ≡ Damaged damage = cc (p.1, p.2, e) in
    map-spares_head texts_form (g.P.Pages.pages c.args.pages.now) (g.P.Pages.count c.args.pages.now) c.args.tables.now.texts damage (c.in_err-found.ensures.damaged (told c.args.pages.now) damage (ap Err same)))
