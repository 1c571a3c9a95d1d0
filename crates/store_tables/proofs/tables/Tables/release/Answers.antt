use Rattle.std.proofs.Common.{◌≡◌, Err, inl, inr, ⊎_elim, ap, subst, sym}
use Rattle.std.proofs.lemmas.Result.{err_from_is_err_and}
use Rattle.page_face.specs.declared.fault.PageFault.TheVariants.{Damaged}
use Rattle.btree_nodes.proofs.Harms.{asked-before}
use Rattle.btree_nodes.specs.Damages.{AreReadable, AsksOnly}
use Rattle.btree_nodes.specs.Supply.{View, view}
use Rattle.store_tables.specs.Broken.{words_disagree}
use Rattle.store_tables.specs.Holding.{word_uses}
use Rattle.store_tables.proofs.Heads.{release-spares_head}
use Rattle.store_tables.proofs.ToldLemmas.{apart-counted}
use Rattle.store_tables.proofs.tables.Tables.release.Goals as goal

pub returns-in_err-row-clause-no_false_damage : goal.returns-in_err-row-clause-no_false_damage
returns-in_err-row-clause-no_false_damage g c entries free holds apart told damage =
    let before : View = view (g.P.Pages.pages c.args.pages.now) (g.P.Pages.count c.args.pages.now) (g.P.Pages.first c.args.pages.now) free in
    let p = err_from_is_err_and c.from_residual.result c.from_residual.ensures.1 in
    λ e. (let same : c.in_err-row.field-0.0 ≡ Damaged damage = cc (p.1, p.2, e) in
    c.in_err-row.ensures.no_false_damage entries holds told (apart-counted before c.args.self.now apart) damage (ap Err same))

pub returns-in_err-row-clause-damaged : goal.returns-in_err-row-clause-damaged
returns-in_err-row-clause-damaged g c told damage =
    let p = err_from_is_err_and c.from_residual.result c.from_residual.ensures.1 in
    λ e. (let same : c.in_err-row.field-0.0 ≡ Damaged damage = cc (p.1, p.2, e) in
    inl (c.in_err-row.ensures.damaged told damage (ap Err same)))

pub returns-then-counted-le1-clause-damaged : goal.returns-then-counted-le1-clause-damaged
returns-then-counted-le1-clause-damaged g c told damage =
    let r = c.releasable.ensures in
    let still : AreReadable (g.P.Pages.pages c.releasable.new.pages) (g.P.Pages.count c.releasable.new.pages) = rw (r.frame.pages, r.frame.count) told in
    λ e. ⊎_elim
    (λ map. inl (inl (rw (sym r.frame.pages, sym r.frame.count) map.0, asked-before (word_uses (g.P.Pages.pages c.args.pages.now) c.args.self.now) _ _ _ damage.page (r.own told) map.1)))
    (λ none. inr (λ entries free holds apart. none entries free (rw r.frame.pages holds) (rw (r.frame.pages, r.frame.count, r.frame.first) apart)))
    (c.remove_word.ensures.damaged still damage e)

pub returns-in_err-replace_number-clause-damaged : goal.returns-in_err-replace_number-clause-damaged
returns-in_err-replace_number-clause-damaged g c told damage =
    let p = err_from_is_err_and c.from_residual-in_err-replace_number.result c.from_residual-in_err-replace_number.ensures.1 in
    λ e. (let same : c.in_err-replace_number.field-0.0 ≡ Damaged damage = cc (p.1, p.2, e) in
    absurd (c.in_err-replace_number.ensures.no_false_damage damage (ap Err same)))

pub returns-in_err-replace_number-clause-own : goal.returns-in_err-replace_number-clause-own
returns-in_err-replace_number-clause-own g c entries free holds apart told =
    subst (AsksOnly (word_uses (g.P.Pages.pages c.args.pages.now) c.args.self.now) (g.P.Pages.asked c.args.pages.now)) (sym c.replace_number.ensures.asked) (c.releasable.ensures.own told)

pub returns-clause-own : goal.returns-clause-own
returns-clause-own g c entries free holds apart told =
    subst (AsksOnly (word_uses (g.P.Pages.pages c.args.pages.now) c.args.self.now) (g.P.Pages.asked c.args.pages.now)) (sym c.replace_number.ensures.asked) (c.releasable.ensures.own told)

pub returns-in_err-row-clause-no_head : goal.returns-in_err-row-clause-no_head
returns-in_err-row-clause-no_head g c told damage =
    let p = err_from_is_err_and c.from_residual.result c.from_residual.ensures.1 in
    λ e. (let same : c.in_err-row.field-0.0 ≡ Damaged damage = cc (p.1, p.2, e) in
    release-spares_head (g.P.Pages.pages c.args.pages.now) (g.P.Pages.count c.args.pages.now) c.args.self.now c.args.number _ _ damage (c.in_err-row.ensures.damaged (told c.args.pages.now) damage (ap Err same)))

pub returns-in_err-replace_number-clause-no_head : goal.returns-in_err-replace_number-clause-no_head
returns-in_err-replace_number-clause-no_head g c told damage =
    let p = err_from_is_err_and c.from_residual-in_err-replace_number.result c.from_residual-in_err-replace_number.ensures.1 in
    λ e. (let same : c.in_err-replace_number.field-0.0 ≡ Damaged damage = cc (p.1, p.2, e) in
    absurd (c.in_err-replace_number.ensures.no_false_damage damage (ap Err same)))

pub returns-then-counted-le1-clause-unwritten : goal.returns-then-counted-le1-clause-unwritten
returns-then-counted-le1-clause-unwritten g c told = λ e. absurd (c.remove_word.ensures.no_words told e)

pub returns-in_err-replace_number-clause-unwritten : goal.returns-in_err-replace_number-clause-unwritten
returns-in_err-replace_number-clause-unwritten g c told =
    let p = err_from_is_err_and c.from_residual-in_err-replace_number.result c.from_residual-in_err-replace_number.ensures.1 in
    λ e. (let same : c.in_err-replace_number.field-0.0 ≡ Damaged words_disagree = cc (p.1, p.2, e) in
    absurd (c.in_err-replace_number.ensures.no_false_damage words_disagree (ap Err same)))
