use Rattle.std.proofs.Common.{◌≡◌, refl, Err, inl, inr, ap, subst}
use Rattle.std.proofs.lemmas.Result.{err_from_is_err_and}
use Rattle.page_face.specs.declared.fault.PageFault.TheVariants.{Damaged}
use Rattle.btree_nodes.specs.Supply.{View, view}
use Rattle.btree_nodes.specs.Damages.{AsksOnly}
use Rattle.btree_nodes.specs.Tree.{map_uses}
use Rattle.store_tables.specs.declared.tables.Tables.{Tables}
use Rattle.store_tables.specs.Broken.{words_disagree}
use Rattle.store_tables.specs.Holding.{numbers_form, texts_form}
use Rattle.store_tables.proofs.FrameLemmas.{changed-further}
use Rattle.store_tables.proofs.Heads.{map-spares_head, map-spares_words}
use Rattle.store_tables.proofs.ToldLemmas.{asks-both, asks-numbers, told-changed}
use Rattle.store_tables.proofs.tables.Tables.remove_word.Goals as goal

pub returns-clause-removed : goal.returns-clause-removed
returns-clause-removed g c entries free holds apart =
    let first = (c.in_ok-remove_number.ensures.removed entries free holds apart).1 in
    let second = (c.in_ok-remove_text.ensures.removed _ first.free first.holds first.apart).1 in
    changed-further first second

pub returns-clause-own : goal.returns-clause-own
returns-clause-own g c entries free holds apart told =
    let before : View = view (g.P.Pages.pages c.args.pages.now) (g.P.Pages.count c.args.pages.now) (g.P.Pages.first c.args.pages.now) free in
    let first = c.in_ok-remove_number.ensures.removed entries free holds apart in
    asks-both (g.P.Pages.pages c.args.pages.now) (g.P.Pages.pages c.remove_number.new.pages) c.args.self.now _ _ _ (c.in_ok-remove_number.ensures.texts entries free holds apart)
    (c.remove_number.ensures.own told) (subst (λ (t : Tables). AsksOnly (map_uses texts_form (g.P.Pages.pages c.remove_number.new.pages) t.texts) (g.P.Pages.asked c.remove_number.new.pages) (g.P.Pages.asked c.remove_text.new.pages)) c.remove_number.ensures.others
    (c.remove_text.ensures.own (told-changed before c.args.self.now _ _ _ _ _ first.1 told)))

pub returns-in_err-remove_number-clause-no_false_damage : goal.returns-in_err-remove_number-clause-no_false_damage
returns-in_err-remove_number-clause-no_false_damage g c entries free holds apart damage =
    let p = err_from_is_err_and c.from_residual.result c.from_residual.ensures.1 in
    λ e. (let same : c.in_err-remove_number.field-0.0 ≡ Damaged damage = cc (p.1, p.2, e) in
    c.in_err-remove_number.ensures.no_false_damage entries free holds apart damage (ap Err same))

pub returns-in_err-remove_number-clause-damaged : goal.returns-in_err-remove_number-clause-damaged
returns-in_err-remove_number-clause-damaged g c told damage =
    let p = err_from_is_err_and c.from_residual.result c.from_residual.ensures.1 in
    λ e. (let same : c.in_err-remove_number.field-0.0 ≡ Damaged damage = cc (p.1, p.2, e) in
    inl (c.in_err-remove_number.ensures.damaged told damage (ap Err same)))

pub returns-in_err-remove_number-clause-own : goal.returns-in_err-remove_number-clause-own
returns-in_err-remove_number-clause-own g c entries free holds apart told = asks-numbers (g.P.Pages.pages c.args.pages.now) c.args.self.now _ _ (c.remove_number.ensures.own told)

pub returns-in_err-remove_text-clause-no_false_damage : goal.returns-in_err-remove_text-clause-no_false_damage
returns-in_err-remove_text-clause-no_false_damage g c entries free holds apart damage =
    let first = c.in_ok-remove_number.ensures.removed entries free holds apart in
    let p = err_from_is_err_and c.from_residual-in_err-remove_text.result c.from_residual-in_err-remove_text.ensures.1 in
    λ e. (let same : c.in_err-remove_text.field-0.0 ≡ Damaged damage = cc (p.1, p.2, e) in
    c.in_err-remove_text.ensures.no_false_damage _ first.1.free first.1.holds first.1.apart damage (ap Err same))

pub returns-in_err-remove_text-clause-damaged : goal.returns-in_err-remove_text-clause-damaged
returns-in_err-remove_text-clause-damaged g c told damage =
    let p = err_from_is_err_and c.from_residual-in_err-remove_text.result c.from_residual-in_err-remove_text.ensures.1 in
    λ e. (let same : c.in_err-remove_text.field-0.0 ≡ Damaged damage = cc (p.1, p.2, e) in
    inr (λ entries free holds apart.
    let first = c.in_ok-remove_number.ensures.removed entries free holds apart in
    c.in_err-remove_text.ensures.no_false_damage _ first.1.free first.1.holds first.1.apart damage (ap Err same)))

pub returns-in_err-remove_text-clause-own : goal.returns-in_err-remove_text-clause-own
returns-in_err-remove_text-clause-own g c entries free holds apart told =
    let before : View = view (g.P.Pages.pages c.args.pages.now) (g.P.Pages.count c.args.pages.now) (g.P.Pages.first c.args.pages.now) free in
    let first = c.in_ok-remove_number.ensures.removed entries free holds apart in
    asks-both (g.P.Pages.pages c.args.pages.now) (g.P.Pages.pages c.remove_number.new.pages) c.args.self.now _ _ _ (c.in_ok-remove_number.ensures.texts entries free holds apart)
    (c.remove_number.ensures.own told) (subst (λ (t : Tables). AsksOnly (map_uses texts_form (g.P.Pages.pages c.remove_number.new.pages) t.texts) (g.P.Pages.asked c.remove_number.new.pages) (g.P.Pages.asked c.remove_text.new.pages)) c.remove_number.ensures.others
    (c.remove_text.ensures.own (told-changed before c.args.self.now _ _ _ _ _ first.1 told)))

pub returns-in_err-remove_number-clause-no_head : goal.returns-in_err-remove_number-clause-no_head
returns-in_err-remove_number-clause-no_head g c told damage =
    let p = err_from_is_err_and c.from_residual.result c.from_residual.ensures.1 in
    λ e. (let same : c.in_err-remove_number.field-0.0 ≡ Damaged damage = cc (p.1, p.2, e) in
    map-spares_head numbers_form (g.P.Pages.pages c.args.pages.now) (g.P.Pages.count c.args.pages.now) c.args.self.now.numbers damage (c.in_err-remove_number.ensures.damaged (told c.args.pages.now) damage (ap Err same)).0)

pub returns-in_err-remove_text-clause-no_head : goal.returns-in_err-remove_text-clause-no_head
returns-in_err-remove_text-clause-no_head g c told damage =
    let p = err_from_is_err_and c.from_residual-in_err-remove_text.result c.from_residual-in_err-remove_text.ensures.1 in
    λ e. (let same : c.in_err-remove_text.field-0.0 ≡ Damaged damage = cc (p.1, p.2, e) in
    map-spares_head texts_form (g.P.Pages.pages c.remove_number.new.pages) (g.P.Pages.count c.remove_number.new.pages) c.remove_number.new.self.texts damage (c.in_err-remove_text.ensures.damaged (told c.remove_number.new.pages) damage (ap Err same)).0)

pub returns-in_err-remove_number-clause-no_words : goal.returns-in_err-remove_number-clause-no_words
returns-in_err-remove_number-clause-no_words g c told =
    let p = err_from_is_err_and c.from_residual.result c.from_residual.ensures.1 in
    λ e. (let same : c.in_err-remove_number.field-0.0 ≡ Damaged words_disagree = cc (p.1, p.2, e) in
    map-spares_words numbers_form (g.P.Pages.pages c.args.pages.now) (g.P.Pages.count c.args.pages.now) c.args.self.now.numbers words_disagree (c.in_err-remove_number.ensures.damaged (told c.args.pages.now) words_disagree (ap Err same)).0 refl)

pub returns-in_err-remove_text-clause-no_words : goal.returns-in_err-remove_text-clause-no_words
returns-in_err-remove_text-clause-no_words g c told =
    let p = err_from_is_err_and c.from_residual-in_err-remove_text.result c.from_residual-in_err-remove_text.ensures.1 in
    λ e. (let same : c.in_err-remove_text.field-0.0 ≡ Damaged words_disagree = cc (p.1, p.2, e) in
    map-spares_words texts_form (g.P.Pages.pages c.remove_number.new.pages) (g.P.Pages.count c.remove_number.new.pages) c.remove_number.new.self.texts words_disagree (c.in_err-remove_text.ensures.damaged (told c.remove_number.new.pages) words_disagree (ap Err same)).0 refl)
