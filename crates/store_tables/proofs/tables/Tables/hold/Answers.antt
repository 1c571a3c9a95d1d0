use Rattle.std.proofs.Common.{◌≡◌, Err, inl, inr, ⊎_elim, ap, sym, ◌∙◌}
use Rattle.std.proofs.lemmas.Result.{err_from_is_err_and}
use Rattle.page_face.specs.declared.fault.PageFault.TheVariants.{Damaged}
use Rattle.btree_nodes.proofs.Harms.{asked-before, asks-further}
use Rattle.btree_nodes.specs.Damages.{AreReadable, AsksOnly}
use Rattle.btree_nodes.specs.Supply.{View, view}
use Rattle.store_tables.specs.Broken.{IsTextSought}
use Rattle.store_tables.specs.Holding.{Holds, IsApart, texts_form, word_uses}
use Rattle.store_tables.proofs.Heads.{map-spares_head}
use Rattle.store_tables.proofs.LookupLemmas.{number-broken-later}
use Rattle.store_tables.proofs.TakeLemmas.{takes-read}
use Rattle.store_tables.proofs.ToldLemmas.{apart-counted, asks-texts}
use Rattle.store_tables.proofs.tables.Tables.hold.Goals as goal

pub returns-in_err-found-clause-no_false_damage : goal.returns-in_err-found-clause-no_false_damage
returns-in_err-found-clause-no_false_damage g c entries free holds apart told damage =
    let before : View = view (g.P.Pages.pages c.args.pages.now) (g.P.Pages.count c.args.pages.now) (g.P.Pages.first c.args.pages.now) free in
    let p = err_from_is_err_and c.from_residual.result c.from_residual.ensures.1 in
    λ e. (let same : c.in_err-found.field-0.0 ≡ Damaged damage = cc (p.1, p.2, e) in
    absurd (c.in_err-found.ensures.no_false_damage entries holds told (apart-counted before c.args.self.now apart) damage (ap Err same)))

pub returns-in_err-found-clause-damaged : goal.returns-in_err-found-clause-damaged
returns-in_err-found-clause-damaged g c told damage =
    let p = err_from_is_err_and c.from_residual.result c.from_residual.ensures.1 in
    λ e. (let same : c.in_err-found.field-0.0 ≡ Damaged damage = cc (p.1, p.2, e) in
    inl (inl (c.in_err-found.ensures.damaged told damage (ap Err same), c.in_err-found.ensures.named told damage (ap Err same))))

pub returns-in_err-found-clause-own : goal.returns-in_err-found-clause-own
returns-in_err-found-clause-own g c entries free holds apart told = asks-texts (g.P.Pages.pages c.args.pages.now) c.args.self.now _ _ (c.number_of.ensures.own told)

pub returns-clause-held : goal.returns-clause-held
returns-clause-held g c entries free holds apart =
    let f = c.number_of.ensures.frame in
    let held : Holds (g.P.Pages.pages c.number_of.new.pages) c.args.self.now entries = rw f.pages holds in
    let kept : IsApart (view (g.P.Pages.pages c.number_of.new.pages) (g.P.Pages.count c.number_of.new.pages) (g.P.Pages.first c.number_of.new.pages) free) c.args.self.now = rw (f.pages, f.count, f.first) apart in
    rw (sym f.pages, sym f.count, sym f.first) (c.hold_numbered.ensures.held entries free held kept (c.in_ok-found.ensures.found entries holds))

pub returns-clause-no_false_damage : goal.returns-clause-no_false_damage
returns-clause-no_false_damage g c entries free holds apart told damage =
    let f = c.number_of.ensures.frame in
    let held : Holds (g.P.Pages.pages c.number_of.new.pages) c.args.self.now entries = rw f.pages holds in
    let kept : IsApart (view (g.P.Pages.pages c.number_of.new.pages) (g.P.Pages.count c.number_of.new.pages) (g.P.Pages.first c.number_of.new.pages) free) c.args.self.now = rw (f.pages, f.count, f.first) apart in
    let still : AreReadable (g.P.Pages.pages c.number_of.new.pages) (g.P.Pages.count c.number_of.new.pages) = rw (f.pages, f.count) told in
    c.hold_numbered.ensures.no_false_damage entries free held kept (c.in_ok-found.ensures.found entries holds) still damage

pub returns-clause-damaged : goal.returns-clause-damaged
returns-clause-damaged g c told damage =
    let f = c.number_of.ensures.frame in
    let own : AsksOnly (word_uses (g.P.Pages.pages c.args.pages.now) c.args.self.now) (g.P.Pages.asked c.args.pages.now) (g.P.Pages.asked c.number_of.new.pages) = asks-texts (g.P.Pages.pages c.args.pages.now) c.args.self.now _ _ (c.number_of.ensures.own told) in
    let still : AreReadable (g.P.Pages.pages c.number_of.new.pages) (g.P.Pages.count c.number_of.new.pages) = rw (f.pages, f.count) told in
    let sought : IsTextSought (g.P.Pages.pages c.number_of.new.pages) c.args.self.now c.args.word.now c.in_ok-found.found = rw f.pages c.in_ok-found.ensures.formed in
    λ e. rw (sym f.pages, sym f.count, sym f.first)
    (⊎_elim
    (λ count. inl (⊎_elim
    (λ map. inl (map.0, asked-before (word_uses (g.P.Pages.pages c.args.pages.now) c.args.self.now) _ _ _ damage.page own map.1))
    (λ rest. inr (⊎_elim (λ map. inl (map.0, asked-before (word_uses (g.P.Pages.pages c.args.pages.now) c.args.self.now) _ _ _ damage.page own map.1))
    (λ more. inr (⊎_elim (λ row. inl (row.0, row.1, row.2, row.3, number-broken-later (word_uses (g.P.Pages.pages c.args.pages.now) c.args.self.now) _ _ _ _ _ _ damage.page own row.4)) (λ none. inr none) more)) rest))
    count))
    (λ other. inr other)
    (c.hold_numbered.ensures.damaged still sought damage e))

pub returns-clause-own : goal.returns-clause-own
returns-clause-own g c entries free holds apart told =
    let f = c.number_of.ensures.frame in
    let held : Holds (g.P.Pages.pages c.number_of.new.pages) c.args.self.now entries = rw f.pages holds in
    let kept : IsApart (view (g.P.Pages.pages c.number_of.new.pages) (g.P.Pages.count c.number_of.new.pages) (g.P.Pages.first c.number_of.new.pages) free) c.args.self.now = rw (f.pages, f.count, f.first) apart in
    let still : AreReadable (g.P.Pages.pages c.number_of.new.pages) (g.P.Pages.count c.number_of.new.pages) = rw (f.pages, f.count) told in
    asks-further (word_uses (g.P.Pages.pages c.args.pages.now) c.args.self.now) _ _ _ (asks-texts (g.P.Pages.pages c.args.pages.now) c.args.self.now _ _ (c.number_of.ensures.own told)) (rw (sym f.pages) (c.hold_numbered.ensures.own entries free held kept still))

pub returns-in_err-found-clause-no_head : goal.returns-in_err-found-clause-no_head
returns-in_err-found-clause-no_head g c told damage =
    let p = err_from_is_err_and c.from_residual.result c.from_residual.ensures.1 in
    λ e. (let same : c.in_err-found.field-0.0 ≡ Damaged damage = cc (p.1, p.2, e) in
    map-spares_head texts_form (g.P.Pages.pages c.args.pages.now) (g.P.Pages.count c.args.pages.now) c.args.self.now.texts damage (c.in_err-found.ensures.damaged (told c.args.pages.now) damage (ap Err same)))

pub returns-clause-takes : goal.returns-clause-takes
returns-clause-takes g c entries free holds apart told =
    let f = c.number_of.ensures.frame in
    let held : Holds (g.P.Pages.pages c.number_of.new.pages) c.args.self.now entries = rw f.pages holds in
    let kept : IsApart (view (g.P.Pages.pages c.number_of.new.pages) (g.P.Pages.count c.number_of.new.pages) (g.P.Pages.first c.number_of.new.pages) free) c.args.self.now = rw (f.pages, f.count, f.first) apart in
    let still : AreReadable (g.P.Pages.pages c.number_of.new.pages) (g.P.Pages.count c.number_of.new.pages) = rw (f.pages, f.count) told in
    takes-read g.P.Pages _ c.args.pages.now c.number_of.new.pages c.hold_numbered.new.pages f (rw (sym f.pages) (c.hold_numbered.ensures.takes entries free held kept still))

pub returns-clause-unwritten : goal.returns-clause-unwritten
returns-clause-unwritten g c told = λ e. c.hold_numbered.ensures.unwritten told e ∙ c.number_of.ensures.frame.pages
