use Rattle.std.proofs.Common.{◌≡◌, Err, inl, inr, ⊎_elim, ap, sym}
use Rattle.std.proofs.lemmas.Result.{err_from_is_err_and}
use Rattle.page_face.specs.declared.fault.PageFault.TheVariants.{Damaged}
use Rattle.btree_nodes.proofs.Harms.{asked-before, asks-further}
use Rattle.btree_nodes.specs.Damages.{AreReadable}
use Rattle.store_tables.specs.Holding.{word_uses}
use Rattle.store_tables.proofs.ToldLemmas.{asks-numbers, asks-texts}
use Rattle.store_tables.proofs.tables.Tables.releasable.Goals as goal

pub returns-in_err-row-clause-damaged : goal.returns-in_err-row-clause-damaged
returns-in_err-row-clause-damaged g c told damage =
    let p = err_from_is_err_and c.from_residual.result c.from_residual.ensures.1 in
    λ e. (let same : c.in_err-row.field-0.0 ≡ Damaged damage = cc (p.1, p.2, e) in
    ⊎_elim
    (λ map. inl map)
    (λ row. inr (inl row))
    (c.in_err-row.ensures.damaged told damage (ap Err same)))

pub returns-in_err-row-clause-own : goal.returns-in_err-row-clause-own
returns-in_err-row-clause-own g c told = asks-numbers (g.P.Pages.pages c.args.pages.now) c.args.self.now _ _ (c.counted_row.ensures.own told)

pub returns-in_default-clause-own : goal.returns-in_default-clause-own
returns-in_default-clause-own g c told = asks-numbers (g.P.Pages.pages c.args.pages.now) c.args.self.now _ _ (c.counted_row.ensures.own told)

pub returns-then-row-gt1-clause-own : goal.returns-then-row-gt1-clause-own
returns-then-row-gt1-clause-own g c told = asks-numbers (g.P.Pages.pages c.args.pages.now) c.args.self.now _ _ (c.counted_row.ensures.own told)

pub returns-in_err-found-clause-no_false_damage : goal.returns-in_err-found-clause-no_false_damage
returns-in_err-found-clause-no_false_damage g c entries holds told counted damage =
    let r = c.counted_row.ensures in
    let p = err_from_is_err_and c.from_residual-in_err-found.result c.from_residual-in_err-found.ensures.1 in
    λ e. (let same : c.in_err-found.field-0.0 ≡ Damaged damage = cc (p.1, p.2, e) in
    absurd (c.in_err-found.ensures.no_false_damage entries (rw r.frame.pages holds) (rw r.frame.pages (rw r.frame.count told)) (rw r.frame.pages (rw r.frame.count counted)) damage (ap Err same)))

pub returns-in_err-found-clause-damaged : goal.returns-in_err-found-clause-damaged
returns-in_err-found-clause-damaged g c told damage =
    let r = c.counted_row.ensures in
    let still : AreReadable (g.P.Pages.pages c.counted_row.new.pages) (g.P.Pages.count c.counted_row.new.pages) = rw r.frame.pages (rw r.frame.count told) in
    let p = err_from_is_err_and c.from_residual-in_err-found.result c.from_residual-in_err-found.ensures.1 in
    λ e. (let same : c.in_err-found.field-0.0 ≡ Damaged damage = cc (p.1, p.2, e) in
    inr (inr (inl (
      rw (sym r.frame.pages) (rw (sym r.frame.count) (c.in_err-found.ensures.damaged still damage (ap Err same))),
      asked-before (word_uses (g.P.Pages.pages c.args.pages.now) c.args.self.now) _ _ _ damage.page (asks-numbers (g.P.Pages.pages c.args.pages.now) c.args.self.now _ _ (r.own told)) (c.in_err-found.ensures.named still damage (ap Err same)),
    ))))

pub returns-in_err-found-clause-own : goal.returns-in_err-found-clause-own
returns-in_err-found-clause-own g c told =
    let r = c.counted_row.ensures in
    asks-further (word_uses (g.P.Pages.pages c.args.pages.now) c.args.self.now) _ _ _ (asks-numbers (g.P.Pages.pages c.args.pages.now) c.args.self.now _ _ (r.own told))
    (asks-texts (g.P.Pages.pages c.args.pages.now) c.args.self.now _ _ (rw (sym r.frame.pages) (c.number_of.ensures.own (rw r.frame.pages (rw r.frame.count told)))))

pub returns-in-Some-2-clause-own : goal.returns-in-Some-2-clause-own
returns-in-Some-2-clause-own g c told =
    let r = c.counted_row.ensures in
    asks-further (word_uses (g.P.Pages.pages c.args.pages.now) c.args.self.now) _ _ _ (asks-numbers (g.P.Pages.pages c.args.pages.now) c.args.self.now _ _ (r.own told))
    (asks-texts (g.P.Pages.pages c.args.pages.now) c.args.self.now _ _ (rw (sym r.frame.pages) (c.number_of.ensures.own (rw r.frame.pages (rw r.frame.count told)))))

pub returns-in_default-2-clause-own : goal.returns-in_default-2-clause-own
returns-in_default-2-clause-own g c told =
    let r = c.counted_row.ensures in
    asks-further (word_uses (g.P.Pages.pages c.args.pages.now) c.args.self.now) _ _ _ (asks-numbers (g.P.Pages.pages c.args.pages.now) c.args.self.now _ _ (r.own told))
    (asks-texts (g.P.Pages.pages c.args.pages.now) c.args.self.now _ _ (rw (sym r.frame.pages) (c.number_of.ensures.own (rw r.frame.pages (rw r.frame.count told)))))
