use Rattle.std.proofs.Common.{◌≡◌, ◌∷◌, Err, false, ap, sym, subst, ◌∙◌, rules}
use Rattle.std.proofs.lemmas.Result.{err_from_is_err_and, on_ok_weaker}
use Rattle.page_face.specs.declared.fault.PageFault.TheVariants.{Damaged}
use Rattle.btree_nodes.specs.Supply.{View, view}
use Rattle.row_codec.specs.Pairs.{Pair}
use Rattle.store_tables.specs.Entries.{Entries}
use Rattle.store_tables.specs.Holding.{IsChanged}
use Rattle.store_tables.specs.Words.{without_hold}
use Rattle.store_tables.proofs.FrameLemmas.{changed-further}
use Rattle.store_tables.proofs.ToldLemmas.{told-changed}
use Rattle.store_model.specs.Updates.{has_pair}
use Rattle.table_updates.proofs.Turns.{can-release-rest, released-first}
use Rattle.table_updates.proofs.releasing.+release_words.Goals as goal

pub returns-clause-released : goal.returns-clause-released
returns-clause-released g t c entries free holds apart =
    let before : View = view (g.P.Pages.pages c.args.pages.now) (g.P.Pages.count c.args.pages.now) (g.P.Pages.first c.args.pages.now) free in
    let pair : Pair = c.in-Some.field-0-0.now in
    let is : c.args.old.now ≡ pair ∷ c.in-Some.rest.now = search rules in
    let fresh : has_pair pair.0 c.args.new.now ≡ false = sym c.has_pair.ensures ∙ c.if-has_pair.false in
    let first = c.in_ok-release.ensures.released entries free holds apart in
    on_ok_weaker c.release_words-2.result
    (λ rest.
    subst (λ (e : Entries). IsChanged before c.args.tables.now (g.P.Pages.pages c.release_words-2.new.pages) (g.P.Pages.count c.release_words-2.new.pages) (g.P.Pages.first c.release_words-2.new.pages) c.release_words-2.new.tables e)
    (sym (released-first c.args.new.now c.args.old.now c.in-Some.rest.now pair entries is fresh)) (changed-further first.1 rest))
    (c.release_words-2.ensures.released (without_hold pair.0 entries) first.1.free first.1.holds first.1.apart)

pub returns-clause-no_false_damage : goal.returns-clause-no_false_damage
returns-clause-no_false_damage g t c entries free holds apart can told damage =
    let before : View = view (g.P.Pages.pages c.args.pages.now) (g.P.Pages.count c.args.pages.now) (g.P.Pages.first c.args.pages.now) free in
    let pair : Pair = c.in-Some.field-0-0.now in
    let is : c.args.old.now ≡ pair ∷ c.in-Some.rest.now = search rules in
    let fresh : has_pair pair.0 c.args.new.now ≡ false = sym c.has_pair.ensures ∙ c.if-has_pair.false in
    let first = c.in_ok-release.ensures.released entries free holds apart in
    let left = can-release-rest c.args.new.now c.args.old.now c.in-Some.rest.now pair entries is fresh can in
    c.release_words-2.ensures.no_false_damage (without_hold pair.0 entries) first.1.free first.1.holds first.1.apart left (told-changed before c.args.tables.now _ _ _ _ _ first.1 told) damage

pub returns-in_err-release-clause-no_head : goal.returns-in_err-release-clause-no_head
returns-in_err-release-clause-no_head g t c told damage =
    let p = err_from_is_err_and c.from_residual.result c.from_residual.ensures.1 in
    λ e. (let same : c.in_err-release.field-0.0 ≡ Damaged damage = cc (p.1, p.2, e) in
    c.in_err-release.ensures.no_head told damage (ap Err same))
