use Rattle.std.proofs.Common.{◌≡◌, [], List, Err, ap, sym, subst, ◌∙◌}
use Rattle.std.proofs.lemmas.Result.{err_from_is_err_and}
use Rattle.page_face.specs.declared.fault.PageFault.TheVariants.{Damaged}
use Rattle.btree_nodes.specs.Supply.{View, view}
use Rattle.row_codec.specs.Pairs.{Pair}
use Rattle.store_tables.specs.Entries.{Entries, place_of_key, without_place}
use Rattle.store_tables.specs.Holding.{IsChanged, places_form}
use Rattle.store_tables.proofs.FrameLemmas.{changed-further}
use Rattle.store_tables.proofs.Heads.{map-spares_head}
use Rattle.store_tables.proofs.ToldLemmas.{told-changed}
use Rattle.store_model.specs.Updates.{CanReleaseAll, pairs_of, released_all}
use Rattle.store_model.proofs.Chances.{can-release-without}
use Rattle.store_model.proofs.Maps.{ascending-holds}
use Rattle.table_updates.proofs.removing.remove_place.Goals as goal

pub returns-in_err-release_words-clause-no_false_damage : goal.returns-in_err-release_words-clause-no_false_damage
returns-in_err-release_words-clause-no_false_damage g c entries free holds apart was claims counting agree told damage =
    let before : View = view (g.P.Pages.pages c.args.pages.now) (g.P.Pages.count c.args.pages.now) (g.P.Pages.first c.args.pages.now) free in
    let key = c.args.key.now in
    let left : Entries = record entries { places = without_place key entries.places } in
    let pairs : c.held_pairs.result.now ≡ pairs_of (place_of_key key entries.places) = c.held_pairs.ensures.pairs ∙ ap pairs_of (sym was) in
    let first = c.in_ok-remove_place.ensures.removed entries free holds apart in
    let ascend = ascending-holds (g.P.Pages.pages c.args.pages.now) c.args.tables.now entries holds in
    let can : CanReleaseAll [] c.held_pairs.result.now left = subst (λ (ps : List Pair). CanReleaseAll [] ps left) (sym pairs) (can-release-without claims counting key entries c.args.tables.now.next_word agree ascend holds.places.each) in
    let p = err_from_is_err_and c.from_residual-in_err-release_words.result c.from_residual-in_err-release_words.ensures.1 in
    λ e. (let same : c.in_err-release_words.field-0.0 ≡ Damaged damage = cc (p.1, p.2, e) in
    c.in_err-release_words.ensures.no_false_damage left first.1.free first.1.holds first.1.apart can (told-changed before c.args.tables.now _ _ _ _ _ first.1 told) damage (ap Err same))

pub returns-clause-removed : goal.returns-clause-removed
returns-clause-removed g c entries free holds apart was =
    let before : View = view (g.P.Pages.pages c.args.pages.now) (g.P.Pages.count c.args.pages.now) (g.P.Pages.first c.args.pages.now) free in
    let key = c.args.key.now in
    let left : Entries = record entries { places = without_place key entries.places } in
    let pairs : c.held_pairs.result.now ≡ pairs_of (place_of_key key entries.places) = c.held_pairs.ensures.pairs ∙ ap pairs_of (sym was) in
    let first = c.in_ok-remove_place.ensures.removed entries free holds apart in
    let rest = c.in_ok-release_words.ensures.released left first.1.free first.1.holds first.1.apart in
    subst (λ (ps : List Pair). IsChanged before c.args.tables.now (g.P.Pages.pages c.release_words.new.pages) (g.P.Pages.count c.release_words.new.pages) (g.P.Pages.first c.release_words.new.pages) c.release_words.new.tables (released_all [] ps left)) pairs
    (changed-further first.1 rest)

pub returns-in_err-remove_place-clause-no_head : goal.returns-in_err-remove_place-clause-no_head
returns-in_err-remove_place-clause-no_head g c told damage =
    let p = err_from_is_err_and c.from_residual.result c.from_residual.ensures.1 in
    λ e. (let same : c.in_err-remove_place.field-0.0 ≡ Damaged damage = cc (p.1, p.2, e) in
    map-spares_head places_form (g.P.Pages.pages c.args.pages.now) (g.P.Pages.count c.args.pages.now) c.args.tables.now.places damage (c.in_err-remove_place.ensures.damaged (told c.args.pages.now) damage (ap Err same)).0)

pub returns-in_err-release_words-clause-no_head : goal.returns-in_err-release_words-clause-no_head
returns-in_err-release_words-clause-no_head g c told damage =
    let p = err_from_is_err_and c.from_residual-in_err-release_words.result c.from_residual-in_err-release_words.ensures.1 in
    λ e. (let same : c.in_err-release_words.field-0.0 ≡ Damaged damage = cc (p.1, p.2, e) in
    c.in_err-release_words.ensures.no_head told damage (ap Err same))
