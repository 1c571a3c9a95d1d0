use Rattle.std.proofs.Common.{◌≡◌, ℕ, List, Err, ap, sym, subst, ◌∙◌}
use Rattle.std.proofs.lemmas.Result.{err_from_is_err_and}
use Rattle.std.specs.List.{AllByRecursion}
use Rattle.std.specs.Map.{keys_of}
use Rattle.page_face.specs.declared.fault.PageFault.TheVariants.{Damaged}
use Rattle.btree_nodes.specs.Supply.{View, view}
use Rattle.store_tables.specs.Entries.{Entries, place_of_key}
use Rattle.store_tables.specs.Holding.{IsChanged, places_form}
use Rattle.store_tables.proofs.FrameLemmas.{changed-further}
use Rattle.store_tables.proofs.Heads.{put-spares_head, words-spares_head}
use Rattle.store_tables.proofs.ToldLemmas.{told-changed}
use Rattle.store_model.specs.Updates.{pairs_of}
use Rattle.store_model.proofs.Held.{can-release-held}
use Rattle.store_model.proofs.Maps.{ascending-holds}
use Rattle.table_updates.specs.Numbers.{IsKnownIn, IsPairFault}
use Rattle.table_updates.proofs.Heldputs.{can-release-after, held-after, held-stored, known-in}
use Rattle.table_updates.proofs.held.put_held.Goals as goal

pub returns-in_err-pair_words-clause-no_false_damage : goal.returns-in_err-pair_words-clause-no_false_damage
returns-in_err-pair_words-clause-no_false_damage g c entries free holds apart was rest agree named told damage =
    let known : AllByRecursion (IsKnownIn c.args.numbers.now.entries) (keys_of c.pairs.result.now) =
    subst (λ (ws : List (List ℕ × ℕ)). AllByRecursion (IsKnownIn c.args.numbers.now.entries) (keys_of ws)) (sym c.pairs.ensures.pairs) (known-in c.args.numbers.now.entries entries.numbers c.args.words.now named) in
    let p = err_from_is_err_and c.from_residual.result c.from_residual.ensures.1 in
    λ e. (let same : c.in_err-pair_words.field-0.0 ≡ Damaged damage = cc (p.1, p.2, e) in
    c.in_err-pair_words.ensures.no_false_damage known damage (ap Err same))

pub returns-in_err-release_words-clause-no_false_damage : goal.returns-in_err-release_words-clause-no_false_damage
returns-in_err-release_words-clause-no_false_damage g c entries free holds apart was rest agree named told damage =
    let before : View = view (g.P.Pages.pages c.args.pages.now) (g.P.Pages.count c.args.pages.now) (g.P.Pages.first c.args.pages.now) free in
    let key = c.args.key.now in
    let numbers : List (List ℕ × ℕ) = c.args.numbers.now.entries in
    let words : List (List ℕ × ℕ) = c.args.words.now in
    let pairs : c.held_pairs.result.now ≡ pairs_of (place_of_key key entries.places) = c.held_pairs.ensures.pairs ∙ ap pairs_of was in
    let put = c.in_ok-put_place.ensures.put entries free holds apart in
    let ascend = ascending-holds (g.P.Pages.pages c.args.pages.now) c.args.tables.now entries holds in
    let all = can-release-held numbers rest key c.args.point words c.args.label entries c.args.tables.now.next_word agree ascend holds.places.each c.pairs.ensures.valid named in
    let can = can-release-after key c.args.point c.args.label numbers words c.pairs.result.now entries c.held_pairs.result.now c.new-pairs.result.entries c.pair_words.new.pairs.entries c.place_with-stored.result
    pairs c.new-pairs.ensures.empty c.pairs.ensures.pairs c.in_ok-pair_words.ensures.paired c.place_with-stored.ensures.pairs all in
    let p = err_from_is_err_and c.from_residual-in_err-release_words.result c.from_residual-in_err-release_words.ensures.1 in
    λ e. (let same : c.in_err-release_words.field-0.0 ≡ Damaged damage = cc (p.1, p.2, e) in
    c.in_err-release_words.ensures.no_false_damage _ put.1.free put.1.holds put.1.apart can (told-changed before c.args.tables.now _ _ _ _ _ put.1 told) damage (ap Err same))

pub returns-clause-put : goal.returns-clause-put
returns-clause-put g c entries free holds apart was =
    let before : View = view (g.P.Pages.pages c.args.pages.now) (g.P.Pages.count c.args.pages.now) (g.P.Pages.first c.args.pages.now) free in
    let key = c.args.key.now in
    let numbers : List (List ℕ × ℕ) = c.args.numbers.now.entries in
    let words : List (List ℕ × ℕ) = c.args.words.now in
    let pairs : c.held_pairs.result.now ≡ pairs_of (place_of_key key entries.places) = c.held_pairs.ensures.pairs ∙ ap pairs_of was in
    let put = c.in_ok-put_place.ensures.put entries free holds apart in
    let rest = c.in_ok-release_words.ensures.released _ put.1.free put.1.holds put.1.apart in (
      held-stored key c.args.point c.args.label numbers words c.pairs.result.now entries c.held_pairs.result.now c.new-pairs.result.entries c.pair_words.new.pairs.entries c.place_with-stored.result
          pairs c.new-pairs.ensures.empty c.pairs.ensures.pairs c.in_ok-pair_words.ensures.paired c.place_with-stored.ensures.pairs,
      subst (λ (e : Entries). IsChanged before c.args.tables.now (g.P.Pages.pages c.release_words.new.pages) (g.P.Pages.count c.release_words.new.pages) (g.P.Pages.first c.release_words.new.pages) c.release_words.new.tables e)
          (held-after key c.args.point c.args.label numbers words c.pairs.result.now entries c.held_pairs.result.now c.new-pairs.result.entries c.pair_words.new.pairs.entries c.place_with-stored.result
          pairs c.new-pairs.ensures.empty c.pairs.ensures.pairs c.in_ok-pair_words.ensures.paired c.place_with-stored.ensures.pairs)
          (changed-further put.1 rest),
    )

pub returns-in_err-pair_words-clause-no_head : goal.returns-in_err-pair_words-clause-no_head
returns-in_err-pair_words-clause-no_head g c told damage =
    let p = err_from_is_err_and c.from_residual.result c.from_residual.ensures.1 in
    λ e. (let same : c.in_err-pair_words.field-0.0 ≡ Damaged damage = cc (p.1, p.2, e) in
    words-spares_head damage (subst IsPairFault same c.in_err-pair_words.ensures.causes))

pub returns-in_err-put_place-clause-no_head : goal.returns-in_err-put_place-clause-no_head
returns-in_err-put_place-clause-no_head g c told damage =
    let p = err_from_is_err_and c.from_residual-in_err-put_place.result c.from_residual-in_err-put_place.ensures.1 in
    λ e. (let same : c.in_err-put_place.field-0.0 ≡ Damaged damage = cc (p.1, p.2, e) in
    put-spares_head places_form (g.P.Pages.pages c.args.pages.now) (g.P.Pages.count c.args.pages.now) c.args.tables.now.places (g.P.Pages.pages c.put_place.new.pages) (g.P.Pages.count c.put_place.new.pages) (g.P.Pages.first c.put_place.new.pages) _ _ damage
    (told c.put_place.new.pages) (g.met.P.Pages.first_is_counted c.put_place.new.pages) (c.in_err-put_place.ensures.damaged (told c.args.pages.now) damage (ap Err same)))

pub returns-in_err-release_words-clause-no_head : goal.returns-in_err-release_words-clause-no_head
returns-in_err-release_words-clause-no_head g c told damage =
    let p = err_from_is_err_and c.from_residual-in_err-release_words.result c.from_residual-in_err-release_words.ensures.1 in
    λ e. (let same : c.in_err-release_words.field-0.0 ≡ Damaged damage = cc (p.1, p.2, e) in
    c.in_err-release_words.ensures.no_head told damage (ap Err same))
