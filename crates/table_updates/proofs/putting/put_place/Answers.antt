use Rattle.std.proofs.Common.{◌≡◌, ℕ, ◌+◌, ◌≤◌, ◌^◌, List, length, Err, ap, sym, subst, ◌∙◌, arith}
use Rattle.std.proofs.lemmas.Result.{err_from_is_err_and}
use Rattle.page_face.specs.declared.fault.PageFault.TheVariants.{Damaged}
use Rattle.btree_nodes.specs.Supply.{View, view}
use Rattle.row_codec.specs.Pairs.{Pair}
use Rattle.store_tables.specs.declared.tables.Tables.{Tables}
use Rattle.store_tables.specs.Entries.{Entries, place_of_key}
use Rattle.store_tables.specs.Holding.{IsChanged, places_form}
use Rattle.store_tables.proofs.FrameLemmas.{changed-further}
use Rattle.store_tables.proofs.Heads.{put-spares_head}
use Rattle.store_tables.proofs.ToldLemmas.{told-changed}
use Rattle.store_model.specs.Updates.{CanNumber, by_number, numbered, pairs_of, placed, stored_with}
use Rattle.store_model.proofs.Chances.{can-number-put, can-release-put}
use Rattle.store_model.proofs.Maps.{ascending-holds}
use Rattle.table_updates.proofs.Turns.{after-puts, can-release-puts}
use Rattle.table_updates.proofs.putting.put_place.Goals as goal

pub returns-in_err-number_words-clause-no_false_damage : goal.returns-in_err-number_words-clause-no_false_damage
returns-in_err-number_words-clause-no_false_damage g c entries free holds apart was agree room told damage =
    let key = c.args.key.now in
    let next : ℕ = c.args.tables.now.next_word in
    let pairs : c.held_pairs-held.result.now ≡ pairs_of (place_of_key key entries.places) = c.held_pairs-held.ensures.pairs ∙ ap pairs_of was in
    let ascend = ascending-holds (g.P.Pages.pages c.args.pages.now) c.args.tables.now entries holds in
    let all = can-number-put key entries next agree ascend holds.places.each c.args.words.now c.pairs.ensures.valid.ascending room in
    let can : CanNumber c.held_pairs-held.result.now c.pairs.result.now next entries =
    subst (λ (ws : List (List ℕ × ℕ)). CanNumber c.held_pairs-held.result.now ws next entries) (sym c.pairs.ensures.pairs) (subst (λ (ps : List Pair). CanNumber ps c.args.words.now next entries) (sym pairs) all) in
    let p = err_from_is_err_and c.from_residual.result c.from_residual.ensures.1 in
    λ e. (let same : c.in_err-number_words.field-0.0 ≡ Damaged damage = cc (p.1, p.2, e) in
    c.in_err-number_words.ensures.no_false_damage entries free holds apart can told damage (ap Err same))

pub returns-in_err-put_place-clause-no_false_damage : goal.returns-in_err-put_place-clause-no_false_damage
returns-in_err-put_place-clause-no_false_damage g c entries free holds apart was agree room told damage =
    let numbers = c.in_ok-number_words.ensures.numbered entries free holds apart in
    let p = err_from_is_err_and c.from_residual-in_err-put_place.result c.from_residual-in_err-put_place.ensures.1 in
    λ e. (let same : c.in_err-put_place.field-0.0 ≡ Damaged damage = cc (p.1, p.2, e) in
    c.in_err-put_place.ensures.no_false_damage _ numbers.2.free numbers.2.holds numbers.2.apart damage (ap Err same))

pub returns-in_err-release_words-clause-no_false_damage : goal.returns-in_err-release_words-clause-no_false_damage
returns-in_err-release_words-clause-no_false_damage g c entries free holds apart was agree room told damage =
    let before : View = view (g.P.Pages.pages c.args.pages.now) (g.P.Pages.count c.args.pages.now) (g.P.Pages.first c.args.pages.now) free in
    let key = c.args.key.now in
    let next : ℕ = c.args.tables.now.next_word in
    let words : List (List ℕ × ℕ) = c.args.words.now in
    let pairs : c.held_pairs-held.result.now ≡ pairs_of (place_of_key key entries.places) = c.held_pairs-held.ensures.pairs ∙ ap pairs_of was in
    let numbers = c.in_ok-number_words.ensures.numbered entries free holds apart in
    let begun = ap (λ (ps : List Pair). placed ps (numbered c.held_pairs-held.result.now c.pairs.result.now next entries).pairs) c.new-numbers.ensures.empty in
    let put = c.in_ok-put_place.ensures.put _ numbers.2.free numbers.2.holds numbers.2.apart in
    let ascend = ascending-holds (g.P.Pages.pages c.args.pages.now) c.args.tables.now entries holds in
    let few = c.pairs.ensures.valid.few in
    let small = c.requires.next in
    let left : next + length words ≤ 2 ^ 64 = omega arith in
    let all = can-release-put key entries next agree ascend holds.places.each c.args.point words c.args.label c.pairs.ensures.valid room left in
    let can = can-release-puts key c.args.point c.args.label words c.pairs.result.now next entries c.held_pairs-held.result.now c.held_pairs.result.now c.place_with-stored.result c.number_words.new.pairs.entries
    pairs c.pairs.ensures.pairs (numbers.1 ∙ begun) c.place_with-stored.ensures.pairs c.held_pairs.ensures.pairs all in
    let changed = changed-further numbers.2 put.1 in
    let p = err_from_is_err_and c.from_residual-in_err-release_words.result c.from_residual-in_err-release_words.ensures.1 in
    λ e. (let same : c.in_err-release_words.field-0.0 ≡ Damaged damage = cc (p.1, p.2, e) in
    c.in_err-release_words.ensures.no_false_damage _ put.1.free put.1.holds put.1.apart can (told-changed before c.args.tables.now _ _ _ _ _ changed told) damage (ap Err same))

pub returns-clause-put : goal.returns-clause-put
returns-clause-put g c entries free holds apart was =
    let before : View = view (g.P.Pages.pages c.args.pages.now) (g.P.Pages.count c.args.pages.now) (g.P.Pages.first c.args.pages.now) free in
    let key = c.args.key.now in
    let next : ℕ = c.args.tables.now.next_word in
    let words : List (List ℕ × ℕ) = c.args.words.now in
    let pairs : c.held_pairs-held.result.now ≡ pairs_of (place_of_key key entries.places) = c.held_pairs-held.ensures.pairs ∙ ap pairs_of was in
    let numbers = c.in_ok-number_words.ensures.numbered entries free holds apart in
    let begun = ap (λ (ps : List Pair). placed ps (numbered c.held_pairs-held.result.now c.pairs.result.now next entries).pairs) c.new-numbers.ensures.empty in
    let put = c.in_ok-put_place.ensures.put _ numbers.2.free numbers.2.holds numbers.2.apart in
    let rest = c.in_ok-release_words.ensures.released _ put.1.free put.1.holds put.1.apart in
    let after = after-puts key c.args.point c.args.label words c.pairs.result.now next entries c.held_pairs-held.result.now c.held_pairs.result.now c.place_with-stored.result c.number_words.new.pairs.entries
    pairs c.pairs.ensures.pairs (numbers.1 ∙ begun) c.place_with-stored.ensures.pairs c.held_pairs.ensures.pairs in (
      c.place_with-stored.ensures.pairs ∙ ap (λ (ps : List Pair). stored_with c.args.point ps c.args.label) (numbers.1 ∙ begun ∙ (λ i. by_number (numbered (pairs i) (c.pairs.ensures.pairs i) next entries).pairs)),
      c.in_ok-release_words.ensures.next ∙ ap (λ (t : Tables). t.next_word) c.put_place.ensures.others ∙ numbers.0 ∙ (λ i. (numbered (pairs i) (c.pairs.ensures.pairs i) next entries).next_word),
      subst (λ (e : Entries). IsChanged before c.args.tables.now (g.P.Pages.pages c.release_words.new.pages) (g.P.Pages.count c.release_words.new.pages) (g.P.Pages.first c.release_words.new.pages) c.release_words.new.tables e) after
          (changed-further numbers.2 (changed-further put.1 rest)),
    )

pub returns-clause-rises : goal.returns-clause-rises
returns-clause-rises g c =
    let few = c.pairs.ensures.valid.few in
    let long = ap length c.pairs.ensures.pairs in
    let numbers = c.in_ok-number_words.ensures.rises in
    let put = ap (λ (t : Tables). t.next_word) c.put_place.ensures.others in
    let rest = c.in_ok-release_words.ensures.next in
    omega arith

pub returns-in_err-number_words-clause-no_head : goal.returns-in_err-number_words-clause-no_head
returns-in_err-number_words-clause-no_head g c told damage =
    let p = err_from_is_err_and c.from_residual.result c.from_residual.ensures.1 in
    λ e. (let same : c.in_err-number_words.field-0.0 ≡ Damaged damage = cc (p.1, p.2, e) in
    c.in_err-number_words.ensures.no_head told damage (ap Err same))

pub returns-in_err-put_place-clause-no_head : goal.returns-in_err-put_place-clause-no_head
returns-in_err-put_place-clause-no_head g c told damage =
    let p = err_from_is_err_and c.from_residual-in_err-put_place.result c.from_residual-in_err-put_place.ensures.1 in
    λ e. (let same : c.in_err-put_place.field-0.0 ≡ Damaged damage = cc (p.1, p.2, e) in
    put-spares_head places_form (g.P.Pages.pages c.number_words.new.pages) (g.P.Pages.count c.number_words.new.pages) c.number_words.new.tables.places (g.P.Pages.pages c.put_place.new.pages) (g.P.Pages.count c.put_place.new.pages) (g.P.Pages.first c.put_place.new.pages) _ _ damage
    (told c.put_place.new.pages) (g.met.P.Pages.first_is_counted c.put_place.new.pages) (c.in_err-put_place.ensures.damaged (told c.number_words.new.pages) damage (ap Err same)))

pub returns-in_err-release_words-clause-no_head : goal.returns-in_err-release_words-clause-no_head
returns-in_err-release_words-clause-no_head g c told damage =
    let p = err_from_is_err_and c.from_residual-in_err-release_words.result c.from_residual-in_err-release_words.ensures.1 in
    λ e. (let same : c.in_err-release_words.field-0.0 ≡ Damaged damage = cc (p.1, p.2, e) in
    c.in_err-release_words.ensures.no_head told damage (ap Err same))
