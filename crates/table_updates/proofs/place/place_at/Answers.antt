use Rattle.std.proofs.Common.{◌≡◌, ℕ, refl, IsErrOf, IfSome, inr, Option, Some, option_map, ap, sym, subst, ◌∙◌, rules}
use Rattle.std.proofs.lemmas.Result.{err_from_is_err_and}
use Rattle.page_face.specs.declared.fault.PageFault.TheVariants.{Damaged}
use Rattle.row_codec.specs.declared.stored.Stored.{Stored}
use Rattle.row_codec.specs.Stored.{held_pairs, place_value}
use Rattle.page_face.specs.FreeList.{PageMap}
use Rattle.btree_nodes.specs.Damages.{AreReadable}
use Rattle.btree_nodes.specs.Tree.{map_uses}
use Rattle.paged_map.specs.Lookups.{IsLookedUp}
use Rattle.store_tables.specs.Coded.{key_code}
use Rattle.store_tables.specs.Entries.{place_of_key}
use Rattle.store_tables.specs.Broken.{IsPlaceRead}
use Rattle.store_tables.specs.Holding.{numbers_form, places_form}
use Rattle.store_tables.proofs.LookupLemmas.{place-read-keeps}
use Rattle.table_updates.specs.Known.{AreKnown}
use Rattle.table_updates.proofs.Known.{known-at, same-damage, words-later}
use Rattle.table_updates.proofs.Shown.{same-words}
use Rattle.table_updates.proofs.place.place_at.Goals as goal

-- src/place.rt:54:17
pub returns-in_err-words-clause-no_false_damage : goal.returns-in_err-words-clause-no_false_damage
returns-in_err-words-clause-no_false_damage g c = λ entries holds known told counted damage is.
    let passed = err_from_is_err_and c.from_residual-in_err-words.result c.from_residual-in_err-words.ensures.1 in
    let fault_is = passed.1 in
    let same = passed.2 in
    let was = c.in_err-words.was in
    let named : IsErrOf c.words_of.result (Damaged damage) = cc in
    let is_there : Some c.in-Some.stored ≡ place_of_key c.args.key.now entries.places = sym c.in-Some.is ∙ c.in_ok-stored.ensures.found entries holds in
    c.words_of.ensures.no_false_damage entries (search rules) (subst (λ found. IfSome found (λ stored. AreKnown entries.numbers (held_pairs stored))) (sym is_there) (known-at entries.numbers c.args.key.now entries.places known)) (search rules) (search rules) damage named

-- src/place.rt:54:17
pub returns-in_err-words-clause-damaged : goal.returns-in_err-words-clause-damaged
returns-in_err-words-clause-damaged g c = λ told damage is.
    let passed = err_from_is_err_and c.from_residual-in_err-words.result c.from_residual-in_err-words.ensures.1 in
    let fault_is = passed.1 in
    let same = passed.2 in
    let was = c.in_err-words.was in
    let named : IsErrOf c.words_of.result (Damaged damage) = cc in
    let found = c.words_of.ensures.damaged (search rules) damage named in
    let place = c.in_ok-stored.ensures in
    inr (record {
      stored = c.in-Some.stored;
      form = search rules;
      read = place-read-keeps (map_uses numbers_form (g.P.Pages.pages c.place.new.pages) c.args.tables.now.numbers) (g.P.Pages.pages c.args.pages.now) c.args.key.now _ _ _ c.in-Some.stored (c.words_of.ensures.own (search rules))
          (subst (λ (o : Option Stored). IfSome o (IsPlaceRead (g.P.Pages.pages c.args.pages.now) c.args.key.now (g.P.Pages.asked c.args.pages.now) (g.P.Pages.asked c.place.new.pages))) c.in-Some.is (place.read told));
      place = λ tree. (place.formed tree).0 ∙ ap (option_map place_value) c.in-Some.is;
      words = words-later (map_uses places_form (g.P.Pages.pages c.args.pages.now) c.args.tables.now.places) _ _ c.args.tables.now _ _ _ _ damage (place.own told)
          (same-damage _ _ _ _ c.args.tables.now _ _ _ damage place.frame.pages place.frame.count found);
    })

pub returns-clause-kept : goal.returns-clause-kept
returns-clause-kept g c = λ told.
    let pages : PageMap = g.P.Pages.pages c.args.pages.now in
    let count : ℕ = g.P.Pages.count c.args.pages.now in
    let place = c.in_ok-stored.ensures in
    let still : AreReadable (g.P.Pages.pages c.place.new.pages) (g.P.Pages.count c.place.new.pages) = rw place.frame.pages (rw place.frame.count told) in (
      c.in-Some.stored,
      subst (λ (o : Option Stored). IsLookedUp places_form pages count c.args.tables.now.places (key_code c.args.key.now) (option_map place_value o)) c.in-Some.is (place.kept told),
      refl,
      same-words _ _ _ _ c.args.tables.now.numbers _ _ place.frame.pages place.frame.count (c.in_ok-words.ensures.kept still),
      refl,
    )
