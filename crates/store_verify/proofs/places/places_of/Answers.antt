use Rattle.std.proofs.Common.{ℕ, IfNone, MatchOption, Option, subst}
use Rattle.page_face.specs.declared.fault.Damage.{Damage}
use Rattle.btree_nodes.specs.Nodes.{rows_in}
use Rattle.btree_nodes.specs.Tree.{map_rows}
use Rattle.page_walks.specs.Met.{held}
use Rattle.page_walks.specs.Maps.{IsBadMap, IsGoodMap}
use Rattle.spatial_base.specs.Key.{IsName}
use Rattle.row_codec.specs.Stored.{place_value}
use Rattle.store_verify.specs.Breaks.{BreaksPlaceRow}
use Rattle.store_tables.specs.Coded.{IsPlaceValue, key_code}
use Rattle.store_tables.specs.Holding.{places_form}
use Rattle.store_verify.specs.Gains.{AreRowsOf}
use Rattle.store_verify.specs.Places.{GainsPlaces, HoldsSites}
use Rattle.store_verify.proofs.PlaceSteps.{places-hold}
use Rattle.store_verify.proofs.Steps.{bad-apart}
use Rattle.store_verify.proofs.places.places_of.Goals as goal

pub returns-in-None-clause-holds : goal.returns-in-None-clause-holds
returns-in-None-clause-holds g c readable =
    let pages = g.P.Pages.pages c.args.pages.now in
    let count = g.P.Pages.count c.args.pages.now in
    let root : ℕ = c.at-map.result.root in
    let new = c.check_into.new.sink in
    let taken = subst (λ (o : Option Damage). IfNone o (GainsPlaces (map_rows places_form pages root) c.new.result.items c.new-2.result.items new.sites.items new.numbers.items))
    c.in-None.is (c.in_ok-damage.ensures.takes readable) in
    let good = subst (λ (o : Option Damage). MatchOption o (IsGoodMap (λ page. AreRowsOf key_code place_value IsName IsPlaceValue (rows_in places_form page)) places_form pages count (held c.args.seen.now) root)
    (IsBadMap BreaksPlaceRow places_form pages count (held c.args.seen.now) root)) c.in-None.is (c.in_ok-damage.ensures.decides readable) in
    subst (λ (r : ℕ). HoldsSites pages r new.sites.items new.numbers.items) c.at-map.ensures
    (places-hold pages root c.new.result.items c.new-2.result.items new.sites.items new.numbers.items c.new.ensures.items c.new-2.ensures.items good.whole.map taken)

pub returns-in-Some-clause-exact : goal.returns-in-Some-clause-exact
returns-in-Some-clause-exact g c readable entries holds once =
    let pages = g.P.Pages.pages c.args.pages.now in
    let count = g.P.Pages.count c.args.pages.now in
    let bad = subst (λ (o : Option Damage). MatchOption o (IsGoodMap (λ page. AreRowsOf key_code place_value IsName IsPlaceValue (rows_in places_form page)) places_form pages count (held c.args.seen.now) c.at-map.result.root)
    (IsBadMap BreaksPlaceRow places_form pages count (held c.args.seen.now) c.at-map.result.root)) c.in-Some.is (c.in_ok-damage.ensures.decides readable) in
    bad-apart key_code place_value IsName IsPlaceValue places_form pages count (held c.args.seen.now) c.args.root c.in-Some.damage
    (subst (λ (r : ℕ). IsBadMap BreaksPlaceRow places_form pages count (held c.args.seen.now) r c.in-Some.damage) c.at-map.ensures bad) entries holds once
