use Rattle.std.proofs.Common.{◌≡◌, ◌<◌, arith, rules}
use Rattle.page_face.specs.Nodes.{count_of}
use Rattle.btree_nodes.specs.Nodes.{rows_in}
use Rattle.spatial_base.specs.Key.{IsName}
use Rattle.row_codec.specs.Stored.{place_value}
use Rattle.store_tables.specs.Coded.{IsPlaceValue, key_code}
use Rattle.store_tables.specs.Holding.{places_form}
use Rattle.store_verify.proofs.PlaceSteps.{places-all, places-good, places-row}
use Rattle.store_verify.proofs.Steps.{bad-row}
use Rattle.store_verify.proofs.places.GatheredSink.leaf.Goals as goal

pub returns-in-None-clause-breaks : goal.returns-in-None-clause-breaks
returns-in-None-clause-breaks c rule e =
    let inside : c.loop-at.at < count_of c.args.page.now = omega (arith, c.loop-at-test.true, c.requires.count) in
    (cc e, bad-row key_code place_value IsName IsPlaceValue places_form c.args.page.now c.loop-at.at inside (λ entry is row. (let no = c.in-None.ensures.every entry is row in cc no)))

pub loop-at-preserved : goal.loop-at-preserved
loop-at-preserved c =
    let inside : c.loop-at.at < count_of c.args.page.now = omega (arith, c.loop-at-test.true, c.requires.count) in
    let old = c.args.self.now in
    let now = c.loop-at.self in
    let new = c.add.new.self in
    let row = c.in-Some.ensures.form in
    places-row c.args.page.now c.loop-at.at old.sites.items old.numbers.items now.sites.items now.numbers.items new.sites.items new.numbers.items
    c.in-Some.place.0 c.in-Some.place.1 inside c.loop-at.invariant row.0 row.1 (search rules) (search rules)

pub returns-clause-takes : goal.returns-clause-takes
returns-clause-takes c =
    let all : c.loop-at.at ≡ count_of c.args.page.now = omega (arith, c.loop-at.auto.at-end, c.loop-at-test.false, c.requires.count) in
    places-all c.args.page.now c.loop-at.at c.args.self.now.sites.items c.args.self.now.numbers.items c.loop-at.self.sites.items c.loop-at.self.numbers.items all c.loop-at.invariant

pub returns-clause-good : goal.returns-clause-good
returns-clause-good c =
    let all : c.loop-at.at ≡ count_of c.args.page.now = omega (arith, c.loop-at.auto.at-end, c.loop-at-test.false, c.requires.count) in
    places-good (rows_in places_form c.args.page.now) c.args.self.now.sites.items c.args.self.now.numbers.items c.loop-at.self.sites.items c.loop-at.self.numbers.items
    (places-all c.args.page.now c.loop-at.at c.args.self.now.sites.items c.args.self.now.numbers.items c.loop-at.self.sites.items c.loop-at.self.numbers.items all c.loop-at.invariant)
