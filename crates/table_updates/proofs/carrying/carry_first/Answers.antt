use Rattle.std.proofs.Common.{◌≡◌, ◌+◌, Err, inl, inr, ap, sym, ◌∙◌, arith}
use Rattle.std.proofs.lemmas.Result.{err_from_is_err_and}
use Rattle.page_face.specs.declared.fault.Damage.{Damage}
use Rattle.page_face.specs.declared.fault.PageFault.TheVariants.{Damaged}
use Rattle.page_face.specs.declared.fault.Rule.TheVariants.{Counts, Head}
use Rattle.page_face.proofs.Frames.{changes_then, reads_change}
use Rattle.btree_nodes.specs.Damages.{AreReadable}
use Rattle.btree_nodes.proofs.Harms.{asks-further, asks-more}
use Rattle.store_tables.proofs.TakeLemmas.{takes-read}
use Rattle.table_updates.specs.Carrying.{StandBetween, any_page, block_of, counts_disagree}
use Rattle.table_updates.specs.Version1.{HoldsPlacesVersion1, version1_uses}
use Rattle.table_updates.proofs.Beside.{version1-counted}
use Rattle.table_updates.proofs.Between.{first-none, first-some}
use Rattle.table_updates.proofs.Damages.{later-damage}
use Rattle.table_updates.proofs.carrying.carry_first.Goals as goal

pub returns-in_err-first-clause-no_false_damage : goal.returns-in_err-first-clause-no_false_damage
returns-in_err-first-clause-no_false_damage g c others entries left between told damage =
    let p = err_from_is_err_and c.from_residual.result c.from_residual.ensures.1 in
    let counted = version1-counted (block_of (g.P.Pages.count c.args.pages.now) (g.P.Pages.first c.args.pages.now) c.args.head.now) (g.P.Pages.pages c.args.pages.now) others entries c.args.root between.carried between.rest between.stand in
    λ e. (let same : c.in_err-first.field-0.0 ≡ Damaged damage = cc (p.1, p.2, e) in
    c.in_err-first.ensures.no_false_damage between.rest between.stand.places told counted damage (ap Err same))

pub returns-in_err-first-clause-damaged : goal.returns-in_err-first-clause-damaged
returns-in_err-first-clause-damaged g c told damage =
    let p = err_from_is_err_and c.from_residual.result c.from_residual.ensures.1 in
    λ e. (let same : c.in_err-first.field-0.0 ≡ Damaged damage = cc (p.1, p.2, e) in
    inl (c.in_err-first.ensures.damaged (told c.args.pages.now) damage (ap Err same)))

pub returns-in_err-first-clause-asks : goal.returns-in_err-first-clause-asks
returns-in_err-first-clause-asks g c told =
    asks-more (version1_uses (g.P.Pages.pages c.args.pages.now) c.args.root) any_page _ _ (λ n some. omega arith) (c.first_place.ensures.own (told c.args.pages.now))

pub returns-in_err-first-clause-no_head : goal.returns-in_err-first-clause-no_head
returns-in_err-first-clause-no_head g c told damage =
    let p = err_from_is_err_and c.from_residual.result c.from_residual.ensures.1 in
    λ e. (let same : c.in_err-first.field-0.0 ≡ Damaged damage = cc (p.1, p.2, e) in
    c.in_err-first.ensures.no_head (told c.args.pages.now) damage (ap Err same))

pub returns-in-Some-clause-carried : goal.returns-in-Some-clause-carried
returns-in-Some-clause-carried g c others entries left between =
    let f = c.first_place.ensures.frame in
    let there : StandBetween (block_of (g.P.Pages.count c.first_place.new.pages) (g.P.Pages.first c.first_place.new.pages) c.args.head.now) (g.P.Pages.pages c.first_place.new.pages) others entries c.args.root (left + 1) = rw (f.pages, f.count, f.first) between in
    let holds : HoldsPlacesVersion1 (g.P.Pages.pages c.args.pages.now) c.args.root there.rest = rw (sym f.pages) there.stand.places in
    let some = first-some there.rest c.in-Some.first (sym (c.in_ok-first.ensures.first there.rest holds) ∙ c.in-Some.is) in
    c.move_place.ensures.moved others entries left there some.0 some.1

pub returns-in-Some-clause-told : goal.returns-in-Some-clause-told
returns-in-Some-clause-told g c others entries left between told =
    let f = c.first_place.ensures.frame in
    let there : StandBetween (block_of (g.P.Pages.count c.first_place.new.pages) (g.P.Pages.first c.first_place.new.pages) c.args.head.now) (g.P.Pages.pages c.first_place.new.pages) others entries c.args.root (left + 1) = rw (f.pages, f.count, f.first) between in
    let holds : HoldsPlacesVersion1 (g.P.Pages.pages c.args.pages.now) c.args.root there.rest = rw (sym f.pages) there.stand.places in
    let some = first-some there.rest c.in-Some.first (sym (c.in_ok-first.ensures.first there.rest holds) ∙ c.in-Some.is) in
    let still : AreReadable (g.P.Pages.pages c.first_place.new.pages) (g.P.Pages.count c.first_place.new.pages) = rw (f.pages, f.count) told in
    c.move_place.ensures.told others entries left there some.0 some.1 still

pub returns-in-Some-clause-no_false_damage : goal.returns-in-Some-clause-no_false_damage
returns-in-Some-clause-no_false_damage g c others entries left between told damage =
    let f = c.first_place.ensures.frame in
    let there : StandBetween (block_of (g.P.Pages.count c.first_place.new.pages) (g.P.Pages.first c.first_place.new.pages) c.args.head.now) (g.P.Pages.pages c.first_place.new.pages) others entries c.args.root (left + 1) = rw (f.pages, f.count, f.first) between in
    let holds : HoldsPlacesVersion1 (g.P.Pages.pages c.args.pages.now) c.args.root there.rest = rw (sym f.pages) there.stand.places in
    let some = first-some there.rest c.in-Some.first (sym (c.in_ok-first.ensures.first there.rest holds) ∙ c.in-Some.is) in
    c.move_place.ensures.no_false_damage others entries left there some.0 some.1 damage

pub returns-in-Some-clause-damaged : goal.returns-in-Some-clause-damaged
returns-in-Some-clause-damaged g c told damage =
    let own = asks-more (version1_uses (g.P.Pages.pages c.args.pages.now) c.args.root) any_page _ _ (λ n some. omega arith) (c.first_place.ensures.own (told c.args.pages.now)) in
    λ e. later-damage (g.P.Pages.pages c.move_place.new.pages) (g.P.Pages.count c.move_place.new.pages) (g.P.Pages.first c.move_place.new.pages) _ _ _ damage own (c.move_place.ensures.damaged told damage e)

pub returns-in-Some-clause-asks : goal.returns-in-Some-clause-asks
returns-in-Some-clause-asks g c told =
    asks-further any_page _ _ _ (asks-more (version1_uses (g.P.Pages.pages c.args.pages.now) c.args.root) any_page _ _ (λ n some. omega arith) (c.first_place.ensures.own (told c.args.pages.now))) (c.move_place.ensures.asks told)

pub returns-in-Some-clause-at_most : goal.returns-in-Some-clause-at_most
returns-in-Some-clause-at_most g c = takes-read g.P.Pages 257 c.args.pages.now c.first_place.new.pages c.move_place.new.pages c.first_place.ensures.frame c.move_place.ensures.at_most

pub returns-in-Some-clause-frame : goal.returns-in-Some-clause-frame
returns-in-Some-clause-frame g c =
    changes_then g.P.Pages g.met.P.Pages.goes_further _ _ _ (reads_change g.P.Pages c.args.pages.now c.first_place.new.pages c.first_place.ensures.frame) c.move_place.ensures.frame

pub returns-in-None-clause-no_false_damage : goal.returns-in-None-clause-no_false_damage
returns-in-None-clause-no_false_damage g c others entries left between told damage =
    let none = first-none between.rest (sym (c.in_ok-first.ensures.first between.rest between.stand.places) ∙ c.in-None.is) in
    let long = between.left_are in
    λ e. absurd (omega (arith, none, long))

pub returns-in-None-clause-damaged : goal.returns-in-None-clause-damaged
returns-in-None-clause-damaged g c told damage =
    λ e. inr (inr (let is = c.counts_disagree.ensures in let same : Damaged damage ≡ Damaged counts_disagree = cc (is, e) in cc same))

pub returns-in-None-clause-asks : goal.returns-in-None-clause-asks
returns-in-None-clause-asks g c told =
    asks-more (version1_uses (g.P.Pages.pages c.args.pages.now) c.args.root) any_page _ _ (λ n some. omega arith) (c.first_place.ensures.own (told c.args.pages.now))

pub returns-in-None-clause-no_head : goal.returns-in-None-clause-no_head
returns-in-None-clause-no_head g c told damage =
    λ e head. (let is = c.counts_disagree.ensures in let same : Damaged damage ≡ Damaged counts_disagree = cc (is, e) in
    let at : damage ≡ counts_disagree = cc same in
    let no : Counts ≡ Head = ap (λ (d : Damage). d.rule) (sym at) ∙ head in absurd (cc no))
