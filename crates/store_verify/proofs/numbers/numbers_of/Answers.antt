use Rattle.std.proofs.Common.{ℕ, IfNone, MatchOption, Option, subst}
use Rattle.page_face.specs.declared.fault.Damage.{Damage}
use Rattle.btree_nodes.specs.Nodes.{rows_in}
use Rattle.btree_nodes.specs.Tree.{map_rows}
use Rattle.page_walks.specs.Met.{held}
use Rattle.page_walks.specs.Maps.{IsBadMap, IsGoodMap}
use Rattle.row_codec.specs.Counted.{IsCounted, counted_value}
use Rattle.store_verify.specs.Breaks.{BreaksNumberRow}
use Rattle.store_tables.specs.Coded.{IsU64, number_code}
use Rattle.store_tables.specs.Holding.{HoldsNumbers, numbers_form}
use Rattle.store_verify.specs.Gains.{AreRowsOf, Gains}
use Rattle.store_verify.proofs.Steps.{bad-apart, gains-holds}
use Rattle.store_verify.proofs.numbers.numbers_of.Goals as goal

pub returns-in-None-clause-holds : goal.returns-in-None-clause-holds
returns-in-None-clause-holds g c readable =
    let pages = g.P.Pages.pages c.args.pages.now in
    let count = g.P.Pages.count c.args.pages.now in
    let root : ℕ = c.at-map.result.root in
    let taken = subst (λ (o : Option Damage). IfNone o (Gains number_code counted_value IsU64 IsCounted (map_rows numbers_form pages root) c.new.result.items c.check_into.new.sink.rows.items))
    c.in-None.is (c.in_ok-damage.ensures.takes readable) in
    let good = subst (λ (o : Option Damage). MatchOption o (IsGoodMap (λ page. AreRowsOf number_code counted_value IsU64 IsCounted (rows_in numbers_form page)) numbers_form pages count (held c.args.seen.now) root)
    (IsBadMap BreaksNumberRow numbers_form pages count (held c.args.seen.now) root)) c.in-None.is (c.in_ok-damage.ensures.decides readable) in
    subst (λ (r : ℕ). HoldsNumbers pages r c.check_into.new.sink.rows.items) c.at-map.ensures
    (gains-holds number_code counted_value IsU64 IsCounted numbers_form pages root c.new.result.items c.check_into.new.sink.rows.items c.new.ensures.items good.whole.map taken)

pub returns-in-Some-clause-exact : goal.returns-in-Some-clause-exact
returns-in-Some-clause-exact g c readable entries holds once =
    let pages = g.P.Pages.pages c.args.pages.now in
    let count = g.P.Pages.count c.args.pages.now in
    let bad = subst (λ (o : Option Damage). MatchOption o (IsGoodMap (λ page. AreRowsOf number_code counted_value IsU64 IsCounted (rows_in numbers_form page)) numbers_form pages count (held c.args.seen.now) c.at-map.result.root)
    (IsBadMap BreaksNumberRow numbers_form pages count (held c.args.seen.now) c.at-map.result.root)) c.in-Some.is (c.in_ok-damage.ensures.decides readable) in
    bad-apart number_code counted_value IsU64 IsCounted numbers_form pages count (held c.args.seen.now) c.args.root c.in-Some.damage
    (subst (λ (r : ℕ). IsBadMap BreaksNumberRow numbers_form pages count (held c.args.seen.now) r c.in-Some.damage) c.at-map.ensures bad) entries holds once
