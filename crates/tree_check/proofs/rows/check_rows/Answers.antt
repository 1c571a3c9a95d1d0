use Rattle.std.proofs.Common.{◌+◌, ◌^◌, ◌≡◌, ℕ, List, Option, None, inl, subst}
use Rattle.std.specs.Prelude.{IfNone, MatchOption}
use Rattle.page_face.specs.declared.fault.Damage.{Damage}
use Rattle.page_face.specs.declared.fault.Rule.{Rule}
use Rattle.btree_nodes.specs.Rows.{Row}
use Rattle.btree_nodes.specs.Tree.{map_rows, map_uses}
use Rattle.page_walks.specs.Met.{held}
use Rattle.page_walks.specs.Maps.{IsBadMap, IsBrokenMap, IsGoodMap, IsWholeMap}
use Rattle.page_walks.proofs.Roots.{bad-broken, broken-apart}
use Rattle.rtree_nodes.specs.Stock.{rows_form}
use Rattle.node_rows.proofs.Told.{map-within}
use Rattle.tree_check.specs.Names.{IsFound, Seeks}
use Rattle.tree_check.proofs.Named.{found-decides, found-exact, none-any}
use Rattle.tree_check.proofs.rows.check_rows.Goals as goal

abbrev Any : List ℕ → Type 0
Any bytes = Unit {0}

abbrev Never : Rule → List ℕ → Type 0
Never rule bytes = ⊥

pub returns-in-None-clause-decides : goal.returns-in-None-clause-decides
returns-in-None-clause-decides g c readable =
    let pages = g.P.Pages.pages c.args.pages.now in
    let count = g.P.Pages.count c.args.pages.now in
    let before : ℕ → ℕ = held c.args.seen.now in
    let nodes : ℕ → ℕ = held c.args.nodes.now in
    let root : ℕ = c.at-map.result.root in
    let stray = c.check_into.new.sink.stray in
    let rows : List Row = map_rows rows_form pages c.args.root in
    let good = subst (λ (o : Option Damage). MatchOption o (IsGoodMap Any rows_form pages count before root) (IsBadMap Never rows_form pages count before root)) c.in-None.is (c.in_ok-damage.ensures.decides readable) in
    let taken = subst (λ (o : Option Damage). IfNone o (Seeks (map_rows rows_form pages root) c.args.nodes.now c.check_into.new.sink.nodes.now None stray)) c.in-None.is (c.in_ok-damage.ensures.takes readable) in
    let whole : IsWholeMap rows_form pages count before c.args.root = subst (λ (r : ℕ). IsWholeMap rows_form pages count before r) c.at-map.ensures good.whole in
    let found : IsFound rows nodes stray = subst (λ (r : ℕ). IsFound (map_rows rows_form pages r) nodes stray) c.at-map.ensures taken.found in
    found-decides 0 (256 ^ 12) rows nodes (map-within rows_form pages c.args.root whole.map) (IsWholeMap rows_form pages count before c.args.root) (IsBrokenMap rows_form pages count before c.args.root) whole
    stray c.damage_of.result c.damage_of.ensures found

pub returns-in-None-clause-exact : goal.returns-in-None-clause-exact
returns-in-None-clause-exact g c readable =
    let pages = g.P.Pages.pages c.args.pages.now in
    let count = g.P.Pages.count c.args.pages.now in
    let before : ℕ → ℕ = held c.args.seen.now in
    let nodes : ℕ → ℕ = held c.args.nodes.now in
    let root : ℕ = c.at-map.result.root in
    let stray = c.check_into.new.sink.stray in
    let rows : List Row = map_rows rows_form pages c.args.root in
    let good = subst (λ (o : Option Damage). MatchOption o (IsGoodMap Any rows_form pages count before root) (IsBadMap Never rows_form pages count before root)) c.in-None.is (c.in_ok-damage.ensures.decides readable) in
    let taken = subst (λ (o : Option Damage). IfNone o (Seeks (map_rows rows_form pages root) c.args.nodes.now c.check_into.new.sink.nodes.now None stray)) c.in-None.is (c.in_ok-damage.ensures.takes readable) in
    let whole : IsWholeMap rows_form pages count before c.args.root = subst (λ (r : ℕ). IsWholeMap rows_form pages count before r) c.at-map.ensures good.whole in
    let found : IsFound rows nodes stray = subst (λ (r : ℕ). IsFound (map_rows rows_form pages r) nodes stray) c.at-map.ensures taken.found in
    found-exact 0 (256 ^ 12) rows nodes (map-within rows_form pages c.args.root whole.map) (IsWholeMap rows_form pages count before c.args.root) (IsBrokenMap rows_form pages count before c.args.root) whole
    stray c.damage_of.result c.damage_of.ensures found

pub returns-in-None-clause-gains : goal.returns-in-None-clause-gains
returns-in-None-clause-gains g c readable =
    let pages = g.P.Pages.pages c.args.pages.now in
    let seen : ℕ → ℕ = held c.check_into.new.seen in
    let gains = subst (λ (o : Option Damage). IfNone o ((n : ℕ) → seen n ≡ held c.args.seen.now n + map_uses rows_form pages c.at-map.result.root n)) c.in-None.is (c.in_ok-damage.ensures.gains readable) in
    none-any c.damage_of.result (subst (λ (r : ℕ). (n : ℕ) → seen n ≡ held c.args.seen.now n + map_uses rows_form pages r n) c.at-map.ensures gains)

pub returns-in-Some-clause-decides : goal.returns-in-Some-clause-decides
returns-in-Some-clause-decides g c readable =
    let pages = g.P.Pages.pages c.args.pages.now in
    let count = g.P.Pages.count c.args.pages.now in
    let before : ℕ → ℕ = held c.args.seen.now in
    let root : ℕ = c.at-map.result.root in
    let bad = subst (λ (o : Option Damage). MatchOption o (IsGoodMap Any rows_form pages count before root) (IsBadMap Never rows_form pages count before root)) c.in-Some.is (c.in_ok-damage.ensures.decides readable) in
    inl (subst (λ (r : ℕ). IsBrokenMap rows_form pages count before r c.in-Some.damage) c.at-map.ensures (bad-broken rows_form pages count before root c.in-Some.damage bad))

pub returns-in-Some-clause-exact : goal.returns-in-Some-clause-exact
returns-in-Some-clause-exact g c readable both =
    let pages = g.P.Pages.pages c.args.pages.now in
    let count = g.P.Pages.count c.args.pages.now in
    let before : ℕ → ℕ = held c.args.seen.now in
    let root : ℕ = c.at-map.result.root in
    let bad = subst (λ (o : Option Damage). MatchOption o (IsGoodMap Any rows_form pages count before root) (IsBadMap Never rows_form pages count before root)) c.in-Some.is (c.in_ok-damage.ensures.decides readable) in
    broken-apart rows_form pages count before c.args.root c.in-Some.damage
    (subst (λ (r : ℕ). IsBrokenMap rows_form pages count before r c.in-Some.damage) c.at-map.ensures (bad-broken rows_form pages count before root c.in-Some.damage bad)) both.0
