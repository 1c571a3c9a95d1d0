use Rattle.std.proofs.Common.{◌<◌, ◌++◌, ◌∷◌, [], ◌∙◌, ℕ, List, length, ap, sym, subst, arith, Some}
use Rattle.std.proofs.lemmas.List.{length-map}
use Rattle.std.specs.Prelude.{OnOk}
use Rattle.std.proofs.lemmas.List.Elements.{Contains-append_left}
use Rattle.std.specs.List.{Contains}
use Rattle.page_face.specs.FreeList.{PageMap}
use Rattle.place_values.specs.declared.query.Pick.{Pick}
use Rattle.place_values.specs.declared.query.Chosen.{Chosen}
use Rattle.best_first.specs.Fits.{FitsTree, nodes_at}
use Rattle.group_search.specs.Leads.{AreLeads, Follows, led_by, IsWanted, Betters}
use Rattle.collective_query.specs.Opened.{FindsPicks}
use Rattle.collective_query.specs.TreePicks.{tree_picks, tree_lists, first_lists}
use Rattle.group_search.specs.Tried.{IsChosen}
use Rattle.group_search.proofs.Leads.{dear-follows, betters-follows, far-follows}
use Rattle.collective_query.proofs.Searches.{searches-give, searches-then}
use Rattle.std.proofs.lemmas.Result.{on_ok_weaker}
use Rattle.collective_query.proofs.following.follow.Goals as goal

pub returns-then-anchor-best-clause-followed : goal.returns-then-anchor-best-clause-followed
returns-then-anchor-best-clause-followed g c = λ fits same leads was before known has takes start.
    let tree = c.args.tree.now in
    let all : List (List Pick) = tree_lists c.args.ids.now c.args.at.now (nodes_at (g.P.Pages.pages c.args.pages.now) tree) tree.root c.args.words.now in
    (far-follows c.args.at.now all c.args.own c.args.anchor.now c.args.best.now leads.inside was c.requires.anchor_measured c.if-anchor-best.true, start)

pub returns-clause-search : goal.returns-clause-search
returns-clause-search g c =
    searches-then {X = ℕ} g.P.Pages g.met.P.Pages.goes_further g.met.P.Pages.reads_further c.args.tree.now _ _ _ _ _ (searches-give g.P.Pages c.args.tree.now _ _ _ _ 0 c.in-Ok.is c.may_anchor.ensures.search) c.try_beside.ensures.search

pub returns-then-not-may-clause-followed : goal.returns-then-not-may-clause-followed
returns-then-not-may-clause-followed g c = λ fits same leads was before known has takes start.
    let tree = c.args.tree.now in
    let ids = c.args.ids.now in
    let at = c.args.at.now in
    let words : List (List ℕ) = c.args.words.now in
    let anchor : Pick = c.args.anchor.now in
    let best : Chosen = c.args.best.now in
    let nodes = nodes_at (g.P.Pages.pages c.args.pages.now) tree in
    let all : List (List Pick) = tree_lists ids at nodes tree.root words in
    let front : List Pick = known ++ best.picks in
    let left : (pick : Pick) → Contains known pick → Contains front pick = Contains-append_left known best.picks in
    let within = leads.inside in
    let inside : c.args.own < length words = omega (arith, length-map words (tree_picks ids at nodes tree.root)) in
    (dear-follows at all c.args.own anchor best was (c.in-Ok.ensures.refused fits same inside c.if-not-may.true), c.in-Ok.ensures.opened fits before front (λ pick one. left pick (has pick one)) (left anchor takes) start)

pub returns-clause-followed : goal.returns-clause-followed
returns-clause-followed g c = λ fits same leads was before known has takes start.
    let P = g.P.Pages in
    let f = c.may_anchor.ensures.search.frame in
    let tree = c.args.tree.now in
    let ids = c.args.ids.now in
    let at = c.args.at.now in
    let own = c.args.own in
    let words : List (List ℕ) = c.args.words.now in
    let anchor : Pick = c.args.anchor.now in
    let best : Chosen = c.args.best.now in
    let new : Chosen = c.try_beside.new.best in
    let old : PageMap = P.pages c.args.pages.now in
    let mid : PageMap = P.pages c.may_anchor.new.pages in
    let between : List ℕ = P.asked c.may_anchor.new.pages in
    let after : List ℕ = P.asked c.try_beside.new.pages in
    let all : PageMap → List (List Pick) = λ p. tree_lists ids at (nodes_at p tree) tree.root words in
    let front : List Pick = known ++ best.picks in
    let left : (pick : Pick) → Contains known pick → Contains front pick = Contains-append_left known best.picks in
    let still : FitsTree mid (P.count c.may_anchor.new.pages) (P.first c.may_anchor.new.pages) tree = rw (f.pages, f.count, f.first) fits in
    let few : FindsPicks old tree ids at words before between front = c.in-Ok.ensures.opened fits before front (λ pick one. left pick (has pick one)) (left anchor takes) start in
    subst (λ (p : PageMap). OnOk c.try_beside.result (Follows at (all p) own (anchor ∷ []) best new × FindsPicks p tree ids at words before after (known ++ new.picks))) f.pages
    (on_ok_weaker c.try_beside.result
    (λ (h : Betters at (all mid) (IsWanted at anchor (Some best.cost)) (led_by own anchor (all mid)) best new × FindsPicks mid tree ids at words before after (known ++ new.picks)).
    (betters-follows at (all mid) own anchor best new (subst (λ (p : PageMap). AreLeads (all p) own (anchor ∷ [])) (sym f.pages) leads).inside (subst (λ (p : PageMap). IsChosen at (all p) best) (sym f.pages) was) h.0, h.1))
    (c.try_beside.ensures.tried still
    (same ∙ ap (λ (p : PageMap). first_lists ids at (nodes_at p tree) tree.root words) (sym f.pages))
    (subst (λ (p : PageMap). AreLeads (all p) own (anchor ∷ [])) (sym f.pages) leads)
    (subst (λ (p : PageMap). IsChosen at (all p) best) (sym f.pages) was)
    before known has takes
    (subst (λ (p : PageMap). FindsPicks p tree ids at words before between front) (sym f.pages) few)))
