use Rattle.std.proofs.Common.{◌≡◌, ◌++◌, ◌∙◌, ℕ, List, Vec, Global, sym, subst, ⊎_elim}
use Rattle.std.proofs.lemmas.List.Elements.{Contains-append_cases}
use Rattle.std.proofs.lemmas.Result.{IfOk-weaker}
use Rattle.std.specs.List.{Contains}
use Rattle.page_face.specs.FreeList.{PageMap}
use Rattle.place_values.specs.declared.query.Pick.{Pick}
use Rattle.rtree_nodes.specs.Slots.{NodeMap}
use Rattle.best_first.specs.Fits.{nodes_at}
use Rattle.group_search.specs.Choices.{IsWithin, IsInBoth, IsCut}
use Rattle.collective_query.specs.Opened.{FindsPicks}
use Rattle.group_search.specs.Picks.{GoesBeyond}
use Rattle.collective_query.specs.TreePicks.{tree_picks, near_picks, first_picks}
use Rattle.group_search.proofs.Cuts.{cut-wider}
use Rattle.collective_query.proofs.Firsts.{first-cut}
use Rattle.collective_query.proofs.Opened.{finds-fewer, finds-then}
use Rattle.collective_query.proofs.TreePicks.{near-cut}
use Rattle.collective_query.proofs.candidates.candidates.Goals as goal

pub returns-in-Ok-clause-cut : goal.returns-in-Ok-clause-cut
returns-in-Ok-clause-cut g c = λ fits same.
    let tree = c.args.tree.now in
    let ids = c.args.ids.now in
    let at = c.args.at.now in
    let most = c.args.most in
    let word : List ℕ = c.args.word.now in
    let nodes : NodeMap = nodes_at (g.P.Pages.pages c.args.pages.now) tree in
    let all : List Pick = tree_picks ids at nodes tree.root word in
    let both : Pick → Type 0 = IsInBoth at most c.args.centre.now c.args.radius in
    let beyond : GoesBeyond 5 most (first_picks ids at at nodes tree.root word) = subst (GoesBeyond 5 most) same (c.reaches.ensures c.if-reaches.true) in
    subst (IsCut both all) (sym (c.in-Ok.ensures.items ∙ same))
    (cut-wider (IsWithin at most) both all (first_picks ids at at nodes tree.root word) (λ pick h. h.0) (first-cut ids at nodes tree.root word most beyond))

pub returns-in-Ok-clause-opened : goal.returns-in-Ok-clause-opened
returns-in-Ok-clause-opened g c = λ fits words among before found has so_far.
    finds-fewer (g.P.Pages.pages c.args.pages.now) c.args.tree.now c.args.ids.now c.args.at.now words before (g.P.Pages.asked c.args.pages.now) found (found ++ c.in-Ok.picks.items)
    (λ pick one. ⊎_elim
    (λ (first : Contains found pick). first)
    (λ (here : Contains c.in-Ok.picks.items pick). has pick (subst (λ (picks : List Pick). Contains picks pick) c.in-Ok.ensures.items here))
    (Contains-append_cases found c.in-Ok.picks.items pick one)) so_far

pub returns-clause-cut : goal.returns-clause-cut
returns-clause-cut g c = λ fits same.
    let tree = c.args.tree.now in
    let ids = c.args.ids.now in
    let at = c.args.at.now in
    let centre = c.args.centre.now in
    let radius = c.args.radius in
    let word : List ℕ = c.args.word.now in
    let nodes : NodeMap = nodes_at (g.P.Pages.pages c.args.pages.now) tree in
    let all : List Pick = tree_picks ids at nodes tree.root word in
    let near : List Pick = near_picks ids at centre radius nodes tree.root word in
    let both : Pick → Type 0 = IsInBoth at c.args.most centre radius in
    IfOk-weaker c.near_with.result (λ (picks : Vec Pick Global). picks.items ≡ near) (λ (picks : Vec Pick Global). IsCut both all picks.items)
    (λ picks is. subst (IsCut both all) (sym is) (cut-wider (IsWithin centre radius) both all near (λ pick h. h.1) (near-cut ids at word nodes tree.root centre radius))) (c.near_with.ensures.picks fits)

pub returns-clause-opened : goal.returns-clause-opened
returns-clause-opened g c = λ fits words among before found has so_far.
    let P = g.P.Pages in
    let pages : PageMap = P.pages c.args.pages.now in
    let tree = c.args.tree.now in
    let ids = c.args.ids.now in
    let at = c.args.at.now in
    let mid : List ℕ = P.asked c.args.pages.now in
    let new : List ℕ = P.asked c.near_with.new.pages in
    IfOk-weaker c.near_with.result (λ (picks : Vec Pick Global). FindsPicks pages tree ids at words mid new picks.items) (λ (picks : Vec Pick Global). FindsPicks pages tree ids at words before new (found ++ picks.items))
    (λ picks more. finds-then pages tree ids at words before mid new found picks.items so_far more) (c.near_with.ensures.opened fits words among)
