use Rattle.std.proofs.Common.{◌≡◌, ◌≤◌, ◌++◌, ◌∙◌, ℕ, List, Vec, Global, None, ap, sym, subst, arith}
use Rattle.std.proofs.lemmas.Result.{IfOk-weaker}
use Rattle.page_face.specs.FreeList.{PageMap}
use Rattle.spatial_base.specs.Point.{Viewpoint, seen_from, distance}
use Rattle.place_values.specs.declared.query.Pick.{Pick}
use Rattle.rtree_nodes.specs.Slots.{NodeMap}
use Rattle.best_first.specs.Fits.{nodes_at}
use Rattle.group_search.specs.Choices.{IsInBoth, IsCut}
use Rattle.group_search.specs.Leads.{IsBeside, IsWanted}
use Rattle.collective_query.specs.Opened.{FindsPicks}
use Rattle.collective_query.specs.TreePicks.{tree_picks, first_picks}
use Rattle.group_search.proofs.Cuts.{cut-wider}
use Rattle.collective_query.proofs.Firsts.{first-among}
use Rattle.collective_query.proofs.Opened.{finds-then}
use Rattle.collective_query.proofs.gathering.companions.Goals as goal

pub returns-in-Some-clause-cut : goal.returns-in-Some-clause-cut
returns-in-Some-clause-cut g c = λ fits same.
    let tree = c.args.tree.now in
    let ids = c.args.ids.now in
    let at = c.args.at.now in
    let anchor : Pick = c.args.anchor.now in
    let most = c.in-Some.most in
    let radius = c.saturating_sub-radius.result in
    let word : List ℕ = c.args.word.now in
    let all : List Pick = tree_picks ids at (nodes_at (g.P.Pages.pages c.args.pages.now) tree) tree.root word in
    let centre : Viewpoint = c.at-centre.result in
    let centre_is : centre ≡ seen_from anchor.point at.scale = c.at-centre.ensures ∙ ap (seen_from anchor.point) c.scale-scale.ensures.value in
    let both : Pick → Type 0 = IsInBoth at most centre radius in
    let beside : Pick → Type 0 = IsBeside at anchor most in
    let wider : (pick : Pick) → beside pick → both pick = λ pick h.
    (h.0, subst (λ (from : Viewpoint). distance from pick.point ≤ radius) (sym centre_is) (let near = h.1 in let left = c.saturating_sub-radius.ensures in let far = c.requires.anchor_measured in omega arith)) in
    rw (c.if-is_own.false, c.in-Some.is)
    (IfOk-weaker c.candidates.result (λ (picks : Vec Pick Global). IsCut both all picks.items) (λ (picks : Vec Pick Global). IsCut beside all picks.items)
    (λ picks is. cut-wider both beside all picks.items wider is) (c.candidates.ensures.cut fits same))

pub returns-in-None-clause-cut : goal.returns-in-None-clause-cut
returns-in-None-clause-cut g c = λ fits same.
    let tree = c.args.tree.now in
    let ids = c.args.ids.now in
    let at = c.args.at.now in
    let anchor : Pick = c.args.anchor.now in
    let word : List ℕ = c.args.word.now in
    let nodes : NodeMap = nodes_at (g.P.Pages.pages c.args.pages.now) tree in
    let all : List Pick = tree_picks ids at nodes tree.root word in
    let centre : Viewpoint = c.at-centre.result in
    let firsts : List Pick = first_picks ids at centre nodes tree.root word in
    let wanted : Pick → Type 0 = IsWanted at anchor None in
    let cut : IsCut wanted all firsts = record { among = first-among ids at centre nodes tree.root word; whole = λ pick one none. absurd none } in
    rw (c.if-is_own.false, c.in-None.is)
    (IfOk-weaker c.nearest_picks.result (λ (picks : Vec Pick Global). picks.items ≡ firsts) (λ (picks : Vec Pick Global). IsCut wanted all picks.items)
    (λ picks is. subst (IsCut wanted all) (sym is) cut) (c.nearest_picks.ensures.picks fits))

pub returns-in-None-clause-opened : goal.returns-in-None-clause-opened
returns-in-None-clause-opened g c = λ fits words among before found has takes so_far.
    let P = g.P.Pages in
    let pages : PageMap = P.pages c.args.pages.now in
    let tree = c.args.tree.now in
    let ids = c.args.ids.now in
    let at = c.args.at.now in
    let mid : List ℕ = P.asked c.args.pages.now in
    let new : List ℕ = P.asked c.nearest_picks.new.pages in
    IfOk-weaker c.nearest_picks.result (λ (picks : Vec Pick Global). FindsPicks pages tree ids at words mid new picks.items) (λ (picks : Vec Pick Global). FindsPicks pages tree ids at words before new (found ++ picks.items))
    (λ picks more. finds-then pages tree ids at words before mid new found picks.items so_far more) (c.nearest_picks.ensures.opened fits words among)
