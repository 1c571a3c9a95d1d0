use Rattle.std.proofs.Common.{◌≡◌, ◌∙◌, ap, sym}
use Rattle.spatial_base.specs.Rect.{Bounds, mindist_of}
use Rattle.rtree_nodes.specs.Reach.{child_item}
use Rattle.node_filter.specs.Entries.{rect_of_item}
use Rattle.best_first.specs.Asks.{cost_by}
use Rattle.best_first.proofs.Sides.{child-rect}
use Rattle.best_first.proofs.gathering.bound_at.Goals as goal

pub returns : goal.returns
returns c =
    let back : rect_of_item (child_item c.args.rect.now c.args.page) ≡ c.args.rect.now = child-rect c.args.rect.now c.args.page c.west-west.ensures.valid in
    let far : c.mindist.result ≡ mindist_of (rect_of_item (child_item c.args.rect.now c.args.page)) c.args.from.now =
    c.mindist.ensures.value ∙ ap (λ (r : Bounds). mindist_of r c.args.from.now) (sym back) in
    c.cost.ensures ∙ ap (λ d. cost_by c.args.ask.now d c.args.text) far
