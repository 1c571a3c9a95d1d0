use Rattle.std.proofs.Common.{◌≤◌, ◌+◌, ℕ, ap, subst}
use Rattle.spatial_base.specs.Point.{seen_from, distance}
use Rattle.group_search.specs.declared.packing.Block.{Block}
use Rattle.group_search.proofs.Blocks.{block-below}
use Rattle.group_search.proofs.bounding.block_cost.Goals as goal

pub returns-clause-below : goal.returns-clause-below
returns-clause-below c =
    let at = c.args.at.now in
    let anchor = c.args.anchor.now in
    let block : Block = c.args.block.now in
    let h = c.requires.block in
    block-below at anchor block.bounds block.nearest c.mindist.result (c.max.result + c.mindist.result) block.picks.items h.held h.lowest
    (λ q holds. subst (λ (scale : ℕ). c.mindist.result ≤ distance (seen_from anchor.point scale) q) c.scale.ensures.value (c.mindist.ensures.below q holds))
    (ap (λ n. n + c.mindist.result) c.max.ensures)
