use Rattle.std.proofs.Common.{◌≡◌, ◌++◌, length}
use Rattle.std.specs.List.{AllByRecursion}
use Rattle.spatial_base.specs.Point.{Viewpoint}
use Rattle.group_search.specs.Blocks.{IsBlock, block_picks}
use Rattle.group_search.specs.Picks.{AreNear, AreMeasured}
use Rattle.group_search.proofs.packing.cut_to_blocks.Given as goal

-- the blocks so far have the picks before the rest
abbrev pub invariant-loop-first : goal.invariant-loop-first
invariant-loop-first l = record {
  picks : block_picks l.blocks.items ++ l.rest ≡ l.fn.picks;
  blocks : (at : Viewpoint) → AreMeasured at l.fn.picks → AllByRecursion (IsBlock at) l.blocks.items;
  near : AreNear l.rest;
}

abbrev pub decreases-loop-first : goal.decreases-loop-first
decreases-loop-first l = length l.rest
