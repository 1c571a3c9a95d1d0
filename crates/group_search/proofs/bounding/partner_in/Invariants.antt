use Rattle.std.proofs.Common.{IfSome, take}
use Rattle.std.specs.List.{Contains}
use Rattle.group_search.specs.Blocks.{IsBelowPairs, block_picks}
use Rattle.group_search.proofs.bounding.partner_in.Given as goal

-- it is the best of the blocks so far
abbrev pub invariant-loop-block : goal.invariant-loop-block
invariant-loop-block l = record {
  below : IsBelowPairs l.at.scale l.best.cost l.anchor (block_picks (take l.block-index l.blocks));
  among : IfSome l.best.pick (Contains (block_picks l.blocks));
}
