use Rattle.std.proofs.Common.{◌≡◌, take}
use Rattle.std.specs.List.{filter}
use Rattle.group_search.specs.Blocks.{block_picks}
use Rattle.group_search.specs.Joins.{may_join}
use Rattle.group_search.proofs.leading.paired.Given as goal

-- those of the blocks so far that may join are there
abbrev pub invariant-loop-block : goal.invariant-loop-block
invariant-loop-block l = l.near.items ≡ filter (may_join l.at.scale l.most l.anchor) (block_picks (take l.block-index l.blocks))
