use Rattle.std.proofs.Common.{List, sym, subst, arith}
use Rattle.std.specs.List.{Contains}
use Rattle.place_values.specs.declared.query.Pick.{Pick}
use Rattle.group_search.specs.Blocks.{IsBelowPairs}
use Rattle.group_search.specs.Picks.{AreNear}
use Rattle.group_search.proofs.Blocks.{below-less}
use Rattle.group_search.proofs.bounding.better_of.Goals as goal

pub returns-then-cost-known-clause-below : goal.returns-then-cost-known-clause-below
returns-then-cost-known-clause-below c =
    below-less c.args.at.now.scale c.block_cost-cost.result c.args.known.cost c.args.anchor.now c.args.block.now.picks.items (omega (arith, c.if-cost-known.true)) c.block_cost-cost.ensures.below

pub better_among-requires-clause-picks : goal.better_among-requires-clause-picks
better_among-requires-clause-picks c = subst AreNear (sym c.deref.ensures.value) c.requires.block.near

pub returns-clause-below : goal.returns-clause-below
returns-clause-below c = subst (IsBelowPairs c.args.at.now.scale c.better_among.result.cost c.args.anchor.now) c.deref.ensures.value c.better_among.ensures.below

pub returns-clause-among : goal.returns-clause-among
returns-clause-among c = λ all was each. c.better_among.ensures.among all was (λ pick one. each pick (subst (λ (l : List Pick). Contains l pick) c.deref.ensures.value one))
