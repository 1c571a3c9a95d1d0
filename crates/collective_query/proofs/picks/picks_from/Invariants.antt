use Rattle.std.proofs.Common.{◌≡◌, map, take}
use Rattle.group_search.specs.Picks.{AreNear, AreMeasured}
use Rattle.collective_query.specs.TreePicks.{pick_from}
use Rattle.collective_query.proofs.picks.picks_from.Given as goal

-- the picks so far are made
abbrev pub invariant-loop-hit : goal.invariant-loop-hit
invariant-loop-hit l = record {
  picks : l.picks.items ≡ map (pick_from l.at l.word) (take l.hit-index l.hits);
  near : AreNear l.picks.items;
  measured : AreMeasured l.at l.picks.items;
}
