use Rattle.std.proofs.Common.{◌≡◌, ◌≤◌, take}
use Rattle.group_search.specs.Blocks.{packed_lists}
use Rattle.group_search.specs.Leads.{AreLeads, AreBounds, lead_picks}
use Rattle.group_search.specs.Tried.{IsChosen, IsBetter}
use Rattle.group_search.proofs.bounding.bounded.Given as goal

-- so it is with the leads so far
abbrev pub invariant-loop-pick : goal.invariant-loop-pick
invariant-loop-pick l = record {
  leads : lead_picks l.likely.items ≡ take l.pick-index l.leads;
  bounds : AreLeads (packed_lists l.packs) l.own l.leads → AreBounds l.at (packed_lists l.packs) l.own l.likely.items;
  better : AreLeads (packed_lists l.packs) l.own l.leads → IsChosen l.at (packed_lists l.packs) l.fn.best → IsBetter l.at (packed_lists l.packs) l.fn.best l.best;
  cost : l.best.cost ≤ l.fn.best.cost;
}
