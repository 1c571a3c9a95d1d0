use Rattle.std.proofs.Common.{◌≤◌, IfSome, take}
use Rattle.std.specs.List.{Contains}
use Rattle.group_search.specs.Blocks.{packed_lists}
use Rattle.group_search.specs.Leads.{AreLeads, AreBounds, Follows, lead_picks}
use Rattle.group_search.specs.Tried.{IsChosen}
use Rattle.group_search.proofs.leading.follow_bounded.Given as goal

-- the leads so far were followed, the last of them among them
abbrev pub invariant-loop-lead : goal.invariant-loop-lead
invariant-loop-lead l = record {
  followed : AreLeads (packed_lists l.packs) l.own (lead_picks l.leads) → AreBounds l.at (packed_lists l.packs) l.own l.leads → IsChosen l.at (packed_lists l.packs) l.fn.best
      → Follows l.at (packed_lists l.packs) l.own (lead_picks (take l.lead-index l.leads)) l.fn.best l.best;
  last : IfSome l.last (Contains (lead_picks (take l.lead-index l.leads)));
  cost : l.best.cost ≤ l.fn.best.cost;
}
