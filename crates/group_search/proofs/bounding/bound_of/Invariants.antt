use Rattle.std.proofs.Common.{◌∷◌, [], take}
use Rattle.group_search.specs.Blocks.{packed_lists}
use Rattle.group_search.specs.Choices.{IsChoice}
use Rattle.group_search.specs.Leads.{led_by, AreLeads, IsBound}
use Rattle.group_search.proofs.bounding.bound_of.Given as goal

-- no choice costs less than the words so far let it, and they have partners
abbrev pub invariant-loop-index : goal.invariant-loop-index
invariant-loop-index l = record {
  bound : AreLeads (packed_lists l.packs) l.own (l.anchor ∷ []) → IsBound l.at (packed_lists l.packs) l.own l.least l.anchor;
  picks : IsChoice (take l.index (led_by l.own l.anchor (packed_lists l.packs))) l.picks.items;
}
