use Rattle.std.proofs.Common.{take}
use Rattle.place_values.specs.Search.{lists_in}
use Rattle.group_search.specs.Choices.{IsChoice}
use Rattle.collective_query.proofs.query.firsts.Given as goal

-- the first picks of the lists so far
abbrev pub invariant-loop-list : goal.invariant-loop-list
invariant-loop-list l = IsChoice (lists_in (take l.list-index l.lists)) l.picks.items
