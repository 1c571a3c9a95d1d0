use Rattle.std.proofs.Common.{Vec, Global, take}
use Rattle.std.specs.List.{AllByRecursion}
use Rattle.place_values.specs.declared.query.Pick.{Pick}
use Rattle.group_search.specs.Picks.{GoesBeyond}
use Rattle.collective_query.proofs.anchoring.lead_among.Given as goal

-- the lists so far have all picks that are so near
abbrev pub invariant-loop-list : goal.invariant-loop-list
invariant-loop-list l = AllByRecursion (λ (list : Vec Pick Global). GoesBeyond 5 l.most list.items) (take l.list-index l.nearest)
