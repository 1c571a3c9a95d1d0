use Rattle.std.proofs.Common.{Vec, Global, take}
use Rattle.std.specs.List.{AllByRecursion}
use Rattle.place_values.specs.declared.query.Pick.{Pick}
use Rattle.place_values.specs.Search.{lists_in}
use Rattle.group_search.specs.Blocks.{packed_lists}
use Rattle.group_search.specs.Choices.{AreCut}
use Rattle.group_search.specs.Leads.{led_by, IsPaired}
use Rattle.group_search.specs.Picks.{AreNear, AreMeasured}
use Rattle.group_search.proofs.leading.gather_paired.Given as goal

-- the lists of the words so far are cut
abbrev pub invariant-loop-index : goal.invariant-loop-index
invariant-loop-index l = record {
  cut : AreCut (IsPaired l.at l.anchor l.most) (take l.index (led_by l.own l.anchor (packed_lists l.packs))) (lists_in l.lists.items);
  near : AllByRecursion (λ (list : Vec Pick Global). AreNear list.items) l.lists.items;
  measured : AllByRecursion (λ (list : Vec Pick Global). AreMeasured l.at list.items) l.lists.items;
}
