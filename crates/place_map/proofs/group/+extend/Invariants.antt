use Rattle.std.proofs.Common.{◌≡◌, List, [], ◌∷◌, ◌++◌, take, length}
use Rattle.std.specs.List.{flat_map}
use Rattle.place_values.specs.declared.query.Pick.{Pick}
use Rattle.place_values.specs.Group.{product, least_by}
use Rattle.place_values.specs.Search.{lists_in, fronted}
use Rattle.place_map.specs.Prices.{price_of}
use Rattle.place_map.proofs.group.+extend.Given as goal

abbrev pub decreases-extend : goal.decreases-extend
decreases-extend l = length l.lists.now

abbrev pub invariant-loop-pick : goal.invariant-loop-pick
invariant-loop-pick l = record {
  same : l.front.items ≡ l.fn.front.items;
  least : (tried : List (List Pick)) → l.fn.best ≡ least_by (price_of l.price) tried → l.best ≡ least_by (price_of l.price) (tried ++ flat_map (λ pick. fronted (l.fn.front.items ++ pick ∷ []) (product (lists_in l.others))) (take l.pick-index l.pick-items));
}
