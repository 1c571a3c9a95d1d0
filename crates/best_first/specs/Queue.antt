-- The nodes that wait, least bound first.
use Rattle.std.specs.Prelude.{◌≤◌, List, ◌∷◌, map, IsPermutation}
use Rattle.std.specs.List.{AllByRecursion}
use Rattle.std.specs.declared.cmp.Reverse.{Reverse}
use Rattle.best_first.specs.declared.item.Item.{Item}
use Rattle.best_first.specs.declared.item.Item.TheVariants.{Node}
use Rattle.best_first.specs.declared.queue.Waiting.{Waiting}
use Rattle.best_first.specs.Items.{bound_of}

-- a waiting node as an item
abbrev pub item_of : Waiting → Item
item_of w = Node w.page w.level w.bound

-- the nodes that a heap holds, the least one on top
abbrev pub waiting : List (Reverse Waiting) → List Item
waiting heap = map (λ (r : Reverse Waiting). item_of r.0) heap

-- one item goes out, and none of the rest has a lesser bound
pub record IsNext (item : Item) (rest old : List Item) : Type 0 where
  pub members : IsPermutation old (item ∷ rest)
  pub least : AllByRecursion (λ (i : Item). bound_of item ≤ bound_of i) rest
