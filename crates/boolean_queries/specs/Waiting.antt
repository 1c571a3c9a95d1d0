-- The nodes that wait.
use Rattle.std.specs.Prelude.{List, map}
use Rattle.best_first.specs.declared.item.Item as best
use Rattle.best_first.specs.declared.item.Item.TheVariants.{Node}
use Rattle.boolean_queries.specs.declared.sorting.Waiting.{Waiting}

-- a waiting node as an item
abbrev pub item_of : Waiting → best.Item
item_of w = Node w.page w.level w.bound

-- the nodes that wait, as items
abbrev pub waits : List Waiting → List best.Item
waits waiting = map item_of waiting
