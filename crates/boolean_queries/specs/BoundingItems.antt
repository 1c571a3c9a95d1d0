-- What goes round places.
use Rattle.std.specs.Prelude.{ℕ, max, List, [], ◌∷◌}
use Rattle.rtree_nodes.specs.Slots.{Item, NodeMap}
use Rattle.node_filter.specs.Entries.{node_places}

-- how far the farthest of some places reaches to a side, or the greatest impact of a word among them; 0 where there is none
abbrev pub farthest : ℕ → List Item → ℕ
farthest d [] = 0
farthest d (x ∷ xs) = max (x.reach d) (farthest d xs)

-- an item that reaches so far
abbrev pub reaching : (ℕ → ℕ) → Item
reaching reach = record { reach = reach; to = 0; key = [] }

-- What goes round places: its rectangle is the least one round them, and each word's impact is the greatest among them.
abbrev pub bounding_item : List Item → Item
bounding_item places = reaching (λ d. farthest d places)

-- what goes round the places below the node at a page
abbrev pub bounding_item_at : NodeMap → ℕ → Item
bounding_item_at nodes page = bounding_item (node_places nodes (nodes page).level page)
