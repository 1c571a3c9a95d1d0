-- The entries of a tree as a list, and where an item stands.
use Rattle.std.specs.Prelude.{ℕ, zero, suc, pos, ◌-ℤ◌, ℤ, List, []}
use Rattle.spatial_base.specs.Key.{Name, name_in}
use Rattle.spatial_base.specs.Point.{Position}
use Rattle.spatial_base.specs.Rect.{Bounds}
use Rattle.rtree_nodes.specs.Slots.{Item, NodeMap, gather, opt_list}
use Rattle.rtree_nodes.specs.Trees.{places}
use Rattle.irtree_shape.specs.Whole.{level_at}

-- the entries below the node of this level at a page
abbrev pub node_places : NodeMap → ℕ → ℕ → List Item
node_places nodes level page = gather 32 (λ i. opt_list (λ y. places nodes level y) ((nodes page).slots i))

-- the entries of the tree at a root; the empty tree, of root 0, has none
abbrev pub tree_places : NodeMap → ℕ → List Item
tree_places nodes zero = []
tree_places nodes (suc m) = node_places nodes (level_at nodes (suc m)) (suc m)

-- the least coordinate of an item that reaches so far to the west or south
abbrev pub least_at : ℕ → ℤ
least_at reach = pos 2147483648 -ℤ pos reach

-- the greatest coordinate of an item that reaches so far to the east or north
abbrev pub greatest_at : ℕ → ℤ
greatest_at reach = pos reach -ℤ pos 2147483648

-- where a place's item stands
abbrev pub point_of : Item → Position
point_of x = record { x = least_at (x.reach 0); y = least_at (x.reach 1) }

-- the rectangle that an item goes to
abbrev pub rect_of_item : Item → Bounds
rect_of_item x = record { west = least_at (x.reach 0); south = least_at (x.reach 1); east = greatest_at (x.reach 2); north = greatest_at (x.reach 3) }

-- the key of a place's item
abbrev pub name_of : Item → Name
name_of x = name_in x.key
