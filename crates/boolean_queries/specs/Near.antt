-- What a node's slots give to a query.
use Rattle.std.specs.Prelude.{ℕ, zero, suc, Bool, false, ◌==◌, ◌&&◌, nat_lt, map, if◌then◌else◌, List, [], ◌∷◌, ◌++◌, Option, Some, None}
use Rattle.std.specs.List.{flat_map}
use Rattle.std.specs.Int.{bit_at}
use Rattle.rtree_nodes.specs.Slots.{Item, Slots}
use Rattle.best_first.specs.declared.item.Item as best
use Rattle.best_first.specs.declared.item.Item.TheVariants.{Node, Place}
use Rattle.node_filter.specs.Entries.{point_of, rect_of_item, name_of}
use Rattle.boolean_queries.specs.declared.region.Region.{Region}
use Rattle.boolean_queries.specs.declared.near.Near.{Near}
use Rattle.boolean_queries.specs.Regions.{meets, has_point, hit_in}

-- the lists of the first n, in order
unfoldable pub in_order : {X : Type 0} → ℕ → (ℕ → List X) → List X
in_order zero f = []
in_order (suc n) f = in_order n f ++ f n

-- f of what is there, or nothing
abbrev pub listed : {X : Type 0} → (Item → List X) → Option Item → List X
listed f None = []
listed f (Some x) = f x

-- an item in a node of this level may have a place in the region: it is one, or its rectangle meets it
abbrev pub touches : Region → ℕ → Item → Bool
touches region zero x = has_point region (point_of x)
touches region (suc level) x = meets region (rect_of_item x)

-- what it gives: the hit of a place, or the child's page
abbrev pub given : Region → ℕ → Item → best.Item
given region zero x = Place (hit_in region (point_of x) (name_of x))
given region (suc level) x = Node x.to level 0

-- what it gives, if it touches the region
abbrev pub near_item : Region → ℕ → Item → List best.Item
near_item region level x = if touches region level x then given region level x ∷ [] else []

-- a slot holds an item that touches the region
abbrev pub is_near : Region → ℕ → Option Item → Bool
is_near region level None = false
is_near region level (Some x) = touches region level x

-- an item that may be missing
abbrev pub alone_in : Option best.Item → List best.Item
alone_in None = []
alone_in (Some item) = item ∷ []

-- an item with its slot's number
abbrev pub numbered : ℕ → best.Item → Near
numbered at item = record { slot = at; item = item }

-- what a slot gives, with its number
abbrev pub near_slot : Region → ℕ → Slots → ℕ → List Near
near_slot region level slots at = map (numbered at) (listed (near_item region level) (slots at))

-- what the slots of a node give, slot by slot
abbrev pub nears : Region → ℕ → Slots → List Near
nears region level slots = in_order 32 (near_slot region level slots)

-- the item, if its slot's bit is set
abbrev pub kept_one : ℕ → Near → List best.Item
kept_one mask near = if nat_lt near.slot 32 && (bit_at mask near.slot == 1) then near.item ∷ [] else []

-- the items of the slots in a mask
abbrev pub kept : ℕ → List Near → List best.Item
kept mask near = flat_map (kept_one mask) near
