-- How far rectangles go to each side, and what stands in a slot as an item.
use Rattle.std.specs.Prelude.{ℕ, ℤ, zero, suc, pos, ◌+ℤ◌, ◌-ℤ◌, unsigned_abs, List, [], Bool, true, false, Option, Some, None}
use Rattle.std.specs.Int.{int_max}
use Rattle.spatial_base.specs.Key.{form_of}
use Rattle.spatial_base.specs.Point.{Position}
use Rattle.spatial_base.specs.Rect.{Bounds, rect_of, joined}
use Rattle.rtree_nodes.specs.Slots.{Item}
use Rattle.rtree_nodes.specs.declared.content.Slot.{Slot}
use Rattle.rtree_nodes.specs.declared.content.Slot.TheVariants.{Place, Child}

-- how far a number is below 2^31; 0 where it isn't
abbrev pub below_top : ℤ → ℕ
below_top z = unsigned_abs (int_max (pos 2147483648 -ℤ z) (pos 0))

-- how far a number is above -2^31; 0 where it isn't
abbrev pub above_bottom : ℤ → ℕ
above_bottom z = unsigned_abs (int_max (pos 2147483648 +ℤ z) (pos 0))

-- How far a rectangle goes to each side, as a number that grows with it: side 0 is 2^31 - west, 1 is 2^31 - south, 2 is 2^31 + east, 3 is 2^31 + north; every other is 0.
abbrev pub reach_of : Bounds → ℕ → ℕ
reach_of r zero = below_top r.west
reach_of r (suc zero) = below_top r.south
reach_of r (suc (suc zero)) = above_bottom r.east
reach_of r (suc (suc (suc zero))) = above_bottom r.north
reach_of r (suc (suc (suc (suc side)))) = 0

-- a place: its point's rectangle, and the 66 bytes of its key
abbrev pub place_item : Position → List ℕ → Item
place_item point key = record { reach = reach_of (rect_of point); to = 0; key = key }

-- a child: its rectangle and its page
abbrev pub child_item : Bounds → ℕ → Item
child_item rect page = record { reach = reach_of rect; to = page; key = [] }

-- what stands in a slot, as an item
abbrev pub item_of : Slot → Item
item_of (Place point key) = place_item point (form_of key)
item_of (Child rect page) = child_item rect page

-- the rectangle of what stands in a slot
abbrev pub rect_in : Slot → Bounds
rect_in (Place point key) = rect_of point
rect_in (Child rect page) = rect

-- a leaf's slot holds a place, an inner node's a child
abbrev pub is_place : Slot → Bool
is_place (Place point key) = true
is_place (Child rect page) = false

-- the point 0 0
abbrev pub origin : Position
origin = record { x = pos 0; y = pos 0 }

-- the rectangle of the point 0 0
abbrev pub origin_rect : Bounds
origin_rect = rect_of origin

-- the least rectangle round two, where there are two
abbrev pub joined_both : Option Bounds → Option Bounds → Option Bounds
joined_both (Some a) (Some b) = Some (joined a b)
joined_both (Some a) None = Some a
joined_both None b = b
