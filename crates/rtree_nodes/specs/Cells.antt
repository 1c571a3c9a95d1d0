-- The bytes of a slot: a place's in a leaf, a child's in an inner node.
use Rattle.std.specs.Prelude.{ℕ, ◌<◌, zero, suc, ◌+◌, ◌*◌, ◌^◌, Bool, ◌&&◌, nat_lt, nat_le, int_le, unsigned_abs, ℤ, List, ◌++◌, take, drop, length}
use Rattle.std.specs.Str.{is_utf8, bytes_eq}
use Rattle.spatial_base.specs.Key.{Name, Text, Auto, IsName, form_of, name_in}
use Rattle.spatial_base.specs.Point.{Position, IsOnMap}
use Rattle.spatial_base.specs.Rect.{Bounds, IsRect, rect_of}
use Rattle.rtree_nodes.specs.Slots.{Item}
use Rattle.std.specs.Int.{w32, to_be_bytes}
use Rattle.rtree_nodes.specs.declared.content.Slot.{Slot}
use Rattle.rtree_nodes.specs.declared.content.Slot.TheVariants.{Place, Child}
use Rattle.rtree_nodes.specs.Numbers.{number_at, int_at, int_bytes}
use Rattle.rtree_nodes.specs.Reach.{place_item, child_item}

-- how many bytes a slot has, by the node's level
abbrev pub cell_width : ℕ → ℕ
cell_width zero = 74
cell_width (suc level) = 20

-- where a slot begins
abbrev pub cell_start : ℕ → ℕ → ℕ
cell_start level at = 16 + cell_width level * at

-- a point on the map, as a test
abbrev pub is_on_map : ℤ → ℤ → Bool
is_on_map x y = nat_le (unsigned_abs x) 1800000000 && nat_le (unsigned_abs y) 900000000

-- a rectangle of the map, as a test
abbrev pub is_rect : Bounds → Bool
is_rect r = is_on_map r.west r.south && is_on_map r.east r.north && int_le r.west r.east && int_le r.south r.north

-- what may be a key, as a test
abbrev pub is_name : Name → Bool
is_name (Text bytes) = nat_lt 0 (length bytes) && nat_le (length bytes) 64 && is_utf8 bytes
is_name (Auto serial) = nat_lt serial (2 ^ 64)

-- these bytes are a key's, as a test
unfoldable pub is_key_form : List ℕ → Bool
is_key_form bytes = is_name (name_in bytes) && bytes_eq (form_of (name_in bytes)) bytes

-- the point in a leaf's slot: longitude and latitude
abbrev pub point_of : List ℕ → Position
point_of cell = record { x = int_at 0 cell; y = int_at 4 cell }

-- the 66 bytes of the key behind it
abbrev pub key_of : List ℕ → List ℕ
key_of cell = take 66 (drop 8 cell)

-- the rectangle in an inner node's slot: west, south, east, north
abbrev pub rect_at : List ℕ → Bounds
rect_at cell = record { west = int_at 0 cell; south = int_at 4 cell; east = int_at 8 cell; north = int_at 12 cell }

-- the child's page behind it
abbrev pub child_of : List ℕ → ℕ
child_of cell = number_at 16 cell

-- the rectangle of what stands in a slot of these bytes
abbrev pub rect_of_cell : ℕ → List ℕ → Bounds
rect_of_cell zero cell = rect_of (point_of cell)
rect_of_cell (suc level) cell = rect_at cell

-- what stands in a slot of these bytes
abbrev pub item_in : ℕ → List ℕ → Item
item_in zero cell = place_item (point_of cell) (key_of cell)
item_in (suc level) cell = child_item (rect_at cell) (child_of cell)

-- the point or rectangle of these bytes is one of the map
abbrev pub has_rect : ℕ → List ℕ → Bool
has_rect zero cell = is_on_map (int_at 0 cell) (int_at 4 cell)
has_rect (suc level) cell = is_rect (rect_at cell)

-- these bytes are of the form of a used slot
abbrev pub has_form : ℕ → List ℕ → Bool
has_form zero cell = is_on_map (int_at 0 cell) (int_at 4 cell) && is_key_form (key_of cell)
has_form (suc level) cell = is_rect (rect_at cell)

-- the bytes of a place: its longitude, its latitude and its key's form
unfoldable pub place_cell : Position → Name → List ℕ
place_cell point key = int_bytes point.x ++ (int_bytes point.y ++ form_of key)

-- the bytes of a child: its rectangle's west, south, east and north, and its page
unfoldable pub child_cell : Bounds → ℕ → List ℕ
child_cell rect page = int_bytes rect.west ++ (int_bytes rect.south ++ (int_bytes rect.east ++ (int_bytes rect.north ++ to_be_bytes w32 page)))

-- the bytes of what stands in a slot
abbrev pub cell_of : Slot → List ℕ
cell_of (Place point key) = place_cell point key
cell_of (Child rect page) = child_cell rect page

-- where slot i begins in a node that holds such slots
abbrev pub start_for : Slot → ℕ → ℕ
start_for (Place point key) i = cell_start 0 i
start_for (Child rect page) i = cell_start 1 i

-- what the types of its parts say: a point on the map and a key, or a rectangle of the map and a page of a u32
abbrev pub IsValid : Slot → Type 0
IsValid (Place point key) = IsOnMap point.x point.y × IsName key
IsValid (Child rect page) = IsRect rect.west rect.south rect.east rect.north × (page < 2 ^ 32)
