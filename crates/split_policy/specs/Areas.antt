-- How much area a rectangle has, and how much it gains.
use Rattle.std.specs.Prelude.{ℕ, ℤ, pos, ◌-◌, ◌-ℤ◌, List, slice_index_or}
use Rattle.spatial_base.specs.Rect.{Bounds, joined, area_of}

-- the rectangle of the point 0, 0, which stands for one that isn't there
abbrev pub origin : Bounds
origin = record { west = pos 0; south = pos 0; east = pos 0; north = pos 0 }

-- the rectangle of this number
abbrev pub rect_at : List Bounds → ℕ → Bounds
rect_at rects at = slice_index_or rects at origin

-- width times height
unfoldable pub rect_area : Bounds → ℕ
rect_area r = area_of r

-- the area that a rectangle gains by joining another (Guttman 1984, section 3.2)
unfoldable pub growth_of : Bounds → Bounds → ℕ
growth_of r add = rect_area (joined r add) - rect_area r

-- the area that two rectangles would waste in one group: that of their join less each one's own (Guttman 1984, section 3.5.2)
unfoldable pub waste_of : Bounds → Bounds → ℤ
waste_of a b = pos (rect_area (joined a b)) -ℤ pos (rect_area a) -ℤ pos (rect_area b)
