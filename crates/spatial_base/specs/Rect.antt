-- Rectangles, what they hold, and how far they are from a point.
use Rattle.std.specs.Prelude.{ℕ, ℤ, ◌*◌, ◌≤ℤ◌, ◌&&◌, Bool, int_le, min}
use Rattle.std.specs.Int.{int_min, int_max}
use Rattle.spatial_base.specs.Point.{Position, IsOnMap, Viewpoint, gap, longitude_gap, line_of}

-- the least and the greatest longitude and latitude of a rectangle, in degrees times 10^7
pub record Bounds : Type 0 where
  pub west : ℤ
  pub south : ℤ
  pub east : ℤ
  pub north : ℤ

-- two corners on the map, the second neither west nor south of the first
abbrev pub IsRect : ℤ → ℤ → ℤ → ℤ → Type 0
IsRect west south east north = IsOnMap west south × IsOnMap east north × (west ≤ℤ east) × (south ≤ℤ north)

-- the point is in the rectangle or on its border
pub record Holds (r : Bounds) (p : Position) : Type 0 where
  pub west : r.west ≤ℤ p.x
  pub east : p.x ≤ℤ r.east
  pub south : r.south ≤ℤ p.y
  pub north : p.y ≤ℤ r.north

-- a number within a range, as a test
abbrev pub is_in_range : ℤ → ℤ → ℤ → Bool
is_in_range low high a = int_le low a && int_le a high

-- the rectangle holds the point, as a test
abbrev pub holds_point : Bounds → Position → Bool
holds_point r p = is_in_range r.west r.east p.x && is_in_range r.south r.north p.y

-- the first rectangle covers the second
pub record Covers (outer inner : Bounds) : Type 0 where
  pub west : outer.west ≤ℤ inner.west
  pub east : inner.east ≤ℤ outer.east
  pub south : outer.south ≤ℤ inner.south
  pub north : inner.north ≤ℤ outer.north

-- the rectangle of one point
abbrev pub rect_of : Position → Bounds
rect_of p = record { west = p.x; south = p.y; east = p.x; north = p.y }

-- the minimum bounding rectangle of two (Guttman 1984)
abbrev pub joined : Bounds → Bounds → Bounds
joined a b = record {
  west = int_min a.west b.west;
  south = int_min a.south b.south;
  east = int_max a.east b.east;
  north = int_max a.north b.north;
}

-- width times height
abbrev pub area_of : Bounds → ℕ
area_of r = gap r.west r.east * gap r.south r.north

-- the number of a range that is nearest to one
abbrev pub clamped : ℤ → ℤ → ℤ → ℤ
clamped low high a = int_max (int_min a high) low

-- How far a longitude is from a range of longitudes, on the circle: straight to the range, or to one of its ends by the shorter way
-- round, whichever is least. So it is 0 inside, and else the lesser of the ways to the two ends.
abbrev pub longitude_gap_to : ℤ → ℤ → ℤ → ℕ
longitude_gap_to west east a = min (gap a (clamped west east a)) (min (longitude_gap a west) (longitude_gap a east))

-- MINDIST (Roussopoulos, Kelley and Vincent 1995, definition 2; there it is squared, on a plane): the least distance to a point of the
-- rectangle
abbrev pub mindist_of : Bounds → Viewpoint → ℕ
mindist_of r from = line_of from.scale (longitude_gap_to r.west r.east from.point.x) (gap from.point.y (clamped r.south r.north from.point.y))
