-- A region of the map: what it meets and has, and the hits of the places in it.
use Rattle.std.specs.Prelude.{ℕ, ℤ, Bool, ◌&&◌, nat_le, int_le}
use Rattle.spatial_base.specs.Key.{Name}
use Rattle.spatial_base.specs.Point.{Position, distance, Viewpoint, IsViewpoint}
use Rattle.spatial_base.specs.Rect.{Bounds, IsRect, holds_point, mindist_of}
use Rattle.place_values.specs.declared.hit.Hit.{Hit}
use Rattle.boolean_queries.specs.declared.region.Region.{Region}
use Rattle.boolean_queries.specs.declared.region.Region.TheVariants.{Within, Inside}

-- a region, by a name that other crates may use
abbrev pub Area : Type 0
Area = Region

-- the points at most so far from a point
abbrev pub circle : Viewpoint → ℕ → Area
circle at radius = Within at radius

-- the points of a rectangle
abbrev pub rectangle : Bounds → Area
rectangle asked = Inside asked

-- two ranges of numbers have one in common
abbrev pub have_common : ℤ → ℤ → ℤ → ℤ → Bool
have_common low high other_low other_high = int_le low other_high && int_le other_low high

-- two rectangles have a point in common
abbrev pub overlaps : Bounds → Bounds → Bool
overlaps a b = have_common a.west a.east b.west b.east && have_common a.south a.north b.south b.north

-- the region has a point that the rectangle has
abbrev pub meets : Region → Bounds → Bool
meets (Within at radius) rect = nat_le (mindist_of rect at) radius
meets (Inside asked) rect = overlaps asked rect

-- the region has the point
abbrev pub has_point : Region → Position → Bool
has_point (Within at radius) point = nat_le (distance at point) radius
has_point (Inside asked) point = holds_point asked point

-- what a place in the region costs: its distance, or nothing in a rectangle
abbrev pub cost_in : Region → Position → ℕ
cost_in (Within at radius) point = distance at point
cost_in (Inside asked) point = 0

-- the hit of a place in the region
abbrev pub hit_in : Region → Position → Name → Hit
hit_in region point key = record { cost = cost_in region point; key = key; dist = cost_in region point; text = 0; point = point }

-- the region lies on the map
abbrev pub IsOnTheMap : Region → Type 0
IsOnTheMap (Within at radius) = IsViewpoint at
IsOnTheMap (Inside asked) = IsRect asked.west asked.south asked.east asked.north
