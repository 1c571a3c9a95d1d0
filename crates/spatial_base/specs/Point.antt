-- Points, where distances are measured from, and how long they are.
use Rattle.std.specs.Prelude.{ℕ, ℤ, ◌+◌, ◌-◌, ◌*◌, ◌/◌, ◌≤◌, min, ◌-ℤ◌, unsigned_abs}
use Rattle.spatial_base.specs.Root.{root}

-- a longitude and a latitude, in degrees times 10^7
pub record Position : Type 0 where
  pub x : ℤ
  pub y : ℤ

-- at most 180 degrees east or west, and 90 north or south
abbrev pub IsOnMap : ℤ → ℤ → Type 0
IsOnMap x y = (unsigned_abs x ≤ 1800000000) × (unsigned_abs y ≤ 900000000)

-- a point that distances are measured from, and how many thousandths of its size a step of longitude counts there
pub record Viewpoint : Type 0 where
  pub point : Position
  pub scale : ℕ

-- what is seen from a point at a scale
abbrev pub seen_from : Position → ℕ → Viewpoint
seen_from point scale = record { point = point; scale = scale }

-- on the map, and with a scale of at most 1000
abbrev pub IsViewpoint : Viewpoint → Type 0
IsViewpoint from = IsOnMap from.point.x from.point.y × (from.scale ≤ 1000)

-- how far apart two numbers are
abbrev pub gap : ℤ → ℤ → ℕ
gap a b = unsigned_abs (a -ℤ b)

-- how far apart two longitudes are, by the shorter way round: the circle has 360 degrees
abbrev pub longitude_gap : ℤ → ℤ → ℕ
longitude_gap a b = min (gap a b) (3600000000 - gap a b)

-- the square of a line that goes east and north by these many units, all in thousandths, with longitudes scaled
abbrev pub squared : ℕ → ℕ → ℕ → ℕ
squared scale east north = (scale * east) * (scale * east) + (1000 * north) * (1000 * north)

-- the line's length, rounded down to a thousandth and then to a whole
abbrev pub line_of : ℕ → ℕ → ℕ → ℕ
line_of scale east north = root (squared scale east north) / 1000

-- how far a point is: the straight line on the map of degrees, where longitudes meet at 180 degrees
abbrev pub distance : Viewpoint → Position → ℕ
distance from p = line_of from.scale (longitude_gap from.point.x p.x) (gap from.point.y p.y)
