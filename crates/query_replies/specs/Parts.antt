-- The parts of a reply's line.
use Rattle.std.specs.Prelude.{ℕ, ◌-◌, ◌^◌, min, pos, Bool, if◌then◌else◌, List, [], ◌∷◌, ◌++◌, decimal, codes}
use Rattle.json.specs.Print.{quoted}
use Rattle.fixed_coords.specs.Degrees.{fixed_text}
use Rattle.spatial_base.specs.Key.{Name, Text, Auto}
use Rattle.spatial_base.specs.Point.{Position}

-- a key: a JSON string literal, or `#` and the serial
abbrev pub key_text : Name → List ℕ
key_text (Text bytes) = quoted bytes
key_text (Auto serial) = 35 ∷ decimal serial

-- units in degrees; what is above 2^63 - 1 is written as 2^63 - 1
abbrev pub units_text : ℕ → List ℕ
units_text n = fixed_text (pos (min n (2 ^ 63 - 1)))

-- `LON LAT`
abbrev pub point_text : Position → List ℕ
point_text point = fixed_text point.x ++ (32 ∷ fixed_text point.y)

-- ` at LON LAT`, where it was asked for
abbrev pub at_text : Bool → Position → List ℕ
at_text explain point = if explain then codes " at " ++ point_text point else []
