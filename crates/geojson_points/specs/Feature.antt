-- What a Feature gives (RFC 7946): a place, or the first of six reasons why it gives none.
use Rattle.std.specs.Prelude.{◌≡◌, ℕ, ℤ, Bool, true, false, ◌&&◌, ◌||◌, nat_le, if◌then◌else◌, List, [], ◌∷◌, length, Option, Some, None, option_map, option_and_then, ok_or, Result, Ok, Err, codes}
use Rattle.std.specs.Option.{option_map_or}
use Rattle.spatial_base.specs.Key.{Name, Text}
use Rattle.spatial_base.specs.Point.{Position}
use Rattle.fixed_coords.specs.Fixed.{IsReadingWithin}
use Rattle.fixed_coords.specs.declared.fault.NumberFault.{NumberFault}
use Rattle.fixed_coords.specs.declared.fault.NumberFault.TheVariants as readings
use Rattle.json_spelled.specs.Json.{Json, null, truth, spelled, text, list, object}
use Rattle.geojson_points.specs.Object.{member_of, spelling_of, array_of, has_type, lines_of, line_of}
use Rattle.geojson_points.specs.declared.taken.SkipReason.{SkipReason}
use Rattle.geojson_points.specs.declared.taken.SkipReason.TheVariants.{NotFeature, NoGeometry, NotPoint, BadPosition, OutOfRange, BadId}

-- a place as a text gives it
pub record Place : Type 0 where
  pub id : Option Name
  pub point : Position
  pub text : List ℕ

-- null is as if absent
abbrev pub unless_null : Json → Option Json
unless_null null = None
unless_null (truth bit) = Some (truth bit)
unless_null (spelled bytes) = Some (spelled bytes)
unless_null (text bytes) = Some (text bytes)
unless_null (list items) = Some (list items)
unless_null (object members) = Some (object members)

-- the geometry of a Feature (sections 3.1 and 3.2)
abbrev pub geometry_of : Json → Result Json SkipReason
geometry_of item =
    if has_type (codes "Feature") item then ok_or (option_and_then unless_null (member_of (codes "geometry") item)) NoGeometry
    else Err NotFeature

-- the two numbers that an array begins with
abbrev pub pair_of : List Json → Option (List ℕ × List ℕ)
pair_of [] = None
pair_of (first ∷ []) = None
pair_of (first ∷ second ∷ more) =
    option_and_then (λ longitude. option_map (λ latitude. (longitude, latitude)) (spelling_of second)) (spelling_of first)

-- the longitude and the latitude of a Point, as they are spelled (sections 3.1.1 and 3.1.2)
abbrev pub pair_in : Json → Result (List ℕ × List ℕ) SkipReason
pair_in geometry =
    if has_type (codes "Point") geometry
    then ok_or (option_and_then pair_of (option_and_then array_of (member_of (codes "coordinates") geometry))) BadPosition
    else Err NotPoint

-- the same of an item
abbrev pub pair_within : Result Json SkipReason → Result (List ℕ × List ℕ) SkipReason
pair_within (Ok geometry) = pair_in geometry
pair_within (Err reason) = Err reason

-- a reading of what is no number, or has more than 64 bytes
abbrev pub is_unread : Result ℤ NumberFault → Bool
is_unread (Ok value) = false
is_unread (Err readings.NotANumber) = true
is_unread (Err readings.TooLong) = true
is_unread (Err readings.TooBig) = false
is_unread (Err readings.OutOfRange) = false

-- the position of two coordinates that were read
abbrev pub position_of : Result ℤ NumberFault → Result ℤ NumberFault → Result Position SkipReason
position_of (Ok x) (Ok y) = Ok (record { x = x; y = y })
position_of (Ok x) (Err fault) = Err (if is_unread (Err fault) then BadPosition else OutOfRange)
position_of (Err fault) latitude = Err (if is_unread (Err fault) || is_unread latitude then BadPosition else OutOfRange)

-- The position of spelled coordinates, each read as units of 10^-7 degrees.
abbrev pub IsPositionOf : Result (List ℕ × List ℕ) SkipReason → Result Position SkipReason → Type 0
IsPositionOf (Err reason) position = position ≡ Err reason
IsPositionOf (Ok pair) position = (longitude latitude : Result ℤ NumberFault)
    × IsReadingWithin 1800000000 pair.0 longitude × IsReadingWithin 900000000 pair.1 latitude
    × (position ≡ position_of longitude latitude)

-- a text of 1 to 64 bytes is a key
abbrev pub key_of : List ℕ → Result (Option Name) SkipReason
key_of bytes = if nat_le 1 (length bytes) && nat_le (length bytes) 64 then Ok (Some (Text bytes)) else Err BadId

-- the key that an identifier names: a string, or a number as it is spelled (section 3.2)
abbrev pub key_in : Json → Result (Option Name) SkipReason
key_in null = Ok None
key_in (truth bit) = Err BadId
key_in (spelled bytes) = key_of bytes
key_in (text bytes) = key_of bytes
key_in (list items) = Err BadId
key_in (object _) = Err BadId

-- the key of a Feature, if it names one
abbrev pub id_of : Json → Result (Option Name) SkipReason
id_of item = option_map_or key_in (member_of (codes "id") item) (Ok None)

-- the text of a Feature: the strings among its properties, or the one that is asked for
abbrev pub text_of : Option (List ℕ) → Json → List ℕ
text_of None item = option_map_or lines_of (member_of (codes "properties") item) []
text_of (Some name) item = option_map_or (line_of name) (member_of (codes "properties") item) []

-- the place of a Feature at a position
abbrev pub place_at : Position → List ℕ → Result (Option Name) SkipReason → Result Place SkipReason
place_at point says (Ok id) = Ok (record { id = id; point = point; text = says })
place_at point says (Err reason) = Err reason

-- what is left to say of an item once its position is known
abbrev pub placed : Option (List ℕ) → Json → Result Position SkipReason → Result Place SkipReason
placed only item (Ok point) = place_at point (text_of only item) (id_of item)
placed only item (Err reason) = Err reason

-- What an item gives: a place, or the reason why it gives none.
abbrev pub Gives : Option (List ℕ) → Json → Result Place SkipReason → Type 0
Gives only item given = (position : Result Position SkipReason)
    × IsPositionOf (pair_within (geometry_of item)) position × (given ≡ placed only item position)
