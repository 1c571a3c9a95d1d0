-- What the code holds of an item, as the definitions have it.
use Rattle.std.specs.Prelude.{ℕ, List, Option, Result, Ok, Err, ⊤}
use Rattle.json_spelled.specs.Json.{Json}
use Rattle.geojson_points.specs.Feature.{Gives}
use Rattle.geojson_points.specs.Takes.{place_of}
use Rattle.geojson_points.specs.declared.taken.Draft.{Draft}
use Rattle.geojson_points.specs.declared.feature.ItemFault.{ItemFault}
use Rattle.geojson_points.specs.declared.feature.ItemFault.TheVariants.{Skip, Memory}

-- the item gives this place, or none for this reason; of want of memory nothing is said
abbrev pub GivesSo : Option (List ℕ) → Json → Result Draft ItemFault → Type 0
GivesSo only item (Ok draft) = Gives only item (Ok (place_of draft))
GivesSo only item (Err (Skip reason)) = Gives only item (Err reason)
GivesSo only item (Err Memory) = ⊤
