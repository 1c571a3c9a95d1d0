-- What a GeoJSON text gives: its places and skips, or why it is refused.
use Rattle.std.specs.Prelude.{◌≡◌, ℕ, ◌+◌, if◌then◌else◌, List, [], ◌∷◌, Option, Some, None, option_and_then, IfSome, IsSome, Result, Ok, Err, codes, string_bytes, ⊤}
use Rattle.spatial_base.specs.Key.{text_of}
use Rattle.json_spelled.specs.Json.{Json}
use Rattle.json_spelled.specs.Grammar.{IsText}
use Rattle.json_spelled.specs.Refusals.{level_limit, IsFirstOffence}
use Rattle.geojson_points.specs.Object.{member_of, array_of, has_type}
use Rattle.geojson_points.specs.Feature.{Place, Gives}
use Rattle.geojson_points.specs.declared.taken.Draft.{Draft}
use Rattle.geojson_points.specs.declared.taken.SkipReason.{SkipReason}
use Rattle.geojson_points.specs.declared.taken.Taken.{Taken}
use Rattle.geojson_points.specs.declared.taken.Taken.TheVariants as takens
use Rattle.geojson_points.specs.declared.fault.LoadFault.{LoadFault}
use Rattle.geojson_points.specs.declared.fault.LoadFault.TheVariants.{Json as JsonRefused, NotFeatures, Memory}

-- an item's place, or its index and the reason why it gives none
pub data Item : Type 0 where
  Placed : Place → Item
  Skipped : ℕ → SkipReason → Item

-- The items of a text (RFC 7946, sections 3, 3.2 and 3.3): a Feature itself, or the features of a FeatureCollection.
abbrev pub items_of : Json → Option (List Json)
items_of value =
    if has_type (codes "Feature") value then Some (value ∷ [])
    else (if has_type (codes "FeatureCollection") value then option_and_then array_of (member_of (codes "features") value) else None)

-- what is said of the item at an index
abbrev pub item_at : ℕ → Result Place SkipReason → Item
item_at index (Ok place) = Placed place
item_at index (Err reason) = Skipped index reason

-- the same by what it gives
abbrev pub Says : Option (List ℕ) → ℕ → Json → Item → Type 0
Says only index value item = (given : Result Place SkipReason) × Gives only value given × (item ≡ item_at index given)

-- what is said of items, the first of which has this index
abbrev pub SaysEach : Option (List ℕ) → ℕ → List Json → List Item → Type 0
SaysEach only index [] [] = ⊤
SaysEach only index [] (item ∷ items) = ⊥
SaysEach only index (value ∷ values) [] = ⊥
SaysEach only index (value ∷ values) (item ∷ items) = Says only index value item × SaysEach only (index + 1) values items

-- The outcome of a text: the first offence against JSON, no features, or what is said of each item. A text has just one.
abbrev pub Takes : List ℕ → Option (List ℕ) → Result (List Item) LoadFault → Type 0
Takes bytes only (Ok items) =
    (value : Json) × (values : List Json) × IsText level_limit value bytes × (items_of value ≡ Some values) × SaysEach only 0 values items
Takes bytes only (Err (JsonRefused fault)) = IsFirstOffence bytes fault
Takes bytes only (Err NotFeatures) = (value : Json) × IsText level_limit value bytes × (items_of value ≡ None)
Takes bytes only (Err Memory) = ⊥

-- a draft as a place
abbrev pub place_of : Draft → Place
place_of draft = record { id = draft.id; point = draft.point; text = string_bytes draft.text }

-- what a list of places and skips says
abbrev pub item_of : Taken → Item
item_of (takens.Place draft) = Placed (place_of draft)
item_of (takens.Skipped index reason) = Skipped index reason

-- a key that a place names is a text
abbrev pub HasTextKey : Item → Type 0
HasTextKey (Placed place) = IfSome place.id (λ key. IsSome (text_of key))
HasTextKey (Skipped index reason) = ⊤
