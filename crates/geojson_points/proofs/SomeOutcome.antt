-- Each text has an outcome.
use Rattle.std.proofs.Common.{◌≡◌, ℕ, ◌+◌, List, [], ◌∷◌, Option, Some, None, Result, Ok, Err, refl}
use Rattle.std.proofs.Math.Logic.{⊎_elim}
use Rattle.spatial_base.specs.Point.{Position}
use Rattle.json_spelled.specs.Json.{Json}
use Rattle.json_spelled.specs.Grammar.{IsText}
use Rattle.json_spelled.specs.Refusals.{level_limit}
use Rattle.geojson_points.specs.Feature.{Place, geometry_of, pair_within, position_of, IsPositionOf, placed, Gives}
use Rattle.geojson_points.specs.Takes.{Item, items_of, item_at, Says, SaysEach, Takes}
use Rattle.geojson_points.specs.declared.taken.SkipReason.{SkipReason}
use Rattle.geojson_points.specs.declared.fault.LoadFault.{LoadFault}
use Rattle.geojson_points.specs.declared.fault.LoadFault.TheVariants as faults
use Rattle.geojson_points.proofs.EachNumber.{some_coordinate}
use Rattle.json_spelled.proofs.Judged.{judged}

-- spelled coordinates have a position, or none for a reason
some_position : (pair : Result (List ℕ × List ℕ) SkipReason) → (position : Result Position SkipReason) × IsPositionOf pair position
some_position (Err reason) = (Err reason, refl)
some_position (Ok pair) =
    let x = some_coordinate 1800000000 pair.0 in
    let y = some_coordinate 900000000 pair.1 in
    (position_of x.0 y.0, (x.0, y.0, x.1, y.1, refl))

-- an item gives something
some_given : (only : Option (List ℕ)) (value : Json) → (given : Result Place SkipReason) × Gives only value given
some_given only value = let p = some_position (pair_within (geometry_of value)) in (placed only value p.0, (p.0, p.1, refl))

-- something is said of it
some_said : (only : Option (List ℕ)) (index : ℕ) (value : Json) → (item : Item) × Says only index value item
some_said only index value = let g = some_given only value in (item_at index g.0, (g.0, g.1, refl))

-- and of each of several
some_list : (only : Option (List ℕ)) (index : ℕ) (values : List Json) → (items : List Item) × SaysEach only index values items
some_list only index [] = ([], tt)
some_list only index (value ∷ values) =
    let item = some_said only index value in
    let rest = some_list only (index + 1) values in
    (item.0 ∷ rest.0, (item.1, rest.1))

-- a value has features or it hasn't
valued : (bytes : List ℕ) (only : Option (List ℕ)) (value : Json) → IsText level_limit value bytes → (o : Option (List Json)) → items_of value ≡ o
    → (outcome : Result (List Item) LoadFault) × Takes bytes only outcome
valued bytes only value is (Some values) e = let items = some_list only 0 values in (Ok items.0, (value, values, is, e, items.1))
valued bytes only value is None e = (Err faults.NotFeatures, (value, is, e))

-- each text has an outcome
pub some_outcome : (bytes : List ℕ) (only : Option (List ℕ)) → (outcome : Result (List Item) LoadFault) × Takes bytes only outcome
some_outcome bytes only = ⊎_elim
    (λ (value, is). valued bytes only value is (items_of value) refl)
    (λ (fault, first). (Err (faults.Json fault), first))
    (judged bytes)
