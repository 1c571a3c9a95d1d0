-- A text has one outcome.
use Rattle.std.proofs.Common.{◌≡◌, ℕ, suc, ◌+◌, List, [], ◌∷◌, take, Option, Some, None, Result, Ok, Err, refl, ap, sym, ◌∙◌, subst, arith}
use Rattle.spatial_base.specs.Point.{Position}
use Rattle.fixed_coords.proofs.OneReading.{one_coordinate}
use Rattle.json_spelled.specs.Json.{Json}
use Rattle.json_spelled.specs.Refusals.{BeginsSome, IsFirstOffence}
use Rattle.json_spelled.specs.declared.tree.JsonFault.{JsonFault}
use Rattle.json_spelled.specs.declared.tree.JsonFault.TheVariants.{NotUtf8, Syntax, TooDeep, Memory}
use Rattle.json_spelled.proofs.Offences.{one_value, no_offence}
use Rattle.geojson_points.specs.Feature.{Place, geometry_of, pair_within, position_of, IsPositionOf, placed, Gives}
use Rattle.geojson_points.specs.Takes.{Item, items_of, item_at, Says, SaysEach, Takes}
use Rattle.geojson_points.specs.declared.taken.SkipReason.{SkipReason}
use Rattle.geojson_points.specs.declared.fault.LoadFault.{LoadFault}
use Rattle.geojson_points.specs.declared.fault.LoadFault.TheVariants as faults

-- spelled coordinates have one position
one_position : (pair : Result (List ℕ × List ℕ) SkipReason) (one other : Result Position SkipReason) → IsPositionOf pair one → IsPositionOf pair other → one ≡ other
one_position (Err reason) one other p q = p ∙ sym q
one_position (Ok pair) one other (x, y, as_x, as_y, is) (u, v, as_u, as_v, also) =
    is ∙ ap (λ r. position_of r y) (one_coordinate 1800000000 pair.0 x u as_x as_u)
    ∙ ap (position_of u) (one_coordinate 900000000 pair.1 y v as_y as_v) ∙ sym also

-- an item gives one thing
one_given : (only : Option (List ℕ)) (value : Json) (one other : Result Place SkipReason) → Gives only value one → Gives only value other → one ≡ other
one_given only value one other (p, as_p, is) (q, as_q, also) = is ∙ ap (placed only value) (one_position (pair_within (geometry_of value)) p q as_p as_q) ∙ sym also

-- one thing is said of it
one_said : (only : Option (List ℕ)) (index : ℕ) (value : Json) (one other : Item) → Says only index value one → Says only index value other → one ≡ other
one_said only index value one other (g, as_g, is) (h, as_h, also) = is ∙ ap (item_at index) (one_given only value g h as_g as_h) ∙ sym also

-- and of each of several
one_list : (only : Option (List ℕ)) (index : ℕ) (values : List Json) (one other : List Item) → SaysEach only index values one → SaysEach only index values other → one ≡ other
one_list only index [] [] [] p q = refl
one_list only index [] (item ∷ items) other p q = absurd p
one_list only index [] [] (item ∷ items) p q = absurd q
one_list only index (value ∷ values) [] other p q = absurd p
one_list only index (value ∷ values) (item ∷ items) [] p q = absurd q
one_list only index (value ∷ values) (item ∷ items) (other ∷ others) p q =
    ap (λ i. i ∷ items) (one_said only index value item other p.0 q.0) ∙ ap (λ is. other ∷ is) (one_list only (index + 1) values items others p.1 q.1)

-- there is one first offence
one_offence : (bytes : List ℕ) (one other : JsonFault) → IsFirstOffence bytes one → IsFirstOffence bytes other → one ≡ other
one_offence bytes (NotUtf8 i) other p q = sym (q.utf8_first i p.stands (let a = p.first other q.stands in let b = q.first (NotUtf8 i) p.stands in omega arith))
one_offence bytes one (NotUtf8 j) p q = p.utf8_first j q.stands (let a = p.first (NotUtf8 j) q.stands in let b = q.first one p.stands in omega arith)
one_offence bytes (Syntax i) (Syntax j) p q = ap Syntax (let a = p.first (Syntax j) q.stands in let b = q.first (Syntax i) p.stands in omega arith)
one_offence bytes (TooDeep i) (TooDeep j) p q = ap TooDeep (let a = p.first (TooDeep j) q.stands in let b = q.first (TooDeep i) p.stands in omega arith)
one_offence bytes (Syntax i) (TooDeep j) p q =
    let same : i ≡ j = (let a = p.first (TooDeep j) q.stands in let b = q.first (Syntax i) p.stands in omega arith) in
    absurd (p.stands.2 (omega (arith, q.stands.0)) (subst (λ n. BeginsSome (take (suc n) bytes)) (sym same) q.stands.2))
one_offence bytes (TooDeep i) (Syntax j) p q =
    let same : j ≡ i = (let a = p.first (Syntax j) q.stands in let b = q.first (TooDeep i) p.stands in omega arith) in
    absurd (q.stands.2 (omega (arith, p.stands.0)) (subst (λ n. BeginsSome (take (suc n) bytes)) (sym same) p.stands.2))
one_offence bytes Memory other p q = absurd p.stands
one_offence bytes one Memory p q = absurd q.stands

-- a value has features or it hasn't
some_or_none : (value other : Json) (values : List Json) → value ≡ other → items_of value ≡ Some values → items_of other ≡ None → ⊥
some_or_none value other values same some none = let no : Some values ≡ None = sym some ∙ ap items_of same ∙ none in absurd (cc no)

-- a text has one outcome
pub one_outcome : (bytes : List ℕ) (only : Option (List ℕ)) (one other : Result (List Item) LoadFault) → Takes bytes only one → Takes bytes only other → one ≡ other
one_outcome bytes only (Ok items) (Ok others) (value, values, is, has, says) (value', values', is', has', says') =
    let same : Some values ≡ Some values' = sym has ∙ ap items_of (one_value bytes value value' is is') ∙ has' in
    ap Ok (one_list only 0 values items others says (subst (λ vs. SaysEach only 0 vs others) (sym (cc same)) says'))
one_outcome bytes only (Ok items) (Err (faults.Json fault)) (value, values, is, has, says) offence = absurd (no_offence bytes value is fault offence.stands)
one_outcome bytes only (Ok items) (Err faults.NotFeatures) (value, values, is, has, says) (value', is', none) = absurd (some_or_none value value' values (one_value bytes value value' is is') has none)
one_outcome bytes only (Ok items) (Err faults.Memory) p q = absurd q
one_outcome bytes only (Err (faults.Json fault)) (Ok items) offence (value, values, is, has, says) = absurd (no_offence bytes value is fault offence.stands)
one_outcome bytes only (Err (faults.Json fault)) (Err (faults.Json other)) p q = ap (λ f. Err (faults.Json f)) (one_offence bytes fault other p q)
one_outcome bytes only (Err (faults.Json fault)) (Err faults.NotFeatures) offence (value, is, none) = absurd (no_offence bytes value is fault offence.stands)
one_outcome bytes only (Err (faults.Json fault)) (Err faults.Memory) p q = absurd q
one_outcome bytes only (Err faults.NotFeatures) (Ok items) (value', is', none) (value, values, is, has, says) = absurd (some_or_none value value' values (one_value bytes value value' is is') has none)
one_outcome bytes only (Err faults.NotFeatures) (Err (faults.Json fault)) (value, is, none) offence = absurd (no_offence bytes value is fault offence.stands)
one_outcome bytes only (Err faults.NotFeatures) (Err faults.NotFeatures) p q = refl
one_outcome bytes only (Err faults.NotFeatures) (Err faults.Memory) p q = absurd q
one_outcome bytes only (Err faults.Memory) other p q = absurd p
