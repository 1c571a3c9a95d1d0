-- What is said of items, one after another.
use Rattle.std.proofs.Common.{ℕ, ◌+◌, List, [], ◌∷◌, ◌++◌, map, length, Bool, true, false, cond, All, Option, Some, None, Result, Ok, Err, codes, refl, ap, sym, ◌∙◌, subst, arith}
use Rattle.std.specs.Prelude.{nat_le, ◌&&◌, IfSome, IsSome, ⊤}
use Rattle.std.specs.Option.{option_map_or}
use Rattle.std.proofs.lemmas.List.Elements.{All-nil, All-cons}
use Rattle.spatial_base.specs.Key.{Name, Text, text_of}
use Rattle.spatial_base.specs.Point.{Position}
use Rattle.json_spelled.specs.Json.{Json, null, truth, spelled, text, list, object}
use Rattle.geojson_points.specs.Object.{member_of}
use Rattle.geojson_points.specs.Feature.{key_in, id_of, place_at, placed}
use Rattle.geojson_points.specs.Feature.{text_of as feature_text}
use Rattle.geojson_points.specs.Takes.{Item, item_at, Says, SaysEach, HasTextKey, item_of}
use Rattle.geojson_points.specs.declared.taken.SkipReason.{SkipReason}
use Rattle.geojson_points.specs.declared.taken.SkipReason.TheVariants.{BadId}
use Rattle.geojson_points.specs.declared.taken.Taken.{Taken}

-- one item more
pub says_more : (only : Option (List ℕ)) (index : ℕ) (values : List Json) (items : List Item) (value : Json) (item : Item)
    → SaysEach only index values items → Says only (index + length values) value item → SaysEach only index (values ++ value ∷ []) (items ++ item ∷ [])
says_more only index [] [] value item each said = (subst (λ n. Says only n value item) (omega arith) said, tt)
says_more only index [] (other ∷ items) value item each said = absurd each
says_more only index (first ∷ values) [] value item each said = absurd each
says_more only index (first ∷ values) (other ∷ items) value item each said =
    (each.0, says_more only (index + 1) values items value item each.1 (subst (λ n. Says only n value item) (omega arith) said))

-- a key that was read is a text
abbrev NamesText : Result (Option Name) SkipReason → Type 0
NamesText (Ok id) = IfSome id (λ key. IsSome (text_of key))
NamesText (Err reason) = ⊤

-- where a test passes
tested_text : (b : Bool) (bytes : List ℕ) → NamesText (cond b (Ok (Some (Text bytes))) (Err BadId))
tested_text true bytes = refl
tested_text false bytes = tt

-- an identifier names a text or nothing
id_text : (o : Option Json) → NamesText (option_map_or key_in o (Ok None))
id_text None = tt
id_text (Some null) = tt
id_text (Some (truth bit)) = tt
id_text (Some (spelled bytes)) = tested_text (nat_le 1 (length bytes) && nat_le (length bytes) 64) bytes
id_text (Some (text bytes)) = tested_text (nat_le 1 (length bytes) && nat_le (length bytes) 64) bytes
id_text (Some (list items)) = tt
id_text (Some (object _)) = tt

-- so does a place
place_text : (index : ℕ) (point : Position) (says : List ℕ) (id : Result (Option Name) SkipReason) → NamesText id → HasTextKey (item_at index (place_at point says id))
place_text index point says (Ok id) h = h
place_text index point says (Err reason) h = tt

-- and what is said of an item
placed_text : (only : Option (List ℕ)) (index : ℕ) (value : Json) (position : Result Position SkipReason) → HasTextKey (item_at index (placed only value position))
placed_text only index value (Ok point) = place_text index point (feature_text only value) (id_of value) (id_text (member_of (codes "id") value))
placed_text only index value (Err reason) = tt

said_text : (only : Option (List ℕ)) (index : ℕ) (value : Json) (item : Item) → Says only index value item → HasTextKey item
said_text only index value item (given, (position, as_position, placed_so), is) =
    subst HasTextKey (sym (is ∙ ap (item_at index) placed_so)) (placed_text only index value position)

-- and of each of several
pub all_text : (only : Option (List ℕ)) (index : ℕ) (values : List Json) (taken : List Taken) → SaysEach only index values (map item_of taken) → All (λ t. HasTextKey (item_of t)) taken
all_text only index [] [] each = All-nil (λ t. HasTextKey (item_of t))
all_text only index [] (t ∷ taken) each = absurd each
all_text only index (value ∷ values) [] each = absurd each
all_text only index (value ∷ values) (t ∷ taken) each =
    All-cons (λ t. HasTextKey (item_of t)) t taken (said_text only index value (item_of t) each.0) (all_text only (index + 1) values taken each.1)
