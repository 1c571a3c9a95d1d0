-- A text has no more items than bytes.
use Rattle.std.proofs.Common.{◌≡◌, ℕ, ◌+◌, ◌≤◌, Bool, true, false, cond, List, [], ◌∷◌, length, Option, Some, None, refl, ap, arith, length-append, inl, inr, bytes_eq, codes, ◌⊎◌}
use Rattle.std.specs.Prelude.{option_and_then}
use Rattle.std.specs.Option.{option_or}
use Rattle.std.proofs.Math.Logic.{⊎_elim}
use Rattle.json_spelled.specs.Json.{Json, null, truth, spelled, text, list, object, Items, no_items, item, Members, no_members, member}
use Rattle.json_spelled.specs.Grammar.{Spaces, none, space, Piece, Pieces, closed, plain, escape, unit, Quoted, Value, of_null, of_true, of_false, of_number, of_string, of_no_items, of_items, of_no_members, of_members, ItemsAt, first, MoreItems, no_more, more, MembersAt, first_member, MoreMembers, no_more_members, more_members, IsSpelled, IsText}
use Rattle.geojson_points.specs.Object.{last_of, member_of, elements, array_of, has_type}
use Rattle.geojson_points.specs.Takes.{items_of}

-- how many arrays, objects and elements of arrays a value has, those within others too
abbrev mutual
  weight : Json → ℕ
  weight null = 0
  weight (truth bit) = 0
  weight (spelled bytes) = 0
  weight (text bytes) = 0
  weight (list items) = 1 + items_weight items
  weight (object members) = 1 + members_weight members

  items_weight : Items → ℕ
  items_weight no_items = 0
  items_weight (item value items) = 1 + weight value + items_weight items

  members_weight : Members → ℕ
  members_weight no_members = 0
  members_weight (member name value members) = weight value + members_weight members

-- spaces only make bytes more
spaces_less : {bytes rest : List ℕ} → Spaces bytes rest → length rest ≤ length bytes
spaces_less none = omega arith
spaces_less (space h spaces) = omega (arith, spaces_less spaces)

-- so do the pieces of a string
pieces_less : {pieces : List Piece} {bytes rest : List ℕ} → Pieces pieces bytes rest → length rest ≤ length bytes
pieces_less closed = omega arith
pieces_less (plain h pieces) = omega (arith, pieces_less pieces)
pieces_less (escape h pieces) = omega (arith, pieces_less pieces)
pieces_less (unit a b c d pieces) = omega (arith, pieces_less pieces)

-- so does a string
quoted_less : {says bytes rest : List ℕ} → Quoted says bytes rest → length rest ≤ length bytes
quoted_less q = pieces_less q.spelled_so

-- A value leaves fewer bytes by its weight at least.
mutual
  value_less : {levels : ℕ} {value : Json} {bytes rest : List ℕ} → Value levels value bytes rest → weight value + length rest ≤ length bytes
  value_less of_null = omega arith
  value_less of_true = omega arith
  value_less of_false = omega arith
  value_less (of_number {levels} {number} {bytes} {rest} is e) = rw e (omega (arith, length-append number rest))
  value_less (of_string quoted) = omega (arith, quoted_less quoted)
  value_less (of_no_items spaces) = omega (arith, spaces_less spaces)
  value_less (of_items items) = omega (arith, items_less items)
  value_less (of_no_members spaces) = omega (arith, spaces_less spaces)
  value_less (of_members members) = omega (arith, members_less members)

  items_less : {levels : ℕ} {items : Items} {bytes rest : List ℕ} → ItemsAt levels items bytes rest → items_weight items + length rest ≤ length bytes
  items_less (first spaces value items) = omega (arith, spaces_less spaces, value_less value, more_items_less items)

  more_items_less : {levels : ℕ} {items : Items} {bytes rest : List ℕ} → MoreItems levels items bytes rest → items_weight items + 1 + length rest ≤ length bytes
  more_items_less (no_more spaces) = omega (arith, spaces_less spaces)
  more_items_less (more spaces items) = omega (arith, spaces_less spaces, items_less items)

  members_less : {levels : ℕ} {members : Members} {bytes rest : List ℕ} → MembersAt levels members bytes rest → members_weight members + length rest ≤ length bytes
  members_less (first_member before quoted between after value members) =
      omega (arith, spaces_less before, quoted_less quoted, spaces_less between, spaces_less after, value_less value, more_members_less members)

  more_members_less : {levels : ℕ} {members : Members} {bytes rest : List ℕ} → MoreMembers levels members bytes rest → members_weight members + length rest ≤ length bytes
  more_members_less (no_more_members spaces) = omega (arith, spaces_less spaces)
  more_members_less (more_members spaces members) = omega (arith, spaces_less spaces, members_less members)

-- a text has as many bytes as its value weighs
text_less : (levels : ℕ) (value : Json) (bytes : List ℕ) → IsSpelled levels value bytes → weight value ≤ length bytes
text_less levels value bytes s = omega (arith, spaces_less s.before, value_less s.value_at)

-- the same behind a byte order mark
text_bound : (levels : ℕ) (value : Json) (bytes : List ℕ) → IsText levels value bytes → weight value ≤ length bytes
text_bound levels value bytes t =
    ⊎_elim (λ s. text_less levels value bytes s) (λ (rest, e, s). rw e (omega (arith, text_less levels value rest s))) t.spelled_so

-- an array has as many elements at most
elements_bound : (items : Items) → length (elements items) ≤ items_weight items
elements_bound no_items = omega arith
elements_bound (item value items) = omega (arith, elements_bound items)

-- either of two, the first of which goes first
or_cases : (o p : Option Json) (value : Json) → option_or o p ≡ Some value → (o ≡ Some value) ⊎ (p ≡ Some value)
or_cases None p value e = inr e
or_cases (Some other) p value e = inl e

-- what is found where a test passes
one_found : (b : Bool) (candidate value : Json) → cond b (Some candidate) None ≡ Some value → candidate ≡ value
one_found true candidate value e = cc e
one_found false candidate value e = absurd (cc e)

-- a member weighs no more than its object
last_bound : (name : List ℕ) (members : Members) (value : Json) → last_of name members ≡ Some value → weight value ≤ members_weight members
last_bound name no_members value e = absurd (cc e)
last_bound name (member other candidate members) value e =
    ⊎_elim (λ h. omega (arith, last_bound name members value h))
    (λ h. omega (arith, ap weight (one_found (bytes_eq other name) candidate value h))) (or_cases (last_of name members) (cond (bytes_eq other name) (Some candidate) None) value e)

-- so does its member of a name
member_bound : (name : List ℕ) (whole value : Json) → member_of name whole ≡ Some value → weight value + 1 ≤ weight whole
member_bound name null value e = absurd (cc e)
member_bound name (truth bit) value e = absurd (cc e)
member_bound name (spelled bytes) value e = absurd (cc e)
member_bound name (text bytes) value e = absurd (cc e)
member_bound name (list items) value e = absurd (cc e)
member_bound name (object members) value e = omega (arith, last_bound name members value e)

-- the elements of an array are no more than it weighs
array_bound : (value : Json) (values : List Json) → array_of value ≡ Some values → length values ≤ weight value
array_bound null values e = absurd (cc e)
array_bound (truth bit) values e = absurd (cc e)
array_bound (spelled bytes) values e = absurd (cc e)
array_bound (text bytes) values e = absurd (cc e)
array_bound (list items) values e = let same : elements items ≡ values = cc e in omega (arith, elements_bound items, ap length same)
array_bound (object _) values e = absurd (cc e)

-- nor are those of a member that is one
member_array_bound : (whole : Json) (o : Option Json) (values : List Json) → ((value : Json) → o ≡ Some value → weight value + 1 ≤ weight whole)
    → option_and_then array_of o ≡ Some values → length values ≤ weight whole
member_array_bound whole None values inside e = absurd (cc e)
member_array_bound whole (Some value) values inside e = omega (arith, inside value refl, array_bound value values e)

-- an object that has a type weighs something
typed_bound : (name : List ℕ) (value : Json) → has_type name value ≡ true → 1 ≤ weight value
typed_bound name null e = absurd (cc e)
typed_bound name (truth bit) e = absurd (cc e)
typed_bound name (spelled bytes) e = absurd (cc e)
typed_bound name (text bytes) e = absurd (cc e)
typed_bound name (list items) e = absurd (cc e)
typed_bound name (object _) e = omega arith

-- the items of a value are no more than it weighs
items_bound_by : (value : Json) (values : List Json) (single several : Bool) → (single ≡ true → 1 ≤ weight value)
    → cond single (Some (value ∷ [])) (cond several (option_and_then array_of (member_of (codes "features") value)) None) ≡ Some values → length values ≤ weight value
items_bound_by value values true several alone e = let same : value ∷ [] ≡ values = cc e in omega (arith, alone refl, ap length same)
items_bound_by value values false true alone e = member_array_bound value (member_of (codes "features") value) values (λ inner. member_bound (codes "features") value inner) e
items_bound_by value values false false alone e = absurd (cc e)

-- A text has no more items than bytes.
pub few_items : (levels : ℕ) (value : Json) (values : List Json) (bytes : List ℕ) → IsText levels value bytes → items_of value ≡ Some values → length values ≤ length bytes
few_items levels value values bytes t e =
    omega (arith, text_bound levels value bytes t, items_bound_by value values (has_type (codes "Feature") value) (has_type (codes "FeatureCollection") value) (typed_bound (codes "Feature") value) e)
