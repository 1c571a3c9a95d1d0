-- Places as the place table keeps them, and the 649 bytes of such a row's value.
use Rattle.std.specs.Prelude.{◌≡◌, ℕ, ◌≤◌, List, ◌∷◌, ◌++◌, length, take, drop, All}
use Rattle.std.specs.Int.{w32, to_be_bytes, cast_unsigned}
use Rattle.std.specs.List.{flat_map}
use Rattle.std.specs.List.Sorted.{IsStrictlyIncreasing}
use Rattle.std.specs.Map.{keys_of}
use Rattle.spatial_base.specs.Point.{Position, IsOnMap}
use Rattle.term_impacts.specs.Label.{IsLabelText, label_form}
use Rattle.row_codec.specs.Pairs.{Pair, HasImpact, IsSpare, IsPair, pair_bytes}
use Rattle.row_codec.specs.declared.stored.Stored.{Stored}

-- the pairs of the place's words
abbrev pub held_pairs : Stored → List Pair
held_pairs stored = take stored.count stored.pairs

-- the pairs behind them
abbrev pub spare_pairs : Stored → List Pair
spare_pairs stored = drop stored.count stored.pairs

-- the place is of its form: at most 64 words, ascending strictly by number, each with an impact, and no pair behind them
pub record IsStored (stored : Stored) : Type 0 where
  pub few : stored.count ≤ 64
  pub ascending : IsStrictlyIncreasing (keys_of (held_pairs stored))
  pub impacts : All HasImpact (held_pairs stored)
  pub spare : All IsSpare (spare_pairs stored)

-- what the types of its parts say: a point on the map, 64 pairs of a u64 and a byte, and a label
pub record IsValue (stored : Stored) : Type 0 where
  pub point : IsOnMap stored.point.x stored.point.y
  pub size : length stored.pairs ≡ 64
  pub pairs : All IsPair stored.pairs
  pub label : IsLabelText stored.label

-- longitude and latitude, in two's complement, 4 bytes each
unfoldable pub point_bytes : Position → List ℕ
point_bytes point = to_be_bytes w32 (cast_unsigned w32 point.x) ++ to_be_bytes w32 (cast_unsigned w32 point.y)

-- the value of a place's row: its point, the count of its words, 64 pairs, and its label's form
unfoldable pub place_value : Stored → List ℕ
place_value stored = point_bytes stored.point ++ (stored.count ∷ (flat_map pair_bytes stored.pairs ++ label_form stored.label))
