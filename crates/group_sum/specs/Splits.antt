-- A set of words that is split into two: each part has a choice of its own, and the two are joined in the words' order.
use Rattle.std.specs.Prelude.{◌≡◌, ℕ, ◌+◌, ◌/◌, ◌<◌, ◌≤◌, ◌||◌, if◌then◌else◌, Bool, true, false, List, [], ◌∷◌, Option, Some, None, bit_and, bit_xor, slice_index_or}
use Rattle.std.specs.List.{list_all}
use Rattle.std.specs.Cmp.Lexicographic.{slice_cmp}
use Rattle.std.specs.Ordering.{nat_cmp, is_lt, ordering_then}
use Rattle.place_values.specs.declared.query.Pick.{Pick}
use Rattle.place_values.specs.declared.query.Chosen.{Chosen}
use Rattle.place_values.specs.Group.{pick_cmp}
use Rattle.place_values.specs.Sum.{is_same_place}
use Rattle.group_sum.specs.Sets.{flags_from, flagged}

-- for each word of a set, whether it is in a part of the set
abbrev pub sides_of : ℕ → ℕ → ℕ → List Bool
sides_of count set part = flagged (flags_from set 0 count) (flags_from part 0 count)

-- the picks of two choices in the order of the words: where a side is true the next of the first, else the next of the second
abbrev pub joined : List Bool → List Pick → List Pick → List Pick
joined [] left right = []
joined (true ∷ sides) [] right = joined sides [] right
joined (true ∷ sides) (pick ∷ left) right = pick ∷ joined sides left right
joined (false ∷ sides) left [] = joined sides left []
joined (false ∷ sides) left (pick ∷ right) = pick ∷ joined sides left right

-- all picks are of one place
abbrev pub is_one_place : List Pick → Bool
is_one_place [] = true
is_one_place (pick ∷ others) = list_all (is_same_place pick) others

-- Two choices joined, where one of them is of one place. The cost is the sum of their costs: no less than what the joined choice costs, and
-- the same where the two have no place in common.
abbrev pub joined_of : List Bool → Option Chosen → Option Chosen → Option Chosen
joined_of sides None right = None
joined_of sides (Some left) None = None
joined_of sides (Some left) (Some right) =
    if is_one_place left.picks || is_one_place right.picks
    then Some record { cost = left.cost + right.cost; picks = joined sides left.picks right.picks }
    else None

-- the choices kept for a part of a set and for the rest of it, joined
abbrev pub split_at : ℕ → List (Option Chosen) → ℕ → ℕ → Option Chosen
split_at count kept set part = joined_of (sides_of count set part) (slice_index_or kept part None) (slice_index_or kept (bit_xor set part) None)

-- a part of a set that is no more than the rest of it, as a number
pub record IsPart (set part : ℕ) : Type 0 where
  pub some : 0 < part
  pub half : part ≤ set / 2
  pub within : bit_and part set ≡ part

-- by the cost as it is given, then by the picks
abbrev pub comes_first : Chosen → Chosen → Bool
comes_first a b = is_lt (ordering_then (nat_cmp a.cost b.cost) (slice_cmp pick_cmp a.picks b.picks))

-- what the splits of a set join to, of which none comes before it
pub record IsFirstSplit (count : ℕ) (kept : List (Option Chosen)) (set : ℕ) (best : Chosen) : Type 0 where
  pub among : (part : ℕ) × IsPart set part × (split_at count kept set part ≡ Some best)
  pub first : (part : ℕ) (other : Chosen) → IsPart set part → split_at count kept set part ≡ Some other → comes_first other best ≡ false

-- the least that the splits of a set join to, if any does
abbrev pub IsLeastSplit : ℕ → List (Option Chosen) → ℕ → Option Chosen → Type 0
IsLeastSplit count kept set None = (part : ℕ) → IsPart set part → split_at count kept set part ≡ None
IsLeastSplit count kept set (Some best) = IsFirstSplit count kept set best

-- the one that comes first, and the former where neither does
abbrev pub first_of : Option Chosen → Option Chosen → Option Chosen
first_of best None = best
first_of None (Some other) = Some other
first_of (Some best) (Some other) = if comes_first other best then Some other else Some best
