-- How many words a slot and an entry share.
use Rattle.std.specs.Prelude.{◌≡◌, ◌⊎◌, ℕ, ◌+◌, ◌-◌, ◌^◌, ◌<◌, min, List, [], ◌∷◌, if◌then◌else◌, nat_lt, slice_index, slice_index_or}
use Rattle.rtree_nodes.specs.Slots.{sum_to}
use Rattle.node_rows.specs.Rows.{Bytes}
use Rattle.node_rows.specs.Impacts.{impact_in}

-- 1 where a byte isn't 0
abbrev pub sign : ℕ → ℕ
sign byte = if nat_lt 0 byte then 1 else 0

-- the last value of a count
abbrev pub most : ℕ
most = 2 ^ 32 - 1

-- how many of an entry's words stand below a slot
abbrev pub shared_in : Bytes → ℕ → ℕ → List (ℕ × ℕ) → ℕ
shared_in b node slot [] = 0
shared_in b node slot (pair ∷ pairs) = shared_in b node slot pairs + sign (b node pair.0 slot)

-- the impact of a word in one of 33 entries: 32 slots, and the entry behind them
abbrev pub impact_33 : Bytes → ℕ → List (ℕ × ℕ) → ℕ → ℕ → ℕ
impact_33 b node pairs w i = if nat_lt i 32 then b node w i else impact_in pairs w

-- 1 where neither is 0
abbrev pub both : ℕ → ℕ → ℕ
both x y = if nat_lt 0 x then sign y else 0

-- a count after one word more, of whose two bytes neither is 0 if it counts
abbrev pub counted_on : ℕ → ℕ → ℕ → ℕ
counted_on count x y = if nat_lt 0 x then min (count + sign y) most else count

-- how many words below this one two of 33 entries share
unfoldable pub alike : Bytes → ℕ → List (ℕ × ℕ) → ℕ → ℕ → ℕ → ℕ
alike b node pairs k i j = sum_to k (λ w. both (impact_33 b node pairs w i) (impact_33 b node pairs w j))

-- a count in a table
abbrev pub cell : List (List ℕ) → ℕ → ℕ → ℕ
cell table i j = slice_index (slice_index_or table i []) j

-- the table says how many words below this one each two of 33 entries share, up to the last value of a count; of the entry with itself nothing is said
abbrev pub IsCounted : Bytes → ℕ → List (ℕ × ℕ) → ℕ → List (List ℕ) → Type 0
IsCounted b node pairs k table = (i j : ℕ) → i < 33 → j < 33 → (i < 32) ⊎ (j < 32) → cell table i j ≡ min (alike b node pairs k i j) most
