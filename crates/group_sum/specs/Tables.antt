-- The least choice of each set of words, kept by the set's mask.
use Rattle.std.specs.Prelude.{◌≡◌, ℕ, ◌*◌, ◌<◌, ◌≤◌, List, length, Option, Some, None, slice_index_or}
use Rattle.std.specs.List.{flat_map}
use Rattle.place_values.specs.declared.query.Pick.{Pick}
use Rattle.place_values.specs.declared.query.Chosen.{Chosen}
use Rattle.place_values.specs.Group.{product, least_by}
use Rattle.place_values.specs.Sum.{sum_cost}
use Rattle.collective_query.specs.Opened.{picks_in}
use Rattle.group_sum.specs.Sets.{in_set}

-- each set below the table's length has its least choice
abbrev pub AreLeast : List (List Pick) → List (Option Chosen) → Type 0
AreLeast lists kept = (set : ℕ) → set < length kept → slice_index_or kept set None ≡ least_by sum_cost (product (in_set set lists))

-- what a choice costs, or 0
abbrev pub cost_in : Option Chosen → ℕ
cost_in None = 0
cost_in (Some best) = best.cost

-- it costs more than the best choice
abbrev pub IsDearer : ℕ → Option Chosen → Type 0
IsDearer cost None = ⊥
IsDearer cost (Some best) = best.cost < cost

-- no choice costs more than so many of the farthest places as the set's mask is
abbrev pub AreLow : List (Option Chosen) → Type 0
AreLow kept = (set : ℕ) → cost_in (slice_index_or kept set None) ≤ 2545584412 * set

-- the picks of all choices
abbrev pub picks_kept : List (Option Chosen) → List Pick
picks_kept kept = flat_map picks_in kept
