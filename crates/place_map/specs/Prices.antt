-- What a choice of a place for each word costs.
use Rattle.std.specs.Prelude.{ℕ, ◌≤◌, List}
use Rattle.std.specs.List.{AllByRecursion}
use Rattle.place_values.specs.declared.query.Pick.{Pick}
use Rattle.place_values.specs.Group.{choice_cost}
use Rattle.place_values.specs.Sum.{sum_cost}
use Rattle.place_map.specs.declared.group.Price.{Price}
use Rattle.place_map.specs.declared.group.Price.TheVariants.{Reach, Sum}

-- what a choice costs
abbrev pub price_of : Price → List Pick → ℕ
price_of (Reach at) = choice_cost at
price_of Sum = sum_cost

-- no pick is farther than two points can be
abbrev pub AreNear : List Pick → Type 0
AreNear picks = AllByRecursion (λ (pick : Pick). pick.dist ≤ 2545584412) picks
