-- Picks that may be in one choice.
use Rattle.std.specs.Prelude.{ℕ, ◌+◌, max, nat_le, Bool, List}
use Rattle.std.specs.List.{filter, list_any}
use Rattle.spatial_base.specs.Point.{seen_from, distance}
use Rattle.place_values.specs.declared.query.Pick.{Pick}

-- what a choice with both costs at least: the distance to the farther of the two, and the one between them
abbrev pub pair_cost : ℕ → Pick → Pick → ℕ
pair_cost scale pick other = max pick.dist other.dist + distance (seen_from pick.point scale) other.point

-- a choice with both may cost at most so much
abbrev pub may_join : ℕ → ℕ → Pick → Pick → Bool
may_join scale most pick other = nat_le (pair_cost scale pick other) most

-- the picks that one of the others may join
abbrev pub joined_by : ℕ → ℕ → List Pick → List Pick → List Pick
joined_by scale most others picks = filter (λ pick. list_any (may_join scale most pick) others) picks
