-- What holds of a split part way.
use Rattle.std.specs.Prelude.{◌≡◌, ℕ, ◌+◌, ◌<◌, ◌≤◌, ◌^◌}
use Rattle.std.specs.Int.{bit_at}
use Rattle.split_policy.specs.Masks.{marked}
use Rattle.split_policy.specs.Quadratic.{remaining}
use Rattle.split_policy.specs.declared.division.Division.{Division}

-- each of 33 entries is left, stays or moves, and each group can still have 12
pub record IsDivided (d : Division) : Type 0 where
  pub left : d.left < 2 ^ 33
  pub moved : d.moved < 2 ^ 33
  pub apart : (i : ℕ) → bit_at d.left i + bit_at d.moved i ≤ 1
  pub all : d.staying.count + d.moving.count + remaining d ≡ 33
  pub counted : marked 33 d.moved ≡ d.moving.count
  pub enough_staying : 12 ≤ d.staying.count + remaining d
  pub enough_moving : 12 ≤ d.moving.count + remaining d
