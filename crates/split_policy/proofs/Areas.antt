-- Areas of joins.
use Rattle.std.proofs.Common.{◌≡◌, ℕ, ◌<◌, ◌≤◌, List, length, get_or, arith}
use Rattle.std.specs.Prelude.{◌≤ℤ◌}
use Rattle.std.proofs.lemmas.Nat.{mul-le}
use Rattle.std.proofs.lemmas.List.{get_or_default}
use Rattle.std.proofs.lemmas.Int.{ints, clamps}
use Rattle.spatial_base.specs.Rect.{Bounds, joined}
use Rattle.split_policy.specs.Areas.{rect_area, rect_at}

-- a join has no less area than the first of its parts
pub area-join : (r add : Bounds) → r.west ≤ℤ r.east → r.south ≤ℤ r.north → rect_area r ≤ rect_area (joined r add)
unfolding rect_area
area-join r add across along = mul-le _ _ _ _ (omega (arith, ints, clamps)) (omega (arith, ints, clamps))

-- a rectangle that is read is the one of its number
pub read-rect : (rects : List Bounds) (at n : ℕ) (d : Bounds) → length rects ≡ n → at < n → get_or rects at d ≡ rect_at rects at
read-rect rects at n d long within = get_or_default rects at d _ (omega arith)
