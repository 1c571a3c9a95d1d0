-- A split in halves along the axis on which the rectangles are spread most.
use Rattle.std.specs.Prelude.{◌≡◌, ℕ, zero, suc, ◌<◌, ◌≤◌, ◌^◌, ℤ, ◌+ℤ◌, ◌-ℤ◌, int_lt, int_le, ◌&&◌, ◌||◌, nat_lt, Bool, if◌then◌else◌, List, ◌↔◌}
use Rattle.std.specs.Int.{bit_at, int_max, int_min}
use Rattle.std.specs.Ordering.{int_eq}
use Rattle.spatial_base.specs.Rect.{Bounds}
use Rattle.split_policy.specs.Areas.{rect_at}
use Rattle.split_policy.specs.Masks.{sum_to}
use Rattle.split_policy.specs.declared.axis.Axis.{Axis}
use Rattle.split_policy.specs.declared.axis.Axis.TheVariants.{Longitude, Latitude}

-- twice the middle of a rectangle on an axis
unfoldable pub sum_on : Axis → Bounds → ℤ
sum_on Longitude r = r.west +ℤ r.east
sum_on Latitude r = r.south +ℤ r.north

-- the sum of entry i
abbrev pub sum_at : List Bounds → Axis → ℕ → ℤ
sum_at rects axis i = sum_on axis (rect_at rects i)

-- the greatest of the first n numbers
unfoldable pub greatest : ℕ → (ℕ → ℤ) → ℤ
greatest zero f = f 0
greatest (suc n) f = int_max (greatest n f) (f n)

-- the least of the first n numbers
unfoldable pub least : ℕ → (ℕ → ℤ) → ℤ
least zero f = f 0
least (suc n) f = int_min (least n f) (f n)

-- how far the 33 sums are spread
unfoldable pub spread_on : List Bounds → Axis → ℤ
spread_on rects axis = greatest 33 (sum_at rects axis) -ℤ least 33 (sum_at rects axis)

-- longitude, unless latitude has the greater spread
unfoldable pub axis_of : List Bounds → Axis
axis_of rects = if int_le (spread_on rects Latitude) (spread_on rects Longitude) then Longitude else Latitude

-- one entry comes before another: it has the lesser sum, or the same and the lesser number
abbrev pub is_before : (ℕ → ℤ) → ℕ → ℕ → Bool
is_before sum i j = int_lt (sum i) (sum j) || int_eq (sum i) (sum j) && nat_lt i j

-- how many of the first n entries come before this one
unfoldable pub rank_among : ℕ → (ℕ → ℤ) → ℕ → ℕ
rank_among n sum i = sum_to n (λ j. if is_before sum j i then 1 else 0)

-- an entry moves if at least 17 of the 33 come before it
pub record IsHalvingSplit (rects : List Bounds) (mask : ℕ) : Type 0 where
  pub within : mask < 2 ^ 33
  pub moves : (i : ℕ) → i < 33 → (bit_at mask i ≡ 1) ↔ (17 ≤ rank_among 33 (sum_at rects (axis_of rects)) i)
