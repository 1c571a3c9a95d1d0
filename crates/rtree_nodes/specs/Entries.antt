-- The entry of a point and a key, and what a slot says of it.
use Rattle.std.specs.Prelude.{◌≡◌, ℕ, ◌<◌, Bool, ◌==◌, ◌&&◌, ◌+◌, if◌then◌else◌, List, take, drop, Option, Some, None}
use Rattle.std.specs.Str.{bytes_eq}
use Rattle.spatial_base.specs.Point.{Position}
use Rattle.spatial_base.specs.Rect.{rect_of}
use Rattle.rtree_nodes.specs.Slots.{Item, Slots, Held, IsChildAt}
use Rattle.rtree_nodes.specs.Numbers.{int_at}
use Rattle.rtree_nodes.specs.Reach.{reach_of}

-- an item reaches to this side exactly as far as the point
abbrev pub is_at_side : Position → Item → ℕ → Bool
is_at_side point x d = x.reach d == reach_of (rect_of point) d

-- an item is the entry of this point and this key's bytes, as a test: by its four sides and its key
abbrev pub is_place_of : Position → List ℕ → Item → Bool
is_place_of point key x = is_at_side point x 0 && is_at_side point x 1 && is_at_side point x 2 && is_at_side point x 3 && bytes_eq x.key key

-- 1 for the entry of this point and this key's bytes, and else 0
unfoldable pub is_entry : Position → List ℕ → Item → ℕ
is_entry point key x = if is_place_of point key x then 1 else 0

-- the point, and the bytes of the key behind it, stand from this byte of a page on
pub record IsPlaceIn (page : List ℕ) (at : ℕ) (point : Position) (key : List ℕ) : Type 0 where
  pub x : int_at at page ≡ point.x
  pub y : int_at (at + 4) page ≡ point.y
  pub key_is : take 66 (drop (at + 8) page) ≡ key

-- an item doesn't reach as far as the point on some side: its rectangle doesn't hold the point
abbrev pub IsShort : Position → Item → Type 0
IsShort point y = (d : ℕ) × (d < 4) × (y.reach d < reach_of (rect_of point) d)

-- what is kept of a slot of an inner node: its child, or nothing where it has none whose rectangle holds the point
abbrev pub IsRound : Slots → Position → ℕ → Option ℕ → Type 0
IsRound slots point at (Some child) = IsChildAt slots at child
IsRound slots point at None = Held (IsShort point) (slots at)
