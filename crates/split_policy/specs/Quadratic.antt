-- Guttman's choice of a slot and his quadratic split (1984, sections 3.2 and 3.5.2), with each tie decided.
use Rattle.std.specs.Prelude.{◌≡◌, ◌≢◌, ℕ, ◌+◌, ◌-◌, ◌<◌, ◌≤◌, ◌^◌, ◌≤ℤ◌, ◌&&◌, ◌||◌, ◌==◌, nat_lt, Bool, if◌then◌else◌, List, bit_or}
use Rattle.std.specs.Int.{abs_diff}
use Rattle.spatial_base.specs.Rect.{Bounds, joined}
use Rattle.split_policy.specs.Areas.{rect_at, rect_area, growth_of, waste_of}
use Rattle.split_policy.specs.Masks.{IsUsed, IsAmong, with_bit, without_bit, marked}
use Rattle.split_policy.specs.declared.group.Group.{Group}
use Rattle.split_policy.specs.declared.division.Division.{Division}

-- the used slot that grows least; of equals the smallest, and of equals again the first
pub record IsLeastGrowth (used : ℕ) (rects : List Bounds) (add : Bounds) (at : ℕ) : Type 0 where
  pub is_used : IsUsed used at
  pub growth : (i : ℕ) → IsUsed used i → growth_of (rect_at rects at) add ≤ growth_of (rect_at rects i) add
  pub area : (i : ℕ) → IsUsed used i → growth_of (rect_at rects i) add ≡ growth_of (rect_at rects at) add
      → rect_area (rect_at rects at) ≤ rect_area (rect_at rects i)
  pub number : (i : ℕ) → IsUsed used i → growth_of (rect_at rects i) add ≡ growth_of (rect_at rects at) add
      → rect_area (rect_at rects i) ≡ rect_area (rect_at rects at) → at ≤ i

-- the entry behind entry i with which it would waste most in one group, of equals the first
pub record IsPartner (rects : List Bounds) (i j : ℕ) : Type 0 where
  pub order : i < j
  pub within : j < 33
  pub waste : (l : ℕ) → i < l → l < 33 → waste_of (rect_at rects i) (rect_at rects l) ≤ℤ waste_of (rect_at rects i) (rect_at rects j)
  pub number : (l : ℕ) → i < l → l < 33 → waste_of (rect_at rects i) (rect_at rects l) ≡ waste_of (rect_at rects i) (rect_at rects j) → j ≤ l

-- PickSeeds: the pair that would waste most in one group; of equals that with the least first entry, then the least second
pub record IsSeeds (rects : List Bounds) (i j : ℕ) : Type 0 where
  pub partner : IsPartner rects i j
  pub waste : (k l : ℕ) → k < l → l < 33 → waste_of (rect_at rects k) (rect_at rects l) ≤ℤ waste_of (rect_at rects i) (rect_at rects j)
  pub number : (k l : ℕ) → k < l → l < 33 → waste_of (rect_at rects k) (rect_at rects l) ≡ waste_of (rect_at rects i) (rect_at rects j) → i ≤ k

-- the group of one entry
abbrev pub group_of : Bounds → Group
group_of r = record { bounds = r; count = 1 }

-- the group and one entry more
abbrev pub with_entry : Bounds → Group → Group
with_entry r group = record { bounds = joined group.bounds r; count = group.count + 1 }

-- the split as it begins: the first seed stays, the second moves
abbrev pub begun : List Bounds → ℕ → ℕ → Division
begun rects i j = record {
  left = without_bit (without_bit (2 ^ 33 - 1) i) j;
  moved = 2 ^ j;
  staying = group_of (rect_at rects i);
  moving = group_of (rect_at rects j);
}

-- how many entries are left
abbrev pub remaining : Division → ℕ
remaining d = marked 33 d.left

-- how differently the two groups would grow by an entry
unfoldable pub preference_of : Division → Bounds → ℕ
preference_of d r = abs_diff (growth_of d.staying.bounds r) (growth_of d.moving.bounds r)

-- PickNext: the entry that is left by which the groups would grow most differently, of equals the first
pub record IsNext (rects : List Bounds) (d : Division) (at : ℕ) : Type 0 where
  pub is_left : IsAmong d.left at
  pub preference : (i : ℕ) → IsAmong d.left i → preference_of d (rect_at rects i) ≤ preference_of d (rect_at rects at)
  pub number : (i : ℕ) → IsAmong d.left i → preference_of d (rect_at rects i) ≡ preference_of d (rect_at rects at) → at ≤ i

-- the first group grows less than the second by an entry; or as much, and is smaller; or is as large too, and has fewer entries
unfoldable pub is_preferred : Bounds → Group → Group → Bool
is_preferred r first second =
    nat_lt (growth_of first.bounds r) (growth_of second.bounds r)
    || ((growth_of first.bounds r == growth_of second.bounds r)
    && (nat_lt (rect_area first.bounds) (rect_area second.bounds)
    || ((rect_area first.bounds == rect_area second.bounds) && nat_lt first.count second.count)))

-- the split when an entry has joined the group that is preferred, that which stays if neither is
unfoldable pub placed : List Bounds → ℕ → Division → Division
placed rects at d =
    if is_preferred (rect_at rects at) d.moving d.staying
    then record {
      left = without_bit d.left at;
      moved = with_bit d.moved at;
      staying = d.staying;
      moving = with_entry (rect_at rects at) d.moving;
    }
    else record {
      left = without_bit d.left at;
      moved = d.moved;
      staying = with_entry (rect_at rects at) d.staying;
      moving = d.moving;
    }

-- the group needs all the entries that are left to have 12
abbrev pub NeedsAll : Group → Division → Type 0
NeedsAll group d = group.count + remaining d ≤ 12

-- the next entry is to be placed: some are left, and neither group needs them all
pub record IsOpen (d : Division) : Type 0 where
  pub some : d.left ≢ 0
  pub staying : 12 < d.staying.count + remaining d
  pub moving : 12 < d.moving.count + remaining d

-- which entries move in the end (QuadraticSplit, steps 2 and 3)
pub data EndsWith (rects : List Bounds) : Division → ℕ → Type 0 where
  none_left : (d : Division) → d.left ≡ 0 → EndsWith rects d d.moved
  rest_stays : (d : Division) → NeedsAll d.staying d → EndsWith rects d d.moved
  rest_moves : (d : Division) → NeedsAll d.moving d → EndsWith rects d (bit_or d.moved d.left)
  next_joins : (d : Division) (at mask : ℕ) → IsOpen d → IsNext rects d at → EndsWith rects (placed rects at d) mask → EndsWith rects d mask

-- the entries that Guttman's quadratic split moves
pub record IsQuadraticSplit (rects : List Bounds) (mask : ℕ) : Type 0 where
  pub i : ℕ
  pub j : ℕ
  pub seeds : IsSeeds rects i j
  pub ends : EndsWith rects (begun rects i j) mask
