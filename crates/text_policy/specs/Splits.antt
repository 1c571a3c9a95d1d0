-- A split that keeps entries with the same words together, with each tie decided.
use Rattle.std.specs.Prelude.{◌≡◌, ℕ, ◌<◌, ◌≤◌, ◌&&◌, ◌||◌, ◌==◌, nat_lt, Bool, if◌then◌else◌, List}
use Rattle.spatial_base.specs.Rect.{Bounds}
use Rattle.split_policy.specs.Areas.{rect_at, growth_of}
use Rattle.split_policy.specs.Masks.{IsAmong, with_bit, without_bit}
use Rattle.split_policy.specs.Quadratic.{with_entry, begun, IsOpen, EndsWith}
use Rattle.split_policy.specs.declared.division.Division.{Division}
use Rattle.text_policy.specs.Words.{like_at}

-- the entry behind entry i that shares the fewest words with it, of equals the first
pub record IsPartner (like : List (List ℕ)) (i j : ℕ) : Type 0 where
  pub order : i < j
  pub within : j < 33
  pub fewest : (l : ℕ) → i < l → l < 33 → like_at like i j ≤ like_at like i l
  pub number : (l : ℕ) → i < l → l < 33 → like_at like i l ≡ like_at like i j → j ≤ l

-- the pair that shares the fewest words; of equals that with the least first entry, then the least second
pub record AreBeginners (like : List (List ℕ)) (i j : ℕ) : Type 0 where
  pub partner : IsPartner like i j
  pub fewest : (k l : ℕ) → k < l → l < 33 → like_at like i j ≤ like_at like k l
  pub number : (k l : ℕ) → k < l → l < 33 → like_at like k l ≡ like_at like i j → i ≤ k

-- the entry that is left with the least number
pub record IsFirstLeft (left at : ℕ) : Type 0 where
  pub is_left : IsAmong left at
  pub number : (i : ℕ) → IsAmong left i → at ≤ i

-- An entry is drawn to the group that moves: it shares more words with that group's beginner; or as many, and that group grows less by it;
-- or as much, and that group has fewer entries.
unfoldable pub is_drawn : Division → Bounds → ℕ → ℕ → Bool
is_drawn d r staying moving =
    nat_lt staying moving
    || ((staying == moving)
    && (nat_lt (growth_of d.moving.bounds r) (growth_of d.staying.bounds r)
    || ((growth_of d.moving.bounds r == growth_of d.staying.bounds r) && nat_lt d.moving.count d.staying.count)))

-- the split when an entry has joined the group that it is drawn to, where entries i and j began the groups
unfoldable pub joined : List Bounds → List (List ℕ) → ℕ → ℕ → ℕ → Division → Division
joined rects like i j at d =
    if is_drawn d (rect_at rects at) (like_at like i at) (like_at like j at)
    then record {
      left = without_bit d.left at;
      moved = with_bit d.moved at;
      staying = d.staying;
      moving = with_entry (rect_at rects at) d.moving;
    }
    else record {
      left = without_bit d.left at;
      moved = d.moved;
      staying = with_entry (rect_at rects at) d.staying;
      moving = d.moving;
    }

-- which entries move in the end: the first that is left joins, until none is left or a group needs all, which ends the quadratic split too
pub data EndsByWords (rects : List Bounds) (like : List (List ℕ)) (i j : ℕ) : Division → ℕ → Type 0 where
  rest_goes : (d : Division) (mask : ℕ) → (IsOpen d → ⊥) → EndsWith rects d mask → EndsByWords rects like i j d mask
  next_joins : (d : Division) (at mask : ℕ) → IsOpen d → IsFirstLeft d.left at → EndsByWords rects like i j (joined rects like i j at d) mask
      → EndsByWords rects like i j d mask

-- the entries that a split by words moves
pub record IsWordSplit (rects : List Bounds) (like : List (List ℕ)) (mask : ℕ) : Type 0 where
  pub i : ℕ
  pub j : ℕ
  pub beginners : AreBeginners like i j
  pub ends : EndsByWords rects like i j (begun rects i j) mask
