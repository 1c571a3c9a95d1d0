-- A full node and one item more, parted in two.
use Rattle.std.specs.Prelude.{◌≡◌, ℕ, ◌^◌, ◌<◌, ◌==◌, List, Bool, true, false}
use Rattle.std.specs.Int.{bit_at}
use Rattle.rtree_nodes.specs.Slots.{Item, Slots, IsFree}
use Rattle.rtree_nodes.specs.Trees.{with_slot}
use Rattle.rtree_nodes.specs.Masks.{kept_of, moved_of}
use Rattle.node_rows.specs.Rows.{Bytes}
use Rattle.node_rows.specs.Counts.{IsCounted}

-- a policy that splits so was asked with the number of words that each two of 33 entries share
pub record IsAsked (b : Bytes) (page : ℕ) (words : List (ℕ × ℕ)) (splits : List (List ℕ) → ℕ → Type 0) (mask : ℕ) : Type 0 where
  pub table : List (List ℕ)
  pub counted : IsCounted b page words (2 ^ 64) table
  pub division : splits table mask

-- the new item stands in the lowest free slot
pub record IsPutAt (s : Slots) (x : Item) (at : ℕ) (t : Slots) : Type 0 where
  pub free : IsFree s at
  pub is : t ≡ with_slot at x s

-- the items that stay and those that move, the new one among them
abbrev pub AreParted : Bool → ℕ → ℕ → Slots → Item → Slots → Slots → Type 0
AreParted true moves at s x a b = (a ≡ kept_of moves s) × IsPutAt (moved_of moves s) x at b
AreParted false moves at s x a b = IsPutAt (kept_of moves s) x at a × (b ≡ moved_of moves s)

-- the items of a full node and the new one were parted by a mask of 33 entries
pub record IsParted (mask moves : ℕ) (is_moved : Bool) (at : ℕ) (s : Slots) (x : Item) (a b : Slots) : Type 0 where
  pub same : (i : ℕ) → i < 32 → bit_at moves i ≡ bit_at mask i
  pub goes : (bit_at mask 32 == 1) ≡ is_moved
  pub are : AreParted is_moved moves at s x a b
