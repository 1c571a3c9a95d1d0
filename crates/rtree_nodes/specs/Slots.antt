-- The 32 slots of a node, and what they come to together.
use Rattle.std.specs.Prelude.{◌≡◌, ◌⊎◌, ℕ, zero, suc, ◌+◌, ◌<◌, ◌≤◌, max, List, [], ◌++◌, Option, None, Some, if◌then◌else◌, ◌==◌}

-- what stands in a slot: how far it reaches to each side, and, behind the sides, the greatest impact of each word; its child's page, or its key
pub record Item : Type 0 where
  pub reach : ℕ → ℕ
  pub to : ℕ
  pub key : List ℕ

-- the slots of a node by number; what stands at 32 and above counts for nothing
abbrev pub Slots : Type 0
Slots = ℕ → Option Item

-- a node: its level, 0 for a leaf, and its slots
pub record NodeView : Type 0 where
  pub level : ℕ
  pub slots : Slots

-- the node at each page
abbrev pub NodeMap : Type 0
NodeMap = ℕ → NodeView

-- the sum of the first n values of f
unfoldable pub sum_to : ℕ → (ℕ → ℕ) → ℕ
sum_to zero f = 0
sum_to (suc n) f = f n + sum_to n f

-- the greatest of the first n values of f, or 0
unfoldable pub top_to : ℕ → (ℕ → ℕ) → ℕ
top_to zero f = 0
top_to (suc n) f = max (f n) (top_to n f)

-- f of what is there, or 0
abbrev pub got : (Item → ℕ) → Option Item → ℕ
got f None = 0
got f (Some x) = f x

-- the sum of f over the slots that are used
unfoldable pub amount : (Item → ℕ) → Slots → ℕ
amount f slots = sum_to 32 (λ i. got f (slots i))

-- each item counts as one
abbrev pub one : Item → ℕ
one x = 1

-- how many slots are used
abbrev pub filled : Slots → ℕ
filled slots = amount one slots

-- how far the slots together reach to this side
unfoldable pub tops : ℕ → Slots → ℕ
tops d slots = top_to 32 (λ i. got (λ x. x.reach d) (slots i))

-- the list that f makes of what is there, or none
abbrev pub opt_list : (Item → List Item) → Option Item → List Item
opt_list f None = []
opt_list f (Some x) = f x

-- these lists, one behind the other
unfoldable pub gather : ℕ → (ℕ → List Item) → List Item
gather zero f = []
gather (suc n) f = f n ++ gather n f

-- P of what is there, if something is
abbrev pub Held : (Item → Type 0) → Option Item → Type 0
Held P None = Unit {0}
Held P (Some x) = P x

-- P of each item in a slot
abbrev pub Each : (Item → Type 0) → Slots → Type 0
Each P slots = (i : ℕ) → i < 32 → Held P (slots i)

-- the slot holds an item
abbrev pub IsUsed : Slots → ℕ → Type 0
IsUsed slots at = (at < 32) × (got one (slots at) ≡ 1)

-- the slot holds a child that stands at this page
pub record IsChildAt (slots : Slots) (at to : ℕ) : Type 0 where
  pub item : Item
  pub is : slots at ≡ Some item
  pub to_is : item.to ≡ to

-- each slot holds an item
abbrev pub IsFull : Slots → Type 0
IsFull slots = (i : ℕ) → i < 32 → got one (slots i) ≡ 1

-- the lowest free slot
pub record IsFree (slots : Slots) (at : ℕ) : Type 0 where
  pub within : at < 32
  pub free : slots at ≡ None
  pub lowest : (i : ℕ) → i < at → got one (slots i) ≡ 1

-- the slots without the item in one of them
abbrev pub without_slot : ℕ → Slots → Slots
without_slot at slots i = if i == at then None else slots i

-- no slot holds an item
abbrev pub no_slots : Slots
no_slots i = None

-- a slot of a part holds nothing, the item that came, or one that was there
abbrev pub IsFrom : Slots → Item → Option Item → Type 0
IsFrom s x None = Unit {0}
IsFrom s x (Some z) = (z ≡ x) ⊎ ((j : ℕ) × (j < 32) × (s j ≡ Some z))

-- the items of a node, and one more, in two nodes
pub record IsPart (s : Slots) (x : Item) (a b : Slots) : Type 0 where
  pub sums : (f : Item → ℕ) → amount f a + amount f b ≡ amount f s + f x
  pub reach : (d : ℕ) → max (tops d a) (tops d b) ≡ max (tops d s) (x.reach d)
  pub stay : 12 ≤ filled a
  pub move : 12 ≤ filled b
  pub from_a : (i : ℕ) → i < 32 → IsFrom s x (a i)
  pub from_b : (i : ℕ) → i < 32 → IsFrom s x (b i)
