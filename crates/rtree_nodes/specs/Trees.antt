-- The pages under a root, as a tree of items.
use Rattle.std.specs.Prelude.{◌≡◌, ℕ, zero, suc, ◌+◌, ◌≤◌, max, List, [], ◌∷◌, Option, None, Some, if◌then◌else◌, ◌==◌}
use Rattle.btree_nodes.specs.Supply.{one_at}
use Rattle.rtree_nodes.specs.Slots.{Item, Slots, NodeView, NodeMap, got, amount, filled, tops, gather, opt_list, Held, Each, IsFree}

-- the sum of f over the places below an item in a node of this level
abbrev pub below : NodeMap → (Item → ℕ) → ℕ → Item → ℕ
below nodes f zero x = f x
below nodes f (suc level) x = amount (λ y. below nodes f level y) (nodes x.to).slots

-- how often a page is used below an item in a node of this level
abbrev pub uses : NodeMap → ℕ → Item → ℕ → ℕ
uses nodes zero x n = 0
uses nodes (suc level) x n = one_at x.to n + amount (λ y. uses nodes level y n) (nodes x.to).slots

-- a node of this level with at least so many slots, each of which holds a P
pub record IsNode (P : Item → Type 0) (least level : ℕ) (node : NodeView) : Type 0 where
  pub level_is : node.level ≡ level
  pub some : least ≤ filled node.slots
  pub items : Each P node.slots

-- an item in a node of this level: a place, or a child that is filled, with the least reach round it
abbrev pub IsItem : NodeMap → ℕ → Item → Type 0
IsItem nodes zero x = Unit {0}
IsItem nodes (suc level) x = IsNode (λ y. IsItem nodes level y) 12 level (nodes x.to) × ((d : ℕ) → x.reach d ≡ tops d (nodes x.to).slots)

-- the least number of slots of a root
abbrev pub root_least : ℕ → ℕ
root_least zero = 1
root_least (suc level) = 2

-- the node at a page is the root of a tree of this level
abbrev pub IsTree : NodeMap → ℕ → ℕ → Type 0
IsTree nodes level root = IsNode (λ y. IsItem nodes level y) (root_least level) level (nodes root)

-- how often a page is used by a node of this level and below it
abbrev pub node_uses : NodeMap → ℕ → ℕ → ℕ → ℕ
node_uses nodes level page n = one_at page n + amount (λ y. uses nodes level y n) (nodes page).slots

-- the sum of f over the places below a node of this level at a page
abbrev pub node_below : NodeMap → (Item → ℕ) → ℕ → ℕ → ℕ
node_below nodes f level page = amount (λ y. below nodes f level y) (nodes page).slots

-- how far an item reaches to a side
abbrev pub reach_of : ℕ → Item → ℕ
reach_of d x = x.reach d

-- the least number of slots of a node beside which another was made, or wasn't
abbrev pub least_with : ℕ → Option Item → ℕ
least_with least None = least
least_with least (Some y) = 12

-- what stands at a page, and in the item beside it if there is one, has these sums, this reach and these pages
pub record Stands (nodes : NodeMap) (least level page : ℕ) (more : Option Item) (sums : (Item → ℕ) → ℕ) (reach : ℕ → ℕ) : Type 0 where
  pub node : IsNode (λ y. IsItem nodes level y) (least_with least more) level (nodes page)
  pub beside : Held (λ y. IsItem nodes (suc level) y) more
  pub sum_is : (f : Item → ℕ) → node_below nodes f level page + got (λ y. below nodes f (suc level) y) more ≡ sums f
  pub reach_is : (d : ℕ) → max (tops d (nodes page).slots) (got (reach_of d) more) ≡ reach d

-- the pages of a node and of the item beside it
abbrev pub stand_uses : NodeMap → ℕ → ℕ → Option Item → ℕ → ℕ
stand_uses nodes level page more n = node_uses nodes level page n + got (λ y. uses nodes (suc level) y n) more

-- the slots with an item in one of them
abbrev pub with_slot : ℕ → Item → Slots → Slots
with_slot at x slots i = if i == at then Some x else slots i

-- the item was put into the lowest free slot
pub record IsPutFree (s : Slots) (x : Item) (t : Slots) : Type 0 where
  pub at : ℕ
  pub free : IsFree s at
  pub is : t ≡ with_slot at x s

-- the places below an item, and in some slots, by number
abbrev pub places : NodeMap → ℕ → Item → List Item
places nodes zero x = x ∷ []
places nodes (suc level) x = gather 32 (λ i. opt_list (λ y. places nodes level y) ((nodes x.to).slots i))
