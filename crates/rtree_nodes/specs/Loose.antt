-- Items that stand nowhere yet while an entry is taken out, each with the level of the nodes that it belongs to.
use Rattle.std.specs.Prelude.{◌≡◌, ℕ, zero, suc, ◌+◌, ◌<◌, List, [], ◌∷◌, Option, Some, slice_index, if◌then◌else◌, ◌==◌}
use Rattle.rtree_nodes.specs.Slots.{Item, Slots, NodeMap, tops}
use Rattle.rtree_nodes.specs.Trees.{below, uses, IsItem, IsNode, node_uses, node_below}

-- items, each with the level of the nodes that it belongs to
abbrev pub Loose : Type 0
Loose = List (ℕ × Item)

-- the sum of F over loose items
abbrev pub total_loose : (ℕ → Item → ℕ) → Loose → ℕ
total_loose F [] = 0
total_loose F (o ∷ os) = F o.0 o.1 + total_loose F os

-- P of each loose item
abbrev pub AllLoose : (ℕ → Item → Type 0) → Loose → Type 0
AllLoose P [] = Unit {0}
AllLoose P (o ∷ os) = P o.0 o.1 × AllLoose P os

-- an item stands for a node with at least so many slots
abbrev pub IsNodeItem : NodeMap → ℕ → ℕ → Item → Type 0
IsNodeItem nodes least level y = IsNode (λ z. IsItem nodes level z) least level (nodes y.to) × ((d : ℕ) → y.reach d ≡ tops d (nodes y.to).slots)

-- the item is in this slot
abbrev pub IsAt : Slots → ℕ → Item → Type 0
IsAt s at z = (at < 32) × (s at ≡ Some z)

-- the slots of a path, one for each level, lead from a page down to an item of a leaf
abbrev pub Leads : NodeMap → List ℕ → ℕ → ℕ → Item → Type 0
Leads nodes path zero page x = IsAt (nodes page).slots (slice_index path 0) x
Leads nodes path (suc level) page x = (z : Item) × IsAt (nodes page).slots (slice_index path (suc level)) z × Leads nodes path level z.to x

-- the slots with an item, or none, in one of them
abbrev pub with_opt : ℕ → Option Item → Slots → Slots
with_opt at o slots i = if i == at then o else slots i

-- the pages of a node, of those below it, and of loose items
abbrev pub out_uses : NodeMap → ℕ → ℕ → Loose → ℕ → ℕ
out_uses nodes level page loose n = node_uses nodes level page n + total_loose (λ l y. uses nodes l y n) loose

-- the sum of f over the entries below a node and below loose items
abbrev pub out_below : NodeMap → ℕ → ℕ → Loose → (Item → ℕ) → ℕ
out_below nodes level page loose f = node_below nodes f level page + total_loose (λ l y. below nodes f l y) loose
