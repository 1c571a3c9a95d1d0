-- The nodes of a tree, each by its level and its page.
use Rattle.std.specs.Prelude.{ℕ, zero, suc, ◌+◌, List, [], ◌∷◌, Option}
use Rattle.rtree_nodes.specs.Slots.{Item, Slots, NodeMap, got, amount}

-- the sum of g over the nodes below an item in a node of this level
abbrev pub heads : NodeMap → (ℕ → ℕ → ℕ) → ℕ → Item → ℕ
heads nodes g zero x = 0
heads nodes g (suc level) x = g level x.to + amount (λ y. heads nodes g level y) (nodes x.to).slots

-- over a node of this level and those below it
abbrev pub node_heads : NodeMap → (ℕ → ℕ → ℕ) → ℕ → ℕ → ℕ
node_heads nodes g level page = g level page + amount (λ y. heads nodes g level y) (nodes page).slots

-- and over those beside it
abbrev pub stand_heads : NodeMap → (ℕ → ℕ → ℕ) → ℕ → ℕ → Option Item → ℕ
stand_heads nodes g level page more = node_heads nodes g level page + got (λ y. heads nodes g (suc level) y) more

-- what is to stand at a page where these slots are written, with one item more
abbrev pub heads_with : NodeMap → (ℕ → ℕ → ℕ) → ℕ → ℕ → Slots → Option Item → ℕ
heads_with nodes g level page s add = g level page + amount (λ y. heads nodes g level y) s + got (λ y. heads nodes g level y) add

-- the sum of g over levels and pages
abbrev pub total_heads : (ℕ → ℕ → ℕ) → List (ℕ × ℕ) → ℕ
total_heads g [] = 0
total_heads g (n ∷ ns) = g n.0 n.1 + total_heads g ns
