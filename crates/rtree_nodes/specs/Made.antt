-- The nodes in pages, and what slots come to with one item more.
use Rattle.std.specs.Prelude.{◌≡◌, ℕ, ◌+◌, ◌-◌, ◌^◌, ◌<◌, max, List, Option}
use Rattle.page_face.specs.FreeList.{PageMap}
use Rattle.btree_nodes.specs.Supply.{one_at}
use Rattle.rtree_nodes.specs.Slots.{Item, Slots, NodeView, NodeMap, got, amount, tops}
use Rattle.rtree_nodes.specs.Trees.{below, uses, reach_of}

-- what node a page's bytes are
abbrev pub Reads : Type 0
Reads = List ℕ → NodeView

-- the nodes in pages
abbrev pub nodes_in : Reads → PageMap → NodeMap
nodes_in reads pages n = reads (pages n)

-- Below its last value the count of splits has risen by n.
abbrev pub Rises : ℕ → ℕ → ℕ → Type 0
Rises old new n = new < 2 ^ 64 - 1 → new ≡ old + n

-- what is to stand at a page where these slots are written, with one item more
abbrev pub sums_with : NodeMap → ℕ → Slots → Option Item → (Item → ℕ) → ℕ
sums_with nodes level s add f = amount (λ y. below nodes f level y) s + got (λ y. below nodes f level y) add

-- the pages of these slots and of the page itself, with one item more
abbrev pub uses_with : NodeMap → ℕ → ℕ → Slots → Option Item → ℕ → ℕ
uses_with nodes level page s add n = one_at page n + amount (λ y. uses nodes level y n) s + got (λ y. uses nodes level y n) add

-- how far these slots reach, with one item more
abbrev pub reach_with : Slots → Option Item → ℕ → ℕ
reach_with s add d = max (tops d s) (got (reach_of d) add)
