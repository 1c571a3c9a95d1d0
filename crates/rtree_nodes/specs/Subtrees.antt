-- The node at a page with all below it, and what a search of it finds.
use Rattle.std.specs.Prelude.{◌≡◌, ℕ, ◌<◌, Bool, true, false, List}
use Rattle.page_face.specs.Causes.{IsUncounted}
use Rattle.spatial_base.specs.Point.{Position}
use Rattle.rtree_nodes.specs.Slots.{NodeMap}
use Rattle.rtree_nodes.specs.Trees.{IsNode, IsItem, node_uses, node_below}
use Rattle.rtree_nodes.specs.Loose.{Leads}
use Rattle.rtree_nodes.specs.Reach.{place_item}
use Rattle.rtree_nodes.specs.Entries.{is_entry}

-- a well-formed node of this level stands at the page
abbrev pub IsNodeAt : NodeMap → ℕ → ℕ → Type 0
IsNodeAt nodes level page = IsNode (λ y. IsItem nodes level y) 1 level (nodes page)

-- its page and those below it are counted, and none is page 0
abbrev pub AreCounted : NodeMap → ℕ → ℕ → ℕ → Type 0
AreCounted nodes count level page = (n : ℕ) → 0 < node_uses nodes level page n → IsUncounted count n → ⊥

-- the slots of the path lead from the page to the entry, or the entry isn't below the page
abbrev pub Finds : NodeMap → ℕ → ℕ → Position → List ℕ → List ℕ → Bool → Type 0
Finds nodes level page point key path true = Leads nodes path level page (place_item point key)
Finds nodes level page point key path false = node_below nodes (is_entry point key) level page ≡ 0
