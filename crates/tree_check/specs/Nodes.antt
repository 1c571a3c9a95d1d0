-- The nodes of an R-tree in the pages, and the pages of a tree one after the other.
use Rattle.std.specs.Prelude.{◌≡◌, ℕ, zero, suc, ◌≤◌, List, [], ◌∷◌, ◌++◌, Option, Some, None, true}
use Rattle.page_face.specs.FreeList.{PageMap}
use Rattle.rtree_nodes.specs.Slots.{Item, NodeMap, amount, filled}
use Rattle.rtree_nodes.specs.Trees.{uses}
use Rattle.rtree_nodes.specs.Made as made
use Rattle.rtree_nodes.specs.Whole.{level_at}
use Rattle.rtree_nodes.specs.Pages.{level_in, is_form, node_of, slots_in}

-- the nodes in pages, by their bytes
abbrev pub nodes_in : PageMap → NodeMap
nodes_in pages = made.nodes_in node_of pages

-- how often a page is used below a node of this level, the node's own page not included
abbrev pub beneath : NodeMap → ℕ → ℕ → ℕ → ℕ
beneath nodes level page n = amount (λ y. uses nodes level y n) (nodes page).slots

-- the page is that of a node of this level with at least so many items
pub record IsPlaced (least level : ℕ) (page : List ℕ) : Type 0 where
  pub form : is_form page ≡ true
  pub level_is : level_in page ≡ level
  pub some : least ≤ filled (slots_in page)

-- the first n lists, one after the other
unfoldable pub chained : ℕ → (ℕ → List ℕ) → List ℕ
chained zero f = []
chained (suc n) f = chained n f ++ f n

-- the list that f makes of what is there, or none
abbrev pub listed : (Item → List ℕ) → Option Item → List ℕ
listed f None = []
listed f (Some x) = f x

-- the pages below an item in a node of this level, each after those below it
abbrev pub pages_below : NodeMap → ℕ → Item → List ℕ
pages_below nodes zero x = []
pages_below nodes (suc level) x = chained 32 (λ i. listed (λ y. pages_below nodes level y) ((nodes x.to).slots i)) ++ (x.to ∷ [])

-- the pages below a node of this level, and its own page after them
abbrev pub node_pages : NodeMap → ℕ → ℕ → List ℕ
node_pages nodes level page = chained 32 (λ i. listed (λ y. pages_below nodes level y) ((nodes page).slots i)) ++ (page ∷ [])

-- the pages of the tree at a root; the empty tree, of root 0, has none
abbrev pub tree_pages : PageMap → ℕ → List ℕ
tree_pages pages zero = []
tree_pages pages (suc n) = node_pages (nodes_in pages) (level_at node_of pages (suc n)) (suc n)
