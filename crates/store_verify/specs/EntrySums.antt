-- The entries in the leaves of a tree, page by page.
use Rattle.std.specs.Prelude.{◌≡◌, ℕ, zero, suc, ◌<◌, List}
use Rattle.page_face.specs.FreeList.{PageMap}
use Rattle.btree_nodes.specs.Damages.{AreReadable}
use Rattle.rtree_nodes.specs.Slots.{Item, NodeView, amount, filled}
use Rattle.rtree_nodes.specs.Pages.{node_of, slots_in}
use Rattle.rtree_nodes.specs.Whole.{IsWell}
use Rattle.tree_check.specs.Nodes.{tree_pages}

-- the sum of f over the entries of a node of this level: those in a leaf's slots, and none in an inner node
abbrev pub entry_sum : (Item → ℕ) → ℕ → NodeView → ℕ
entry_sum f zero node = amount f node.slots
entry_sum f (suc level) node = 0

-- the sum of f over the entries in a page
abbrev pub page_sum : (Item → ℕ) → List ℕ → ℕ
page_sum f page = entry_sum f (node_of page).level (node_of page)

-- the page is that of a node with an item, and none of those left out
pub record IsFilledPage (out : ℕ → Type 0) (pages : PageMap) (page : ℕ) : Type 0 where
  pub within : out page → ⊥
  pub some : 0 < filled (slots_in (pages page))

-- The list is that of the pages of a well-formed tree at a root, and all counted pages are readable.
pub record AreTreePages (pages : PageMap) (count root : ℕ) (list : List ℕ) : Type 0 where
  pub readable : AreReadable pages count
  pub tree : IsWell node_of pages root
  pub is : list ≡ tree_pages pages root
