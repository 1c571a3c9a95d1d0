-- What putting an item in makes of a node and of the pages below it.
use Rattle.std.specs.Prelude.{◌≡◌, ℕ, ◌+◌, ◌<◌, ◌≤◌, max, List, length, Option, Some}
use Rattle.page_face.specs.FreeList.{PageMap}
use Rattle.btree_nodes.specs.Supply.{one_at}
use Rattle.rtree_nodes.specs.Slots.{Item, Slots, NodeView, NodeMap, got, amount, tops, filled, Held, Each}
use Rattle.rtree_nodes.specs.Trees.{below, uses, IsItem, IsNode, Stands, stand_uses, node_below, node_uses}
use Rattle.rtree_nodes.specs.Heads.{heads, node_heads, stand_heads, heads_with, total_heads}
use Rattle.rtree_nodes.specs.Stock.{View, view, spare_in}
use Rattle.rtree_nodes.specs.Made.{Reads, sums_with, uses_with, reach_with}
use Rattle.node_rows.specs.Rows.{bytes_in}
use Rattle.irtree_shape.specs.Words.{joined, AreBlank}
use Rattle.irtree_shape.specs.Stock.{IsSupplied, Moves}

-- the nodes in pages, each joined with its rows in the map at a root
abbrev pub nodes_in : Reads → PageMap → ℕ → NodeMap
nodes_in reads pages rows n = joined (reads (pages n)) (bytes_in pages rows n)

-- no byte stands at a slot of this page's node that isn't used
abbrev pub IsBlank : Reads → PageMap → ℕ → ℕ → Type 0
IsBlank reads pages rows n = AreBlank (bytes_in pages rows n) (reads (pages n)).slots

-- these slots, joined with the page's rows, may be written at the page, with one item more if there is one
pub record IsReady (reads : Reads) (before : View) (least level page : ℕ) (node : NodeView) (add : Option Item) : Type 0 where
  pub level_is : node.level ≡ level
  pub some : least ≤ filled node.slots
  pub small : least ≤ 12
  pub items : Each (λ y. IsItem (nodes_in reads before.pages before.rows) level y) node.slots
  pub beside : Held (λ y. IsItem (nodes_in reads before.pages before.rows) level y) add
  pub supplied : IsSupplied before
  pub once : (n : ℕ) → one_at page n + amount (λ y. uses (nodes_in reads before.pages before.rows) level y n) node.slots + got (λ y. uses (nodes_in reads before.pages before.rows) level y n) add + spare_in before n ≤ 1
  pub blank : (n : ℕ) → (n ≡ page → ⊥) → IsBlank reads before.pages before.rows n
  pub empty : AreBlank (bytes_in before.pages before.rows page) node.slots

-- At the page and beside it stand nodes with these sums and this reach, in place of the pages `mine`. Each node that was there is at its page and level, and these are fresh.
pub record IsMade (reads : Reads) (before : View) (pages : PageMap) (rows count first least level page : ℕ) (mine : ℕ → ℕ) (more : Option Item) (sums : (Item → ℕ) → ℕ) (counts : (ℕ → ℕ → ℕ) → ℕ) (reach told : ℕ → ℕ) (rise : ℕ → Type 0) : Type 0 where
  pub free : List ℕ
  pub fresh : List (ℕ × ℕ)
  pub moves : Moves before (view pages rows count first free) mine (λ n. stand_uses (nodes_in reads pages rows) level page more n)
  pub stands : Stands (nodes_in reads pages rows) least level page more sums reach
  pub told_is : (d : ℕ) → d < 4 → told d ≡ tops d (nodes_in reads pages rows page).slots
  pub blank : (n : ℕ) → IsBlank reads pages rows n
  pub counts_are : (g : ℕ → ℕ → ℕ) → stand_heads (nodes_in reads pages rows) g level page more ≡ counts g + total_heads g fresh
  pub counted : rise (length fresh)

-- a node stands at the page, and an item of a level below it or of its own is to be put in
pub record IsOpen (reads : Reads) (before : View) (least level page goal : ℕ) (x : Item) : Type 0 where
  pub node : IsNode (λ y. IsItem (nodes_in reads before.pages before.rows) level y) least level (nodes_in reads before.pages before.rows page)
  pub some : 0 < least
  pub small : least ≤ 12
  pub item : IsItem (nodes_in reads before.pages before.rows) goal x
  pub deep : goal ≤ level
  pub supplied : IsSupplied before
  pub once : (n : ℕ) → node_uses (nodes_in reads before.pages before.rows) level page n + uses (nodes_in reads before.pages before.rows) goal x n + spare_in before n ≤ 1
  pub away : node_uses (nodes_in reads before.pages before.rows) level page 0 + uses (nodes_in reads before.pages before.rows) goal x 0 ≡ 0
  pub blank : (n : ℕ) → IsBlank reads before.pages before.rows n

-- two nodes may be written, one at the page and one at a page that is taken
pub record IsTwo (reads : Reads) (before : View) (level page : ℕ) (a b : NodeView) : Type 0 where
  pub a_level : a.level ≡ level
  pub b_level : b.level ≡ level
  pub a_some : 12 ≤ filled a.slots
  pub b_some : 12 ≤ filled b.slots
  pub a_items : Each (λ y. IsItem (nodes_in reads before.pages before.rows) level y) a.slots
  pub b_items : Each (λ y. IsItem (nodes_in reads before.pages before.rows) level y) b.slots
  pub supplied : IsSupplied before
  pub once : (n : ℕ) → one_at page n + amount (λ y. uses (nodes_in reads before.pages before.rows) level y n) a.slots + amount (λ y. uses (nodes_in reads before.pages before.rows) level y n) b.slots + spare_in before n ≤ 1
  pub blank : (n : ℕ) → (n ≡ page → ⊥) → IsBlank reads before.pages before.rows n

-- one node has become two
pub record IsSplit (reads : Reads) (before : View) (pages : PageMap) (rows count first page right : ℕ) (a b : NodeView) : Type 0 where
  pub free : List ℕ
  pub moves : Moves before (view pages rows count first free) (one_at page) (λ n. one_at page n + one_at right n)
  pub here : nodes_in reads pages rows page ≡ a
  pub there : nodes_in reads pages rows right ≡ b
  pub here_blank : IsBlank reads pages rows page
  pub there_blank : IsBlank reads pages rows right

-- these slots, with one item more, have been written at the page and beside it
abbrev pub Makes : Reads → View → PageMap → ℕ → ℕ → ℕ → ℕ → ℕ → ℕ → Slots → Option Item → Option Item → (ℕ → ℕ) → (ℕ → Type 0) → Type 0
Makes reads v pages rows count first least level page s add more told rise =
    IsMade reads v pages rows count first least level page (uses_with (nodes_in reads v.pages v.rows) level page s add) more
    (sums_with (nodes_in reads v.pages v.rows) level s add) (λ g. heads_with (nodes_in reads v.pages v.rows) g level page s add) (reach_with s add) told rise

-- the item has been put in below the page
abbrev pub Puts : Reads → View → PageMap → ℕ → ℕ → ℕ → ℕ → ℕ → ℕ → ℕ → Item → Option Item → (ℕ → ℕ) → (ℕ → Type 0) → Type 0
Puts reads v pages rows count first least level page goal x more told rise =
    IsMade reads v pages rows count first least level page
    (λ n. node_uses (nodes_in reads v.pages v.rows) level page n + uses (nodes_in reads v.pages v.rows) goal x n) more
    (λ f. node_below (nodes_in reads v.pages v.rows) f level page + below (nodes_in reads v.pages v.rows) f goal x)
    (λ g. node_heads (nodes_in reads v.pages v.rows) g level page + heads (nodes_in reads v.pages v.rows) g goal x)
    (λ d. max (tops d (nodes_in reads v.pages v.rows page).slots) (x.reach d)) told rise

-- a node was split, and both nodes are to stand below a new root
pub record IsRaised (reads : Reads) (before : View) (least level root : ℕ) (y : Item) (sums : (Item → ℕ) → ℕ) (reach told : ℕ → ℕ) : Type 0 where
  pub stands : Stands (nodes_in reads before.pages before.rows) least level root (Some y) sums reach
  pub told_is : (d : ℕ) → d < 4 → told d ≡ tops d (nodes_in reads before.pages before.rows root).slots
  pub supplied : IsSupplied before
  pub once : (n : ℕ) → stand_uses (nodes_in reads before.pages before.rows) level root (Some y) n + spare_in before n ≤ 1
  pub blank : (n : ℕ) → IsBlank reads before.pages before.rows n
