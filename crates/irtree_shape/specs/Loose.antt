-- What taking an entry out makes of a node, its rows and the pages below it.
use Rattle.std.specs.Prelude.{◌≡◌, ℕ, suc, ◌+◌, ◌≤◌, List, Option, None}
use Rattle.page_face.specs.FreeList.{PageMap}
use Rattle.btree_nodes.specs.Supply.{one_at}
use Rattle.rtree_nodes.specs.Slots.{Item, Slots, NodeView, got, amount, Held, Each}
use Rattle.rtree_nodes.specs.Trees.{below, uses, IsItem, IsNode}
use Rattle.rtree_nodes.specs.Stock.{View, view, spare_in}
use Rattle.rtree_nodes.specs.Made.{Reads}
use Rattle.rtree_nodes.specs.Loose.{Loose, total_loose, AllLoose, IsNodeItem, Leads, out_uses, out_below}
use Rattle.node_rows.specs.Rows.{bytes_in}
use Rattle.node_rows.specs.Turns.{HasNone}
use Rattle.irtree_shape.specs.Words.{AreBlank}
use Rattle.irtree_shape.specs.Stock.{IsSupplied, Moves}
use Rattle.irtree_shape.specs.Made.{nodes_in, IsBlank}

-- the slots of a node may be written, or let go
pub record IsLoosening (reads : Reads) (before : View) (level page : ℕ) (node : NodeView) (loose : Loose) : Type 0 where
  pub level_is : node.level ≡ level
  pub items : Each (λ y. IsItem (nodes_in reads before.pages before.rows) level y) node.slots
  pub others : AllLoose (λ l y. IsItem (nodes_in reads before.pages before.rows) l y) loose
  pub supplied : IsSupplied before
  pub once : (n : ℕ) → one_at page n + amount (λ y. uses (nodes_in reads before.pages before.rows) level y n) node.slots + total_loose (λ l y. uses (nodes_in reads before.pages before.rows) l y n) loose + spare_in before n ≤ 1
  pub blank : (n : ℕ) → (n ≡ page → ⊥) → IsBlank reads before.pages before.rows n
  pub empty : AreBlank (bytes_in before.pages before.rows page) node.slots

-- An item of this level is there or gone, and with the loose ones it has these sums, less those of what is gone. The page of one that is gone has no rows.
pub record IsSettled (reads : Reads) (before : View) (pages : PageMap) (rows count first least level page : ℕ) (left : Option Item) (mine : ℕ → ℕ) (loose : Loose) (sums gone : (Item → ℕ) → ℕ) : Type 0 where
  pub free : List ℕ
  pub moves : Moves before (view pages rows count first free) mine (λ n. got (λ y. uses (nodes_in reads pages rows) (suc level) y n) left + total_loose (λ l y. uses (nodes_in reads pages rows) l y n) loose)
  pub stands : Held (λ y. IsNodeItem (nodes_in reads pages rows) least level y) left
  pub items : AllLoose (λ l y. IsItem (nodes_in reads pages rows) l y) loose
  pub sum_is : (f : Item → ℕ) → got (λ y. below (nodes_in reads pages rows) f (suc level) y) left + total_loose (λ l y. below (nodes_in reads pages rows) f l y) loose + gone f ≡ sums f
  pub blank : (n : ℕ) → IsBlank reads pages rows n
  pub dropped : left ≡ None → HasNone (bytes_in pages rows) page

-- an item is to be taken out below a page
pub record IsTaking (reads : Reads) (before : View) (least level page : ℕ) (path : List ℕ) (x : Item) (loose : Loose) : Type 0 where
  pub node : IsNode (λ y. IsItem (nodes_in reads before.pages before.rows) level y) least level (nodes_in reads before.pages before.rows page)
  pub leads : Leads (nodes_in reads before.pages before.rows) path level page x
  pub others : AllLoose (λ l y. IsItem (nodes_in reads before.pages before.rows) l y) loose
  pub supplied : IsSupplied before
  pub once : (n : ℕ) → out_uses (nodes_in reads before.pages before.rows) level page loose n + spare_in before n ≤ 1
  pub away : out_uses (nodes_in reads before.pages before.rows) level page loose 0 ≡ 0
  pub blank : (n : ℕ) → IsBlank reads before.pages before.rows n

-- the item was taken out
abbrev pub TakesOut : Reads → View → PageMap → ℕ → ℕ → ℕ → ℕ → ℕ → ℕ → Item → Option Item → Loose → Loose → Type 0
TakesOut reads v pages rows count first least level page x left loose loose' =
    IsSettled reads v pages rows count first least level page left (out_uses (nodes_in reads v.pages v.rows) level page loose) loose' (out_below (nodes_in reads v.pages v.rows) level page loose) (λ f. f x)

-- the slots were written or let go
abbrev pub Settles : Reads → View → PageMap → ℕ → ℕ → ℕ → ℕ → ℕ → ℕ → Slots → Option Item → Loose → Loose → Type 0
Settles reads v pages rows count first least level page s left loose loose' =
    IsSettled reads v pages rows count first least level page left
    (λ n. one_at page n + amount (λ y. uses (nodes_in reads v.pages v.rows) level y n) s + total_loose (λ l y. uses (nodes_in reads v.pages v.rows) l y n) loose) loose'
    (λ f. amount (λ y. below (nodes_in reads v.pages v.rows) f level y) s + total_loose (λ l y. below (nodes_in reads v.pages v.rows) f l y) loose) (λ f. 0)

-- while loose items are put back: a root and the items that are still loose have these sums, in place of the pages `mine`
pub record IsStanding (reads : Reads) (before now : View) (level root : ℕ) (loose : Loose) (mine : ℕ → ℕ) (sums : (Item → ℕ) → ℕ) : Type 0 where
  pub node : IsNode (λ y. IsItem (nodes_in reads now.pages now.rows) level y) 1 level (nodes_in reads now.pages now.rows root)
  pub items : AllLoose (λ l y. IsItem (nodes_in reads now.pages now.rows) l y) loose
  pub low : AllLoose (λ l y. l ≤ level) loose
  pub moves : Moves before now mine (out_uses (nodes_in reads now.pages now.rows) level root loose)
  pub once : (n : ℕ) → mine n + spare_in before n ≤ 1
  pub away : mine 0 ≡ 0
  pub sum_is : (f : Item → ℕ) → out_below (nodes_in reads now.pages now.rows) level root loose f ≡ sums f
  pub blank : (n : ℕ) → IsBlank reads now.pages now.rows n
