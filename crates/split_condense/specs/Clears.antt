-- Bytes of a node that go.
use Rattle.std.specs.Prelude.{◌≡◌, ℕ, ◌+◌, ◌≤◌, List, ◌==◌, ◌&&◌, if◌then◌else◌, false}
use Rattle.page_face.specs.FreeList.{PageMap}
use Rattle.btree_nodes.specs.Supply.{one_at}
use Rattle.rtree_nodes.specs.Slots.{Item, Slots, NodeMap, amount, Each}
use Rattle.rtree_nodes.specs.Trees.{IsItem}
use Rattle.rtree_nodes.specs.Stock.{View, view}
use Rattle.rtree_nodes.specs.Loose.{Loose, total_loose, AllLoose}
use Rattle.node_rows.specs.Rows.{Bytes, bytes_in}
use Rattle.node_rows.specs.Turns.{HasNone}
use Rattle.node_rows.specs.Impacts.{top_at}
use Rattle.node_rows.specs.Refreshing.{is_named}
use Rattle.irtree_shape.specs.Words.{words_on}
use Rattle.irtree_shape.specs.Stock.{Moves}

-- one slot of a node has no byte
abbrev pub cleared : ℕ → ℕ → Bytes → Bytes
cleared node slot b n w i = if (n == node) && (i == slot) then 0 else b n w i

-- The items of a node are loose, each with its words, and the node has no row any more. Its page is as it was.
pub record IsDissolved (before : View) (pages : PageMap) (rows count first page level : ℕ) (s : Slots) (loose loose' : Loose) : Type 0 where
  pub free : List ℕ
  pub moves : Moves before (view pages rows count first free) (one_at page) (one_at page)
  pub none : HasNone (bytes_in pages rows) page
  pub sums : (F : ℕ → Item → ℕ) → total_loose F loose' ≡ total_loose F loose + amount (F level) (words_on (bytes_in before.pages before.rows page) s)
  pub items : (nodes : NodeMap) → Each (λ y. IsItem nodes level y) (words_on (bytes_in before.pages before.rows page) s)
      → AllLoose (λ l y. IsItem nodes l y) loose → AllLoose (λ l y. IsItem nodes l y) loose'

-- Something was taken out at a page: no orphan is lost, and where none came, only these words may have another greatest byte there.
pub record KeepsWords (words : List (ℕ × ℕ)) (page : ℕ) (before after : Bytes) (were are : ℕ) : Type 0 where
  pub more : were ≤ are
  pub others : are ≡ were → (w : ℕ) → is_named words w ≡ false → top_at after page w ≡ top_at before page w
