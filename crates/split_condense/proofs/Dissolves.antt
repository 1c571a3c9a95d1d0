-- A node whose items were let go, and one that was written as its rows stand.
use Rattle.std.proofs.Common.{◌≡◌, ℕ, arith, refl, sym, ap, ◌∙◌, List, ◌==◌, if◌then◌else◌, Bool, true, false}
use Rattle.std.proofs.lemmas.Bool.Decides.{nat_tests}
use Rattle.page_face.specs.FreeList.{PageMap, with_page}
use Rattle.btree_nodes.specs.Supply.{one_at}
use Rattle.btree_nodes.specs.Tree.{map_uses}
use Rattle.btree_nodes.proofs.Supplies.{with-same, with-other}
use Rattle.rtree_nodes.specs.Slots.{Item, NodeView, tops}
use Rattle.rtree_nodes.specs.Stock.{View, view, plain, spare_in, rows_form}
use Rattle.rtree_nodes.specs.Pages.{node_of}
use Rattle.node_rows.specs.Rows.{Bytes, bytes_in}
use Rattle.node_rows.specs.Turns.{Turns, HasNone, dropped}
use Rattle.irtree_shape.specs.Words.{joined, AreBlank}
use Rattle.irtree_shape.specs.Stock.{IsSupplied, Moves}
use Rattle.irtree_shape.specs.Made.{nodes_in, IsBlank}
use Rattle.irtree_shape.specs.Steps.{bounding_child}
use Rattle.irtree_shape.proofs.Stocks.{moves-rows, bytes-same}
use Rattle.irtree_shape.proofs.Words.{joined-same, words-none_back, sides}
use Rattle.irtree_shape.proofs.Raises.{bounding-reach}
use Rattle.irtree_shape.proofs.Stepping.{not_one as not-one, one-apart}

module _ (v : View) (pages : PageMap) (rows count first page : ℕ) (supplied : IsSupplied v) (unused : spare_in v page ≡ 0) where
  -- rows of one node have turned into others
  pub moves-one : (b : Bytes) → ((n w i : ℕ) → (n ≡ page → ⊥) → b n w i ≡ bytes_in v.pages v.rows n w i) → (turn : Turns (plain v) v.rows pages count first rows b)
      → Moves v (view pages rows count first turn.free) (one_at page) (one_at page)
  moves-one b same turn = moves-rows v pages rows count first b (one_at page) supplied turn (one-apart v page unused) (λ n w i m. same n w i (not-one page n m))

  -- the rows of a node were dropped
  pub moves-dropped : (turn : Turns (plain v) v.rows pages count first rows (dropped page (bytes_in v.pages v.rows))) → Moves v (view pages rows count first turn.free) (one_at page) (one_at page)
  moves-dropped turn = moves-one (dropped page (bytes_in v.pages v.rows)) (λ n w i d. let t : (n == page) ≡ false = grind (arith, nat_tests) in rw t refl) turn

-- and it has none
pub dropped-none : (before : View) (b : Bytes) (pages : PageMap) (rows page : ℕ) → ((n w i : ℕ) → bytes_in pages rows n w i ≡ dropped page b n w i) → HasNone (bytes_in pages rows) page
dropped-none before b pages rows page is w i = is page w i ∙ (let t : (page == page) ≡ true = grind (arith, nat_tests) in ap (λ (x : Bool). if x then 0 else b page w i) t)

-- a node was written as its rows stand
module _ (old new : PageMap) (rows count first page : ℕ) (free bytes : List ℕ) (supplied : IsSupplied (view old rows count first free)) (unused : spare_in (view old rows count first free) page ≡ 0)
    (wrote : new ≡ with_page page bytes old) where
  -- its bytes stay
  pub wrote-bytes : (w i : ℕ) → bytes_in new rows page w i ≡ bytes_in old rows page w i
  wrote-bytes w i = bytes-same old new rows supplied.rows.kept.map
      (λ n used. ap (λ (p : PageMap). p n) wrote ∙ with-other old bytes page n (λ e. let a : map_uses rows_form old rows n ≡ map_uses rows_form old rows page = ap (map_uses rows_form old rows) e in omega arith)) page w i

  holds : node_of (new page) ≡ node_of bytes
  holds = ap (λ (p : PageMap). node_of (p page)) wrote ∙ ap node_of (with-same old bytes page)

  -- so it stands there with its words
  pub wrote-here : nodes_in node_of new rows page ≡ joined (node_of bytes) (bytes_in old rows page)
  wrote-here = ap (λ (v : NodeView). joined v (bytes_in new rows page)) holds ∙ joined-same (node_of bytes) (bytes_in new rows page) (bytes_in old rows page) wrote-bytes

  -- no byte stands at an unused slot
  pub wrote-blank : AreBlank (bytes_in old rows page) (joined (node_of bytes) (bytes_in old rows page)).slots → IsBlank node_of new rows page
  wrote-blank empty w i none = wrote-bytes w i ∙ empty w i (words-none_back (bytes_in old rows page) (node_of bytes).slots i (sym (ap (λ (v : NodeView). v.slots i) holds) ∙ none))

  -- and its item reaches as far as its slots
  pub wrote-reach : (y : Item) → y.to ≡ page → ((d : ℕ) → y.reach d ≡ tops d (node_of bytes).slots) → (d : ℕ) → (bounding_child (nodes_in node_of new rows) y).reach d ≡ tops d (joined (node_of bytes) (bytes_in old rows page)).slots
  wrote-reach y to reach d =
      let at : nodes_in node_of new rows y.to ≡ joined (node_of bytes) (bytes_in old rows page) = ap (nodes_in node_of new rows) to ∙ wrote-here in
      bounding-reach (nodes_in node_of new rows) y (λ e l. reach e ∙ sym (sides (bytes_in old rows page) (node_of bytes).slots e l) ∙ sym (ap (λ (v : NodeView). tops e v.slots) at)) d
      ∙ ap (λ (v : NodeView). tops d v.slots) at
