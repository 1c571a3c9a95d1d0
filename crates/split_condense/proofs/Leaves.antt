-- A leaf from which an item was taken out with its words.
use Rattle.std.proofs.Common.{◌≡◌, ℕ, zero, refl, ap, ◌∙◌, List, Option, None, slice_index, Bool, false, if◌then◌else◌}
use Rattle.page_face.specs.FreeList.{PageMap}
use Rattle.btree_nodes.specs.Supply.{one_at}
use Rattle.rtree_nodes.specs.Slots.{Item, Slots}
use Rattle.rtree_nodes.specs.Stock.{View, view, plain}
use Rattle.rtree_nodes.specs.Loose.{Loose, with_opt}
use Rattle.rtree_nodes.specs.Pages.{node_of, slots_in}
use Rattle.node_rows.specs.Rows.{bytes_in}
use Rattle.node_rows.specs.Turns.{Turns}
use Rattle.node_rows.specs.Impacts.{impact_in}
use Rattle.node_rows.specs.Refreshing.{is_named, on_words}
use Rattle.irtree_shape.specs.Words.{worded, words_on, joined, AreBlank}
use Rattle.irtree_shape.specs.Stock.{Moves}
use Rattle.irtree_shape.specs.Made.{nodes_in}
use Rattle.irtree_shape.specs.Loose.{IsLoosening, IsTaking, Settles, TakesOut}
use Rattle.irtree_shape.proofs.Slotted.{words-set, blank-set, blank-joined, cleared-none}
use Rattle.irtree_shape.proofs.Outs.{leaf_loosening, leaf_out}
use Rattle.split_condense.specs.Clears.{cleared}
use Rattle.split_condense.proofs.Clearings.{words-same, cleared-elsewhere, cleared-beside, cleared-named, cleared-unnamed}
use Rattle.split_condense.proofs.Dissolves.{moves-one}
use Rattle.split_condense.proofs.Takes.{taking-unspared}

module _ (before : View) (least page : ℕ) (path : List ℕ) (x : Item) (words : List (ℕ × ℕ)) (loose : Loose) (taking : IsTaking node_of before least zero page path (worded (impact_in words) x) loose)
    (mid : PageMap) (rows count first : ℕ)
    (turn : Turns (plain before) before.rows mid count first rows (on_words words (cleared page (slice_index path 0) (bytes_in before.pages before.rows)) (bytes_in before.pages before.rows)))
    (u : Slots) (u_is : u ≡ with_opt (slice_index path 0) None (slots_in (before.pages page))) where
  leaf-moves : Moves before (view mid rows count first turn.free) (one_at page) (one_at page)
  leaf-moves = moves-one before mid rows count first page taking.supplied (taking-unspared before least zero page path (worded (impact_in words) x) loose taking)
      (on_words words (cleared page (slice_index path 0) (bytes_in before.pages before.rows)) (bytes_in before.pages before.rows))
      (λ n w i d. words-same words (cleared page (slice_index path 0) (bytes_in before.pages before.rows)) (bytes_in before.pages before.rows) n w i (cleared-elsewhere page (slice_index path 0) (bytes_in before.pages before.rows) n w i d)) turn

  beside : (w i : ℕ) → (i ≡ slice_index path 0 → ⊥) → bytes_in mid rows page w i ≡ bytes_in before.pages before.rows page w i
  beside w i d = turn.is page w i
      ∙ words-same words (cleared page (slice_index path 0) (bytes_in before.pages before.rows)) (bytes_in before.pages before.rows) page w i (cleared-beside page (slice_index path 0) (bytes_in before.pages before.rows) page w i d)

  gone : (w : ℕ) → bytes_in mid rows page w (slice_index path 0) ≡ 0
  gone = cleared-none (bytes_in before.pages before.rows page) (bytes_in mid rows page) (slots_in (before.pages page)) (slice_index path 0) words x taking.leads.1
      (λ w e. turn.is page w (slice_index path 0) ∙ cleared-named page (slice_index path 0) (bytes_in before.pages before.rows) words w e)
      (λ w e. turn.is page w (slice_index path 0) ∙ cleared-unnamed page (slice_index path 0) (bytes_in before.pages before.rows) words w e)

  -- the other words stay
  pub leaf-kept : (w i : ℕ) → is_named words w ≡ false → bytes_in mid rows page w i ≡ bytes_in before.pages before.rows page w i
  leaf-kept w i n = turn.is page w i
      ∙ ap (λ (q : Bool). if q then cleared page (slice_index path 0) (bytes_in before.pages before.rows) page w i else bytes_in before.pages before.rows page w i) n

  leaf-slots : words_on (bytes_in mid rows page) u ≡ with_opt (slice_index path 0) None (nodes_in node_of before.pages before.rows page).slots
  leaf-slots = words-set (bytes_in before.pages before.rows page) (bytes_in mid rows page) (slots_in (before.pages page)) u (slice_index path 0) None None beside u_is refl

  leaf-empty : AreBlank (bytes_in mid rows page) (words_on (bytes_in mid rows page) u)
  leaf-empty = blank-joined (bytes_in mid rows page) u
      (blank-set (bytes_in before.pages before.rows page) (bytes_in mid rows page) (slots_in (before.pages page)) u (slice_index path 0) None None beside u_is refl (taking.blank page) (λ e w. gone w))

  -- it may be written or let go
  pub leaf-ready : (l : ℕ) → l ≡ zero → IsLoosening node_of (view mid rows count first turn.free) zero page (joined (record { level = l; slots = u }) (bytes_in mid rows page)) loose
  leaf-ready = leaf_loosening node_of before least page path (worded (impact_in words) x) loose taking mid rows count first turn.free leaf-moves (words_on (bytes_in mid rows page) u) leaf-slots leaf-empty

  -- and then the item was taken out
  pub leaf-taken : (new : PageMap) (rows' count' first' : ℕ) (left : Option Item) (loose' : Loose)
      → Settles node_of (view mid rows count first turn.free) new rows' count' first' least zero page (words_on (bytes_in mid rows page) u) left loose loose'
      → TakesOut node_of before new rows' count' first' least zero page (worded (impact_in words) x) left loose loose'
  leaf-taken = leaf_out node_of before least page path (worded (impact_in words) x) loose taking mid rows count first turn.free leaf-moves (words_on (bytes_in mid rows page) u) leaf-slots leaf-empty
