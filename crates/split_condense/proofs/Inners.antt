-- A node of which a child's slot was set after an item was taken out below it.
use Rattle.std.proofs.Common.{◌≡◌, ℕ, suc, ◌≤◌, refl, sym, ap, ◌∙◌, subst, inl, inr, arith, List, Option, Some, None, option_map, slice_index, nat_lt, false}
use Rattle.std.proofs.lemmas.Bool.Decides.{nat_tests}
use Rattle.page_face.specs.FreeList.{PageMap}
use Rattle.btree_nodes.specs.Supply.{one_at}
use Rattle.rtree_nodes.specs.Slots.{Item, Slots, Held}
use Rattle.rtree_nodes.specs.Stock.{View, view, plain}
use Rattle.rtree_nodes.specs.Loose.{Loose, with_opt}
use Rattle.rtree_nodes.proofs.Amounts.{same_or}
use Rattle.rtree_nodes.specs.Pages.{node_of, slots_in}
use Rattle.node_rows.specs.Rows.{bytes_in}
use Rattle.node_rows.specs.Turns.{Turns}
use Rattle.node_rows.specs.Impacts.{refreshed, top_at}
use Rattle.node_rows.specs.Refreshing.{is_named}
use Rattle.node_rows.proofs.Refreshes.{refreshed-here, refreshed-beside, refreshed-elsewhere}
use Rattle.irtree_shape.specs.Words.{joined_item, words_on, joined, AreBlank}
use Rattle.irtree_shape.specs.Stock.{Moves}
use Rattle.irtree_shape.specs.Made.{nodes_in}
use Rattle.irtree_shape.specs.Steps.{bounding_child_in}
use Rattle.irtree_shape.specs.Loose.{IsLoosening, IsTaking, Settles, TakesOut}
use Rattle.irtree_shape.proofs.Slotted.{words-set, blank-set, blank-joined, refreshed-other, refreshed-gone, refreshed-bounding}
use Rattle.irtree_shape.proofs.Outs.{child_words, own-page, own-unspared, loosening_again, out_again}
use Rattle.split_condense.specs.Clears.{KeepsWords}
use Rattle.split_condense.proofs.Dissolves.{moves-one}

unchanged : (were are many now : ℕ) → were ≤ are → many ≡ were → now ≡ are → nat_lt many now ≡ false → are ≡ were
unchanged were are many now more e f calm = let l : now ≤ many = grind (arith, nat_tests) in omega arith

module _ (before : View) (least level page : ℕ) (path : List ℕ) (x : Item) (loose : Loose) (taking : IsTaking node_of before least (suc level) page path x loose)
    (mid : PageMap) (rows count first : ℕ) (o : Option Item) (loose' : Loose) (out : TakesOut node_of before mid rows count first 12 level taking.leads.0.to x o loose loose') where
  -- a word that the child kept is right at the child's slot
  pub inner-right : (w : ℕ) → top_at (bytes_in mid rows) taking.leads.0.to w ≡ top_at (bytes_in before.pages before.rows) taking.leads.0.to w
      → bytes_in mid rows page w (slice_index path (suc level)) ≡ top_at (bytes_in mid rows) taking.leads.0.to w
  inner-right w kept = (own-page node_of before least level page path x loose taking mid rows count first o loose' out).bytes w (slice_index path (suc level)) ∙ child_words node_of before least level page path x loose taking w ∙ sym kept

  -- and as the slot has what is below the child, the node keeps it, too
  pub inner-kept : (mid2 : PageMap) (rows2 count2 first2 : ℕ)
      → Turns (plain (view mid rows count first out.free)) rows mid2 count2 first2 rows2 (refreshed page (slice_index path (suc level)) taking.leads.0.to (bytes_in mid rows))
      → (w i : ℕ) → top_at (bytes_in mid rows) taking.leads.0.to w ≡ top_at (bytes_in before.pages before.rows) taking.leads.0.to w → bytes_in mid2 rows2 page w i ≡ bytes_in before.pages before.rows page w i
  inner-kept mid2 rows2 count2 first2 turn w i kept = elim (same_or i (slice_index path (suc level))) [
    | inr d ↦ turn.is page w i ∙ refreshed-beside page (slice_index path (suc level)) taking.leads.0.to (bytes_in mid rows) page w i d
        ∙ (own-page node_of before least level page path x loose taking mid rows count first o loose' out).bytes w i
    | inl e ↦ ap (bytes_in mid2 rows2 page w) e ∙ turn.is page w (slice_index path (suc level)) ∙ refreshed-here page (slice_index path (suc level)) taking.leads.0.to (bytes_in mid rows) page w (slice_index path (suc level)) refl refl
        ∙ kept ∙ sym (child_words node_of before least level page path x loose taking w) ∙ ap (bytes_in before.pages before.rows page w) (sym e)
  ]

-- where no orphan came, the words that stayed below the child are right at its slot
pub slot-right : (before : View) (least level page : ℕ) (path : List ℕ) (x : Item) (loose : Loose) (taking : IsTaking node_of before least (suc level) page path x loose)
    (mid : PageMap) (rows count first : ℕ) (o : Option Item) (loose' : Loose) (words : List (ℕ × ℕ)) (child at were are many now : ℕ) → taking.leads.0.to ≡ child → at ≡ slice_index path (suc level)
    → TakesOut node_of before mid rows count first 12 level child x o loose loose' → KeepsWords words child (bytes_in before.pages before.rows) (bytes_in mid rows) were are → many ≡ were → now ≡ are
    → nat_lt many now ≡ false → (w : ℕ) → is_named words w ≡ false → bytes_in mid rows page w at ≡ top_at (bytes_in mid rows) child w
slot-right before least level page path x loose taking mid rows count first o loose' words child at were are many now to at_is out keeps e f calm w n =
    let out' = subst (λ (k : ℕ). TakesOut node_of before mid rows count first 12 level k x o loose loose') (sym to) out in
    let keeps' = subst (λ (k : ℕ). KeepsWords words k (bytes_in before.pages before.rows) (bytes_in mid rows) were are) (sym to) keeps in
    ap (bytes_in mid rows page w) at_is
    ∙ inner-right before least level page path x loose taking mid rows count first o loose' out' w (keeps'.others (unchanged were are many now keeps.more e f calm) w n)
    ∙ ap (λ (k : ℕ). top_at (bytes_in mid rows) k w) to

module _ (before : View) (least level page : ℕ) (path : List ℕ) (x : Item) (loose : Loose) (taking : IsTaking node_of before least (suc level) page path x loose)
    (mid : PageMap) (rows count first : ℕ) (m : Option Item) (loose' : Loose)
    (out : TakesOut node_of before mid rows count first 12 level taking.leads.0.to x (bounding_child_in (nodes_in node_of mid rows) m) loose loose') (here : Held (λ y. y.to ≡ taking.leads.0.to) m)
    (mid2 : PageMap) (rows2 count2 first2 : ℕ)
    (turn : Turns (plain (view mid rows count first out.free)) rows mid2 count2 first2 rows2 (refreshed page (slice_index path (suc level)) taking.leads.0.to (bytes_in mid rows)))
    (u : Slots) (u_is : u ≡ with_opt (slice_index path (suc level)) m (slots_in (before.pages page))) where
  moved : Moves (view mid rows count first out.free) (view mid2 rows2 count2 first2 turn.free) (one_at page) (one_at page)
  moved = moves-one (view mid rows count first out.free) mid2 rows2 count2 first2 page out.moves.supplied
      (own-unspared node_of before least level page path x loose taking mid rows count first (bounding_child_in (nodes_in node_of mid rows) m) loose' out)
      (refreshed page (slice_index path (suc level)) taking.leads.0.to (bytes_in mid rows))
      (λ n w i d. refreshed-elsewhere page (slice_index path (suc level)) taking.leads.0.to (bytes_in mid rows) n w i d) turn

  beside : (w i : ℕ) → (i ≡ slice_index path (suc level) → ⊥) → bytes_in mid2 rows2 page w i ≡ bytes_in before.pages before.rows page w i
  beside w i d = refreshed-other node_of mid rows page (slice_index path (suc level)) taking.leads.0.to (bytes_in mid2 rows2 page) m (λ w i. turn.is page w i) w i d
      ∙ (own-page node_of before least level page path x loose taking mid rows count first (bounding_child_in (nodes_in node_of mid rows) m) loose' out).bytes w i

  bounding : (o : Option Item) → Held (λ y. y.to ≡ taking.leads.0.to) o → option_map (joined_item (bytes_in mid2 rows2 page) (slice_index path (suc level))) o ≡ bounding_child_in (nodes_in node_of mid rows) o
  bounding None h = refl
  bounding (Some y) h = ap (λ (z : Item). Some z)
      (refreshed-bounding node_of mid rows page (slice_index path (suc level)) taking.leads.0.to (bytes_in mid2 rows2 page) m (λ w i. turn.is page w i) (out.blank taking.leads.0.to) y h)

  inner-slots : words_on (bytes_in mid2 rows2 page) u ≡ with_opt (slice_index path (suc level)) (bounding_child_in (nodes_in node_of mid rows) m) (nodes_in node_of before.pages before.rows page).slots
  inner-slots = words-set (bytes_in before.pages before.rows page) (bytes_in mid2 rows2 page) (slots_in (before.pages page)) u (slice_index path (suc level)) m (bounding_child_in (nodes_in node_of mid rows) m)
      beside u_is (bounding m here)

  inner-empty : AreBlank (bytes_in mid2 rows2 page) (words_on (bytes_in mid2 rows2 page) u)
  inner-empty = blank-joined (bytes_in mid2 rows2 page) u
      (blank-set (bytes_in before.pages before.rows page) (bytes_in mid2 rows2 page) (slots_in (before.pages page)) u (slice_index path (suc level)) m (bounding_child_in (nodes_in node_of mid rows) m)
      beside u_is (bounding m here) (taking.blank page)
      (λ e. refreshed-gone node_of mid rows page (slice_index path (suc level)) taking.leads.0.to (bytes_in mid2 rows2 page) m (λ w i. turn.is page w i)
      (out.dropped (ap (bounding_child_in (nodes_in node_of mid rows)) e))))

  -- it may be written or let go
  pub inner-ready : (l : ℕ) → l ≡ suc level → IsLoosening node_of (view mid2 rows2 count2 first2 turn.free) (suc level) page (joined (record { level = l; slots = u }) (bytes_in mid2 rows2 page)) loose'
  inner-ready = loosening_again node_of before least level page path x loose taking mid rows count first (bounding_child_in (nodes_in node_of mid rows) m) loose' out mid2 rows2 count2 first2 turn.free moved
      (words_on (bytes_in mid2 rows2 page) u) inner-slots inner-empty

  -- and then the item was taken out
  pub inner-taken : (new : PageMap) (rows' count' first' : ℕ) (left : Option Item) (loose'' : Loose)
      → Settles node_of (view mid2 rows2 count2 first2 turn.free) new rows' count' first' least (suc level) page (words_on (bytes_in mid2 rows2 page) u) left loose' loose''
      → TakesOut node_of before new rows' count' first' least (suc level) page x left loose loose''
  inner-taken = out_again node_of before least level page path x loose taking mid rows count first (bounding_child_in (nodes_in node_of mid rows) m) loose' out mid2 rows2 count2 first2 turn.free moved
      (words_on (bytes_in mid2 rows2 page) u) inner-slots inner-empty
