-- A child's slot that is set anew, in the bytes of its parent.
use Rattle.std.proofs.Common.{◌≡◌, ℕ, suc, ◌<◌, arith, refl, sym, ap, ◌∙◌, subst, Option, Some, None, List, true}
use Rattle.std.specs.Prelude.{slice_index_or, ◌&&◌}
use Rattle.std.specs.Ordering.{int_eq}
use Rattle.std.proofs.lemmas.Bool.Decides.{Decides-and, Decides-int_eq}
use Rattle.spatial_base.proofs.Rects.{bounds_same}
use Rattle.std.specs.Int.{bit_at}
use Rattle.page_face.specs.FreeList.{PageMap, with_page}
use Rattle.spatial_base.specs.Rect.{Bounds}
use Rattle.rtree_nodes.specs.Slots.{Item, Slots, NodeView, one, got, tops, filled, IsChildAt}
use Rattle.rtree_nodes.specs.Trees.{with_slot}
use Rattle.rtree_nodes.specs.Stock.{View, view, spare_in}
use Rattle.rtree_nodes.proofs.Amounts.{amount-at}
use Rattle.btree_nodes.proofs.Supplies.{one_at-same}
use Rattle.node_rows.specs.Rows.{bytes_in}
use Rattle.irtree_shape.specs.Words.{joined, words_on}
use Rattle.irtree_shape.specs.Made.{IsReady, Makes}
use Rattle.irtree_shape.proofs.Stocks.{moves-none}
use Rattle.irtree_shape.proofs.Stepping.{steps-write}
use Rattle.irtree_shape.proofs.Stores.{made_one}
use Rattle.irtree_shape.proofs.Words.{joined-same, words-none_back, sides}
use Rattle.rtree_nodes.specs.Reach.{reach_of, child_item, origin_rect}
use Rattle.rtree_nodes.specs.Pages.{node_of, slots_in, level_in, is_form}
use Rattle.irtree_insert.specs.declared.draft.Draft.{Draft}
use Rattle.irtree_insert.specs.Drafts.{IsOutlined, IsDraft}
use Rattle.irtree_insert.proofs.Loads.{form-level, child-key, child-is, put-same}

-- rectangles whose four numbers are equal are the same
pub rect-equal : (a b : Bounds) → (int_eq a.west b.west && (int_eq a.south b.south && (int_eq a.east b.east && int_eq a.north b.north))) ≡ true → a ≡ b
rect-equal a b h =
    let d = (Decides-and _ _ (Decides-int_eq a.west b.west) (Decides-and _ _ (Decides-int_eq a.south b.south) (Decides-and _ _ (Decides-int_eq a.east b.east) (Decides-int_eq a.north b.north)))).0 h in
    bounds_same a b d.0 d.1.0 d.1.1.0 d.1.1.1

-- a slot that holds something is one of some
pub some-slot : (s : Slots) (at : ℕ) (x : Item) → at < 32 → s at ≡ Some x → 0 < filled s
some-slot s at x within e = let a = amount-at one s at within in let b = ap (got one) e in omega arith

outlined-some : (bit : ℕ) (rect : Bounds) (o : Option Item) (x : Item) → o ≡ Some x → IsOutlined bit rect o → reach_of rect ≡ x.reach
outlined-some bit rect o x e h = (subst (IsOutlined bit rect) e h).1

-- a child whose rectangle is the one in its slot is what is in the slot
pub same-child : (draft : Draft) (below at child : ℕ) (rect : Bounds) → at < 32 → IsDraft draft → level_in draft.bytes ≡ suc below → (is : IsChildAt (slots_in draft.bytes) at child) → rect ≡ slice_index_or draft.rects at origin_rect
    → with_slot at (child_item rect child) (slots_in draft.bytes) ≡ slots_in draft.bytes
same-child draft below at child rect within d level is same = put-same at (child_item rect child) (slots_in draft.bytes)
    (is.is ∙ ap Some (child-is is.item rect child (ap reach_of same ∙ outlined-some (bit_at draft.used at) (slice_index_or draft.rects at origin_rect) (slots_in draft.bytes at) is.item is.is (d.outlined at within)) is.to_is
    (child-key draft.bytes at is.item d.form (omega arith) within is.is)))

-- the node in bytes of these slots
pub link-node : (bytes : List ℕ) (t : Slots) (below : ℕ) → is_form bytes ≡ true → level_in bytes ≡ suc below → slots_in bytes ≡ t → record { level = suc below; slots = t } ≡ node_of bytes
link-node bytes t below form level t_is = ap (λ (s : Slots). record { level = suc below; slots = s }) (sym t_is) ∙ ap (λ (l : ℕ). record { level = l; slots = slots_in bytes }) (sym (form-level bytes form ∙ level))

-- A node stands at its page, in memory as in the page, with the rows as they are.
module _ (before : View) (least below page : ℕ) (t : Slots) (told : ℕ → ℕ)
    (ready : IsReady node_of before least (suc below) page (joined (record { level = suc below; slots = t }) (bytes_in before.pages before.rows page)) None) where
  readable-words : ((d : ℕ) → told d ≡ tops d t) → (d : ℕ) → d < 4 → told d ≡ tops d (words_on (bytes_in before.pages before.rows page) t)
  readable-words told_is d l = told_is d ∙ sym (sides (bytes_in before.pages before.rows page) t d l)

  -- no byte stands at an unused slot of it
  blank-of : (n : NodeView) → n ≡ record { level = suc below; slots = t } → (w i : ℕ) → n.slots i ≡ None → bytes_in before.pages before.rows page w i ≡ 0
  blank-of n is w i none = ready.empty w i (words-none_back (bytes_in before.pages before.rows page) t i (ap (λ (v : NodeView). v.slots i) (sym is) ∙ none))

  -- the node stays as it is
  pub link-still : (bytes : List ℕ) → before.pages page ≡ bytes → is_form bytes ≡ true → level_in bytes ≡ suc below → t ≡ slots_in bytes → ((d : ℕ) → told d ≡ tops d t)
      → Makes node_of before before.pages before.rows before.count before.first least (suc below) page (words_on (bytes_in before.pages before.rows page) t) None None told (λ n. n ≡ 0)
  link-still bytes same form level t_is told_is =
      let is : node_of (before.pages page) ≡ record { level = suc below; slots = t } = ap node_of same ∙ sym (link-node bytes t below form level (sym t_is)) in
      made_one node_of before before.pages before.rows before.count before.first before.free least (suc below) page (joined (record { level = suc below; slots = t }) (bytes_in before.pages before.rows page)) ready
      (moves-none ready.supplied) (ap (λ (v : NodeView). joined v (bytes_in before.pages before.rows page)) is) (blank-of (node_of (before.pages page)) is) told (readable-words told_is) (λ n. n ≡ 0) refl

-- the node was written
pub link-wrote : (old : PageMap) (rows count first : ℕ) (free : List ℕ) (least below page : ℕ) (bytes : List ℕ) (t : Slots) (told : ℕ → ℕ) → 0 < page → is_form bytes ≡ true → level_in bytes ≡ suc below → slots_in bytes ≡ t → ((d : ℕ) → told d ≡ tops d t)
    → IsReady node_of (view old rows count first free) least (suc below) page (joined (record { level = suc below; slots = t }) (bytes_in old rows page)) None
    → (new : PageMap) (count' first' : ℕ) → new ≡ with_page page bytes old → count' ≡ count → first' ≡ first
    → Makes node_of (view old rows count first free) new rows count' first' least (suc below) page (words_on (bytes_in old rows page) t) None None told (λ n. n ≡ 0)
link-wrote old rows count first free least below page bytes t told away form level t_is told_is ready new count' first' w c f =
    let before : View = view old rows count first free in
    let one = one_at-same page in
    let unused : spare_in before page ≡ 0 = let o = ready.once page in omega arith in
    let steps = steps-write old new bytes rows count first count' first' page free ready.supplied unused away w c f in
    let held : node_of (new page) ≡ record { level = suc below; slots = t } = ap node_of (steps.holds page (omega arith)) ∙ sym (link-node bytes t below form level t_is) in
    let same : (v i : ℕ) → bytes_in new rows page v i ≡ bytes_in old rows page v i = λ v i. steps.bytes page v i (omega arith) in
    made_one node_of before new rows count' first' steps.free least (suc below) page (joined (record { level = suc below; slots = t }) (bytes_in old rows page)) ready steps.moves
    (ap (λ (v : NodeView). joined v (bytes_in new rows page)) held ∙ joined-same (record { level = suc below; slots = t }) (bytes_in new rows page) (bytes_in old rows page) same)
    (λ v i none. same v i ∙ blank-of before least below page t told ready (node_of (new page)) held v i none)
    told (readable-words before least below page t told ready told_is) (λ n. n ≡ 0) refl
