-- One step down: what is known of the child, and what becomes of the parent.
use Rattle.std.proofs.Common.{◌≡◌, ℕ, suc, ◌+◌, ◌<◌, ◌≤◌, max, arith, refl, sym, ap, ◌∙◌, subst, inl, inr, Option, None, Some, List, length, true, option_map}
use Rattle.std.specs.Int.{bit_at}
use Rattle.page_face.specs.FreeList.{PageMap}
use Rattle.page_face.specs.Causes.{IsUncounted}
use Rattle.spatial_base.specs.Rect.{Bounds}
use Rattle.btree_nodes.specs.Supply.{one_at}
use Rattle.btree_nodes.proofs.Supplies.{one_at-same, uncounted-past}
use Rattle.rtree_nodes.specs.Slots.{Item, Slots, NodeView, got, one, filled, IsChildAt, IsUsed}
use Rattle.rtree_nodes.specs.Trees.{with_slot}
use Rattle.rtree_nodes.specs.Stock.{View, view, spare_in}
use Rattle.rtree_nodes.specs.Reach.{reach_of, child_item}
use Rattle.rtree_nodes.specs.Pages.{node_of, slots_in, level_in, mask_of, is_form}
use Rattle.rtree_nodes.proofs.Formed.{form-slots}
use Rattle.rtree_nodes.proofs.Masks.{slot-bit}
use Rattle.rtree_nodes.proofs.Bounding.{some-form}
use Rattle.node_rows.specs.Rows.{Bytes, bytes_in}
use Rattle.node_rows.specs.Impacts.{impact_in, top_at}
use Rattle.node_rows.specs.Known.{AreRowsAt}
use Rattle.node_rows.proofs.Known.{known-same}
use Rattle.irtree_shape.specs.Words.{joined, worded, words_on}
use Rattle.irtree_shape.specs.Made.{nodes_in, IsReady, IsOpen, Makes, Puts}
use Rattle.irtree_shape.specs.Steps.{Steps, bounding_child_in, relinked}
use Rattle.irtree_shape.proofs.Climbs.{open_some, open_here, put_here}
use Rattle.irtree_shape.proofs.Linking.{link_open, link_apart, link_spare, link_held, link_kept, link_rest, link_theirs, link_ready, link_put}
use Rattle.irtree_shape.proofs.Words.{words-filled}
use Rattle.irtree_insert.specs.declared.draft.Draft.{Draft}
use Rattle.irtree_insert.specs.declared.grown.Beside.{Beside}
use Rattle.irtree_insert.specs.Drafts.{IsDraft}
use Rattle.irtree_insert.specs.Grown.{beside_item, beside_top}
use Rattle.irtree_insert.proofs.Loads.{form-level, some-told}

-- a page that is open is counted
pub open-counted : (before : View) (least level page goal : ℕ) (x : Item) → IsOpen node_of before least level page goal x → IsUncounted before.count page → ⊥
open-counted before least level page goal x opened u = elim u [
  | inl e ↦ let s = open_some node_of before least level page goal x opened in omega arith
  | inr l ↦ let o = opened.once page in let s = one_at-same page in let p = uncounted-past before.count page l in omega arith
]

-- its bytes are a node's of this level
pub open-some : (before : View) (least level page goal : ℕ) (x : Item) → IsOpen node_of before least level page goal x → 0 < filled (slots_in (before.pages page))
open-some before least level page goal x opened = let a = opened.node.some in let b = opened.some in let e = words-filled (bytes_in before.pages before.rows page) (slots_in (before.pages page)) in omega arith

-- the level that they say
pub open-level : (before : View) (least level page goal : ℕ) (x : Item) → IsOpen node_of before least level page goal x → level_in (before.pages page) ≡ level
open-level before least level page goal x opened = sym (form-level (before.pages page) (some-form (before.pages page) (open-some before least level page goal x opened))) ∙ opened.node.level_is

-- at the goal's level a node that was loaded is ready
pub ready-here : (before : View) (least level page goal : ℕ) (x : Item) (bytes : List ℕ) → bytes ≡ before.pages page → level ≡ goal → IsOpen node_of before least level page goal x
    → IsReady node_of before least level page (joined (node_of bytes) (bytes_in before.pages before.rows page)) (Some x)
ready-here before least level page goal x bytes is same opened =
    subst (λ (b : List ℕ). IsReady node_of before least level page (joined (node_of b) (bytes_in before.pages before.rows page)) (Some x)) (sym is) (open_here node_of before least level page goal x same opened)

-- and what was made of it is what was to be put in
pub puts-here : (before : View) (pages : PageMap) (rows count first least level page goal : ℕ) (x : Item) (bytes : List ℕ) (more : Option Item) (told : ℕ → ℕ) (rise : ℕ → Type 0) → bytes ≡ before.pages page → level ≡ goal
    → Makes node_of before pages rows count first least level page (words_on (bytes_in before.pages before.rows page) (slots_in bytes)) (Some x) more told rise → Puts node_of before pages rows count first least level page goal x more told rise
puts-here before pages rows count first least level page goal x bytes more told rise is same made =
    put_here node_of before pages rows count first least level page goal x more told rise same
    (subst (λ (b : List ℕ). Makes node_of before pages rows count first least level page (words_on (bytes_in before.pages before.rows page) (slots_in b)) (Some x) more told rise) is made)

-- the child that was read in a used slot is the one that stands there
pub found-child : (draft : Draft) (at child below : ℕ) → IsDraft draft → draft.used ≡ mask_of draft.bytes → level_in draft.bytes ≡ suc below → at < 32 → bit_at draft.used at ≡ 1
    → (is_form draft.bytes ≡ true → 0 < level_in draft.bytes → IsUsed (slots_in draft.bytes) at → IsChildAt (slots_in draft.bytes) at child) → IsChildAt (slots_in draft.bytes) at child
found-child draft at child below d used level within bit child_is =
    child_is d.form (omega arith) (within, ap (λ (s : Slots). got one (s at)) (form-slots draft.bytes d.form) ∙ sym (slot-bit draft.bytes at within) ∙ ap (λ (m : ℕ). bit_at m at) (sym used) ∙ bit)

-- the greatest byte of a word in the node that was made, by its item
beside-got : (b : Bytes) (m : Option Beside) (w : ℕ) → got (λ y. top_at b y.to w) (option_map beside_item m) ≡ beside_top b m w
beside-got b None w = refl
beside-got b (Some y) w = refl

module _ (before : View) (least l page goal : ℕ) (words : List (ℕ × ℕ)) (x : Item) (draft : Draft) (is : draft.bytes ≡ before.pages page) (opened : IsOpen node_of before least (suc l) page goal (worded (impact_in words) x)) (low : goal ≤ l)
    (at child : ℕ) (within : at < 32) (found : IsChildAt (slots_in draft.bytes) at child) where
  node_is : node_of draft.bytes ≡ node_of (before.pages page)
  node_is = ap node_of is

  -- the child is open
  pub child-open : IsOpen node_of before 12 l child goal (worded (impact_in words) x)
  child-open = subst (λ (c : ℕ). IsOpen node_of before 12 l c goal (worded (impact_in words) x)) found.to_is (link_open node_of before least l page goal words x opened low at within (node_of draft.bytes) (ap node_of is) found.item found.is)

  -- and isn't the parent itself
  pub child-apart : page ≡ child → ⊥
  child-apart e = link_apart node_of before least l page goal words x opened low at within (node_of draft.bytes) (ap node_of is) found.item found.is (e ∙ sym found.to_is)

  module _ (mid : PageMap) (rows count first : ℕ) (m : Option Beside) (rect : Bounds) (rise : ℕ → Type 0)
      (put : Puts node_of before mid rows count first 12 l found.item.to goal (worded (impact_in words) x) (bounding_child_in (nodes_in node_of mid rows) (option_map beside_item m)) (reach_of rect) rise) where
    -- once the child has changed, the parent's page isn't spare
    pub parent-spare : spare_in (view mid rows count first put.free) page ≡ 0
    parent-spare = link_spare node_of before least l page goal words x opened low at within (node_of draft.bytes) (ap node_of is) found.item found.is mid rows count first m beside_item (reach_of rect) rise put

    -- the parent's rows that were read are still its rows
    pub parent-known : (known : List (List ℕ)) → AreRowsAt (bytes_in before.pages before.rows) page words known → AreRowsAt (bytes_in mid rows) page words known
    parent-known known are = known-same (bytes_in before.pages before.rows) (bytes_in mid rows) page words known
        (λ w i. sym (link_kept node_of before least l page goal words x opened low at within (node_of draft.bytes) (ap node_of is) found.item found.is mid rows count first m beside_item (reach_of rect) rise put w i)) are

    -- a word that the node beside the child doesn't have is right in the child, if its slot is raised by the item's words
    pub parent-rest : (w : ℕ) → beside_top (bytes_in mid rows) m w ≡ 0 → max (bytes_in mid rows page w at) (impact_in words w) ≡ top_at (bytes_in mid rows) child w
    parent-rest w none = link_rest node_of before least l page goal words x opened low at within (node_of draft.bytes) (ap node_of is) found.item found.is mid rows count first m beside_item (reach_of rect) rise put w (beside-got (bytes_in mid rows) m w ∙ none)
        ∙ ap (λ (c : ℕ). top_at (bytes_in mid rows) c w) found.to_is

    module _ (linked : PageMap) (rows2 count2 first2 : ℕ) (steps : Steps (view mid rows count first put.free) linked rows2 count2 first2 (one_at page) (one_at page) (relinked m page at found.item.to words (bytes_in mid rows)) mid) where
      -- the parent's page is as it was loaded
      pub parent-still : linked page ≡ draft.bytes
      parent-still = let o = one_at-same page in steps.holds page (omega arith)
          ∙ link_held node_of before least l page goal words x opened low at within (node_of draft.bytes) (ap node_of is) found.item found.is mid rows count first m beside_item (reach_of rect) rise put ∙ sym is

      t_is : with_slot at (child_item rect child) (slots_in draft.bytes) ≡ with_slot at (child_item rect found.item.to) (slots_in draft.bytes)
      t_is = ap (λ (c : ℕ). with_slot at (child_item rect c) (slots_in draft.bytes)) (sym found.to_is)

      level_is : suc l ≡ (node_of draft.bytes).level
      level_is = sym opened.node.level_is ∙ ap (λ (n : NodeView). n.level) (sym node_is)

      -- the words of the node beside the child are as they were
      pub parent-theirs : (w : ℕ) → beside_top (bytes_in mid rows) m w ≡ beside_top (bytes_in linked rows2) m w
      parent-theirs w = sym (beside-got (bytes_in mid rows) m w)
          ∙ link_theirs node_of before least l page goal words x opened low at within (node_of draft.bytes) (ap node_of is) found.item found.is mid rows count first m beside_item (reach_of rect) rise put
          linked rows2 count2 first2 steps (suc l) (with_slot at (child_item rect child) (slots_in draft.bytes)) level_is t_is w
          ∙ beside-got (bytes_in linked rows2) m w

      -- its slots may be written
      pub parent-ready : IsReady node_of (view linked rows2 count2 first2 steps.free) least (suc l) page
          (joined (record { level = suc l; slots = with_slot at (child_item rect child) (slots_in draft.bytes) }) (bytes_in linked rows2 page)) (bounding_child_in (nodes_in node_of linked rows2) (option_map beside_item m))
      parent-ready = link_ready node_of before least l page goal words x opened low at within (node_of draft.bytes) (ap node_of is) found.item found.is mid rows count first m beside_item (reach_of rect) rise put
          linked rows2 count2 first2 steps (suc l) (with_slot at (child_item rect child) (slots_in draft.bytes)) level_is t_is

      -- they were, and the item is put in
      pub parent-put : (new : PageMap) (rows' count' first' : ℕ) (more' : Option Item) (told' : ℕ → ℕ) (rise' rise2 : ℕ → Type 0) → ((a b : ℕ) → rise a → rise' b → rise2 (a + b))
          → Makes node_of (view linked rows2 count2 first2 steps.free) new rows' count' first' least (suc l) page (words_on (bytes_in linked rows2 page) (with_slot at (child_item rect child) (slots_in draft.bytes))) (bounding_child_in (nodes_in node_of linked rows2) (option_map beside_item m)) more' told' rise'
          → Puts node_of before new rows' count' first' least (suc l) page goal (worded (impact_in words) x) more' told' rise2
      parent-put = link_put node_of before least l page goal words x opened low at within (node_of draft.bytes) (ap node_of is) found.item found.is mid rows count first m beside_item (reach_of rect) rise put
          linked rows2 count2 first2 steps (suc l) (with_slot at (child_item rect child) (slots_in draft.bytes)) level_is t_is

-- the same view, by another name
pub puts-view : {a b : View} {pages : PageMap} {rows count first least level page : ℕ} (goal : ℕ) (x : Item) {more : Option Item} {told : ℕ → ℕ} {rise : ℕ → Type 0} → a ≡ b
    → Puts node_of a pages rows count first least level page goal x more told rise → Puts node_of b pages rows count first least level page goal x more told rise
puts-view {pages = pages} {rows = rows} {count = count} {first = first} {least = least} {level = level} {page = page} goal x {more = more} {told = told} {rise = rise} e put =
    subst (λ (w : View). Puts node_of w pages rows count first least level page goal x more told rise) e put

-- what a page that was loaded is known to be where it is open
pub record Loaded (before now : View) (draft : Draft) (least level page goal : ℕ) (x : Item) : Type 0 where
  pub draft_is : IsDraft draft
  pub bytes_are : draft.bytes ≡ now.pages page
  pub opened : IsOpen node_of now least level page goal x

-- the pages that were read are as they were
pub loaded : (before now : View) (draft : Draft) (least level page goal : ℕ) (x : Item) → now ≡ before → (0 < length (before.pages page) → draft.bytes ≡ before.pages page) → (is_form draft.bytes ≡ true → IsDraft draft)
    → IsOpen node_of before least level page goal x → Loaded before now draft least level page goal x
loaded before now draft least level page goal x same bytes form opened =
    let some = open-some before least level page goal x opened in
    let told = bytes (some-told (before.pages page) some) in
    record {
      draft_is = form (subst (λ (b : List ℕ). is_form b ≡ true) (sym told) (some-form (before.pages page) some));
      bytes_are = told ∙ ap (λ (w : View). w.pages page) (sym same);
      opened = subst (λ (w : View). IsOpen node_of w least level page goal x) (sym same) opened;
    }
