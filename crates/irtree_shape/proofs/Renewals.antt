-- A slot of which some words are made those of its child, where the others are right already.
use Rattle.std.proofs.Common.{◌≡◌, ℕ, inl, inr, max, refl, sym, ap, ◌∙◌, Option, Some, None, List}
use Rattle.page_face.specs.FreeList.{PageMap}
use Rattle.btree_nodes.specs.Supply.{one_at}
use Rattle.btree_nodes.specs.Supply as supply
use Rattle.rtree_nodes.specs.Stock.{View, plain, spare_in}
use Rattle.rtree_nodes.proofs.Amounts.{same_or}
use Rattle.node_rows.specs.Rows.{Bytes, bytes_in}
use Rattle.node_rows.specs.Turns.{Turns}
use Rattle.node_rows.specs.Impacts.{impact_in, top_at, raised, refreshed}
use Rattle.node_rows.specs.Refreshing.{on_words}
use Rattle.node_rows.proofs.Impacts.{top-at-same}
use Rattle.node_rows.proofs.Refreshes.{refreshed-here, refreshed-elsewhere, refreshed-beside, renewed-all}
use Rattle.node_rows.proofs.Turned.{turns-as, turns-further}
use Rattle.irtree_shape.specs.Stock.{IsSupplied}
use Rattle.irtree_shape.specs.Steps.{Steps, relinked}
use Rattle.irtree_shape.proofs.Words.{raised-at, raised-beside}
use Rattle.irtree_shape.proofs.Stepping.{raised-elsewhere, steps-refreshed}
use Rattle.irtree_shape.proofs.Slotted.{unnamed-none}

module _ (page at child : ℕ) (words : List (ℕ × ℕ)) (b : Bytes) where
  -- a slot that rose by an item's words, and then has those of its child, is refreshed
  pub raised-refreshed : ((w : ℕ) → max (b page w at) (impact_in words w) ≡ top_at b child w) → (n w i : ℕ) → raised page at (impact_in words) b n w i ≡ refreshed page at child b n w i
  raised-refreshed right n w i = elim (same_or n page) [
    | inr d ↦ raised-elsewhere page at (impact_in words) b n w i d ∙ sym (refreshed-elsewhere page at child b n w i d)
    | inl e ↦ ap (λ (m : ℕ). raised page at (impact_in words) b m w i) e ∙ elim (same_or i at) [
      | inr d ↦ raised-beside page at (impact_in words) b w i d ∙ sym (refreshed-beside page at child b page w i d)
      | inl f ↦ ap (raised page at (impact_in words) b page w) f ∙ raised-at page at (impact_in words) b w ∙ right w ∙ sym (refreshed-here page at child b page w i refl f)
    ] ∙ ap (λ (m : ℕ). refreshed page at child b m w i) (sym e)
  ]

  module _ (theirs : List (ℕ × ℕ)) (mid : Bytes) (apart : page ≡ child → ⊥) (is : (n w i : ℕ) → mid n w i ≡ raised page at (impact_in words) b n w i)
      (right : (w : ℕ) → impact_in theirs w ≡ 0 → max (b page w at) (impact_in words w) ≡ top_at b child w) where
    -- the child's words stay
    top-kept : (w : ℕ) → top_at mid child w ≡ top_at b child w
    top-kept w = top-at-same mid b child w (λ i. is child w i ∙ raised-elsewhere page at (impact_in words) b child w i (λ e. apart (sym e)))

    -- so what the slot is to have is the same before and after it rose
    refreshed-kept : (n w i : ℕ) → refreshed page at child mid n w i ≡ refreshed page at child b n w i
    refreshed-kept n w i = elim (same_or n page) [
      | inr d ↦ refreshed-elsewhere page at child mid n w i d ∙ is n w i ∙ raised-elsewhere page at (impact_in words) b n w i d ∙ sym (refreshed-elsewhere page at child b n w i d)
      | inl e ↦ elim (same_or i at) [
        | inr d ↦ refreshed-beside page at child mid n w i d ∙ is n w i ∙ ap (λ (m : ℕ). raised page at (impact_in words) b m w i) e ∙ raised-beside page at (impact_in words) b w i d
            ∙ ap (λ (m : ℕ). b m w i) (sym e) ∙ sym (refreshed-beside page at child b n w i d)
        | inl f ↦ refreshed-here page at child mid n w i e f ∙ top-kept w ∙ sym (refreshed-here page at child b n w i e f)
      ]
    ]

    -- a slot that rose by an item's words, and then was given its child's bytes of the words that may have left the child, is refreshed
    pub renewed-raised : (n w i : ℕ) → on_words theirs (refreshed page at child mid) mid n w i ≡ refreshed page at child b n w i
    renewed-raised n w i = renewed-all page at child mid theirs
        (λ v e. is page v at ∙ raised-at page at (impact_in words) b v ∙ right v (unnamed-none theirs v e) ∙ sym (top-kept v)) n w i ∙ refreshed-kept n w i

  -- where a child is right, its slot is linked anew by its bytes
  pub refreshed-relinked : {X : Type 0} (m : Option X) → (m ≡ None → (w : ℕ) → max (b page w at) (impact_in words w) ≡ top_at b child w) → (n w i : ℕ) → refreshed page at child b n w i ≡ relinked m page at child words b n w i
  refreshed-relinked None right n w i = sym (raised-refreshed (right refl) n w i)
  refreshed-relinked (Some y) right n w i = refl

-- the same steps, said otherwise
pub steps-as : {v : View} {pages : PageMap} {rows count first : ℕ} {mine ours : ℕ → ℕ} {b : Bytes} (d : Bytes) {held : PageMap} → ((n w i : ℕ) → b n w i ≡ d n w i) → Steps v pages rows count first mine ours b held → Steps v pages rows count first mine ours d held
steps-as d e steps = record { free = steps.free; moves = steps.moves; bytes = λ n w i l. steps.bytes n w i l ∙ e n w i; holds = steps.holds }

-- a slot was raised by an item's words, and then given its child's bytes of the words that may have left the child
pub steps-relinked : {X : Type 0} (v : View) (mid new : PageMap) (r1 c1 f1 rows count first page at child : ℕ) (words theirs : List (ℕ × ℕ)) (m : Option X) → IsSupplied v → spare_in v page ≡ 0 → (page ≡ child → ⊥)
    → (m ≡ None → (w : ℕ) → impact_in theirs w ≡ 0) → ((w : ℕ) → impact_in theirs w ≡ 0 → max (bytes_in v.pages v.rows page w at) (impact_in words w) ≡ top_at (bytes_in v.pages v.rows) child w)
    → (turn : Turns (plain v) v.rows mid c1 f1 r1 (raised page at (impact_in words) (bytes_in v.pages v.rows)))
    → Turns (supply.view mid c1 f1 turn.free) r1 new count first rows (on_words theirs (refreshed page at child (bytes_in mid r1)) (bytes_in mid r1))
    → Steps v new rows count first (one_at page) (one_at page) (relinked m page at child words (bytes_in v.pages v.rows)) v.pages
steps-relinked v mid new r1 c1 f1 rows count first page at child words theirs m supplied unused apart none right turn next =
    steps-as (relinked m page at child words (bytes_in v.pages v.rows)) (refreshed-relinked page at child words (bytes_in v.pages v.rows) m (λ e w. right w (none e w)))
    (steps-refreshed v new rows count first page at child supplied unused
    (turns-as (plain v) v.rows new count first rows (on_words theirs (refreshed page at child (bytes_in mid r1)) (bytes_in mid r1)) (refreshed page at child (bytes_in v.pages v.rows))
    (renewed-raised page at child words (bytes_in v.pages v.rows) theirs (bytes_in mid r1) apart turn.is right)
    (turns-further (plain v) v.rows mid c1 f1 r1 (raised page at (impact_in words) (bytes_in v.pages v.rows)) turn new count first rows (on_words theirs (refreshed page at child (bytes_in mid r1)) (bytes_in mid r1)) next)))
