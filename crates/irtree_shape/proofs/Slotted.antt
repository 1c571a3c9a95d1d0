-- A node's slots and bytes of which one slot was set.
use Rattle.std.proofs.Common.{◌≡◌, ℕ, ◌+◌, max, arith, refl, sym, ap, ◌∙◌, Option, Some, None, option_map, inl, inr, List, [], ◌∷◌, true, false, Bool, ◌==◌, if◌then◌else◌}
use Rattle.std.proofs.Math.Path.{fun_ext}
use Rattle.page_face.specs.FreeList.{PageMap}
use Rattle.node_rows.specs.Rows.{bytes_in}
use Rattle.node_rows.specs.Turns.{HasNone}
use Rattle.node_rows.specs.Impacts.{impact_at, impact_in, top_at, refreshed}
use Rattle.node_rows.specs.Refreshing.{is_named}
use Rattle.node_rows.proofs.Impacts.{top-clear}
use Rattle.node_rows.proofs.Refreshes.{refreshed-here, refreshed-beside}
use Rattle.rtree_nodes.specs.Slots.{Item, Slots, got, tops}
use Rattle.rtree_nodes.specs.Trees.{reach_of}
use Rattle.rtree_nodes.specs.Made.{Reads}
use Rattle.rtree_nodes.specs.Loose.{with_opt}
use Rattle.rtree_nodes.proofs.Amounts.{same_or}
use Rattle.rtree_nodes.proofs.Outs.{opt-same, opt-other}
use Rattle.irtree_shape.specs.Words.{worded, joined_item, words_on, AreBlank}
use Rattle.irtree_shape.specs.Made.{nodes_in, IsBlank}
use Rattle.irtree_shape.specs.Steps.{bounding_child}
use Rattle.irtree_shape.proofs.Words.{words-at, words-none}
use Rattle.irtree_shape.proofs.Relinks.{node-top, word-reach, worded-reach}
use Rattle.irtree_shape.proofs.Raises.{joined-bounding}

module _ (b b' : ℕ → ℕ → ℕ) (s u : Slots) (at : ℕ) (o p : Option Item) (beside : (w i : ℕ) → (i ≡ at → ⊥) → b' w i ≡ b w i) (u_is : u ≡ with_opt at o s)
    (there : option_map (joined_item b' at) o ≡ p) where
  -- the slots with their words, of which one was set
  pub words-set : words_on b' u ≡ with_opt at p (words_on b s)
  words-set = fun_ext (λ i. elim (same_or i at) [
    | inl e ↦ ap (words_on b' u) e ∙ ap (λ (t : Slots). option_map (joined_item b' at) (t at)) u_is ∙ ap (option_map (joined_item b' at)) (opt-same at o s) ∙ there
        ∙ sym (ap (with_opt at p (words_on b s)) e ∙ opt-same at p (words_on b s))
    | inr d ↦ ap (λ (t : Slots). option_map (joined_item b' i) (t i)) u_is ∙ ap (option_map (joined_item b' i)) (opt-other at o s i d) ∙ words-at b' b s i (λ w. beside w i d)
        ∙ sym (opt-other at p (words_on b s) i d)
  ])

  -- no byte stands at an unused slot, if none did before and none stands at the one that was set
  pub blank-set : AreBlank b s → (o ≡ None → (w : ℕ) → b' w at ≡ 0) → AreBlank b' u
  blank-set blank clear w i none = elim (same_or i at) [
    | inl e ↦ ap (b' w) e ∙ clear (sym (opt-same at o s) ∙ sym (ap (λ (t : Slots). t at) u_is) ∙ ap u (sym e) ∙ none) w
    | inr d ↦ beside w i d ∙ blank w i (sym (opt-other at o s i d) ∙ sym (ap (λ (t : Slots). t i) u_is) ∙ none)
  ]

-- slots joined with their words are unused where they were
pub blank-joined : (b : ℕ → ℕ → ℕ) (s : Slots) → AreBlank b s → AreBlank b (words_on b s)
blank-joined b s blank w i none = blank w i (words-none b s i none)

-- the bytes at a slot are how far the item in it reaches to each word
pub slot-reach : (b : ℕ → ℕ → ℕ) (s : Slots) (at : ℕ) (z : Item) → words_on b s at ≡ Some z → (w : ℕ) → b w at ≡ z.reach (4 + w)
slot-reach b s at z there w = go (s at) there
  where
    go : (o : Option Item) → option_map (joined_item b at) o ≡ Some z → b w at ≡ z.reach (4 + w)
    go None h = cc
    go (Some c) h = sym (word-reach b at w c) ∙ ap (got (reach_of (4 + w))) h

-- those of an item of these words are its impacts
pub item-words : (b : ℕ → ℕ → ℕ) (s : Slots) (at : ℕ) (f : ℕ → ℕ) (x : Item) → words_on b s at ≡ Some (worded f x) → (w : ℕ) → b w at ≡ f w
item-words b s at f x there w = slot-reach b s at (worded f x) there w ∙ worded-reach f w x

-- a word that isn't named has no impact
pub unnamed-none : (words : List (ℕ × ℕ)) (w : ℕ) → is_named words w ≡ false → impact_in words w ≡ 0
unnamed-none [] w e = refl
unnamed-none (pair ∷ pairs) w e = go (pair.0 == w) refl (λ h. unnamed-none pairs w h)
  where
    go : (x : Bool) → (pair.0 == w) ≡ x → (is_named pairs w ≡ false → impact_in pairs w ≡ 0) → max (impact_in pairs w) (impact_at pair w) ≡ 0
    go true t rest = let h : true ≡ false = sym (ap (λ (q : Bool). if q then true else is_named pairs w) t) ∙ e in cc
    go false t rest = let z = rest (sym (ap (λ (q : Bool). if q then true else is_named pairs w) t) ∙ e) in
        let y : impact_at pair w ≡ 0 = ap (λ (q : Bool). if q then pair.1 else 0) t in omega arith

-- the words of an item were cleared at its slot
pub cleared-none : (b b' : ℕ → ℕ → ℕ) (s : Slots) (at : ℕ) (words : List (ℕ × ℕ)) (x : Item) → words_on b s at ≡ Some (worded (impact_in words) x)
    → ((w : ℕ) → is_named words w ≡ true → b' w at ≡ 0) → ((w : ℕ) → is_named words w ≡ false → b' w at ≡ b w at) → (w : ℕ) → b' w at ≡ 0
cleared-none b b' s at words x there named others w = go (is_named words w) refl
  where
    go : (q : Bool) → is_named words w ≡ q → b' w at ≡ 0
    go true e = named w e
    go false e = others w e ∙ item-words b s at (impact_in words) x there w ∙ unnamed-none words w e

-- the words of a child's slot after a refresh: those below the child, or none where the child has no rows any more
module _ (reads : Reads) (pages : PageMap) (rows page at child : ℕ) (b' : ℕ → ℕ → ℕ) (o : Option Item) (new : (w i : ℕ) → b' w i ≡ refreshed page at child (bytes_in pages rows) page w i) where
  pub refreshed-other : (w i : ℕ) → (i ≡ at → ⊥) → b' w i ≡ bytes_in pages rows page w i
  refreshed-other w i d = new w i ∙ refreshed-beside page at child (bytes_in pages rows) page w i d

  top : (w : ℕ) → b' w at ≡ top_at (bytes_in pages rows) child w
  top w = new w at ∙ refreshed-here page at child (bytes_in pages rows) page w at refl refl

  pub refreshed-gone : HasNone (bytes_in pages rows) child → (w : ℕ) → b' w at ≡ 0
  refreshed-gone none w = top w ∙ top-clear (bytes_in pages rows) child w (λ i. none w i)

  pub refreshed-bounding : IsBlank reads pages rows child → (y : Item) → y.to ≡ child → joined_item b' at y ≡ bounding_child (nodes_in reads pages rows) y
  refreshed-bounding blank y to = joined-bounding (nodes_in reads pages rows) b' at y
      (λ w. top w ∙ node-top reads pages rows child w blank ∙ ap (λ (n : ℕ). tops (4 + w) (nodes_in reads pages rows n).slots) (sym to))
