-- A node whose child has changed, with the child's slot made right again.
use Rattle.std.proofs.Common.{◌≡◌, ℕ, suc, ◌+◌, ◌<◌, ◌≤◌, inl, inr, max, arith, refl, sym, ap, ◌∙◌, Option, Some, None, List, [], option_map}
use Rattle.page_face.specs.FreeList.{PageMap}
use Rattle.btree_nodes.specs.Supply.{one_at}
use Rattle.btree_nodes.proofs.Supplies.{one_at-same}
use Rattle.rtree_nodes.specs.Slots.{Item, Slots, NodeView, got, tops}
use Rattle.rtree_nodes.specs.Trees.{with_slot, reach_of, uses}
use Rattle.rtree_nodes.specs.Stock.{View, view, spare_in}
use Rattle.rtree_nodes.specs.Made.{Reads}
use Rattle.rtree_nodes.proofs.Amounts.{same_or, with_slot-same, with_slot-other}
use Rattle.node_rows.specs.Rows.{bytes_in}
use Rattle.node_rows.specs.Impacts.{impact_in, top_at}
use Rattle.node_rows.proofs.Impacts.{top-at-same}
use Rattle.node_rows.proofs.Pairs.{max-zero}
use Rattle.irtree_shape.specs.Words.{worded, joined_item, words_on}
use Rattle.irtree_shape.specs.Steps.{Steps, bounding_child_in, relinked}
use Rattle.irtree_shape.specs.Made.{nodes_in, IsReady, IsOpen, Makes, Puts}
use Rattle.irtree_shape.proofs.Words.{words-at, words-none}
use Rattle.irtree_shape.proofs.Relinks.{node-top, relinked-beside, relinked-here, linked-reach, word-reach, worded-reach, bounding_child-reach}
use Rattle.irtree_shape.proofs.Climbs as climbs

module _ (reads : Reads) (before : View) (least level page goal : ℕ) (words : List (ℕ × ℕ)) (x : Item) (opened : IsOpen reads before least (suc level) page goal (worded (impact_in words) x)) (low : goal ≤ level)
    (at : ℕ) (within : at < 32) (v : NodeView) (is : v ≡ reads (before.pages page)) (c : Item) (here_c : v.slots at ≡ Some c) where
  here : (nodes_in reads before.pages before.rows page).slots at ≡ Some (joined_item (bytes_in before.pages before.rows page) at c)
  here = ap (λ (o : Option Item). option_map (joined_item (bytes_in before.pages before.rows page) at) o) (ap (λ (n : NodeView). n.slots at) (sym is) ∙ here_c)

  -- the child is open
  pub link_open : IsOpen reads before 12 level c.to goal (worded (impact_in words) x)
  link_open = climbs.open_child reads before least level page goal (worded (impact_in words) x) opened low at (joined_item (bytes_in before.pages before.rows page) at c) within here

  -- and isn't the node itself
  pub link_apart : page ≡ c.to → ⊥
  link_apart = climbs.child_apart reads before least level page goal (worded (impact_in words) x) opened low at (joined_item (bytes_in before.pages before.rows page) at c) within here

  module _ {X : Type 0} (mid : PageMap) (rows count first : ℕ) (m : Option X) (f : X → Item) (told : ℕ → ℕ) (rise : ℕ → Type 0) (put : Puts reads before mid rows count first 12 level c.to goal (worded (impact_in words) x) (bounding_child_in (nodes_in reads mid rows) (option_map f m)) told rise) where
    -- once the child has changed, the node's page isn't spare
    pub link_spare : spare_in (view mid rows count first put.free) page ≡ 0
    link_spare = climbs.page_spare reads before least level page goal (worded (impact_in words) x) opened low at (joined_item (bytes_in before.pages before.rows page) at c) within here mid rows count first (option_map f m) told rise put

    -- and is as it was
    pub link_held : mid page ≡ before.pages page
    link_held = climbs.page_held reads before least level page goal (worded (impact_in words) x) opened low at (joined_item (bytes_in before.pages before.rows page) at c) within here mid rows count first (option_map f m) told rise put

    -- so are its rows
    pub link_kept : (w i : ℕ) → bytes_in mid rows page w i ≡ bytes_in before.pages before.rows page w i
    link_kept = climbs.page_same reads before least level page goal (worded (impact_in words) x) opened low at (joined_item (bytes_in before.pages before.rows page) at c) within here mid rows count first (option_map f m) told rise put

    -- how far the item of a node that was made reaches to a word, by the node's rows
    bounding_top : (w : ℕ) (o : Option Item) → got (reach_of (4 + w)) (bounding_child_in (nodes_in reads mid rows) o) ≡ got (λ y. top_at (bytes_in mid rows) y.to w) o
    bounding_top w None = refl
    bounding_top w (Some y) = bounding_child-reach (nodes_in reads mid rows) w y ∙ sym (node-top reads mid rows y.to w (put.blank y.to))

    -- of a word that no node beside the child has, the child has the greatest of what the slot says and the item's impact
    pub link_rest : (w : ℕ) → got (λ y. top_at (bytes_in mid rows) y.to w) (option_map f m) ≡ 0 → max (bytes_in mid rows page w at) (impact_in words w) ≡ top_at (bytes_in mid rows) c.to w
    link_rest w none =
        let a : bytes_in mid rows page w at ≡ tops (4 + w) (nodes_in reads before.pages before.rows c.to).slots =
        link_kept w at ∙ sym (word-reach (bytes_in before.pages before.rows page) at w c)
        ∙ climbs.child_reach reads before least level page goal (worded (impact_in words) x) opened low at (joined_item (bytes_in before.pages before.rows page) at c) within here (4 + w) in
        let b : impact_in words w ≡ (worded (impact_in words) x).reach (4 + w) = sym (worded-reach (impact_in words) w x) in
        ap (λ (p : ℕ). max p (impact_in words w)) a ∙ ap (max (tops (4 + w) (nodes_in reads before.pages before.rows c.to).slots)) b ∙ sym (put.stands.reach_is (4 + w))
        ∙ max-zero (tops (4 + w) (nodes_in reads mid rows c.to).slots) _ (bounding_top w (option_map f m) ∙ none) ∙ sym (node-top reads mid rows c.to w (put.blank c.to))

    module _ (linked : PageMap) (rows2 count2 first2 : ℕ) (steps : Steps (view mid rows count first put.free) linked rows2 count2 first2 (one_at page) (one_at page) (relinked m page at c.to words (bytes_in mid rows)) mid)
        (l : ℕ) (u : Slots) (l_is : l ≡ v.level) (u_is : u ≡ with_slot at (record { reach = told; to = c.to; key = [] }) v.slots) where
      new : (w i : ℕ) → bytes_in linked rows2 page w i ≡ relinked m page at c.to words (bytes_in mid rows) page w i
      new w i = let o = one_at-same page in steps.bytes page w i (omega arith)

      beside : (w i : ℕ) → (i ≡ at → ⊥) → bytes_in linked rows2 page w i ≡ bytes_in before.pages before.rows page w i
      beside w i d = new w i ∙ relinked-beside page at c.to words (bytes_in mid rows) m w i d ∙ link_kept w i

      none_left : (w : ℕ) → m ≡ None → max (bytes_in mid rows page w at) (impact_in words w) ≡ tops (4 + w) (nodes_in reads mid rows c.to).slots
      none_left w e = link_rest w (ap (λ (o : Option X). got (λ y. top_at (bytes_in mid rows) y.to w) (option_map f o)) e) ∙ node-top reads mid rows c.to w (put.blank c.to)

      at_slot : (w : ℕ) → bytes_in linked rows2 page w at ≡ tops (4 + w) (nodes_in reads mid rows c.to).slots
      at_slot w = new w at ∙ relinked-here page at c.to words (bytes_in mid rows) m w (tops (4 + w) (nodes_in reads mid rows c.to).slots) (none_left w) (node-top reads mid rows c.to w (put.blank c.to))

      there : words_on (bytes_in linked rows2 page) u at ≡ Some (joined_item (bytes_in linked rows2 page) at (record { reach = told; to = c.to; key = [] }))
      there = ap (λ (o : Option Item). option_map (joined_item (bytes_in linked rows2 page) at) o) (ap (λ (s : Slots). s at) u_is ∙ with_slot-same at (record { reach = told; to = c.to; key = [] }) v.slots)

      was : (i : ℕ) → (i ≡ at → ⊥) → u i ≡ (reads (before.pages page)).slots i
      was i d = ap (λ (s : Slots). s i) u_is ∙ with_slot-other at (record { reach = told; to = c.to; key = [] }) v.slots i d ∙ ap (λ (n : NodeView). n.slots i) is

      same : (i : ℕ) → (i ≡ at → ⊥) → words_on (bytes_in linked rows2 page) u i ≡ (nodes_in reads before.pages before.rows page).slots i
      same i d = ap (λ (o : Option Item). option_map (joined_item (bytes_in linked rows2 page) i) o) (was i d)
          ∙ words-at (bytes_in linked rows2 page) (bytes_in before.pages before.rows page) (reads (before.pages page)).slots i (λ w. beside w i d)

      least_is : (d : ℕ) → (joined_item (bytes_in linked rows2 page) at (record { reach = told; to = c.to; key = [] })).reach d ≡ tops d (nodes_in reads mid rows c.to).slots
      least_is = linked-reach (bytes_in linked rows2 page) at (record { reach = told; to = c.to; key = [] }) (λ d. tops d (nodes_in reads mid rows c.to).slots) (λ d s. put.told_is d s) at_slot

      empty : (w i : ℕ) → words_on (bytes_in linked rows2 page) u i ≡ None → bytes_in linked rows2 page w i ≡ 0
      empty w i none = elim (same_or i at) [
        | inl e ↦ let h : Some (joined_item (bytes_in linked rows2 page) at (record { reach = told; to = c.to; key = [] })) ≡ None = sym there ∙ ap (words_on (bytes_in linked rows2 page) u) (sym e) ∙ none in cc
        | inr d ↦ beside w i d ∙ opened.blank page w i (sym (was i d) ∙ words-none (bytes_in linked rows2 page) u i none)
      ]

      -- the words of the node beside the child are as they were
      pub link_theirs : (w : ℕ) → got (λ y. top_at (bytes_in mid rows) y.to w) (option_map f m) ≡ got (λ y. top_at (bytes_in linked rows2) y.to w) (option_map f m)
      link_theirs w = go (option_map f m) refl
        where
          go : (o : Option Item) → option_map f m ≡ o → got (λ y. top_at (bytes_in mid rows) y.to w) o ≡ got (λ y. top_at (bytes_in linked rows2) y.to w) o
          go None e = refl
          go (Some y) e = top-at-same (bytes_in mid rows) (bytes_in linked rows2) y.to w (λ i. sym (climbs.made_same reads before least level page goal (worded (impact_in words) x) opened low at
              (joined_item (bytes_in before.pages before.rows page) at c) within here mid rows count first (option_map f m) told rise put linked rows2 count2 first2 steps.free steps.moves y.to
              (let o = one_at-same y.to in let a = ap (λ (q : Option Item). got (λ v. uses (nodes_in reads mid rows) (suc level) v y.to) (bounding_child_in (nodes_in reads mid rows) q)) e in omega arith) w i))

      -- the node with the slot linked anew may be written
      pub link_ready : IsReady reads (view linked rows2 count2 first2 steps.free) least (suc level) page (record { level = l; slots = words_on (bytes_in linked rows2 page) u }) (bounding_child_in (nodes_in reads linked rows2) (option_map f m))
      link_ready = climbs.ready_again reads before least level page goal (worded (impact_in words) x) opened low at (joined_item (bytes_in before.pages before.rows page) at c) within here mid rows count first (option_map f m) told rise put
          linked rows2 count2 first2 steps.free steps.moves (words_on (bytes_in linked rows2 page) u) (joined_item (bytes_in linked rows2 page) at (record { reach = told; to = c.to; key = [] })) there same refl least_is empty
          l (l_is ∙ ap (λ (n : NodeView). n.level) is ∙ opened.node.level_is)

      -- it was, and the item is put in
      pub link_put : (new : PageMap) (rows' count' first' : ℕ) (more' : Option Item) (told' : ℕ → ℕ) (rise' rise2 : ℕ → Type 0) → ((a b : ℕ) → rise a → rise' b → rise2 (a + b))
          → Makes reads (view linked rows2 count2 first2 steps.free) new rows' count' first' least (suc level) page (words_on (bytes_in linked rows2 page) u) (bounding_child_in (nodes_in reads linked rows2) (option_map f m)) more' told' rise'
          → Puts reads before new rows' count' first' least (suc level) page goal (worded (impact_in words) x) more' told' rise2
      link_put new' rows' count' first' more' told' rise' rise2 join made = climbs.put_again reads before least level page goal (worded (impact_in words) x) opened low at (joined_item (bytes_in before.pages before.rows page) at c) within here mid rows count first (option_map f m) told rise put
          linked rows2 count2 first2 steps.free steps.moves (words_on (bytes_in linked rows2 page) u) (joined_item (bytes_in linked rows2 page) at (record { reach = told; to = c.to; key = [] })) there same refl least_is empty
          new' rows' count' first' more' told' rise' rise2 join made
