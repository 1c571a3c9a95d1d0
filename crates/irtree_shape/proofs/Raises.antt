-- A new root, with the words below both its children.
use Rattle.std.proofs.Common.{◌≡◌, ℕ, suc, ◌+◌, ◌-◌, ◌<◌, inl, inr, max, arith, refl, sym, ap, ◌∙◌, subst, Option, Some, None, List, [], ◌∷◌, nat_lt, if◌then◌else◌, true, false, Bool, option_map}
use Rattle.std.proofs.lemmas.Bool.Decides.{nat_tests}
use Rattle.std.proofs.Math.Path.{fun_ext}
use Rattle.page_face.specs.FreeList.{PageMap}
use Rattle.btree_nodes.specs.Supply.{one_at}
use Rattle.btree_nodes.proofs.Supplies.{one_at-same, one_at-other}
use Rattle.rtree_nodes.specs.Slots.{Item, Slots, NodeView, NodeMap, one, amount, tops}
use Rattle.rtree_nodes.specs.Trees.{below, uses, IsItem, IsNode, with_slot, node_below, node_uses, stand_uses}
use Rattle.rtree_nodes.specs.Heads.{heads, node_heads, stand_heads}
use Rattle.rtree_nodes.specs.Stock.{View, view, spare_in}
use Rattle.rtree_nodes.specs.Made.{Reads}
use Rattle.rtree_nodes.proofs.Amounts.{same_or, with_slot-same, with_slot-other}
use Rattle.rtree_nodes.proofs.Frames.{item-frame, SameItem}
use Rattle.rtree_nodes.proofs.Heads.{item-heads}
use Rattle.rtree_nodes.proofs.Raises.{two-sum, two-top, two-each}
use Rattle.node_rows.specs.Rows.{bytes_in}
use Rattle.node_rows.specs.Impacts.{refreshed}
use Rattle.node_rows.proofs.Impacts.{top-at-same}
use Rattle.node_rows.proofs.Refreshes.{refreshed-here, refreshed-beside}
use Rattle.irtree_shape.specs.Words.{joined, joined_item, words_on}
use Rattle.irtree_shape.specs.Stock.{Moves}
use Rattle.irtree_shape.specs.Steps.{Steps, Takes, bounding_child}
use Rattle.irtree_shape.specs.Made.{nodes_in, IsBlank, IsMade, IsRaised}
use Rattle.irtree_shape.proofs.Stocks.{still, moves-as, moves-beside, moves-further}
use Rattle.irtree_shape.proofs.Stores.{blank-after}
use Rattle.irtree_shape.proofs.Relinks.{node-top, less_or}

-- a child's item with the words below it reaches as far as its node
pub bounding-reach : (nodes : NodeMap) (x : Item) → ((d : ℕ) → d < 4 → x.reach d ≡ tops d (nodes x.to).slots) → (d : ℕ) → (bounding_child nodes x).reach d ≡ tops d (nodes x.to).slots
bounding-reach nodes x h d = elim (less_or d) [
  | inl l ↦ let t : nat_lt d 4 ≡ true = grind (arith, nat_tests) in ap (λ (q : Bool). if q then x.reach d else tops d (nodes x.to).slots) t ∙ h d l
  | inr l ↦ let t : nat_lt d 4 ≡ false = grind (arith, nat_tests) in ap (λ (q : Bool). if q then x.reach d else tops d (nodes x.to).slots) t
]

-- an item whose slot's bytes are the words below its child
pub joined-bounding : (nodes : NodeMap) (b : ℕ → ℕ → ℕ) (at : ℕ) (x : Item) → ((w : ℕ) → b w at ≡ tops (4 + w) (nodes x.to).slots) → joined_item b at x ≡ bounding_child nodes x
joined-bounding nodes b at x h = ap (λ (r : ℕ → ℕ). record x { reach = r }) (fun_ext (λ d. elim (less_or d) [
  | inl l ↦ let t : nat_lt d 4 ≡ true = grind (arith, nat_tests) in ap (λ (q : Bool). if q then x.reach d else b (d - 4) at) t ∙ sym (ap (λ (q : Bool). if q then x.reach d else tops d (nodes x.to).slots) t)
  | inr l ↦ let t : nat_lt d 4 ≡ false = grind (arith, nat_tests) in let e : 4 + (d - 4) ≡ d = omega arith in
      ap (λ (q : Bool). if q then x.reach d else b (d - 4) at) t ∙ h (d - 4) ∙ ap (λ (m : ℕ). tops m (nodes x.to).slots) e ∙ sym (ap (λ (q : Bool). if q then x.reach d else tops d (nodes x.to).slots) t)
]))

-- a node with two items was written at a page that was taken
module _ (reads : Reads) (before : View) (new : PageMap) (rows' count first : ℕ) (free : List ℕ) (least level root top : ℕ) (y : Item) (sums : (Item → ℕ) → ℕ) (reach told : ℕ → ℕ) (a : Item)
    (raised : IsRaised reads before least level root y sums reach told) (moves : Moves before (view new rows' count first free) (λ n. 0) (one_at top))
    (a_to : a.to ≡ root) (a_reach : (d : ℕ) → a.reach d ≡ tops d (nodes_in reads before.pages before.rows root).slots)
    (s t u : Slots) (empty : (i : ℕ) → s i ≡ None) (is_t : t ≡ with_slot 0 a s) (is_u : u ≡ with_slot 1 y t) (l : ℕ) (l_is : l ≡ suc level)
    (here : nodes_in reads new rows' top ≡ record { level = l; slots = u }) (blank : IsBlank reads new rows' top) where
  still_there : (n : ℕ) → 0 < stand_uses (nodes_in reads before.pages before.rows) level root (Some y) n → nodes_in reads new rows' n ≡ nodes_in reads before.pages before.rows n
  still_there n j = still reads before (view new rows' count first free) n (let o = raised.once n in moves.others n refl (omega arith))

  a_pages : (n : ℕ) → uses (nodes_in reads before.pages before.rows) (suc level) a n ≡ node_uses (nodes_in reads before.pages before.rows) level root n
  a_pages n = ap (λ (c : ℕ). node_uses (nodes_in reads before.pages before.rows) level c n) a_to

  y_same : SameItem (nodes_in reads before.pages before.rows) (nodes_in reads new rows') (suc level) y
  y_same = item-frame (nodes_in reads before.pages before.rows) (nodes_in reads new rows') (suc level) y (λ n j. still_there n (omega arith))

  a_same : SameItem (nodes_in reads before.pages before.rows) (nodes_in reads new rows') (suc level) a
  a_same = item-frame (nodes_in reads before.pages before.rows) (nodes_in reads new rows') (suc level) a (λ n j. let p = a_pages n in still_there n (omega arith))

  a_item : IsItem (nodes_in reads before.pages before.rows) (suc level) a
  a_item = (
    subst (λ (c : ℕ). IsNode (λ z. IsItem (nodes_in reads before.pages before.rows) level z) 12 level (nodes_in reads before.pages before.rows c)) (sym a_to) raised.stands.node,
    λ d. a_reach d ∙ ap (λ (c : ℕ). tops d (nodes_in reads before.pages before.rows c).slots) (sym a_to),
  )

  sum : (F : Item → ℕ) → amount F u ≡ F a + F y
  sum F = two-sum a y s t u empty is_t is_u F

  in_top : (F : Item → ℕ) → amount F (nodes_in reads new rows' top).slots ≡ amount F u
  in_top F = ap (λ (v : NodeView). amount F v.slots) here

  wide : (d : ℕ) → tops d (nodes_in reads new rows' top).slots ≡ reach d
  wide d = ap (λ (v : NodeView). tops d v.slots) here ∙ two-top a y s t u empty is_t is_u d ∙ ap (λ (m : ℕ). max m (y.reach d)) (a_reach d) ∙ raised.stands.reach_is d

  -- the new root with both nodes below it
  pub root_made : (rise : ℕ → Type 0) → rise 1 → IsMade reads before new rows' count first 2 (suc level) top (λ n. stand_uses (nodes_in reads before.pages before.rows) level root (Some y) n) None sums (λ g. stand_heads (nodes_in reads before.pages before.rows) g level root (Some y)) reach reach rise
  root_made rise risen = record {
    counted = risen;
    free = free;
    fresh = (suc level, top) ∷ [];
    counts_are = λ g. let q = sum (λ z. heads (nodes_in reads new rows') g (suc level) z) in let p = in_top (λ z. heads (nodes_in reads new rows') g (suc level) z) in
        let b = item-heads (nodes_in reads before.pages before.rows) (nodes_in reads new rows') g (suc level) y (λ n j. still_there n (omega arith)) in
        let c = item-heads (nodes_in reads before.pages before.rows) (nodes_in reads new rows') g (suc level) a (λ n j. let p = a_pages n in still_there n (omega arith)) in
        let e : heads (nodes_in reads before.pages before.rows) g (suc level) a ≡ node_heads (nodes_in reads before.pages before.rows) g level root = ap (λ (m : ℕ). node_heads (nodes_in reads before.pages before.rows) g level m) a_to in
        omega arith;
    moves = moves-as (λ n. omega arith)
        (λ n. let q = sum (λ z. uses (nodes_in reads new rows') (suc level) z n) in let p = in_top (λ z. uses (nodes_in reads new rows') (suc level) z n) in let b = y_same.pages n in let c = a_same.pages n in let d = a_pages n in omega arith)
        (moves-beside (λ n. stand_uses (nodes_in reads before.pages before.rows) level root (Some y) n) moves);
    stands = record {
      node = rw here (record {
        level_is = l_is;
        some = let q = sum one in omega arith;
        items = two-each a y s t u empty is_t is_u (λ z. IsItem (nodes_in reads new rows') (suc level) z) (a_same.item a_item) (y_same.item raised.stands.beside);
      });
      beside = tt;
      sum_is = λ f. let q = sum (λ z. below (nodes_in reads new rows') f (suc level) z) in let p = in_top (λ z. below (nodes_in reads new rows') f (suc level) z) in let b = y_same.sums f in let c = a_same.sums f in
          let e : below (nodes_in reads before.pages before.rows) f (suc level) a ≡ node_below (nodes_in reads before.pages before.rows) f level root = ap (λ (m : ℕ). node_below (nodes_in reads before.pages before.rows) f level m) a_to in
          let r = raised.stands.sum_is f in omega arith;
      reach_is = λ d. let w = wide d in omega arith;
    };
    told_is = λ d m. sym (wide d);
    blank = λ n. elim (same_or n top) [
      | inl e ↦ subst (IsBlank reads new rows') (sym e) blank
      | inr d ↦ blank-after reads before (view new rows' count first free) (λ n. 0) (one_at top) moves n refl (one_at-other top n d) (raised.blank n)
    ];
  }

-- the steps to such a node: its page is taken and written, and the words below both children are set
module _ (reads : Reads) (before : View) (least level root top : ℕ) (left more : Item) (sums : (Item → ℕ) → ℕ) (reach told : ℕ → ℕ) (raised : IsRaised reads before least level root (bounding_child (nodes_in reads before.pages before.rows) more) sums reach told)
    (left_to : left.to ≡ root) (left_reach : (d : ℕ) → left.reach d ≡ told d) (taken : PageMap) (r0 c0 f0 : ℕ) (bytes : List ℕ) (take : Takes before taken r0 c0 f0 top bytes) where
  -- its page isn't spare any more
  pub top_spare : spare_in (view taken r0 c0 f0 take.free) top ≡ 0
  top_spare = let m = take.moves.kept top in let o = raised.once top in let p = one_at-same top in omega arith

  spare_before : spare_in before top ≡ 1
  spare_before = let m = take.moves.kept top in let o = raised.once top in let p = one_at-same top in omega arith

  -- the page isn't the first child's
  pub root_apart : top ≡ root → ⊥
  root_apart e = let o = raised.once top in let p = spare_before in let q = one_at-same top in let r : one_at root top ≡ one_at top top = ap (λ (m : ℕ). one_at m top) (sym e) in omega arith

  -- and not the second one's
  pub more_apart : top ≡ more.to → ⊥
  more_apart e = let o = raised.once top in let p = spare_before in let q = one_at-same top in let r : one_at more.to top ≡ one_at top top = ap (λ (m : ℕ). one_at m top) (sym e) in omega arith

  root_kept : (w i : ℕ) → bytes_in taken r0 root w i ≡ bytes_in before.pages before.rows root w i
  root_kept w i = (take.moves.others root refl (let o = raised.once root in let p = one_at-same root in omega arith)).bytes w i

  more_spare : spare_in before more.to ≡ 0
  more_spare = let o = raised.once more.to in let p = one_at-same more.to in omega arith

  more_kept : (w i : ℕ) → bytes_in taken r0 more.to w i ≡ bytes_in before.pages before.rows more.to w i
  more_kept w i = (take.moves.others more.to refl more_spare).bytes w i

  module _ (m1 : PageMap) (r1 c1 f1 : ℕ) (s1 : Steps (view taken r0 c0 f0 take.free) m1 r1 c1 f1 (one_at top) (one_at top) (refreshed top 0 root (bytes_in taken r0)) taken) where
    -- nor after the words of the first child are set
    pub top_spare1 : spare_in (view m1 r1 c1 f1 s1.free) top ≡ 0
    top_spare1 = let m = s1.moves.kept top in let p = top_spare in omega arith

    more_kept1 : (w i : ℕ) → bytes_in m1 r1 more.to w i ≡ bytes_in before.pages before.rows more.to w i
    more_kept1 w i = (s1.moves.others more.to (one_at-other top more.to (λ e. more_apart (sym e))) (let m = take.moves.kept more.to in let p = more_spare in omega arith)).bytes w i ∙ more_kept w i

    module _ (m2 : PageMap) (r2 c2 f2 : ℕ) (s2 : Steps (view m1 r1 c1 f1 s1.free) m2 r2 c2 f2 (one_at top) (one_at top) (refreshed top 1 more.to (bytes_in m1 r1)) m1) where
      module _ (l : ℕ) (s t u : Slots) (none : (i : ℕ) → s i ≡ None) (is_t : t ≡ with_slot 0 left s) (is_u : u ≡ with_slot 1 more t) (l_is : l ≡ suc level) (node_is : reads bytes ≡ record { level = l; slots = u }) where
        on_top : one_at top top ≡ 1
        on_top = one_at-same top

        b_is : (w i : ℕ) → bytes_in m2 r2 top w i ≡ refreshed top 1 more.to (bytes_in m1 r1) top w i
        b_is w i = let o = on_top in s2.bytes top w i (omega arith)

        at_one : (w : ℕ) → bytes_in m2 r2 top w 1 ≡ tops (4 + w) (nodes_in reads before.pages before.rows more.to).slots
        at_one w = b_is w 1 ∙ refreshed-here top 1 more.to (bytes_in m1 r1) top w 1 refl refl ∙ top-at-same (bytes_in m1 r1) (bytes_in before.pages before.rows) more.to w (λ i. more_kept1 w i) ∙ node-top reads before.pages before.rows more.to w (raised.blank more.to)

        not_one : (w i : ℕ) → (i ≡ 1 → ⊥) → bytes_in m2 r2 top w i ≡ refreshed top 0 root (bytes_in taken r0) top w i
        not_one w i d = b_is w i ∙ refreshed-beside top 1 more.to (bytes_in m1 r1) top w i d ∙ (let o = on_top in s1.bytes top w i (omega arith))

        at_zero : (w : ℕ) → bytes_in m2 r2 top w 0 ≡ tops (4 + w) (nodes_in reads before.pages before.rows root).slots
        at_zero w = not_one w 0 (λ e. omega arith) ∙ refreshed-here top 0 root (bytes_in taken r0) top w 0 refl refl ∙ top-at-same (bytes_in taken r0) (bytes_in before.pages before.rows) root w (λ i. root_kept w i) ∙ node-top reads before.pages before.rows root w (raised.blank root)

        elsewhere : (w i : ℕ) → (i ≡ 0 → ⊥) → (i ≡ 1 → ⊥) → bytes_in m2 r2 top w i ≡ 0
        elsewhere w i d e = not_one w i e ∙ refreshed-beside top 0 root (bytes_in taken r0) top w i d ∙ take.none w i

        holds : reads (m2 top) ≡ record { level = l; slots = u }
        holds = let o = on_top in ap reads (s2.holds top (omega arith) ∙ s1.holds top (omega arith) ∙ take.here) ∙ node_is

        u_one : u 1 ≡ Some more
        u_one = ap (λ (q : Slots). q 1) is_u ∙ with_slot-same 1 more t

        u_zero : u 0 ≡ Some left
        u_zero = ap (λ (q : Slots). q 0) is_u ∙ with_slot-other 1 more t 0 (λ e. omega arith) ∙ ap (λ (q : Slots). q 0) is_t ∙ with_slot-same 0 left s

        blank : IsBlank reads m2 r2 top
        blank w i none' = elim (same_or i 0) [
          | inl e ↦ let h : Some left ≡ None = sym u_zero ∙ ap u (sym e) ∙ sym (ap (λ (v : NodeView). v.slots i) holds) ∙ none' in cc
          | inr d ↦ elim (same_or i 1) [
            | inl e ↦ let h : Some more ≡ None = sym u_one ∙ ap u (sym e) ∙ sym (ap (λ (v : NodeView). v.slots i) holds) ∙ none' in cc
            | inr d' ↦ elsewhere w i d d'
          ]
        ]

        left_is : joined_item (bytes_in m2 r2 top) 0 left ≡ bounding_child (nodes_in reads before.pages before.rows) left
        left_is = joined-bounding (nodes_in reads before.pages before.rows) (bytes_in m2 r2 top) 0 left (λ w. at_zero w ∙ ap (λ (m : ℕ). tops (4 + w) (nodes_in reads before.pages before.rows m).slots) (sym left_to))

        more_is : joined_item (bytes_in m2 r2 top) 1 more ≡ bounding_child (nodes_in reads before.pages before.rows) more
        more_is = joined-bounding (nodes_in reads before.pages before.rows) (bytes_in m2 r2 top) 1 more at_one

        slots_is : words_on (bytes_in m2 r2 top) u ≡ with_slot 1 (bounding_child (nodes_in reads before.pages before.rows) more) (with_slot 0 (bounding_child (nodes_in reads before.pages before.rows) left) (λ i. None))
        slots_is = fun_ext (λ i. elim (same_or i 1) [
          | inl e ↦ ap (words_on (bytes_in m2 r2 top) u) e ∙ ap (λ (o : Option Item). option_map (joined_item (bytes_in m2 r2 top) 1) o) u_one ∙ ap Some more_is
              ∙ sym (ap (with_slot 1 (bounding_child (nodes_in reads before.pages before.rows) more) (with_slot 0 (bounding_child (nodes_in reads before.pages before.rows) left) (λ j. None))) e ∙ with_slot-same 1 (bounding_child (nodes_in reads before.pages before.rows) more) (with_slot 0 (bounding_child (nodes_in reads before.pages before.rows) left) (λ j. None)))
          | inr d ↦ elim (same_or i 0) [
            | inl e ↦ ap (words_on (bytes_in m2 r2 top) u) e ∙ ap (λ (o : Option Item). option_map (joined_item (bytes_in m2 r2 top) 0) o) u_zero ∙ ap Some left_is
                ∙ sym (with_slot-other 1 (bounding_child (nodes_in reads before.pages before.rows) more) (with_slot 0 (bounding_child (nodes_in reads before.pages before.rows) left) (λ j. None)) i d ∙ ap (with_slot 0 (bounding_child (nodes_in reads before.pages before.rows) left) (λ j. None)) e ∙ with_slot-same 0 (bounding_child (nodes_in reads before.pages before.rows) left) (λ j. None))
            | inr d' ↦ ap (λ (o : Option Item). option_map (joined_item (bytes_in m2 r2 top) i) o) (ap (λ (q : Slots). q i) is_u ∙ with_slot-other 1 more t i d ∙ ap (λ (q : Slots). q i) is_t ∙ with_slot-other 0 left s i d' ∙ none i)
                ∙ sym (with_slot-other 1 (bounding_child (nodes_in reads before.pages before.rows) more) (with_slot 0 (bounding_child (nodes_in reads before.pages before.rows) left) (λ j. None)) i d ∙ with_slot-other 0 (bounding_child (nodes_in reads before.pages before.rows) left) (λ j. None) i d')
          ]
        ])

        all_moves : Moves before (view m2 r2 c2 f2 s2.free) (λ n. 0) (one_at top)
        all_moves = moves-further take.moves (moves-further s1.moves s2.moves)

        -- and the new root stands
        pub root_stands : (rise : ℕ → Type 0) → rise 1 → IsMade reads before m2 r2 c2 f2 2 (suc level) top (λ n. stand_uses (nodes_in reads before.pages before.rows) level root (Some (bounding_child (nodes_in reads before.pages before.rows) more)) n) None sums (λ g. stand_heads (nodes_in reads before.pages before.rows) g level root (Some (bounding_child (nodes_in reads before.pages before.rows) more))) reach reach rise
        root_stands rise risen = root_made reads before m2 r2 c2 f2 s2.free least level root top (bounding_child (nodes_in reads before.pages before.rows) more) sums reach told (bounding_child (nodes_in reads before.pages before.rows) left) raised all_moves left_to
            (λ d. bounding-reach (nodes_in reads before.pages before.rows) left (λ e m. left_reach e ∙ raised.told_is e m ∙ ap (λ (c : ℕ). tops e (nodes_in reads before.pages before.rows c).slots) (sym left_to)) d ∙ ap (λ (c : ℕ). tops d (nodes_in reads before.pages before.rows c).slots) left_to)
            (λ i. None) (with_slot 0 (bounding_child (nodes_in reads before.pages before.rows) left) (λ i. None)) (words_on (bytes_in m2 r2 top) u) (λ i. refl) refl slots_is l l_is
            (ap (λ (v : NodeView). joined v (bytes_in m2 r2 top)) holds) blank rise risen
