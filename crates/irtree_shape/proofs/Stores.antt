-- Nodes that were written, with their rows.
use Rattle.std.proofs.Common.{◌≡◌, ℕ, ◌+◌, ◌<◌, inl, inr, max, arith, refl, sym, ap, ◌∙◌, subst, Option, Some, None, List, [], ◌∷◌}
use Rattle.page_face.specs.FreeList.{PageMap}
use Rattle.btree_nodes.specs.Supply.{one_at}
use Rattle.btree_nodes.proofs.Supplies.{one_at-other}
use Rattle.rtree_nodes.specs.Slots.{Item, NodeView, amount, tops}
use Rattle.rtree_nodes.specs.Trees.{below, uses}
use Rattle.rtree_nodes.specs.Heads.{heads, heads_with, total_heads}
use Rattle.rtree_nodes.specs.Stock.{View, view, spare_in}
use Rattle.rtree_nodes.specs.Made.{Reads, sums_with, uses_with, reach_with}
use Rattle.rtree_nodes.proofs.Amounts.{same_or}
use Rattle.rtree_nodes.proofs.Frames.{SameSlots, slots-frame}
use Rattle.rtree_nodes.proofs.Heads.{slots-heads}
use Rattle.rtree_nodes.proofs.Heights.{none_or}
use Rattle.irtree_shape.specs.Stock.{Moves}
use Rattle.irtree_shape.specs.Made.{nodes_in, IsBlank, IsReady, IsMade, IsTwo, IsSplit}
use Rattle.irtree_shape.proofs.Stocks.{still, moves-beside, moves-as}

-- no byte stands at an unused slot of a page that is none of those that changed
pub blank-after : (reads : Reads) (before after : View) (mine ours : ℕ → ℕ) → Moves before after mine ours → (n : ℕ) → mine n ≡ 0 → ours n ≡ 0 → IsBlank reads before.pages before.rows n → IsBlank reads after.pages after.rows n
blank-after reads before after mine ours moves n m o blank w i none = elim (none_or (spare_in before n)) [
  | inl z ↦ let h = moves.others n m z in
      h.bytes w i ∙ blank w i (ap (λ (p : List ℕ). (reads p).slots i) (sym h.page) ∙ none)
  | inr s ↦ let e = moves.kept n in moves.supplied.clear n w i (omega arith)
]

module _ (reads : Reads) (before : View) (pages : PageMap) (rows count first : ℕ) (free : List ℕ) (least level page : ℕ) (node : NodeView) (ready : IsReady reads before least level page node None)
    (moves : Moves before (view pages rows count first free) (one_at page) (one_at page)) (here : nodes_in reads pages rows page ≡ node) (blank : IsBlank reads pages rows page) where
  kept : SameSlots (nodes_in reads before.pages before.rows) (nodes_in reads pages rows) level node.slots
  kept = slots-frame (nodes_in reads before.pages before.rows) (nodes_in reads pages rows) level node.slots (λ n j. still reads before (view pages rows count first free) n (let o = ready.once n in moves.others n (omega arith) (omega arith)))

  in_page : (F : Item → ℕ) → amount F (nodes_in reads pages rows page).slots ≡ amount F node.slots
  in_page F = ap (λ (v : NodeView). amount F v.slots) here

  -- the node was written at its page
  pub made_one : (told : ℕ → ℕ) → ((d : ℕ) → d < 4 → told d ≡ tops d node.slots) → (rise : ℕ → Type 0) → rise 0
      → IsMade reads before pages rows count first least level page (uses_with (nodes_in reads before.pages before.rows) level page node.slots None) None (sums_with (nodes_in reads before.pages before.rows) level node.slots None) (λ g. heads_with (nodes_in reads before.pages before.rows) g level page node.slots None) (reach_with node.slots None) told rise
  made_one told readable rise risen = record {
    counted = risen;
    free = free;
    fresh = [];
    counts_are = λ g. let a = in_page (λ y. heads (nodes_in reads pages rows) g level y) in
        let b = slots-heads (nodes_in reads before.pages before.rows) (nodes_in reads pages rows) g level node.slots (λ n j. still reads before (view pages rows count first free) n (let o = ready.once n in moves.others n (omega arith) (omega arith))) in omega arith;
    moves = moves-as (λ n. omega arith) (λ n. let a = in_page (λ y. uses (nodes_in reads pages rows) level y n) in let b = kept.pages n in omega arith)
        (moves-beside (λ n. amount (λ y. uses (nodes_in reads before.pages before.rows) level y n) node.slots) moves);
    stands = record {
      node = rw here (record { level_is = ready.level_is; some = ready.some; items = kept.items ready.items });
      beside = tt;
      sum_is = λ f. let a = in_page (λ y. below (nodes_in reads pages rows) f level y) in let b = kept.sums f in omega arith;
      reach_is = λ d. ap (λ (v : NodeView). max (tops d v.slots) 0) here;
    };
    told_is = λ d l. readable d l ∙ ap (λ (v : NodeView). tops d v.slots) (sym here);
    blank = λ n. elim (same_or n page) [
      | inl e ↦ subst (IsBlank reads pages rows) (sym e) blank
      | inr d ↦ blank-after reads before (view pages rows count first free) (one_at page) (one_at page) moves n (one_at-other page n d) (one_at-other page n d) (ready.blank n d)
    ];
  }

module _ (reads : Reads) (before : View) (pages : PageMap) (rows count first least level page right : ℕ) (a b : NodeView) (y : Item) (two : IsTwo reads before level page a b)
    (split : IsSplit reads before pages rows count first page right a b) (to : y.to ≡ right) (reach : (d : ℕ) → y.reach d ≡ tops d b.slots) where
  a_kept : SameSlots (nodes_in reads before.pages before.rows) (nodes_in reads pages rows) level a.slots
  a_kept = slots-frame (nodes_in reads before.pages before.rows) (nodes_in reads pages rows) level a.slots (λ n j. still reads before (view pages rows count first split.free) n (let o = two.once n in split.moves.others n (omega arith) (omega arith)))

  b_kept : SameSlots (nodes_in reads before.pages before.rows) (nodes_in reads pages rows) level b.slots
  b_kept = slots-frame (nodes_in reads before.pages before.rows) (nodes_in reads pages rows) level b.slots (λ n j. still reads before (view pages rows count first split.free) n (let o = two.once n in split.moves.others n (omega arith) (omega arith)))

  at_y : nodes_in reads pages rows y.to ≡ b
  at_y = ap (nodes_in reads pages rows) to ∙ split.there

  in_a : (F : Item → ℕ) → amount F (nodes_in reads pages rows page).slots ≡ amount F a.slots
  in_a F = ap (λ (v : NodeView). amount F v.slots) split.here

  in_b : (F : Item → ℕ) → amount F (nodes_in reads pages rows y.to).slots ≡ amount F b.slots
  in_b F = ap (λ (v : NodeView). amount F v.slots) at_y

  -- two nodes were written
  pub two_made : (told : ℕ → ℕ) → ((d : ℕ) → d < 4 → told d ≡ tops d a.slots) → (rise : ℕ → Type 0) → rise 1 → IsMade reads before pages rows count first least level page
      (λ n. one_at page n + amount (λ z. uses (nodes_in reads before.pages before.rows) level z n) a.slots + amount (λ z. uses (nodes_in reads before.pages before.rows) level z n) b.slots) (Some y)
      (λ f. amount (λ z. below (nodes_in reads before.pages before.rows) f level z) a.slots + amount (λ z. below (nodes_in reads before.pages before.rows) f level z) b.slots)
      (λ g. g level page + amount (λ z. heads (nodes_in reads before.pages before.rows) g level z) a.slots + amount (λ z. heads (nodes_in reads before.pages before.rows) g level z) b.slots)
      (λ d. max (tops d a.slots) (tops d b.slots)) told rise
  two_made told readable rise risen = record {
    counted = risen;
    free = split.free;
    fresh = (level, right) ∷ [];
    counts_are = λ g. let i = in_a (λ z. heads (nodes_in reads pages rows) g level z) in let j = in_b (λ z. heads (nodes_in reads pages rows) g level z) in
        let p = slots-heads (nodes_in reads before.pages before.rows) (nodes_in reads pages rows) g level a.slots (λ n j. still reads before (view pages rows count first split.free) n (let o = two.once n in split.moves.others n (omega arith) (omega arith))) in
        let q = slots-heads (nodes_in reads before.pages before.rows) (nodes_in reads pages rows) g level b.slots (λ n j. still reads before (view pages rows count first split.free) n (let o = two.once n in split.moves.others n (omega arith) (omega arith))) in
        let m : g level y.to ≡ g level right = ap (g level) to in omega arith;
    moves = moves-as (λ n. omega arith)
        (λ n. let i = in_a (λ z. uses (nodes_in reads pages rows) level z n) in let j = in_b (λ z. uses (nodes_in reads pages rows) level z n) in let p = a_kept.pages n in let l = b_kept.pages n in
        let m : one_at y.to n ≡ one_at right n = ap (λ (p : ℕ). one_at p n) to in omega arith)
        (moves-beside (λ n. amount (λ z. uses (nodes_in reads before.pages before.rows) level z n) a.slots + amount (λ z. uses (nodes_in reads before.pages before.rows) level z n) b.slots) split.moves);
    stands = record {
      node = rw split.here (record { level_is = two.a_level; some = two.a_some; items = a_kept.items two.a_items });
      beside = (rw at_y (record { level_is = two.b_level; some = two.b_some; items = b_kept.items two.b_items }), λ d. reach d ∙ ap (λ (v : NodeView). tops d v.slots) (sym at_y));
      sum_is = λ f. let i = in_a (λ z. below (nodes_in reads pages rows) f level z) in let j = in_b (λ z. below (nodes_in reads pages rows) f level z) in let p = a_kept.sums f in let l = b_kept.sums f in omega arith;
      reach_is = λ d. ap (λ (v : NodeView). max (tops d v.slots) (y.reach d)) split.here ∙ ap (max (tops d a.slots)) (reach d);
    };
    told_is = λ d l. readable d l ∙ ap (λ (v : NodeView). tops d v.slots) (sym split.here);
    blank = λ n. elim (same_or n page) [
      | inl e ↦ subst (IsBlank reads pages rows) (sym e) split.here_blank
      | inr d ↦ elim (same_or n right) [
        | inl e ↦ subst (IsBlank reads pages rows) (sym e) split.there_blank
        | inr f ↦ blank-after reads before (view pages rows count first split.free) (one_at page) (λ n. one_at page n + one_at right n) split.moves n (one_at-other page n d)
            (let p = one_at-other page n d in let q = one_at-other right n f in omega arith) (two.blank n d)
      ]
    ];
  }

-- the same, said otherwise
pub made-as : {reads : Reads} {before : View} {pages : PageMap} {rows count first least level page : ℕ} {mine mine' : ℕ → ℕ} {more : Option Item} {sums sums' : (Item → ℕ) → ℕ} {counts counts' : (ℕ → ℕ → ℕ) → ℕ} {reach reach' told told' : ℕ → ℕ} {rise : ℕ → Type 0}
    → ((n : ℕ) → mine' n ≡ mine n) → ((f : Item → ℕ) → sums f ≡ sums' f) → ((g : ℕ → ℕ → ℕ) → counts g ≡ counts' g) → ((d : ℕ) → reach d ≡ reach' d) → ((d : ℕ) → d < 4 → told' d ≡ told d)
    → IsMade reads before pages rows count first least level page mine more sums counts reach told rise → IsMade reads before pages rows count first least level page mine' more sums' counts' reach' told' rise
made-as a b e c d h = record {
  free = h.free;
  fresh = h.fresh;
  counted = h.counted;
  counts_are = λ g. h.counts_are g ∙ ap (λ (m : ℕ). m + total_heads g h.fresh) (e g);
  moves = moves-as a (λ n. refl) h.moves;
  stands = record { node = h.stands.node; beside = h.stands.beside; sum_is = λ f. h.stands.sum_is f ∙ b f; reach_is = λ i. h.stands.reach_is i ∙ c i };
  told_is = λ i l. d i l ∙ h.told_is i l;
  blank = h.blank;
}
