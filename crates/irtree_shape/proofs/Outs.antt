-- An item that was taken out of a leaf, or below a child.
use Rattle.std.proofs.Common.{◌≡◌, ℕ, zero, suc, ◌+◌, ◌<◌, ◌≤◌, arith, refl, sym, ap, ◌∙◌, subst, Option, Some, None, List, slice_index}
use Rattle.page_face.specs.FreeList.{PageMap}
use Rattle.btree_nodes.specs.Supply.{one_at}
use Rattle.btree_nodes.proofs.Supplies.{one_at-same, one_at-other}
use Rattle.node_rows.specs.Rows.{bytes_in}
use Rattle.node_rows.specs.Impacts.{top_at}
use Rattle.rtree_nodes.specs.Slots.{Item, Slots, NodeMap, got, amount, Held, Each}
use Rattle.rtree_nodes.specs.Trees.{below, uses, IsItem}
use Rattle.rtree_nodes.specs.Stock.{View, view, spare_in}
use Rattle.rtree_nodes.specs.Made.{Reads}
use Rattle.rtree_nodes.specs.Loose.{Loose, total_loose, IsNodeItem, IsAt, with_opt}
use Rattle.rtree_nodes.proofs.Amounts.{amount-put, amount-at, without, without-same, without-other, each-without}
use Rattle.rtree_nodes.proofs.Frames.{item-frame, slots-frame, SameSlots}
use Rattle.rtree_nodes.proofs.Looses.{loose-frame, SameLoose}
use Rattle.rtree_nodes.proofs.Outs.{opt-sum, opt-each}
use Rattle.irtree_shape.specs.Words.{AreBlank}
use Rattle.irtree_shape.specs.Stock.{IsAsBefore, Moves}
use Rattle.irtree_shape.specs.Made.{nodes_in}
use Rattle.irtree_shape.specs.Loose.{IsLoosening, IsTaking, TakesOut, Settles}
use Rattle.irtree_shape.proofs.Stocks.{still, moves-as, moves-beside, moves-further}
use Rattle.irtree_shape.proofs.Stores.{blank-after}
use Rattle.irtree_shape.proofs.Relinks.{node-top}
use Rattle.irtree_shape.proofs.Slotted.{slot-reach}

-- an item, or none, is the same in two maps of nodes
record SameHeld (old new : NodeMap) (level : ℕ) (o : Option Item) : Type 0 where
  pub item : Held (λ y. IsItem old level y) o → Held (λ y. IsItem new level y) o
  pub sums : (f : Item → ℕ) → got (λ y. below new f level y) o ≡ got (λ y. below old f level y) o
  pub pages : (n : ℕ) → got (λ y. uses new level y n) o ≡ got (λ y. uses old level y n) o

held-frame : (old new : NodeMap) (level : ℕ) (o : Option Item) → ((n : ℕ) → 0 < got (λ y. uses old level y n) o → new n ≡ old n) → SameHeld old new level o
held-frame old new level None h = record { item = λ t. t; sums = λ f. refl; pages = λ n. refl }
held-frame old new level (Some y) h = let r = item-frame old new level y h in record { item = r.item; sums = r.sums; pages = r.pages }

held-item : (nodes : NodeMap) (level : ℕ) (o : Option Item) → Held (λ y. IsNodeItem nodes 12 level y) o → Held (λ y. IsItem nodes (suc level) y) o
held-item nodes level None h = tt
held-item nodes level (Some y) h = h

held-leaf : (nodes : NodeMap) (o : Option Item) → Held (λ y. IsItem nodes zero y) o
held-leaf nodes None = tt
held-leaf nodes (Some y) = tt

module _ (reads : Reads) (before : View) (least page : ℕ) (path : List ℕ) (x : Item) (loose : Loose) (taking : IsTaking reads before least zero page path x loose)
    (mid : PageMap) (rows count first : ℕ) (free : List ℕ) (moves : Moves before (view mid rows count first free) (one_at page) (one_at page))
    (t : Slots) (t_is : t ≡ with_opt (slice_index path 0) None (nodes_in reads before.pages before.rows page).slots) (empty : AreBlank (bytes_in mid rows page) t) where
  sum : (F : Item → ℕ) → amount F t + F x ≡ amount F (nodes_in reads before.pages before.rows page).slots
  sum F = let a = opt-sum F (nodes_in reads before.pages before.rows page).slots (slice_index path 0) x None taking.leads in let b = ap (amount F) t_is in omega arith

  kept : SameLoose (nodes_in reads before.pages before.rows) (nodes_in reads mid rows) loose
  kept = loose-frame (nodes_in reads before.pages before.rows) (nodes_in reads mid rows) loose
      (λ n k. still reads before (view mid rows count first free) n (let o = taking.once n in moves.others n (omega arith) (omega arith)))

  -- the leaf without the item may be written or let go
  pub leaf_loosening : (l : ℕ) → l ≡ zero → IsLoosening reads (view mid rows count first free) zero page (record { level = l; slots = t }) loose
  leaf_loosening l e = record {
    level_is = e;
    items = λ i k. held-leaf (nodes_in reads mid rows) (t i);
    others = kept.items taking.others;
    supplied = moves.supplied;
    once = λ n. let o = taking.once n in let m = moves.kept n in let p = kept.pages n in let k = sum (λ y. uses (nodes_in reads before.pages before.rows) zero y n) in omega arith;
    blank = λ n d. blank-after reads before (view mid rows count first free) (one_at page) (one_at page) moves n (one_at-other page n d) (one_at-other page n d) (taking.blank n);
    empty = empty;
  }

  -- and then the item was taken out
  pub leaf_out : (new : PageMap) (rows' count' first' : ℕ) (left : Option Item) (loose' : Loose) → Settles reads (view mid rows count first free) new rows' count' first' least zero page t left loose loose'
      → TakesOut reads before new rows' count' first' least zero page x left loose loose'
  leaf_out new rows' count' first' left loose' h = record {
    free = h.free;
    moves = moves-further
        (moves-as (λ n. let k = sum (λ y. uses (nodes_in reads before.pages before.rows) zero y n) in omega arith) (λ n. let p = kept.pages n in omega arith)
        (moves-beside (λ n. amount (λ y. uses (nodes_in reads before.pages before.rows) zero y n) t + total_loose (λ l y. uses (nodes_in reads before.pages before.rows) l y n) loose) moves)) h.moves;
    stands = h.stands;
    items = h.items;
    sum_is = λ f. let k = sum (λ y. below (nodes_in reads before.pages before.rows) f zero y) in let m = h.sum_is f in let p = kept.sums f in omega arith;
    blank = h.blank;
    dropped = h.dropped;
  }

module _ (reads : Reads) (before : View) (least level page : ℕ) (path : List ℕ) (x : Item) (loose : Loose) (taking : IsTaking reads before least (suc level) page path x loose) where
  z_at : IsAt (nodes_in reads before.pages before.rows page).slots (slice_index path (suc level)) taking.leads.0
  z_at = taking.leads.1

  its : IsItem (nodes_in reads before.pages before.rows) (suc level) taking.leads.0
  its = subst (Held (λ y. IsItem (nodes_in reads before.pages before.rows) (suc level) y)) z_at.1 (taking.node.items (slice_index path (suc level)) z_at.0)

  part : (n : ℕ) → uses (nodes_in reads before.pages before.rows) (suc level) taking.leads.0 n ≤ amount (λ y. uses (nodes_in reads before.pages before.rows) (suc level) y n) (nodes_in reads before.pages before.rows page).slots
  part n = let a = amount-at (λ y. uses (nodes_in reads before.pages before.rows) (suc level) y n) (nodes_in reads before.pages before.rows page).slots (slice_index path (suc level)) z_at.0 in
      let b = ap (got (λ y. uses (nodes_in reads before.pages before.rows) (suc level) y n)) z_at.1 in omega arith

  -- the item is to be taken out below the child
  pub take_child : IsTaking reads before 12 level taking.leads.0.to path x loose
  take_child = record {
    node = its.0;
    leads = taking.leads.2;
    others = taking.others;
    supplied = taking.supplied;
    once = λ n. let o = taking.once n in let a = part n in omega arith;
    away = let o = taking.away in let a = part 0 in omega arith;
    blank = taking.blank;
  }

  -- the bytes of its slot are the greatest of its own
  pub child_words : (w : ℕ) → bytes_in before.pages before.rows page w (slice_index path (suc level)) ≡ top_at (bytes_in before.pages before.rows) taking.leads.0.to w
  child_words w = slot-reach (bytes_in before.pages before.rows page) (reads (before.pages page)).slots (slice_index path (suc level)) taking.leads.0 z_at.1 w ∙ its.1 (4 + w)
      ∙ sym (node-top reads before.pages before.rows taking.leads.0.to w (taking.blank taking.leads.0.to))

  -- which isn't the node's own page
  pub child_apart : page ≡ taking.leads.0.to → ⊥
  child_apart e = let o = taking.once page in let a = part page in let s = one_at-same page in
      let c : one_at taking.leads.0.to page ≡ one_at page page = ap (λ (m : ℕ). one_at m page) (sym e) in omega arith

  module _ (mid : PageMap) (rows count first : ℕ) (o : Option Item) (loose' : Loose) (out : TakesOut reads before mid rows count first 12 level taking.leads.0.to x o loose loose') where
    rest_sum : (F : Item → ℕ) → amount F (nodes_in reads before.pages before.rows page).slots ≡ amount F (without (slice_index path (suc level)) (nodes_in reads before.pages before.rows page).slots) + F taking.leads.0
    rest_sum F = amount-put F (without (slice_index path (suc level)) (nodes_in reads before.pages before.rows page).slots) (nodes_in reads before.pages before.rows page).slots (slice_index path (suc level)) taking.leads.0 z_at.0
        (λ i k. without-other (slice_index path (suc level)) (nodes_in reads before.pages before.rows page).slots i k) (without-same (slice_index path (suc level)) (nodes_in reads before.pages before.rows page).slots) z_at.1

    -- the node's own page and its rows are as they were
    pub own-page : IsAsBefore before (view mid rows count first out.free) page
    own-page = let o = taking.once page in let one = one_at-same page in let r = rest_sum (λ y. uses (nodes_in reads before.pages before.rows) (suc level) y page) in
        out.moves.others page (omega arith) (omega arith)

    -- and it is still in use
    pub own-unspared : spare_in (view mid rows count first out.free) page ≡ 0
    own-unspared = let o = taking.once page in let one = one_at-same page in let r = rest_sum (λ y. uses (nodes_in reads before.pages before.rows) (suc level) y page) in
        let m = out.moves.kept page in omega arith

    -- the words of the child's slot were set
    module _ (mid2 : PageMap) (rows2 count2 first2 : ℕ) (free2 : List ℕ) (moves : Moves (view mid rows count first out.free) (view mid2 rows2 count2 first2 free2) (one_at page) (one_at page))
        (t : Slots) (t_is : t ≡ with_opt (slice_index path (suc level)) o (nodes_in reads before.pages before.rows page).slots) (empty : AreBlank (bytes_in mid2 rows2 page) t) where
      t_sum : (F : Item → ℕ) → amount F t ≡ amount F (without (slice_index path (suc level)) (nodes_in reads before.pages before.rows page).slots) + got F o
      t_sum F = let a = opt-sum F (nodes_in reads before.pages before.rows page).slots (slice_index path (suc level)) taking.leads.0 o z_at in let b = ap (amount F) t_is in let c = rest_sum F in omega arith

      -- each page of the node, of what is left of the child and of the loose items is used once
      apart : (n : ℕ) → one_at page n + amount (λ y. uses (nodes_in reads before.pages before.rows) (suc level) y n) (without (slice_index path (suc level)) (nodes_in reads before.pages before.rows page).slots)
          + got (λ y. uses (nodes_in reads mid rows) (suc level) y n) o + total_loose (λ l y. uses (nodes_in reads mid rows) l y n) loose' + spare_in (view mid rows count first out.free) n ≤ 1
      apart n = let m = out.moves.kept n in let q = taking.once n in let r = rest_sum (λ y. uses (nodes_in reads before.pages before.rows) (suc level) y n) in omega arith

      later : (n : ℕ) → 0 < got (λ y. uses (nodes_in reads mid rows) (suc level) y n) o + total_loose (λ l y. uses (nodes_in reads mid rows) l y n) loose' → nodes_in reads mid2 rows2 n ≡ nodes_in reads mid rows n
      later n k = still reads (view mid rows count first out.free) (view mid2 rows2 count2 first2 free2) n (let a = apart n in moves.others n (omega arith) (omega arith))

      sames : SameSlots (nodes_in reads before.pages before.rows) (nodes_in reads mid2 rows2) (suc level) (without (slice_index path (suc level)) (nodes_in reads before.pages before.rows page).slots)
      sames = slots-frame (nodes_in reads before.pages before.rows) (nodes_in reads mid2 rows2) (suc level) (without (slice_index path (suc level)) (nodes_in reads before.pages before.rows page).slots)
          (λ n k. let a = apart n in let q = taking.once n in let r = rest_sum (λ y. uses (nodes_in reads before.pages before.rows) (suc level) y n) in
          still reads (view mid rows count first out.free) (view mid2 rows2 count2 first2 free2) n (moves.others n (omega arith) (omega arith))
          ∙ still reads before (view mid rows count first out.free) n (out.moves.others n (omega arith) (omega arith)))

      lefts : SameHeld (nodes_in reads mid rows) (nodes_in reads mid2 rows2) (suc level) o
      lefts = held-frame (nodes_in reads mid rows) (nodes_in reads mid2 rows2) (suc level) o (λ n k. later n (omega arith))

      looses : SameLoose (nodes_in reads mid rows) (nodes_in reads mid2 rows2) loose'
      looses = loose-frame (nodes_in reads mid rows) (nodes_in reads mid2 rows2) loose' (λ n k. later n (omega arith))

      -- the node with what is left of the child may be written or let go
      pub loosening_again : (l : ℕ) → l ≡ suc level → IsLoosening reads (view mid2 rows2 count2 first2 free2) (suc level) page (record { level = l; slots = t }) loose'
      loosening_again l e = record {
        level_is = e;
        items = subst (Each (λ y. IsItem (nodes_in reads mid2 rows2) (suc level) y)) (sym t_is)
            (opt-each (λ y. IsItem (nodes_in reads mid2 rows2) (suc level) y) (λ y. IsItem (nodes_in reads mid2 rows2) (suc level) y) (nodes_in reads before.pages before.rows page).slots (slice_index path (suc level)) o
            (sames.items (each-without (λ y. IsItem (nodes_in reads before.pages before.rows) (suc level) y) (slice_index path (suc level)) (nodes_in reads before.pages before.rows page).slots taking.node.items))
            (lefts.item (held-item (nodes_in reads mid rows) level o out.stands)));
        others = looses.items out.items;
        supplied = moves.supplied;
        once = λ n. let a = apart n in let m = moves.kept n in let p = sames.pages n in let q = lefts.pages n in let r = looses.pages n in
            let j = t_sum (λ y. uses (nodes_in reads mid2 rows2) (suc level) y n) in omega arith;
        blank = λ n d. blank-after reads (view mid rows count first out.free) (view mid2 rows2 count2 first2 free2) (one_at page) (one_at page) moves n (one_at-other page n d) (one_at-other page n d) (out.blank n);
        empty = empty;
      }

      -- and then the item was taken out
      pub out_again : (new : PageMap) (rows' count' first' : ℕ) (left : Option Item) (loose'' : Loose) → Settles reads (view mid2 rows2 count2 first2 free2) new rows' count' first' least (suc level) page t left loose' loose''
          → TakesOut reads before new rows' count' first' least (suc level) page x left loose loose''
      out_again new rows' count' first' left loose'' h = record {
        free = h.free;
        moves = moves-further
            (moves-as (λ n. let r = rest_sum (λ y. uses (nodes_in reads before.pages before.rows) (suc level) y n) in omega arith) (λ n. refl)
            (moves-beside (λ n. one_at page n + amount (λ y. uses (nodes_in reads before.pages before.rows) (suc level) y n) (without (slice_index path (suc level)) (nodes_in reads before.pages before.rows page).slots)) out.moves))
            (moves-further
            (moves-as (λ n. omega arith) (λ n. let p = sames.pages n in let q = lefts.pages n in let r = looses.pages n in let j = t_sum (λ y. uses (nodes_in reads mid2 rows2) (suc level) y n) in omega arith)
            (moves-beside (λ n. got (λ y. uses (nodes_in reads mid rows) (suc level) y n) o + total_loose (λ l y. uses (nodes_in reads mid rows) l y n) loose'
            + amount (λ y. uses (nodes_in reads before.pages before.rows) (suc level) y n) (without (slice_index path (suc level)) (nodes_in reads before.pages before.rows page).slots)) moves)) h.moves);
        stands = h.stands;
        items = h.items;
        sum_is = λ f. let r = rest_sum (λ y. below (nodes_in reads before.pages before.rows) f (suc level) y) in let p = sames.sums f in let q = lefts.sums f in let u = looses.sums f in
            let j = t_sum (λ y. below (nodes_in reads mid2 rows2) f (suc level) y) in let m = h.sum_is f in let w = out.sum_is f in omega arith;
        blank = h.blank;
        dropped = h.dropped;
      }
