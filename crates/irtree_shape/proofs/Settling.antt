-- What a node and its rows come to that are written, or let go.
use Rattle.std.proofs.Common.{◌≡◌, ℕ, ◌+◌, ◌<◌, ◌≤◌, arith, refl, ap, sym, ◌∙◌, subst, Some, None, List, inl, inr}
use Rattle.page_face.specs.FreeList.{PageMap}
use Rattle.btree_nodes.specs.Supply.{one_at}
use Rattle.btree_nodes.proofs.Supplies.{none, one_at-same, one_at-other}
use Rattle.node_rows.specs.Rows.{bytes_in}
use Rattle.node_rows.specs.Turns.{HasNone}
use Rattle.rtree_nodes.specs.Slots.{Item, NodeView, amount, tops, filled}
use Rattle.rtree_nodes.specs.Trees.{below, uses, IsItem, IsNode}
use Rattle.rtree_nodes.specs.Stock.{View, view, spare_in}
use Rattle.rtree_nodes.specs.Made.{Reads}
use Rattle.rtree_nodes.specs.Loose.{Loose, total_loose, AllLoose}
use Rattle.rtree_nodes.proofs.Amounts.{same_or}
use Rattle.rtree_nodes.proofs.Frames.{slots-frame, SameSlots}
use Rattle.rtree_nodes.proofs.Looses.{loose-frame}
use Rattle.irtree_shape.specs.Stock.{Moves}
use Rattle.irtree_shape.specs.Made.{nodes_in, IsBlank}
use Rattle.irtree_shape.specs.Loose.{IsLoosening, Settles}
use Rattle.irtree_shape.proofs.Stocks.{still, moves-as, moves-beside}
use Rattle.irtree_shape.proofs.Stores.{blank-after}

some-none : (y : Item) → Some y ≡ None → ⊥
some-none y e = cc

module _ (reads : Reads) (before : View) (level page : ℕ) (node : NodeView) (loose : Loose) (ready : IsLoosening reads before level page node loose) where
  -- the page is in use
  pub page_unspared : spare_in before page ≡ 0
  page_unspared = let o = ready.once page in let p = one_at-same page in omega arith

  module _ (pages : PageMap) (rows count first least : ℕ) (free : List ℕ) (moves : Moves before (view pages rows count first free) (one_at page) (one_at page))
      (here : nodes_in reads pages rows page ≡ node) (blank : IsBlank reads pages rows page) (some : least ≤ filled node.slots) (y : Item) (to : y.to ≡ page) (reach : (d : ℕ) → y.reach d ≡ tops d node.slots) where
    at_y : nodes_in reads pages rows y.to ≡ node
    at_y = ap (nodes_in reads pages rows) to ∙ here

    in_y : (F : Item → ℕ) → amount F (nodes_in reads pages rows y.to).slots ≡ amount F node.slots
    in_y F = ap (λ (v : NodeView). amount F v.slots) at_y

    same : (n : ℕ) → 0 < amount (λ z. uses (nodes_in reads before.pages before.rows) level z n) node.slots + total_loose (λ l z. uses (nodes_in reads before.pages before.rows) l z n) loose
        → nodes_in reads pages rows n ≡ nodes_in reads before.pages before.rows n
    same n k = still reads before (view pages rows count first free) n (let o = ready.once n in moves.others n (omega arith) (omega arith))

    kept : SameSlots (nodes_in reads before.pages before.rows) (nodes_in reads pages rows) level node.slots
    kept = slots-frame (nodes_in reads before.pages before.rows) (nodes_in reads pages rows) level node.slots (λ n k. same n (omega arith))

    -- a node with enough slots stands at its page
    pub settled_stays : Settles reads before pages rows count first least level page node.slots (Some y) loose loose
    settled_stays =
        let others = loose-frame (nodes_in reads before.pages before.rows) (nodes_in reads pages rows) loose (λ n k. same n (omega arith)) in
        record {
          free = free;
          moves = moves-as (λ n. omega arith)
              (λ n. let k = others.pages n in let i = kept.pages n in let j = in_y (λ z. uses (nodes_in reads pages rows) level z n) in
              let m : one_at y.to n ≡ one_at page n = ap (λ (p : ℕ). one_at p n) to in omega arith)
              (moves-beside (λ n. amount (λ z. uses (nodes_in reads before.pages before.rows) level z n) node.slots + total_loose (λ l z. uses (nodes_in reads before.pages before.rows) l z n) loose) moves);
          stands = (
            subst (λ (v : NodeView). IsNode (λ z. IsItem (nodes_in reads pages rows) level z) least level v) (sym at_y) (record { level_is = ready.level_is; some = some; items = kept.items ready.items }),
            λ d. reach d ∙ ap (λ (v : NodeView). tops d v.slots) (sym at_y),
          );
          items = others.items ready.others;
          sum_is = λ f. let k = others.sums f in let i = kept.sums f in let j = in_y (λ z. below (nodes_in reads pages rows) f level z) in omega arith;
          blank = λ n. elim (same_or n page) [
            | inl e ↦ subst (IsBlank reads pages rows) (sym e) blank
            | inr d ↦ blank-after reads before (view pages rows count first free) (one_at page) (one_at page) moves n (one_at-other page n d) (one_at-other page n d) (ready.blank n d)
          ];
          dropped = λ e. absurd (some-none y e);
        }

  module _ (pages : PageMap) (rows count first least : ℕ) (free : List ℕ) (loose' : Loose) (given : Moves before (view pages rows count first free) (one_at page) none)
      (sums : (F : ℕ → Item → ℕ) → total_loose F loose' ≡ total_loose F loose + amount (λ y. F level y) node.slots)
      (items : AllLoose (λ l y. IsItem (nodes_in reads before.pages before.rows) l y) loose') where
    free_now : HasNone (bytes_in pages rows) page
    free_now w i = let k = given.kept page in let o = one_at-same page in given.supplied.clear page w i (omega arith)

    -- a node whose items became loose has given its page back
    pub settled_gone : Settles reads before pages rows count first least level page node.slots None loose loose'
    settled_gone =
        let kept = loose-frame (nodes_in reads before.pages before.rows) (nodes_in reads pages rows) loose'
        (λ n k. still reads before (view pages rows count first free) n (let o = ready.once n in let s = sums (λ l y. uses (nodes_in reads before.pages before.rows) l y n) in given.others n (omega arith) (omega arith))) in
        record {
          free = free;
          moves = moves-as (λ n. omega arith) (λ n. let k = kept.pages n in let s = sums (λ l y. uses (nodes_in reads before.pages before.rows) l y n) in omega arith)
              (moves-beside (λ n. amount (λ y. uses (nodes_in reads before.pages before.rows) level y n) node.slots + total_loose (λ l y. uses (nodes_in reads before.pages before.rows) l y n) loose) given);
          stands = tt;
          items = kept.items items;
          sum_is = λ f. let k = kept.sums f in let s = sums (λ l y. below (nodes_in reads before.pages before.rows) f l y) in omega arith;
          blank = λ n. elim (same_or n page) [
            | inl e ↦ subst (IsBlank reads pages rows) (sym e) (λ w i k. free_now w i)
            | inr d ↦ blank-after reads before (view pages rows count first free) (one_at page) none given n (one_at-other page n d) refl (ready.blank n d)
          ];
          dropped = λ e. free_now;
        }
