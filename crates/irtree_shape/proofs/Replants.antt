-- Loose items that are put back.
use Rattle.std.proofs.Common.{ℕ, suc, ◌+◌, ◌≤◌, max, arith, refl, Some, None, ◌∷◌, ◌++◌, []}
use Rattle.page_face.specs.FreeList.{PageMap}
use Rattle.rtree_nodes.specs.Slots.{Item, tops}
use Rattle.rtree_nodes.specs.Trees.{below, uses, IsItem, node_below, node_uses, stand_uses}
use Rattle.rtree_nodes.specs.Stock.{View, view, spare_in}
use Rattle.rtree_nodes.specs.Made.{Reads}
use Rattle.rtree_nodes.specs.Loose.{Loose, total_loose}
use Rattle.rtree_nodes.proofs.Looses.{loose-frame, pushed-total}
use Rattle.rtree_nodes.proofs.Replants.{loose-lower, popped-all}
use Rattle.irtree_shape.specs.Stock.{IsSupplied}
use Rattle.irtree_shape.specs.Made.{nodes_in, IsMade, IsOpen, IsRaised, Puts}
use Rattle.irtree_shape.specs.Loose.{IsStanding}
use Rattle.irtree_shape.proofs.Stocks.{still, moves-as, moves-further, moves-beside, supplied-plain}

module _ (reads : Reads) (before now : View) (level root : ℕ) (o : ℕ × Item) (rest : Loose) (mine : ℕ → ℕ) (sums : (Item → ℕ) → ℕ)
    (standing : IsStanding reads before now level root (o ∷ rest) mine sums) where
  once_now : (n : ℕ) → node_uses (nodes_in reads now.pages now.rows) level root n + uses (nodes_in reads now.pages now.rows) o.0 o.1 n + total_loose (λ l y. uses (nodes_in reads now.pages now.rows) l y n) rest + spare_in now n ≤ 1
  once_now n = let k = standing.moves.kept n in let q = standing.once n in omega arith

  -- the first loose item can be put in
  pub standing_open : IsSupplied before → IsOpen reads now 1 level root o.0 o.1
  standing_open start = record {
    node = standing.node;
    some = omega arith;
    small = omega arith;
    item = standing.items.0;
    deep = standing.low.0;
    supplied = standing.moves.supplied;
    once = λ n. let k = once_now n in omega arith;
    away = let k = standing.moves.kept 0 in let a = standing.away in let b = (supplied-plain before start).away in omega arith;
    blank = standing.blank;
  }

  -- it was put in, and the root stays
  pub standing_put : (pages : PageMap) (rows count first : ℕ) (told : ℕ → ℕ) (rise : ℕ → Type 0) (put : Puts reads now pages rows count first 1 level root o.0 o.1 None told rise)
      → IsStanding reads before (view pages rows count first put.free) level root rest mine sums
  standing_put pages rows count first told rise put =
      let kept = loose-frame (nodes_in reads now.pages now.rows) (nodes_in reads pages rows) rest (λ n k. still reads now (view pages rows count first put.free) n (let q = once_now n in put.moves.others n (omega arith) (omega arith))) in
      record {
        node = put.stands.node;
        items = kept.items standing.items.1;
        low = standing.low.1;
        moves = moves-further standing.moves (moves-as (λ n. omega arith) (λ n. let k = kept.pages n in omega arith)
            (moves-beside (λ n. total_loose (λ l y. uses (nodes_in reads now.pages now.rows) l y n) rest) put.moves));
        once = standing.once;
        away = standing.away;
        sum_is = λ f. let k = kept.sums f in let p = put.stands.sum_is f in let s = standing.sum_is f in omega arith;
        blank = put.blank;
      }

  -- it was put in, and the root was split
  pub standing_raise : (mid : PageMap) (rows count first : ℕ) (y : Item) (told : ℕ → ℕ) (rise : ℕ → Type 0) (put : Puts reads now mid rows count first 1 level root o.0 o.1 (Some y) told rise)
      → IsRaised reads (view mid rows count first put.free) 1 level root y
      (λ f. node_below (nodes_in reads now.pages now.rows) f level root + below (nodes_in reads now.pages now.rows) f o.0 o.1)
      (λ d. max (tops d (nodes_in reads now.pages now.rows root).slots) (o.1.reach d)) told
  standing_raise mid rows count first y told rise put = record {
    stands = put.stands;
    told_is = put.told_is;
    supplied = put.moves.supplied;
    once = λ n. let k = put.moves.kept n in let q = once_now n in omega arith;
    blank = put.blank;
  }

  -- the new root stands above both nodes
  pub standing_raised : (mid : PageMap) (rows count first : ℕ) (y : Item) (told : ℕ → ℕ) (rise : ℕ → Type 0) (put : Puts reads now mid rows count first 1 level root o.0 o.1 (Some y) told rise)
      (pages : PageMap) (rows' count' first' top : ℕ) (counts : (ℕ → ℕ → ℕ) → ℕ) (wide told' : ℕ → ℕ) (rise' : ℕ → Type 0)
      (made : IsMade reads (view mid rows count first put.free) pages rows' count' first' 2 (suc level) top (λ n. stand_uses (nodes_in reads mid rows) level root (Some y) n) None
      (λ f. node_below (nodes_in reads now.pages now.rows) f level root + below (nodes_in reads now.pages now.rows) f o.0 o.1) counts wide told' rise')
      → IsStanding reads before (view pages rows' count' first' made.free) (suc level) top rest mine sums
  standing_raised mid rows count first y told rise put pages rows' count' first' top counts wide told' rise' made =
      let both = moves-further put.moves made.moves in
      let kept = loose-frame (nodes_in reads now.pages now.rows) (nodes_in reads pages rows') rest (λ n k. still reads now (view pages rows' count' first' made.free) n (let q = once_now n in both.others n (omega arith) (omega arith))) in
      record {
        node = record { level_is = made.stands.node.level_is; some = let a = made.stands.node.some in omega arith; items = made.stands.node.items };
        items = kept.items standing.items.1;
        low = loose-lower level (suc level) rest (omega arith) standing.low.1;
        moves = moves-further standing.moves (moves-as (λ n. omega arith) (λ n. let k = kept.pages n in omega arith)
            (moves-beside (λ n. total_loose (λ l y. uses (nodes_in reads now.pages now.rows) l y n) rest) both));
        once = standing.once;
        away = standing.away;
        sum_is = λ f. let k = kept.sums f in let p = made.stands.sum_is f in let s = standing.sum_is f in omega arith;
        blank = made.blank;
      }

-- the last item is put back first
pub standing_popped : (reads : Reads) (before now : View) (level root : ℕ) (os : Loose) (o : ℕ × Item) (mine : ℕ → ℕ) (sums : (Item → ℕ) → ℕ)
    → IsStanding reads before now level root (os ++ o ∷ []) mine sums → IsStanding reads before now level root (o ∷ os) mine sums
standing_popped reads before now level root os o mine sums h = record {
  node = h.node;
  items = popped-all (λ l y. IsItem (nodes_in reads now.pages now.rows) l y) os o h.items;
  low = popped-all (λ l y. l ≤ level) os o h.low;
  moves = moves-as (λ n. refl) (λ n. let t = pushed-total (λ l y. uses (nodes_in reads now.pages now.rows) l y n) os o in omega arith) h.moves;
  once = h.once;
  away = h.away;
  sum_is = λ f. let t = pushed-total (λ l y. below (nodes_in reads now.pages now.rows) f l y) os o in let s = h.sum_is f in omega arith;
  blank = h.blank;
}
