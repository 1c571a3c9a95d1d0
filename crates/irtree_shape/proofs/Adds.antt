-- An item that was added to a node.
use Rattle.std.proofs.Common.{◌≡◌, ℕ, ◌+◌, ◌<◌, max, arith, sym, ap, ◌∙◌, subst, Some, None, inl, inr}
use Rattle.page_face.specs.FreeList.{PageMap}
use Rattle.btree_nodes.specs.Supply.{one_at}
use Rattle.rtree_nodes.specs.Slots.{Item, Slots, one, amount, tops, Each, IsFree, IsPart}
use Rattle.rtree_nodes.specs.Trees.{below, uses, IsItem, with_slot}
use Rattle.rtree_nodes.specs.Heads.{heads, heads_with}
use Rattle.rtree_nodes.specs.Stock.{View}
use Rattle.rtree_nodes.specs.Made.{Reads, sums_with, uses_with, reach_with}
use Rattle.rtree_nodes.proofs.Amounts.{same_or, with_slot-other, each-set}
use Rattle.rtree_nodes.proofs.TreeParts.{put-sum, put-top}
use Rattle.rtree_nodes.proofs.Adds.{each-from}
use Rattle.irtree_shape.specs.Made.{nodes_in, IsReady, IsMade, IsTwo}
use Rattle.irtree_shape.proofs.Stores.{made-as}

module _ (reads : Reads) (before : View) (least level page : ℕ) (s : Slots) (at_level : ℕ) (x : Item)
    (ready : IsReady reads before least level page (record { level = at_level; slots = s }) (Some x)) where
  -- the item was put into a free slot
  module _ (t : Slots) (at : ℕ) (free : IsFree s at) (is : t ≡ with_slot at x s) where
    sum : (F : Item → ℕ) → amount F t ≡ amount F s + F x
    sum F = ap (amount F) is ∙ put-sum F s x at free

    was-none : (i : ℕ) → t i ≡ None → s i ≡ None
    was-none i none = elim (same_or i at) [
      | inl e ↦ ap s e ∙ free.free
      | inr d ↦ sym (with_slot-other at x s i d) ∙ sym (ap (λ (u : Slots). u i) is) ∙ none
    ]

    top : (d : ℕ) → tops d t ≡ max (tops d s) (x.reach d)
    top d = ap (tops d) is ∙ put-top d s x at free

    pub ready_placed : (l : ℕ) → l ≡ at_level → IsReady reads before least level page (record { level = l; slots = t }) None
    ready_placed l e = record {
      level_is = e ∙ ready.level_is;
      some = let k = sum one in let j = ready.some in omega arith;
      small = ready.small;
      items = subst (Each (λ y. IsItem (nodes_in reads before.pages before.rows) level y)) (sym is) (each-set (λ y. IsItem (nodes_in reads before.pages before.rows) level y) at x s ready.items ready.beside);
      beside = tt;
      supplied = ready.supplied;
      once = λ n. let o = ready.once n in let k = sum (λ y. uses (nodes_in reads before.pages before.rows) level y n) in omega arith;
      blank = ready.blank;
      empty = λ w i none. ready.empty w i (was-none i none);
    }

    pub made_placed : (pages : PageMap) (rows count first : ℕ) (told : ℕ → ℕ) (rise : ℕ → Type 0) → ((d : ℕ) → d < 4 → told d ≡ tops d t)
        → IsMade reads before pages rows count first least level page (uses_with (nodes_in reads before.pages before.rows) level page t None) None (sums_with (nodes_in reads before.pages before.rows) level t None) (λ g. heads_with (nodes_in reads before.pages before.rows) g level page t None) (reach_with t None) (λ d. tops d t) rise
        → IsMade reads before pages rows count first least level page (uses_with (nodes_in reads before.pages before.rows) level page s (Some x)) None (sums_with (nodes_in reads before.pages before.rows) level s (Some x)) (λ g. heads_with (nodes_in reads before.pages before.rows) g level page s (Some x)) (reach_with s (Some x)) told rise
    made_placed pages rows count first told rise e h = made-as
        (λ n. let k = sum (λ y. uses (nodes_in reads before.pages before.rows) level y n) in omega arith)
        (λ f. let k = sum (λ y. below (nodes_in reads before.pages before.rows) f level y) in omega arith)
        (λ g. let k = sum (λ y. heads (nodes_in reads before.pages before.rows) g level y) in omega arith)
        (λ d. let k = top d in omega arith) e h

  -- the items were parted
  module _ (a b : Slots) (parts : IsPart s x a b) where
    pub two_parted : (k l : ℕ) → k ≡ at_level → l ≡ at_level → IsTwo reads before level page (record { level = k; slots = a }) (record { level = l; slots = b })
    two_parted k l e f = record {
      a_level = e ∙ ready.level_is;
      b_level = f ∙ ready.level_is;
      a_some = parts.stay;
      b_some = parts.move;
      a_items = each-from (λ y. IsItem (nodes_in reads before.pages before.rows) level y) s a x ready.items ready.beside parts.from_a;
      b_items = each-from (λ y. IsItem (nodes_in reads before.pages before.rows) level y) s b x ready.items ready.beside parts.from_b;
      supplied = ready.supplied;
      once = λ n. let o = ready.once n in let k = parts.sums (λ y. uses (nodes_in reads before.pages before.rows) level y n) in omega arith;
      blank = ready.blank;
    }

    pub made_parted : (pages : PageMap) (rows count first : ℕ) (y : Item) (told : ℕ → ℕ) (rise : ℕ → Type 0) → ((d : ℕ) → d < 4 → told d ≡ tops d a)
        → IsMade reads before pages rows count first least level page
        (λ n. one_at page n + amount (λ z. uses (nodes_in reads before.pages before.rows) level z n) a + amount (λ z. uses (nodes_in reads before.pages before.rows) level z n) b) (Some y)
        (λ f. amount (λ z. below (nodes_in reads before.pages before.rows) f level z) a + amount (λ z. below (nodes_in reads before.pages before.rows) f level z) b)
        (λ g. g level page + amount (λ z. heads (nodes_in reads before.pages before.rows) g level z) a + amount (λ z. heads (nodes_in reads before.pages before.rows) g level z) b)
        (λ d. max (tops d a) (tops d b)) (λ d. tops d a) rise
        → IsMade reads before pages rows count first least level page (uses_with (nodes_in reads before.pages before.rows) level page s (Some x)) (Some y) (sums_with (nodes_in reads before.pages before.rows) level s (Some x)) (λ g. heads_with (nodes_in reads before.pages before.rows) g level page s (Some x)) (reach_with s (Some x)) told rise
    made_parted pages rows count first y told rise e h = made-as
        (λ n. let k = parts.sums (λ y. uses (nodes_in reads before.pages before.rows) level y n) in omega arith)
        (λ f. parts.sums (λ y. below (nodes_in reads before.pages before.rows) f level y))
        (λ g. let k = parts.sums (λ y. heads (nodes_in reads before.pages before.rows) g level y) in omega arith)
        (λ d. parts.reach d) e h
