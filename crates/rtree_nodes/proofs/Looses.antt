-- Loose items: what one more does to their sums, and that they stay where their pages do.
use Rattle.std.proofs.Common.{◌≡◌, ℕ, ◌+◌, ◌<◌, arith, refl, [], ◌∷◌, ◌++◌, add-one}
use Rattle.rtree_nodes.specs.Slots.{Item, Slots, NodeMap, got, amount, sum_to}
use Rattle.rtree_nodes.specs.Trees.{below, uses, IsItem}
use Rattle.rtree_nodes.specs.Loose.{Loose, total_loose, AllLoose}
use Rattle.rtree_nodes.proofs.Frames.{item-frame}

-- a sum over no slot
pub sum_none : (f : ℕ → ℕ) → sum_to 0 f ≡ 0
unfolding sum_to
sum_none f = refl

-- a sum over one slot more
pub sum_next : (i : ℕ) (f : ℕ → ℕ) → sum_to (i + 1) f ≡ f i + sum_to i f
unfolding sum_to
sum_next i f = rw add-one refl

-- an amount as a sum over all slots
pub sum_all : (F : Item → ℕ) (s : Slots) → amount F s ≡ sum_to 32 (λ k. got F (s k))
unfolding amount
sum_all F s = refl

-- the sum over loose items and one more
pub pushed-total : (F : ℕ → Item → ℕ) (os : Loose) (o : ℕ × Item) → total_loose F (os ++ o ∷ []) ≡ total_loose F os + F o.0 o.1
pushed-total F [] o = omega arith
pushed-total F (p ∷ os) o = let h = pushed-total F os o in omega arith

-- what holds of loose items and of one more
pub pushed-all : (P : ℕ → Item → Type 0) (os : Loose) (o : ℕ × Item) → AllLoose P os → P o.0 o.1 → AllLoose P (os ++ o ∷ [])
pushed-all P [] o h p = (p, tt)
pushed-all P (q ∷ os) o h p = (h.0, pushed-all P os o h.1 p)

-- loose items are the same in two maps of nodes
pub record SameLoose (old new : NodeMap) (os : Loose) : Type 0 where
  pub items : AllLoose (λ l y. IsItem old l y) os → AllLoose (λ l y. IsItem new l y) os
  pub sums : (f : Item → ℕ) → total_loose (λ l y. below new f l y) os ≡ total_loose (λ l y. below old f l y) os
  pub pages : (n : ℕ) → total_loose (λ l y. uses new l y n) os ≡ total_loose (λ l y. uses old l y n) os

-- loose items whose pages stay are as they were
pub loose-frame : (old new : NodeMap) (os : Loose) → ((n : ℕ) → 0 < total_loose (λ l y. uses old l y n) os → new n ≡ old n) → SameLoose old new os
loose-frame old new [] h = record { items = λ t. t; sums = λ f. refl; pages = λ n. refl }
loose-frame old new (o ∷ os) h =
    let a = item-frame old new o.0 o.1 (λ n k. h n (omega arith)) in
    let b = loose-frame old new os (λ n k. h n (omega arith)) in
    record {
      items = λ t. (a.item t.0, b.items t.1);
      sums = λ f. let p = a.sums f in let q = b.sums f in omega arith;
      pages = λ n. let p = a.pages n in let q = b.pages n in omega arith;
    }
