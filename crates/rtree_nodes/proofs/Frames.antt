-- Items whose pages stay as they are.
use Rattle.std.proofs.Common.{◌≡◌, ℕ, zero, suc, ◌+◌, ◌<◌, arith, refl, ap, Option, Some, None}
use Rattle.btree_nodes.specs.Supply.{one_at}
use Rattle.btree_nodes.proofs.Supplies.{one_at-same}
use Rattle.rtree_nodes.specs.Slots.{Item, Slots, NodeMap, got, amount, Held, Each}
use Rattle.rtree_nodes.specs.Trees.{below, uses, IsItem}
use Rattle.rtree_nodes.proofs.Amounts.{amount-same, amount-at}

-- an item is the same in two maps of nodes
pub record SameItem (old new : NodeMap) (level : ℕ) (x : Item) : Type 0 where
  pub item : IsItem old level x → IsItem new level x
  pub sums : (f : Item → ℕ) → below new f level x ≡ below old f level x
  pub pages : (n : ℕ) → uses new level x n ≡ uses old level x n

pub record SameSlots (old new : NodeMap) (level : ℕ) (s : Slots) : Type 0 where
  pub items : Each (λ y. IsItem old level y) s → Each (λ y. IsItem new level y) s
  pub sums : (f : Item → ℕ) → amount (λ y. below new f level y) s ≡ amount (λ y. below old f level y) s
  pub pages : (n : ℕ) → amount (λ y. uses new level y n) s ≡ amount (λ y. uses old level y n) s

record SameHeld (old new : NodeMap) (level : ℕ) (o : Option Item) : Type 0 where
  pub item : Held (λ y. IsItem old level y) o → Held (λ y. IsItem new level y) o
  pub sums : (f : Item → ℕ) → got (λ y. below new f level y) o ≡ got (λ y. below old f level y) o
  pub pages : (n : ℕ) → got (λ y. uses new level y n) o ≡ got (λ y. uses old level y n) o

module _ (old new : NodeMap) (level : ℕ) (each : (y : Item) → ((n : ℕ) → 0 < uses old level y n → new n ≡ old n) → SameItem old new level y) where
  held-frame : (o : Option Item) → ((n : ℕ) → 0 < got (λ y. uses old level y n) o → new n ≡ old n) → SameHeld old new level o
  held-frame None h = record { item = λ t. t; sums = λ f. refl; pages = λ n. refl }
  held-frame (Some y) h = let r = each y h in record { item = r.item; sums = r.sums; pages = r.pages }

  pub slots-frame_by : (s : Slots) → ((n : ℕ) → 0 < amount (λ y. uses old level y n) s → new n ≡ old n) → SameSlots old new level s
  slots-frame_by s h =
      let at : (i : ℕ) → i < 32 → SameHeld old new level (s i) = λ i l. held-frame (s i) (λ n k. h n (let a = amount-at (λ y. uses old level y n) s i l in omega arith)) in
      record {
        items = λ e i l. (at i l).item (e i l);
        sums = λ f. amount-same (λ y. below new f level y) (λ y. below old f level y) s s (λ i l. (at i l).sums f);
        pages = λ n. amount-same (λ y. uses new level y n) (λ y. uses old level y n) s s (λ i l. (at i l).pages n);
      }

pub item-frame : (old new : NodeMap) (level : ℕ) (x : Item) → ((n : ℕ) → 0 < uses old level x n → new n ≡ old n) → SameItem old new level x
item-frame old new zero x h = record { item = λ t. t; sums = λ f. refl; pages = λ n. refl }
item-frame old new (suc level) x h =
    let here : new x.to ≡ old x.to = h x.to (let s = one_at-same x.to in omega arith) in
    let r = slots-frame_by old new level (λ y k. item-frame old new level y k) (old x.to).slots (λ n k. h n (omega arith)) in
    record {
      item = λ e. rw here (record { level_is = e.0.level_is; some = e.0.some; items = r.items e.0.items }, e.1);
      sums = λ f. rw here (r.sums f);
      pages = λ n. rw here (ap (λ (k : ℕ). one_at x.to n + k) (r.pages n));
    }

pub slots-frame : (old new : NodeMap) (level : ℕ) (s : Slots) → ((n : ℕ) → 0 < amount (λ y. uses old level y n) s → new n ≡ old n) → SameSlots old new level s
slots-frame old new level s h = slots-frame_by old new level (λ y k. item-frame old new level y k) s h
