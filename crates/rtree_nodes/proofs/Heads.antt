-- Nodes that stay at their levels and pages.
use Rattle.std.proofs.Common.{◌≡◌, ℕ, zero, suc, ◌+◌, ◌<◌, ◌≤◌, arith, refl, sym, ap, ◌∙◌, Option, Some, None, List, [], ◌∷◌, ◌++◌}
use Rattle.btree_nodes.proofs.Supplies.{one_at-same}
use Rattle.rtree_nodes.specs.Slots.{Item, Slots, NodeView, NodeMap, got, amount}
use Rattle.rtree_nodes.specs.Trees.{uses}
use Rattle.rtree_nodes.proofs.Amounts.{amount-same, amount-at, amount-put, without, without-same, without-other}
use Rattle.rtree_nodes.specs.Heads.{heads, node_heads, stand_heads, total_heads}

pub total-append : (g : ℕ → ℕ → ℕ) (xs ys : List (ℕ × ℕ)) → total_heads g (xs ++ ys) ≡ total_heads g xs + total_heads g ys
total-append g [] ys = omega arith
total-append g (x ∷ xs) ys = let h = total-append g xs ys in omega arith

module _ (old new : NodeMap) (g : ℕ → ℕ → ℕ) (level : ℕ) (each : (y : Item) → ((n : ℕ) → 0 < uses old level y n → new n ≡ old n) → heads new g level y ≡ heads old g level y) where
  held-heads : (o : Option Item) → ((n : ℕ) → 0 < got (λ y. uses old level y n) o → new n ≡ old n) → got (λ y. heads new g level y) o ≡ got (λ y. heads old g level y) o
  held-heads None h = refl
  held-heads (Some y) h = each y h

  slots-heads_by : (s : Slots) → ((n : ℕ) → 0 < amount (λ y. uses old level y n) s → new n ≡ old n) → amount (λ y. heads new g level y) s ≡ amount (λ y. heads old g level y) s
  slots-heads_by s h = amount-same (λ y. heads new g level y) (λ y. heads old g level y) s s (λ i l. held-heads (s i) (λ n k. h n (let a = amount-at (λ y. uses old level y n) s i l in omega arith)))

pub item-heads : (old new : NodeMap) (g : ℕ → ℕ → ℕ) (level : ℕ) (x : Item) → ((n : ℕ) → 0 < uses old level x n → new n ≡ old n) → heads new g level x ≡ heads old g level x
item-heads old new g zero x h = refl
item-heads old new g (suc level) x h =
    let here : new x.to ≡ old x.to = h x.to (let s = one_at-same x.to in omega arith) in
    let r = slots-heads_by old new g level (λ y k. item-heads old new g level y k) (old x.to).slots (λ n k. h n (omega arith)) in
    ap (λ (v : NodeView). g level x.to + amount (λ y. heads new g level y) v.slots) here ∙ ap (λ (k : ℕ). g level x.to + k) r

pub slots-heads : (old new : NodeMap) (g : ℕ → ℕ → ℕ) (level : ℕ) (s : Slots) → ((n : ℕ) → 0 < amount (λ y. uses old level y n) s → new n ≡ old n) → amount (λ y. heads new g level y) s ≡ amount (λ y. heads old g level y) s
slots-heads old new g level s h = slots-heads_by old new g level (λ y k. item-heads old new g level y k) s h

-- a child has become one child or two, with these nodes more
pub step-heads : (old new : NodeMap) (g : ℕ → ℕ → ℕ) (level : ℕ) (s t : Slots) (at : ℕ) (x x' : Item) (more : Option Item) (gain : ℕ) → at < 32 → s at ≡ Some x → t at ≡ Some x' → ((i : ℕ) → (i ≡ at → ⊥) → t i ≡ s i) → x'.to ≡ x.to
    → ((n : ℕ) → amount (λ y. uses old (suc level) y n) s ≤ 1) → ((n : ℕ) → uses old (suc level) x n ≡ 0 → 0 < amount (λ y. uses old (suc level) y n) s → new n ≡ old n)
    → stand_heads new g level x.to more ≡ node_heads old g level x.to + gain
    → amount (λ y. heads new g (suc level) y) t + got (λ y. heads new g (suc level) y) more ≡ amount (λ y. heads old g (suc level) y) s + gain
step-heads old new g level s t at x x' more gain within here there same to once still stands =
    let rest : Slots = without at s in
    let none = without-same at s in
    let rest-s = without-other at s in
    let rest-t : (i : ℕ) → (i ≡ at → ⊥) → without at s i ≡ t i = λ i k. without-other at s i k ∙ sym (same i k) in
    let a = amount-put (λ y. heads new g (suc level) y) (without at s) t at x' within rest-t none there in
    let b = amount-put (λ y. heads old g (suc level) y) (without at s) s at x within rest-s none here in
    let k = slots-heads old new g (suc level) (without at s) (λ n j. let p = amount-put (λ y. uses old (suc level) y n) (without at s) s at x within rest-s none here in let o = once n in still n (omega arith) (omega arith)) in
    let j : heads new g (suc level) x' ≡ node_heads new g level x.to = ap (λ (c : ℕ). node_heads new g level c) to in
    omega arith
