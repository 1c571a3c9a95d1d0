-- Slots of which none is used, or one, and items below which there is a place.
use Rattle.std.proofs.Common.{◌≡◌, ℕ, zero, suc, ◌+◌, ◌<◌, ◌≤◌, arith, refl, sym, ◌∙◌, Option, Some, None, [], ◌∷◌}
use Rattle.rtree_nodes.specs.Slots.{Item, Slots, NodeMap, got, one, amount, filled, Held}
use Rattle.rtree_nodes.specs.Trees.{below, IsItem, root_least}
use Rattle.rtree_nodes.specs.Loose.{Loose, total_loose, AllLoose, IsAt}
use Rattle.rtree_nodes.proofs.Amounts.{amount-same, amount-at, amount-put, without, without-same, without-other}
use Rattle.rtree_nodes.proofs.Heights.{amount-least}

-- the least number of slots of a root is at least 1, and at most that of any other node
pub least-between : (level : ℕ) → (1 ≤ root_least level) × (root_least level ≤ 12)
least-between zero = (omega arith, omega arith)
least-between (suc level) = (omega arith, omega arith)

held-empty : (F : Item → ℕ) (o : Option Item) → got one o ≡ 0 → got F o ≡ 0
held-empty F None e = refl
held-empty F (Some y) e = absurd (omega arith)

-- slots of which none is used come to nothing
pub amount-empty : (F : Item → ℕ) (s : Slots) → filled s ≡ 0 → amount F s ≡ 0
amount-empty F s e = amount-same F one s s (λ i l. let a = amount-at one s i l in let z : got one (s i) ≡ 0 = omega arith in held-empty F (s i) z ∙ sym z) ∙ e

-- slots of which one is used come to its item
pub amount-single : (F : Item → ℕ) (s : Slots) (at : ℕ) (z : Item) → filled s ≡ 1 → IsAt s at z → amount F s ≡ F z
amount-single F s at z e h =
    let put : (G : Item → ℕ) → amount G s ≡ amount G (without at s) + G z = λ G. amount-put G (without at s) s at z h.0 (λ i k. without-other at s i k) (without-same at s) h.1 in
    let a = put one in
    let b = amount-empty F (without at s) (omega arith) in
    let c = put F in
    omega arith

module _ (nodes : NodeMap) (level : ℕ) (each : (y : Item) → IsItem nodes level y → 1 ≤ below nodes one level y) where
  held-some : (o : Option Item) → Held (λ y. IsItem nodes level y) o → Held (λ y. 1 ≤ below nodes one level y) o
  held-some None h = tt
  held-some (Some y) h = each y h

-- below each item is a place
pub item-some : (nodes : NodeMap) (level : ℕ) (y : Item) → IsItem nodes level y → 1 ≤ below nodes one level y
item-some nodes zero y h = omega arith
item-some nodes (suc level) y h =
    let a = amount-least 1 (λ z. below nodes one level z) (nodes y.to).slots (λ i l. held-some nodes level (λ z p. item-some nodes level z p) ((nodes y.to).slots i) (h.0.items i l)) in
    let b = h.0.some in
    omega arith

-- so where no place is loose, nothing is
pub loose-none : (nodes : NodeMap) (os : Loose) → AllLoose (λ l y. IsItem nodes l y) os → total_loose (λ l y. below nodes one l y) os ≡ 0 → os ≡ []
loose-none nodes [] h e = refl
loose-none nodes (o ∷ os) h e = let a = item-some nodes o.0 o.1 h.0 in absurd (omega arith)

two-or : (n : ℕ) → 1 ≤ n → (n ≡ 1 → ⊥) → 2 ≤ n
two-or n some more = grind arith

-- a root of level 0 with a used slot has enough, and one above it with two
pub enough-slots : (level n : ℕ) → 1 ≤ n → (0 < level → n ≡ 1 → ⊥) → root_least level ≤ n
enough-slots zero n some more = some
enough-slots (suc level) n some more = two-or n some (more (omega arith))
