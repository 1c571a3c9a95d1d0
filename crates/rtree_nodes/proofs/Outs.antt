-- A slot that was set to another item, or to none, and nodes that a path leads through.
use Rattle.std.proofs.Common.{◌≡◌, ℕ, zero, suc, ◌+◌, ◌<◌, arith, sym, ap, ◌∙◌, subst, Option, Some, List, inl, inr, slice_index}
use Rattle.std.proofs.lemmas.Bool.Decides.{nat_tests}
use Rattle.rtree_nodes.specs.Slots.{Item, Slots, NodeMap, got, one, amount, filled, Held, Each}
use Rattle.rtree_nodes.specs.Loose.{Leads, IsAt, with_opt}
use Rattle.rtree_nodes.proofs.Amounts.{amount-apart, amount-at, without, without-other, same_or}

-- what stands in the slot that was set
pub opt-same : (at : ℕ) (o : Option Item) (s : Slots) → with_opt at o s at ≡ o
opt-same at o s = grind (arith, nat_tests)

-- the other slots stay
pub opt-other : (at : ℕ) (o : Option Item) (s : Slots) (i : ℕ) → (i ≡ at → ⊥) → with_opt at o s i ≡ s i
opt-other at o s i h = grind (arith, nat_tests)

-- one slot holds one item
pub at-same : (a b : Item) (o : Option Item) → o ≡ Some a → o ≡ Some b → a.to ≡ b.to
at-same a b o p q = let e : Some a ≡ Some b = sym p ∙ q in let f : Option Item → ℕ = λ o. got (λ y. y.to) o in ap f e

pub some-filled : (s : Slots) (at : ℕ) (z : Item) → IsAt s at z → 0 < filled s
some-filled s at z h = let a = amount-at one s at h.0 in let b = ap (got one) h.1 in omega arith

-- a node that a path leads through has a used slot
pub leads-some : (nodes : NodeMap) (path : List ℕ) (level page : ℕ) (x : Item) → Leads nodes path level page x → 0 < filled (nodes page).slots
leads-some nodes path zero page x h = some-filled (nodes page).slots (slice_index path 0) x h
leads-some nodes path (suc level) page x h = some-filled (nodes page).slots (slice_index path (suc level)) h.0 h.1

-- the sums with one item in place of another, or none
pub opt-sum : (F : Item → ℕ) (s : Slots) (at : ℕ) (z : Item) (o : Option Item) → IsAt s at z → amount F (with_opt at o s) + F z ≡ amount F s + got F o
opt-sum F s at z o h =
    let r = amount-apart F s (with_opt at o s) at h.0 (λ i k. sym (opt-other at o s i k)) in
    let a = ap (got F) h.1 in
    let b = ap (got F) (opt-same at o s) in
    omega arith

-- what holds of the other items and of the one that was set
pub opt-each : (P Q : Item → Type 0) (s : Slots) (at : ℕ) (o : Option Item) → Each Q (without at s) → Held Q o → Each Q (with_opt at o s)
opt-each P Q s at o e h i l = elim (same_or i at) [
  | inl k ↦ subst (Held Q) (sym (ap (with_opt at o s) k ∙ opt-same at o s)) h
  | inr k ↦ subst (Held Q) (without-other at s i k ∙ sym (opt-other at o s i k)) (e i l)
]
