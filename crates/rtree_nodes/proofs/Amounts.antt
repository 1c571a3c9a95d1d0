-- What a change of one slot does to sums and tops.
use Rattle.std.proofs.Common.{◌≡◌, ℕ, ◌+◌, ◌<◌, ◌≤◌, max, arith, sym, ap, ◌∙◌, subst, Some, None, ◌⊎◌, inl, inr, if◌then◌else◌, ◌==◌}
use Rattle.std.proofs.lemmas.Bool.Decides.{nat_tests}
use Rattle.rtree_nodes.specs.Slots.{Item, Slots, got, amount, tops, Held, Each}
use Rattle.rtree_nodes.specs.Trees.{with_slot, reach_of}
use Rattle.rtree_nodes.proofs.Sums.{sum-same, sum-at, sum-apart, sum-match, sum-zero, top-same, top-apart, top-match, top-zero}

pub amount-same : (f g : Item → ℕ) (s t : Slots) → ((i : ℕ) → i < 32 → got f (s i) ≡ got g (t i)) → amount f s ≡ amount g t
unfolding amount
amount-same f g s t e = sum-same 32 (λ i. got f (s i)) (λ i. got g (t i)) e

pub amount-at : (f : Item → ℕ) (s : Slots) (at : ℕ) → at < 32 → got f (s at) ≤ amount f s
unfolding amount
amount-at f s at l = sum-at 32 (λ i. got f (s i)) at l

-- the sums of slots that differ in one
pub record OneSlot (f : Item → ℕ) (s t : Slots) (at : ℕ) : Type 0 where
  pub others : ℕ
  pub was : amount f s ≡ others + got f (s at)
  pub is : amount f t ≡ others + got f (t at)

pub amount-apart : (f : Item → ℕ) (s t : Slots) (at : ℕ) → at < 32 → ((i : ℕ) → (i ≡ at → ⊥) → s i ≡ t i) → OneSlot f s t at
unfolding amount
amount-apart f s t at l e = let r = sum-apart 32 (λ i. got f (s i)) (λ i. got f (t i)) at l (λ i k. ap (got f) (e i k)) in
    record { others = r.others; was = r.was; is = r.is }

pub record OneTop (d : ℕ) (s t : Slots) (at : ℕ) : Type 0 where
  pub others : ℕ
  pub was : tops d s ≡ max others (got (reach_of d) (s at))
  pub is : tops d t ≡ max others (got (reach_of d) (t at))

pub tops-apart : (d : ℕ) (s t : Slots) (at : ℕ) → at < 32 → ((i : ℕ) → (i ≡ at → ⊥) → s i ≡ t i) → OneTop d s t at
unfolding tops
tops-apart d s t at l e = let r = top-apart 32 (λ i. got (reach_of d) (s i)) (λ i. got (reach_of d) (t i)) at l (λ i k. ap (got (reach_of d)) (e i k)) in
    record { others = r.others; was = r.was; is = r.is }

pub amount-match : (f : Item → ℕ) (a b s : Slots) → ((i : ℕ) → i < 32 → got f (a i) + got f (b i) ≡ got f (s i)) → amount f a + amount f b ≡ amount f s
unfolding amount
amount-match f a b s e = let r = sum-match 32 (λ i. got f (a i)) (λ i. got f (b i)) (λ i. got f (s i)) (λ i. 0) (λ i l. let k = e i l in omega arith) in
    let z = sum-zero 32 in omega arith

pub tops-match : (d : ℕ) (a b s : Slots) → ((i : ℕ) → i < 32 → max (got (reach_of d) (a i)) (got (reach_of d) (b i)) ≡ got (reach_of d) (s i)) → max (tops d a) (tops d b) ≡ tops d s
unfolding tops
tops-match d a b s e = let r = top-match 32 (λ i. got (reach_of d) (a i)) (λ i. got (reach_of d) (b i)) (λ i. got (reach_of d) (s i)) (λ i. 0) (λ i l. let k = e i l in omega arith) in
    let z = top-zero 32 in omega arith

pub with_slot-same : (at : ℕ) (x : Item) (s : Slots) → with_slot at x s at ≡ Some x
with_slot-same at x s = grind (arith, nat_tests)

pub with_slot-other : (at : ℕ) (x : Item) (s : Slots) (i : ℕ) → (i ≡ at → ⊥) → with_slot at x s i ≡ s i
with_slot-other at x s i h = grind (arith, nat_tests)

pub same_or : (i at : ℕ) → (i ≡ at) ⊎ (i ≡ at → ⊥)
same_or i at = grind arith

pub each-set : (P : Item → Type 0) (at : ℕ) (x : Item) (s : Slots) → Each P s → P x → Each P (with_slot at x s)
each-set P at x s e p i l = elim (same_or i at) [
  | inl k ↦ subst (Held P) (sym (ap (with_slot at x s) k ∙ with_slot-same at x s)) p
  | inr k ↦ subst (Held P) (sym (with_slot-other at x s i k)) (e i l)
]

-- slots that have one item more
pub amount-put : (f : Item → ℕ) (s t : Slots) (at : ℕ) (x : Item) → at < 32 → ((i : ℕ) → (i ≡ at → ⊥) → s i ≡ t i) → s at ≡ None → t at ≡ Some x → amount f t ≡ amount f s + f x
amount-put f s t at x l e none some =
    let r = amount-apart f s t at l e in
    let a = ap (got f) none in
    let b = ap (got f) some in
    omega arith

pub tops-put : (d : ℕ) (s t : Slots) (at : ℕ) (x : Item) → at < 32 → ((i : ℕ) → (i ≡ at → ⊥) → s i ≡ t i) → s at ≡ None → t at ≡ Some x → tops d t ≡ max (tops d s) (x.reach d)
tops-put d s t at x l e none some =
    let r = tops-apart d s t at l e in
    let a = ap (got (reach_of d)) none in
    let b = ap (got (reach_of d)) some in
    let was = r.was in
    let is = r.is in
    omega arith

-- the slots without the item at one of them
abbrev pub without : ℕ → Slots → Slots
without at s i = if i == at then None else s i

pub without-same : (at : ℕ) (s : Slots) → without at s at ≡ None
without-same at s = grind (arith, nat_tests)

pub without-other : (at : ℕ) (s : Slots) (i : ℕ) → (i ≡ at → ⊥) → without at s i ≡ s i
without-other at s i h = grind (arith, nat_tests)

pub each-without : (P : Item → Type 0) (at : ℕ) (s : Slots) → Each P s → Each P (without at s)
each-without P at s e i l = elim (same_or i at) [
  | inl k ↦ subst (Held P) (sym (ap (without at s) k ∙ without-same at s)) tt
  | inr k ↦ subst (Held P) (sym (without-other at s i k)) (e i l)
]

-- slots whose items are those of others and one more
pub each-put : (P : Item → Type 0) (s t : Slots) (at : ℕ) (x : Item) → ((i : ℕ) → (i ≡ at → ⊥) → s i ≡ t i) → t at ≡ Some x → Each P s → P x → Each P t
each-put P s t at x same some e p i l = elim (same_or i at) [
  | inl k ↦ subst (Held P) (sym (ap t k ∙ some)) p
  | inr k ↦ subst (Held P) (same i k) (e i l)
]

pub amount-none : (f : Item → ℕ) (s : Slots) → ((i : ℕ) → s i ≡ None) → amount f s ≡ 0
unfolding amount
amount-none f s e = sum-same 32 (λ i. got f (s i)) (λ i. 0) (λ i l. ap (got f) (e i)) ∙ sum-zero 32

pub tops-none : (d : ℕ) (s : Slots) → ((i : ℕ) → s i ≡ None) → tops d s ≡ 0
unfolding tops
tops-none d s e = top-same 32 (λ i. got (reach_of d) (s i)) (λ i. 0) (λ i l. ap (got (reach_of d)) (e i)) ∙ top-zero 32
