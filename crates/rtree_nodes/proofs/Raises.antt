-- Slots with one item alone, or with two.
use Rattle.std.proofs.Common.{◌≡◌, ℕ, ◌+◌, max, arith, sym, ap, ◌∙◌, subst, None}
use Rattle.rtree_nodes.specs.Slots.{Item, Slots, amount, tops, Held, Each}
use Rattle.rtree_nodes.specs.Trees.{with_slot}
use Rattle.rtree_nodes.proofs.Amounts.{amount-put, tops-put, amount-none, tops-none, with_slot-same, with_slot-other, each-set}

-- slots with one item alone
module _ (a : Item) (s t : Slots) (empty : (i : ℕ) → s i ≡ None) (first : t ≡ with_slot 0 a s) where
  pub one-sum : (F : Item → ℕ) → amount F t ≡ F a
  one-sum F =
      let p = ap (amount F) first ∙ amount-put F s (with_slot 0 a s) 0 a (omega arith) (λ i k. sym (with_slot-other 0 a s i k)) (empty 0) (with_slot-same 0 a s) in
      let z = amount-none F s empty in
      omega arith

  pub one-top : (d : ℕ) → tops d t ≡ a.reach d
  one-top d =
      let p = ap (tops d) first ∙ tops-put d s (with_slot 0 a s) 0 a (omega arith) (λ i k. sym (with_slot-other 0 a s i k)) (empty 0) (with_slot-same 0 a s) in
      let z = tops-none d s empty in
      omega arith

  pub one-each : (P : Item → Type 0) → P a → Each P t
  one-each P p = subst (Each P) (sym first) (each-set P 0 a s (λ i l. subst (Held P) (sym (empty i)) tt) p)

-- slots with two items
module _ (a b : Item) (s t u : Slots) (empty : (i : ℕ) → s i ≡ None) (first : t ≡ with_slot 0 a s) (second : u ≡ with_slot 1 b t) where
  free_one : t 1 ≡ None
  free_one = ap (λ (x : Slots). x 1) first ∙ with_slot-other 0 a s 1 (λ e. omega arith) ∙ empty 1

  pub two-sum : (F : Item → ℕ) → amount F u ≡ F a + F b
  two-sum F =
      let p = one-sum a s t empty first F in
      let q = ap (amount F) second ∙ amount-put F t (with_slot 1 b t) 1 b (omega arith) (λ i k. sym (with_slot-other 1 b t i k)) free_one (with_slot-same 1 b t) in
      omega arith

  pub two-top : (d : ℕ) → tops d u ≡ max (a.reach d) (b.reach d)
  two-top d =
      let p = one-top a s t empty first d in
      let q = ap (tops d) second ∙ tops-put d t (with_slot 1 b t) 1 b (omega arith) (λ i k. sym (with_slot-other 1 b t i k)) free_one (with_slot-same 1 b t) in
      omega arith

  pub two-each : (P : Item → Type 0) → P a → P b → Each P u
  two-each P p q = subst (Each P) (sym second) (each-set P 1 b t (one-each a s t empty first P p) q)
