-- A child that has become one child or two.
use Rattle.std.proofs.Common.{◌≡◌, ℕ, suc, ◌+◌, ◌<◌, ◌≤◌, max, arith, sym, ap, ◌∙◌, subst, Option, Some, None}
use Rattle.rtree_nodes.specs.Slots.{Item, Slots, NodeMap, got, amount, tops, Held, Each, filled, one}
use Rattle.rtree_nodes.specs.Trees.{below, uses, IsNode, IsItem, Stands, reach_of, node_below, least_with}
use Rattle.rtree_nodes.proofs.Amounts.{amount-put, tops-put, each-put, without, without-same, without-other, each-without}
use Rattle.rtree_nodes.proofs.Frames.{SameSlots, slots-frame}
use Rattle.rtree_nodes.proofs.Sums.{max_assoc}

-- what stands below the slots once a child has changed: one item has grown, and one may be left to be put in
pub record Stepped (old new : NodeMap) (level : ℕ) (s t : Slots) (x x' : Item) (more : Option Item) (gain : (Item → ℕ) → ℕ) (wide : ℕ → ℕ) : Type 0 where
  pub items : Each (λ y. IsItem new level y) t
  pub sums : (f : Item → ℕ) → amount (λ y. below new f level y) t + got (λ y. below new f level y) more ≡ amount (λ y. below old f level y) s + gain f
  pub reach : (d : ℕ) → max (tops d t) (got (reach_of d) more) ≡ max (tops d s) (wide d)
  pub beside : Held (λ y. IsItem new level y) more
  pub pages : (n : ℕ) → amount (λ y. uses new level y n) t + uses old level x n ≡ amount (λ y. uses old level y n) s + uses new level x' n
  pub as_many : filled t ≡ filled s

widest : (o t s a b m w : ℕ) → t ≡ max o a → s ≡ max o b → max a m ≡ max b w → max t m ≡ max s w
widest o t s a b m w p q e = ap (λ (k : ℕ). max k m) p ∙ max_assoc o a m ∙ ap (max o) e ∙ sym (max_assoc o b w) ∙ ap (λ (k : ℕ). max k w) (sym q)

module _ (old new : NodeMap) (level : ℕ) (s t : Slots) (at : ℕ) (x x' : Item) (more : Option Item) (gain : (Item → ℕ) → ℕ) (wide : ℕ → ℕ)
    (within : at < 32) (here : s at ≡ Some x) (there : t at ≡ Some x') (same : (i : ℕ) → (i ≡ at → ⊥) → t i ≡ s i) (to : x'.to ≡ x.to) (least : (d : ℕ) → x'.reach d ≡ tops d (new x.to).slots)
    (was : (d : ℕ) → x.reach d ≡ tops d (old x.to).slots)
    (items : Each (λ y. IsItem old (suc level) y) s)
    (once : (n : ℕ) → amount (λ y. uses old (suc level) y n) s ≤ 1)
    (still : (n : ℕ) → uses old (suc level) x n ≡ 0 → 0 < amount (λ y. uses old (suc level) y n) s → new n ≡ old n)
    (stands : Stands new 12 level x.to more (λ f. node_below old f level x.to + gain f) (λ d. max (tops d (old x.to).slots) (wide d))) where
  rest : Slots
  rest = without at s

  rest-s : (i : ℕ) → (i ≡ at → ⊥) → rest i ≡ s i
  unfolding rest
  rest-s i k = without-other at s i k

  rest-t : (i : ℕ) → (i ≡ at → ⊥) → rest i ≡ t i
  rest-t i k = rest-s i k ∙ sym (same i k)

  none : rest at ≡ None
  unfolding rest
  none = without-same at s

  rest_pages : (n : ℕ) → amount (λ y. uses old (suc level) y n) s ≡ amount (λ y. uses old (suc level) y n) rest + uses old (suc level) x n
  rest_pages n = amount-put (λ y. uses old (suc level) y n) rest s at x within rest-s none here

  kept : SameSlots old new (suc level) rest
  kept = slots-frame old new (suc level) rest (λ n k. let a = rest_pages n in let o = once n in still n (omega arith) (omega arith))

  rest_items : Each (λ y. IsItem old (suc level) y) rest
  unfolding rest
  rest_items = each-without (λ y. IsItem old (suc level) y) at s items

  as_twelve : (m : Option Item) → IsNode (λ y. IsItem new level y) (least_with 12 m) level (new x.to) → IsNode (λ y. IsItem new level y) 12 level (new x.to)
  as_twelve None k = k
  as_twelve (Some y) k = k

  grown : IsItem new (suc level) x'
  grown =
      let k : IsNode (λ y. IsItem new level y) 12 level (new x'.to) = subst (λ (c : ℕ). IsNode (λ y. IsItem new level y) 12 level (new c)) (sym to) (as_twelve more stands.node) in
      let l : (d : ℕ) → x'.reach d ≡ tops d (new x'.to).slots = λ d. least d ∙ ap (λ (c : ℕ). tops d (new c).slots) (sym to) in
      (k, l)

  pub stepped : Stepped old new (suc level) s t x x' more gain wide
  stepped = record {
    items = each-put (λ y. IsItem new (suc level) y) rest t at x' rest-t there (kept.items rest_items) grown;
    beside = stands.beside;
    sums = λ f.
        let a = amount-put (λ y. below new f (suc level) y) rest t at x' within rest-t none there in
        let b = amount-put (λ y. below old f (suc level) y) rest s at x within rest-s none here in
        let k = kept.sums f in
        let i = stands.sum_is f in
        let j : below new f (suc level) x' ≡ node_below new f level x.to = ap (λ (c : ℕ). node_below new f level c) to in
        omega arith;
    reach = λ d.
        let a = tops-put d rest t at x' within rest-t none there in
        let b = tops-put d rest s at x within rest-s none here in
        let i = stands.reach_is d in
        let l = least d in
        let m = was d in
        widest (tops d rest) (tops d t) (tops d s) (x'.reach d) (x.reach d) (got (reach_of d) more) (wide d) a b
        (ap (λ (k : ℕ). max k (got (reach_of d) more)) l ∙ i ∙ ap (λ (k : ℕ). max k (wide d)) (sym m));
    pages = λ n.
        let a = amount-put (λ y. uses new (suc level) y n) rest t at x' within rest-t none there in
        let b = rest_pages n in
        let k = kept.pages n in
        omega arith;
    as_many =
        let a = amount-put one rest t at x' within rest-t none there in
        let b = amount-put one rest s at x within rest-s none here in
        omega arith;
  }
