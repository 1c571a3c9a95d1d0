-- What is known of the first of a list.
use Rattle.std.proofs.Common.{◌≡◌, ℕ, suc, zero, ◌-◌, ◌<◌, ◌≤◌, Bool, true, false, cond, List, [], ◌∷◌, ◌++◌, take, length, get_or, refl, sym, ap, ◌∙◌, arith, ◌⊎◌, ⊎_elim}
use Rattle.std.specs.List.{AllByRecursion, insert}
use Rattle.std.proofs.lemmas.Bool.{cases_Bool, cases_order, false≢true, cond_both}
use Rattle.std.proofs.lemmas.List.{append-nil}
use Rattle.std.proofs.lemmas.List.Sorted.{ranks_by}
use Rattle.std.specs.Cmp.{IsTotalOrder}
use Rattle.std.specs.Ordering.{is_lt, ordering_reverse}
use Rattle.std.specs.declared.cmp.Ordering.{Ordering}
use Rattle.std.specs.declared.cmp.Ordering.TheVariants.{Less, Equal, Greater}
use Rattle.place_values.specs.First.{IsLinear, placed, ranked, first, IsRanked}

-- a total order in which only the same tie is linear
pub linear_from_total : {X : Type 0} {R : X → X → Ordering} → IsTotalOrder R → ((x y : X) → R x y ≡ Equal → x ≡ y) → IsLinear (λ x y. is_lt (R x y))
linear_from_total {R} o same = let w = ranks_by o (λ x. x) in record {
  one_way = w.one_way;
  chain = λ x y z p q. w.chain z y x q p;
  same = λ x y p q. neither x y _ _ refl refl p q;
}
  where
    neither : (x y : _) (a b : Ordering) → R x y ≡ a → R y x ≡ b → is_lt (R x y) ≡ false → is_lt (R y x) ≡ false → x ≡ y
    neither x y Equal b e f p q = same x y e
    neither x y Less b e f p q = absurd (false≢true (sym p ∙ ap is_lt e))
    neither x y Greater b e f p q = absurd (false≢true (sym q ∙ ap is_lt (o.antisymm y x ∙ ap ordering_reverse e)))

module _ {X : Type 0} {before : X → X → Bool} (o : IsLinear before) where
  -- z is before x and not before y: y is before x
  strictly : (x y z : X) → before z x ≡ true → before z y ≡ false → before y x ≡ true
  strictly x y z p q = ⊎_elim (λ t. t) (λ (f : before y x ≡ false). absurd (false≢true (sym (o.chain x y z f q) ∙ p))) (cases_Bool (before y x))

  two_go : (x y : X) (zs : List X) (c d : Bool) → before y x ≡ c → before x y ≡ d → cond (before y x) (y ∷ x ∷ zs) (x ∷ y ∷ zs) ≡ cond (before x y) (x ∷ y ∷ zs) (y ∷ x ∷ zs)
  two_go x y zs true true r s = absurd (false≢true (sym (o.one_way y x r) ∙ s))
  two_go x y zs true false r s = rw (r, s) refl
  two_go x y zs false true r s = rw (r, s) refl
  two_go x y zs false false r s = rw (r, s) (let e = o.same x y s r in cc)

  two : (x y : X) (zs : List X) → cond (before y x) (y ∷ x ∷ zs) (x ∷ y ∷ zs) ≡ cond (before x y) (x ∷ y ∷ zs) (y ∷ x ∷ zs)
  two x y zs = two_go x y zs _ _ refl refl

  comm_go : (x y z : X) (zs : List X) (a b : Bool) → before z x ≡ a → before z y ≡ b → placed before x (placed before y zs) ≡ placed before y (placed before x zs) → placed before x (placed before y (z ∷ zs)) ≡ placed before y (placed before x (z ∷ zs))
  comm_go x y z zs true true p q ih = rw (p, q) (rw p (ap (λ l. z ∷ l) ih))
  comm_go x y z zs true false p q ih = let yx = strictly x y z p q in rw (p, q) (rw (yx, p) refl)
  comm_go x y z zs false true p q ih = let xy = strictly y x z q p in rw (p, q) (rw (xy, p) refl)
  comm_go x y z zs false false p q ih = rw (p, q) (rw p (two x y (z ∷ zs)))

  -- it doesn't matter which of two is placed first
  pub placed_comm : (x y : X) (zs : List X) → placed before x (placed before y zs) ≡ placed before y (placed before x zs)
  placed_comm x y [] = two x y []
  placed_comm x y (z ∷ zs) = comm_go x y z zs _ _ refl refl (placed_comm x y zs)

  -- nor where in the list one stands
  pub ranked_middle : (a : List X) (x : X) (b : List X) → ranked before (a ++ x ∷ b) ≡ placed before x (ranked before (a ++ b))
  ranked_middle [] x b = refl
  ranked_middle (y ∷ a) x b = ap (placed before y) (ranked_middle a x b) ∙ placed_comm y x (ranked before (a ++ b))

  -- one more at the end of a list takes its place
  pub ranked_push : (xs : List X) (x : X) → ranked before (xs ++ x ∷ []) ≡ placed before x (ranked before xs)
  ranked_push xs x = rw append-nil at (ranked_middle xs x [])

  not_behind : (x y : X) (ys : List X) → before y x ≡ false → AllByRecursion (λ z. before z y ≡ false) ys → AllByRecursion (λ z. before z x ≡ false) ys
  not_behind x y [] p q = tt
  not_behind x y (z ∷ zs) p q = (o.chain x y z p q.0, not_behind x y zs p q.1)

  -- what holds of one and of all others holds of all
  pub all_placed : (P : X → Type 0) (x : X) (ys : List X) → P x → AllByRecursion P ys → AllByRecursion P (placed before x ys)
  all_placed P x [] p q = (p, q)
  all_placed P x (y ∷ ys) p q = cond_both (before y x) _ _ (AllByRecursion P) (λ _. (q.0, all_placed P x ys p q.1)) (λ _. (p, q))

  placed_ranked : (x : X) (ys : List X) → IsRanked before ys → IsRanked before (placed before x ys)
  placed_ranked x [] h = (tt, tt)
  placed_ranked x (y ∷ ys) h = ⊎_elim
      (λ (t : before y x ≡ true). rw t (all_placed (λ z. before z y ≡ false) x ys (o.one_way y x t) h.0, placed_ranked x ys h.1))
      (λ (f : before y x ≡ false). rw f ((f, not_behind x y ys f h.0), h))
      (cases_Bool (before y x))

  -- the ranking is in order
  pub ranked_is : (xs : List X) → IsRanked before (ranked before xs)
  ranked_is [] = tt
  ranked_is (x ∷ xs) = placed_ranked x (ranked before xs) (ranked_is xs)

module _ {X : Type 0} (before : X → X → Bool) where
  all_taken : (P : X → Type 0) (k : ℕ) (xs : List X) → AllByRecursion P xs → AllByRecursion P (take k xs)
  all_taken P zero xs h = tt
  all_taken P (suc k) [] h = tt
  all_taken P (suc k) (x ∷ xs) h = (h.0, all_taken P k xs h.1)

  -- the front of a list in order is in order
  pub taken_ranked : (k : ℕ) (xs : List X) → IsRanked before xs → IsRanked before (take k xs)
  taken_ranked zero xs h = tt
  taken_ranked (suc k) [] h = tt
  taken_ranked (suc k) (x ∷ xs) h = (all_taken (λ y. before y x ≡ false) k xs h.0, taken_ranked k xs h.1)

  less : (k : ℕ) (s : List X) → take k (take (suc k) s) ≡ take k s
  less zero s = refl
  less (suc k) [] = refl
  less (suc k) (y ∷ s) = ap (λ l. y ∷ l) (less k s)

  cut : (k : ℕ) (x : X) (s : List X) → take k (x ∷ take k s) ≡ take k (x ∷ s)
  cut zero x s = refl
  cut (suc k) x s = ap (λ l. x ∷ l) (less k s)

  -- what is not among the first k need not be kept
  pub placed_kept : (k : ℕ) (x : X) (s : List X) → take k (placed before x (take k s)) ≡ take k (placed before x s)
  placed_kept zero x s = refl
  placed_kept (suc k) x [] = refl
  placed_kept (suc k) x (y ∷ s) = kept_go k x y s _ refl (placed_kept k x s)
    where
      kept_go : (k : ℕ) (x y : X) (s : List X) (b : Bool) → before y x ≡ b → take k (placed before x (take k s)) ≡ take k (placed before x s) → take (suc k) (placed before x (y ∷ take k s)) ≡ take (suc k) (placed before x (y ∷ s))
      kept_go k x y s true p ih = rw p (ap (λ l. y ∷ l) ih)
      kept_go k x y s false p ih = rw p (ap (λ l. x ∷ l) (cut k y s))

  -- behind the i that are before it, and in front of the next
  pub placed_insert : (x : X) (xs : List X) (i : ℕ) → i ≤ length xs → ((j : ℕ) (d : X) → j < i → before (get_or xs j d) x ≡ true) → ((d : X) → i < length xs → before (get_or xs i d) x ≡ false) → placed before x xs ≡ insert xs i x
  placed_insert x [] zero l h k = refl
  placed_insert x [] (suc i) l h k = absurd (omega arith)
  placed_insert x (y ∷ ys) zero l h k = rw (k y (omega arith)) refl
  placed_insert x (y ∷ ys) (suc i) l h k = rw (h 0 y (omega arith)) (ap (λ (l : List X). y ∷ l) (placed_insert x ys i (omega arith) (λ j d q. h (suc j) d (omega arith)) (λ d q. k d (omega arith))))

-- a scan keeps the first k so far
pub first_push : {X : Type 0} {before : X → X → Bool} → IsLinear before → (k : ℕ) (xs : List X) (x : X) → first before k (xs ++ x ∷ []) ≡ take k (placed before x (first before k xs))
first_push {before} o k xs x = ap (take k) (ranked_push o xs x) ∙ sym (placed_kept before k x (ranked before xs))

module _ {X : Type 0} {before : X → X → Bool} (o : IsLinear before) where
  -- of a list in order, none comes before one in front of it
  pub in_order : (xs : List X) (i j : ℕ) (d : X) → IsRanked before xs → i < j → j < length xs → before (get_or xs j d) (get_or xs i d) ≡ false
  in_order [] i j d h l k = absurd (omega arith)
  in_order (x ∷ xs) i zero d h l k = absurd (omega arith)
  in_order (x ∷ xs) zero (suc j) d h l k = at_place xs j h.0 (omega arith)
    where
      at_place : (ys : List X) (j : ℕ) → AllByRecursion (λ y. before y x ≡ false) ys → j < length ys → before (get_or ys j d) x ≡ false
      at_place [] j q b = absurd (omega arith)
      at_place (y ∷ ys) zero q b = q.0
      at_place (y ∷ ys) (suc j) q b = at_place ys j q.1 (omega arith)
  in_order (x ∷ xs) (suc i) (suc j) d h l k = in_order xs i j d h.1 (omega arith) (omega arith)

  -- the place of x in a list in order, found from its end: the last before it stands right in front
  pub placed_behind : (x : X) (xs : List X) (i : ℕ) → IsRanked before xs → i ≤ length xs → ((d : X) → 0 < i → before (get_or xs (i - 1) d) x ≡ true) → ((d : X) → i < length xs → before (get_or xs i d) x ≡ false) → placed before x xs ≡ insert xs i x
  placed_behind x xs i h l p q = placed_insert before x xs i l front q
    where
      front : (j : ℕ) (d : X) → j < i → before (get_or xs j d) x ≡ true
      front j d b = ⊎_elim
          (λ (e : before (get_or xs j d) x ≡ true). e)
          (λ (f : before (get_or xs j d) x ≡ false).
          ⊎_elim
          (λ (last : j ≡ i - 1). rw last (p d (omega arith)))
          (λ (c : (j < i - 1) ⊎ (i - 1 < j)). ⊎_elim
          (λ (earlier : j < i - 1).
          absurd (false≢true (sym (o.chain x (get_or xs j d) (get_or xs (i - 1) d) f (in_order xs j (i - 1) d h earlier (omega arith))) ∙ p d (omega arith))))
          (λ (later : i - 1 < j). absurd (omega arith))
          c)
          (cases_order j (i - 1)))
          (cases_Bool (before (get_or xs j d) x))
