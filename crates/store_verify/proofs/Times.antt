-- How often a row is in a list, and what that says of its order and of look-ups.
use Rattle.std.proofs.Common.{◌≡◌, ◌⊎◌, ℕ, ◌+◌, ◌*◌, ◌≤◌, ◌==◌, ◌&&◌, List, [], ◌∷◌, Bool, true, false, cond, if◌then◌else◌, Some, arith, refl, sym, ap, ◌∙◌, inl, inr, ⊎_elim, zero-mul, eqb}
use Rattle.std.specs.BTreeMap.{is_at}
use Rattle.std.specs.Cmp.{IsTotalOrder}
use Rattle.std.specs.List.{sum_by, AllByRecursion}
use Rattle.std.specs.List.Sorted.{IsPermutation, IsStrictlySortedBy}
use Rattle.std.specs.Map.{keys_of, lookup}
use Rattle.std.specs.Ordering.{ordering_reverse, is_eq}
use Rattle.std.specs.Str.{bytes_eq}
use Rattle.std.specs.declared.cmp.Ordering.{Ordering}
use Rattle.std.specs.declared.cmp.Ordering.TheVariants.{Less, Equal, Greater}
use Rattle.std.proofs.lemmas.Bool.{cases_eq, false≢true}
use Rattle.std.proofs.lemmas.Bool.Decides.{nat_tests, Decides-and, Decides-eqb}
use Rattle.std.proofs.lemmas.List.Sorted.{sum_by-IsPermutation}
use Rattle.std.proofs.lemmas.List.Sums.{sum_by-cons}
use Rattle.std.proofs.lemmas.Map.Lookups.{CmpEqualImpliesEq}
use Rattle.std.proofs.lemmas.Slice.Eq.{bytes_eq-Decides, slice_eq-Decides}
use Rattle.std.specs.Bool.{Decides}
use Rattle.std.specs.Cmp.Lexicographic.{pointwise}

-- two are the same, and count as 1, or they aren't, and count as 0
abbrev pub IsSame : {X : Type 0} → (X → X → ℕ) → X → X → Type 0
IsSame {X} same a b = ((a ≡ b) × (same a b ≡ 1)) ⊎ ((a ≡ b → ⊥) × (same a b ≡ 0))

-- a test that tells any two apart
abbrev pub TellsApart : {X : Type 0} → (X → X → ℕ) → Type 0
TellsApart {X} same = (a b : X) → IsSame same a b

-- how often an element is in a list
abbrev pub count : {X : Type 0} → (X → X → ℕ) → X → List X → ℕ
count same p [] = 0
count same p (x ∷ xs) = same p x + count same p xs

pub count-sum : {X : Type 0} (same : X → X → ℕ) (p : X) (xs : List X) → count same p xs ≡ sum_by (same p) xs
count-sum same p [] = refl
count-sum same p (x ∷ xs) = let r = count-sum same p xs in let c = sum_by-cons (same p) x xs in omega arith

-- a permutation keeps how often each element is there
pub count-moved : {X : Type 0} (same : X → X → ℕ) (xs ys : List X) → IsPermutation xs ys → (p : X) → count same p ys ≡ count same p xs
count-moved same xs ys moved p = count-sum same p ys ∙ sum_by-IsPermutation (same p) xs ys moved ∙ sym (count-sum same p xs)

-- ---- order

module _ {X : Type 0} (key : X → ℕ) where
  -- the keys don't descend, from a least one on
  abbrev pub IsUp : ℕ → List X → Type 0
  IsUp low [] = Unit {0}
  IsUp low (x ∷ xs) = (low ≤ key x) × IsUp (key x) xs

  -- the keys ascend strictly, from a least one on
  abbrev pub IsClimbing : ℕ → List X → Type 0
  IsClimbing low [] = Unit {0}
  IsClimbing low (x ∷ xs) = (low ≤ key x) × IsClimbing (key x + 1) xs

  module _ (same : X → X → ℕ) (exact : TellsApart same) where
    -- an element is itself
    pub same-self : (p : X) → same p p ≡ 1
    same-self p = ⊎_elim (λ s. s.1) (λ o. absurd (o.0 refl)) (exact p p)

    -- two that differ count as 0, the other way round
    same-not : (x y : X) → (x ≡ y → ⊥) → same y x ≡ 0
    same-not x y other = ⊎_elim (λ s. absurd (other (sym s.0))) (λ o. o.1) (exact y x)

    -- an element of an ascending list isn't below its least key
    pub climbing-low : (p : X) (low : ℕ) (xs : List X) → IsClimbing low xs → 1 ≤ count same p xs → low ≤ key p
    climbing-low p low [] up some = absurd (omega arith)
    climbing-low p low (x ∷ xs) up some =
        let first = up.0 in
        ⊎_elim (λ s. let e = ap key s.0 in omega arith) (λ o. let none = o.1 in let rest = climbing-low p (key x + 1) xs up.1 (omega arith) in omega arith) (exact p x)

    pub up-low : (p : X) (low : ℕ) (xs : List X) → IsUp low xs → 1 ≤ count same p xs → low ≤ key p
    up-low p low [] up some = absurd (omega arith)
    up-low p low (x ∷ xs) up some =
        let first = up.0 in
        ⊎_elim (λ s. let e = ap key s.0 in omega arith) (λ o. let none = o.1 in let rest = up-low p (key x) xs up.1 (omega arith) in omega arith) (exact p x)

    -- and is there once at most
    pub climbing-once : (p : X) (low : ℕ) (xs : List X) → IsClimbing low xs → count same p xs ≤ 1
    climbing-once p low [] up = omega arith
    climbing-once p low (x ∷ xs) up =
        let rest = climbing-once p (key x + 1) xs up.1 in
        ⊎_elim
        (λ s. let e = ap key s.0 in let one = s.1 in
        ⊎_elim (λ none. omega arith) (λ some. let low' = climbing-low p (key x + 1) xs up.1 (omega arith) in absurd (omega arith)) (cases_eq (count same p xs) 0))
        (λ o. let none = o.1 in omega arith) (exact p x)

    -- a list whose keys don't descend, with the elements of one whose keys ascend strictly, is that list
    pub same-list : (xs ys : List X) (from low : ℕ) → IsUp from xs → IsClimbing low ys → ((p : X) → count same p xs ≡ count same p ys) → xs ≡ ys
    same-list [] [] from low up climbing all = refl
    same-list [] (y ∷ ys) from low up climbing all = let counts = all y in let one = same-self y in absurd (omega arith)
    same-list (x ∷ xs) [] from low up climbing all = let counts = all x in let one = same-self x in absurd (omega arith)
    same-list (x ∷ xs) (y ∷ ys) from low up climbing all =
        ⊎_elim
        (λ s. let e : x ≡ y = s.0 in
        let k : key x ≡ key y = ap key e in
        let rest = same-list xs ys (key x) (key y + 1) up.1 climbing.1 (λ p. let counts = all p in let b : same p x ≡ same p y = ap (same p) e in omega arith) in
        ap (λ (z : X). z ∷ xs) e ∙ ap (λ (zs : List X). y ∷ zs) rest)
        (λ o. let none = o.1 in
        let counts = all x in
        let here = same-self x in
        let behind = climbing-low x (key y + 1) ys climbing.1 (omega arith) in
        let counts' = all y in
        let there = same-self y in
        let apart = same-not x y o.0 in
        let before = up-low y (key x) xs up.1 (omega arith) in
        absurd (omega arith))
        (exact x y)

-- ---- numbers that don't descend

-- two lists of numbers that don't descend, with each number as often, are one
pub same-numbers : (same : ℕ → ℕ → ℕ) (exact : TellsApart same) (xs ys : List ℕ) (from low : ℕ) → IsUp (λ (n : ℕ). n) from xs → IsUp (λ (n : ℕ). n) low ys → ((n : ℕ) → count same n xs ≡ count same n ys) → xs ≡ ys
same-numbers same exact [] [] from low up up' all = refl
same-numbers same exact [] (y ∷ ys) from low up up' all = let counts = all y in let one = same-self (λ (n : ℕ). n) same exact y in absurd (omega arith)
same-numbers same exact (x ∷ xs) [] from low up up' all = let counts = all x in let one = same-self (λ (n : ℕ). n) same exact x in absurd (omega arith)
same-numbers same exact (x ∷ xs) (y ∷ ys) from low up up' all =
    ⊎_elim
    (λ s. let e : x ≡ y = s.0 in
    let rest = same-numbers same exact xs ys x y up.1 up'.1 (λ p. let counts = all p in let b : same p x ≡ same p y = ap (same p) e in omega arith) in
    ap (λ (z : ℕ). z ∷ xs) e ∙ ap (λ (zs : List ℕ). y ∷ zs) rest)
    (λ o. let none = o.1 in
    let apart : x ≡ y → ⊥ = o.0 in
    let here = same-self (λ (n : ℕ). n) same exact x in
    let counts = all x in
    let behind = up-low (λ (n : ℕ). n) same exact x y ys up'.1 (omega arith) in
    let there = same-self (λ (n : ℕ). n) same exact y in
    let counts' = all y in
    let other : same y x ≡ 0 = ⊎_elim (λ s. absurd (apart (sym s.0))) (λ p. p.1) (exact y x) in
    let before = up-low (λ (n : ℕ). n) same exact y x xs up.1 (omega arith) in
    absurd (apart (omega arith)))
    (exact x y)

-- ---- look-ups

-- a key and a value are another's
abbrev pub same_pair : {K V : Type 0} → (K → K → ℕ) → (V → V → ℕ) → K × V → K × V → ℕ
same_pair same_key same_value p q = same_key p.0 q.0 * same_value p.1 q.1

pub pair-tells : {K V : Type 0} (same_key : K → K → ℕ) (same_value : V → V → ℕ) → TellsApart same_key → TellsApart same_value → TellsApart (same_pair same_key same_value)
pair-tells same_key same_value keys values p q =
    ⊎_elim
    (λ k. ⊎_elim
    (λ v. inl ((λ i. (k.0 i, v.0 i)), rw (k.1, v.1) refl))
    (λ v. inr ((λ e. v.0 (ap (λ r. r.1) e)), rw (k.1, v.1) refl))
    (values p.1 q.1))
    (λ k. inr ((λ e. k.0 (ap (λ r. r.0) e)), ap (λ (n : ℕ). n * same_value p.1 q.1) k.1 ∙ zero-mul (same_value p.1 q.1)))
    (keys p.0 q.0)

-- an order ties a key with itself
pub self_tie : (o : Ordering) → o ≡ ordering_reverse o → o ≡ Equal
self_tie Less e = absurd (cc)
self_tie Equal e = refl
self_tie Greater e = absurd (cc)

pub tie_of : (o : Ordering) → is_eq o ≡ true → o ≡ Equal
tie_of Less e = absurd (cc)
tie_of Equal e = refl
tie_of Greater e = absurd (cc)

module _ {K V : Type 0} {R : K → K → Ordering} (order : IsTotalOrder R) (keys : CmpEqualImpliesEq R) (same_key : K → K → ℕ) (same_value : V → V → ℕ) (exact_key : TellsApart same_key) (exact_value : TellsApart same_value) where
  tied : (a b : K) → a ≡ b → R a b ≡ Equal
  tied a b e = ap (R a) (sym e) ∙ self_tie (R a a) (order.antisymm a a)

  -- the row of a key and a value, before others
  first-row : (k : K) (v : V) (e : K × V) (es : List (K × V)) → k ≡ e.0 → v ≡ e.1 → 1 ≤ count (same_pair same_key same_value) (k, v) (e ∷ es)
  first-row k v e es a b =
      ⊎_elim (λ s. let one = s.1 in omega arith) (λ o. absurd (o.0 (λ i. (a i, b i)))) (pair-tells same_key same_value exact_key exact_value (k, v) e)

  -- what a look-up finds is there
  pub lookup-count : (k : K) (v : V) (es : List (K × V)) → lookup (is_at (R k)) es ≡ Some v → 1 ≤ count (same_pair same_key same_value) (k, v) es
  lookup-count k v [] found = absurd (cc)
  lookup-count k v (e ∷ es) found = by (is_at (R k) e.0) refl found (λ is. lookup-count k v es is)
    where
      by : (b : Bool) → is_at (R k) e.0 ≡ b → cond b (Some e.1) (lookup (is_at (R k)) es) ≡ Some v → (lookup (is_at (R k)) es ≡ Some v → 1 ≤ count (same_pair same_key same_value) (k, v) es)
          → 1 ≤ count (same_pair same_key same_value) (k, v) (e ∷ es)
      by true here is rest = first-row k v e es (keys k e.0 (tie_of (R k e.0) here)) (let s : e.1 ≡ v = cc in sym s)
      by false apart is rest = let more = rest is in omega arith

  -- keys behind a key aren't it
  none-behind : (k : K) (v : V) (m : K) → m ≡ k → (es : List (K × V)) → AllByRecursion (λ y. R m y ≡ Less) (keys_of es) → count (same_pair same_key same_value) (k, v) es ≡ 0
  none-behind k v m is [] less = refl
  none-behind k v m is (e ∷ es) less =
      let rest = none-behind k v m is es less.1 in
      ⊎_elim (λ s. let equal = tied m e.0 (is ∙ ap (λ r. r.0) s.0) in let first = less.0 in absurd (cc)) (λ o. let none = o.1 in omega arith) (pair-tells same_key same_value exact_key exact_value (k, v) e)

  -- each row is there once at most
  pub sorted-once : (k : K) (v : V) (es : List (K × V)) → IsStrictlySortedBy R (keys_of es) → count (same_pair same_key same_value) (k, v) es ≤ 1
  unfolding IsStrictlySortedBy
  sorted-once k v [] sorted = omega arith
  sorted-once k v (e ∷ es) sorted =
      ⊎_elim
      (λ s. let none = none-behind k v e.0 (sym (ap (λ r. r.0) s.0)) es sorted.0 in let one = s.1 in omega arith)
      (λ o. let none = o.1 in let rest = sorted-once k v es sorted.1 in omega arith)
      (pair-tells same_key same_value exact_key exact_value (k, v) e)

  -- and a look-up finds what is there
  pub count-lookup : (k : K) (v : V) (es : List (K × V)) → IsStrictlySortedBy R (keys_of es) → 1 ≤ count (same_pair same_key same_value) (k, v) es → lookup (is_at (R k)) es ≡ Some v
  unfolding IsStrictlySortedBy
  count-lookup k v [] sorted some = absurd (omega arith)
  count-lookup k v (e ∷ es) sorted some = by (is_at (R k) e.0) refl (λ more. count-lookup k v es sorted.1 more)
    where
      by : (b : Bool) → is_at (R k) e.0 ≡ b → (1 ≤ count (same_pair same_key same_value) (k, v) es → lookup (is_at (R k)) es ≡ Some v) → cond b (Some e.1) (lookup (is_at (R k)) es) ≡ Some v
      by true here rest =
          let k-is : k ≡ e.0 = keys k e.0 (tie_of (R k e.0) here) in
          let none = none-behind k v e.0 (sym k-is) es sorted.0 in
          ⊎_elim (λ s. ap Some (sym (ap (λ r. r.1) s.0))) (λ o. let other = o.1 in absurd (omega arith)) (pair-tells same_key same_value exact_key exact_value (k, v) e)
      by false apart rest =
          rest (⊎_elim (λ s. absurd (false≢true (sym apart ∙ ap is_eq (tied k e.0 (ap (λ r. r.0) s.0))))) (λ o. let other = o.1 in omega arith) (pair-tells same_key same_value exact_key exact_value (k, v) e))

-- ---- numbers and texts

-- 1 for one number twice, and else 0
abbrev pub same_number : ℕ → ℕ → ℕ
same_number a b = if a == b then 1 else 0

pub number-tells : TellsApart same_number
number-tells a b = ⊎_elim (λ e. inl (e, grind (arith, nat_tests))) (λ o. inr (o, grind (arith, nat_tests))) (cases_eq a b)

-- 1 for one text twice, and else 0
abbrev pub same_text : List ℕ → List ℕ → ℕ
same_text a b = if bytes_eq a b then 1 else 0

pub text-tells : TellsApart same_text
text-tells a b = by (bytes_eq a b) refl
  where
    by : (t : Bool) → bytes_eq a b ≡ t → ((a ≡ b) × (◌≡◌ {A = ℕ} (if t then 1 else 0) 1)) ⊎ ((a ≡ b → ⊥) × (◌≡◌ {A = ℕ} (if t then 1 else 0) 0))
    by true e = inl ((bytes_eq-Decides a b).0 e, refl)
    by false e = inr ((λ s. false≢true (sym e ∙ (bytes_eq-Decides a b).1 s)), refl)

-- ---- rows of a number and a text

pub named_same : (a b : ℕ × List ℕ) → Decides (eqb a.0 b.0 && bytes_eq a.1 b.1) (a ≡ b)
named_same a b =
    let d = Decides-and (eqb a.0 b.0) (bytes_eq a.1 b.1) (Decides-eqb a.0 b.0) (bytes_eq-Decides a.1 b.1) in
    ((λ t. let p = d.0 t in λ i. (p.0 i, p.1 i)), (λ e. d.1 (ap (λ (r : ℕ × List ℕ). r.0) e, ap (λ (r : ℕ × List ℕ). r.1) e)))

-- a comparison of two lists of them tells whether they are one
pub rows-decide : (xs ys : List (ℕ × List ℕ)) (r : Bool) → r ≡ pointwise (λ (a b : ℕ × List ℕ). eqb a.0 b.0 && bytes_eq a.1 b.1) xs ys → Decides r (xs ≡ ys)
rows-decide xs ys r e = slice_eq-Decides named_same xs ys r e
