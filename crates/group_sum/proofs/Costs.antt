-- What picks cost beside places that are paid for.
use Rattle.std.proofs.Common.{◌≡◌, ℕ, ◌+◌, ◌≤◌, Bool, true, false, cond, not, List, [], ◌∷◌, ◌||◌, map, sum_by, refl, sym, ap, subst, ◌∙◌, arith, ⊎_elim}
use Rattle.std.specs.List.{AllByRecursion, filter}
use Rattle.std.proofs.lemmas.List.Sums.{sum_by-cons}
use Rattle.std.proofs.lemmas.Bool.{or_cases, or_left, or_right, true≢false}
use Rattle.place_values.specs.declared.query.Pick.{Pick}
use Rattle.place_values.specs.Sum.{is_same_place, distinct_picks, sum_cost}
use Rattle.group_sum.specs.Sets.{flagged}
use Rattle.group_sum.specs.Splits.{joined}

-- the places that are paid for, and the place of one more pick
abbrev pub also : Pick → (Pick → Bool) → Pick → Bool
also pick seen other = is_same_place pick other || seen other

-- no place is paid for
abbrev pub none_seen : Pick → Bool
none_seen pick = false

-- the sum of the distances to the places that aren't paid for
abbrev pub paid : (Pick → Bool) → List Pick → ℕ
paid seen [] = 0
paid seen (pick ∷ others) = cond (seen pick) 0 pick.dist + paid (also pick seen) others

abbrev far : Pick → ℕ
far pick = pick.dist

-- two filters, one behind the other
filtered-twice : (seen : Pick → Bool) (x : Pick) (xs : List Pick) → filter (λ y. not (seen y)) (filter (λ y. not (is_same_place x y)) xs) ≡ filter (λ y. not (also x seen y)) xs
filtered-twice seen x [] = refl
filtered-twice seen x (y ∷ ys) = go (is_same_place x y) (seen y) refl refl (filtered-twice seen x ys)
  where
    go : (a b : Bool) → is_same_place x y ≡ a → seen y ≡ b → filter (λ z. not (seen z)) (filter (λ z. not (is_same_place x z)) ys) ≡ filter (λ z. not (also x seen z)) ys
        → filter (λ z. not (seen z)) (filter (λ z. not (is_same_place x z)) (y ∷ ys)) ≡ filter (λ z. not (also x seen z)) (y ∷ ys)
    go true b e f ih = rw e ih
    go false true e f ih = rw (e, f) ih
    go false false e f ih = rw (e, f) (ap (λ l. y ∷ l) ih)

paid-filtered : (seen : Pick → Bool) (xs : List Pick) → sum_by far (filter (λ y. not (seen y)) (distinct_picks xs)) ≡ paid seen xs
paid-filtered seen [] = refl
paid-filtered seen (x ∷ xs) = go (seen x) refl (ap (sum_by far) (filtered-twice seen x (distinct_picks xs)) ∙ paid-filtered (also x seen) xs)
  where
    go : (b : Bool) → seen x ≡ b → sum_by far (filter (λ y. not (seen y)) (filter (λ y. not (is_same_place x y)) (distinct_picks xs))) ≡ paid (also x seen) xs
        → sum_by far (filter (λ y. not (seen y)) (distinct_picks (x ∷ xs))) ≡ paid seen (x ∷ xs)
    go true e rest = rw e (omega arith)
    go false e rest = rw e (sum_by-cons far x (filter (λ y. not (seen y)) (filter (λ y. not (is_same_place x y)) (distinct_picks xs))) ∙ ap (λ n. x.dist + n) rest)

filtered-all : (xs : List Pick) → filter (λ y. true) xs ≡ xs
filtered-all [] = refl
filtered-all (x ∷ xs) = ap (λ l. x ∷ l) (filtered-all xs)

-- the sum of a choice is what it costs where no place is paid for
pub sum-paid : (xs : List Pick) → sum_cost xs ≡ paid none_seen xs
sum-paid xs = sym (ap (sum_by far) (filtered-all (distinct_picks xs))) ∙ paid-filtered none_seen xs

cond-less : (a b : Bool) (n : ℕ) → (b ≡ true → a ≡ true) → cond a 0 n ≤ cond b 0 n
cond-less true b n h = omega arith
cond-less false true n h = absurd (true≢false (sym (h refl)))
cond-less false false n h = omega arith

-- the places of one list of picks are paid for where those of another are
abbrev Within : (Pick → Bool) → (Pick → Bool) → Type 0
Within less more = (y : Pick) → less y ≡ true → more y ≡ true

within-both : (x : Pick) (less more : Pick → Bool) → Within less more → Within (also x less) (also x more)
within-both x less more h y t = ⊎_elim (λ a. or_left (is_same_place x y) (more y) a) (λ b. or_right (is_same_place x y) (more y) (h y b)) (or_cases (is_same_place x y) (less y) t)

within-one : (x : Pick) (less more : Pick → Bool) → Within less more → Within less (also x more)
within-one x less more h y t = or_right (is_same_place x y) (more y) (h y t)

paid-joined : (sides : List Bool) (seen first second : Pick → Bool) (a b : List Pick) → Within first seen → Within second seen → paid seen (joined sides a b) ≤ paid first a + paid second b
paid-joined [] seen first second a b h k = omega arith
paid-joined (true ∷ sides) seen first second [] b h k = paid-joined sides seen first second [] b h k
paid-joined (true ∷ sides) seen first second (x ∷ a) b h k =
    let ih : paid (also x seen) (joined sides a b) ≤ paid (also x first) a + paid second b = paid-joined sides (also x seen) (also x first) second a b (within-both x first seen h) (within-one x second seen k) in
    let le : cond (seen x) 0 x.dist ≤ cond (first x) 0 x.dist = cond-less (seen x) (first x) x.dist (h x) in
    omega arith
paid-joined (false ∷ sides) seen first second a [] h k = paid-joined sides seen first second a [] h k
paid-joined (false ∷ sides) seen first second a (x ∷ b) h k =
    let ih : paid (also x seen) (joined sides a b) ≤ paid first a + paid (also x second) b = paid-joined sides (also x seen) first (also x second) a b (within-one x first seen h) (within-both x second seen k) in
    let le : cond (seen x) 0 x.dist ≤ cond (second x) 0 x.dist = cond-less (seen x) (second x) x.dist (k x) in
    omega arith

-- two choices joined cost no more than both
pub joined-cost : (sides : List Bool) (a b : List Pick) → sum_cost (joined sides a b) ≤ sum_cost a + sum_cost b
joined-cost sides a b = omega (arith, sum-paid (joined sides a b), sum-paid a, sum-paid b, paid-joined sides none_seen none_seen none_seen a b (λ y t. t) (λ y t. t))

-- only what is paid for among them counts
paid-same : (seen other : Pick → Bool) (xs : List Pick) → AllByRecursion (λ y. seen y ≡ other y) xs → paid seen xs ≡ paid other xs
paid-same seen other [] h = refl
paid-same seen other (x ∷ xs) h =
    let ih : paid (also x seen) xs ≡ paid (also x other) xs = paid-same (also x seen) (also x other) xs (widened xs h.1) in
    let e : cond (seen x) 0 x.dist ≡ cond (other x) 0 x.dist = ap (λ b. cond b 0 x.dist) h.0 in
    omega arith
  where
    widened : (ys : List Pick) → AllByRecursion (λ y. seen y ≡ other y) ys → AllByRecursion (λ y. also x seen y ≡ also x other y) ys
    widened [] h = tt
    widened (y ∷ ys) h = (ap (λ b. is_same_place x y || b) h.0, widened ys h.1)

-- a test of places
abbrev pub IsOfPlaces : (Pick → Bool) → Type 0
IsOfPlaces test = (x y : Pick) → is_same_place x y ≡ true → test x ≡ test y

-- those that pass a test, and those that don't
abbrev pub passing : (Pick → Bool) → List Pick → List Pick
passing test xs = flagged (map test xs) xs

abbrev pub failing : (Pick → Bool) → List Pick → List Pick
failing test xs = flagged (map not (map test xs)) xs

pub all-passing : (test : Pick → Bool) (xs : List Pick) → AllByRecursion (λ y. test y ≡ true) (passing test xs)
all-passing test [] = tt
all-passing test (x ∷ xs) = go (test x) refl (all-passing test xs)
  where
    go : (b : Bool) → test x ≡ b → AllByRecursion (λ y. test y ≡ true) (passing test xs) → AllByRecursion (λ y. test y ≡ true) (passing test (x ∷ xs))
    go true e ih = rw e (e, ih)
    go false e ih = rw e ih

pub all-failing : (test : Pick → Bool) (xs : List Pick) → AllByRecursion (λ y. test y ≡ false) (failing test xs)
all-failing test [] = tt
all-failing test (x ∷ xs) = go (test x) refl (all-failing test xs)
  where
    go : (b : Bool) → test x ≡ b → AllByRecursion (λ y. test y ≡ false) (failing test xs) → AllByRecursion (λ y. test y ≡ false) (failing test (x ∷ xs))
    go true e ih = rw e ih
    go false e ih = rw e (e, ih)

-- the place of a pick is none of some that the test tells apart from it
apart : (test : Pick → Bool) → IsOfPlaces test → (seen : Pick → Bool) (x : Pick) (a b : Bool) → test x ≡ a → (a ≡ b → ⊥) → (ys : List Pick) → AllByRecursion (λ y. test y ≡ b) ys → AllByRecursion (λ y. also x seen y ≡ seen y) ys
apart test places seen x a b e ne [] h = tt
apart test places seen x a b e ne (y ∷ ys) h = (go (is_same_place x y) refl, apart test places seen x a b e ne ys h.1)
  where
    go : (s : Bool) → is_same_place x y ≡ s → also x seen y ≡ seen y
    go true f = absurd (ne (sym e ∙ places x y f ∙ h.0))
    go false f = rw f refl

paid-parts : (test : Pick → Bool) → IsOfPlaces test → (seen : Pick → Bool) (xs : List Pick) → paid seen xs ≡ paid seen (passing test xs) + paid seen (failing test xs)
paid-parts test places seen [] = refl
paid-parts test places seen (x ∷ xs) = go (test x) refl (paid-parts test places (also x seen) xs)
  where
    go : (b : Bool) → test x ≡ b → paid (also x seen) xs ≡ paid (also x seen) (passing test xs) + paid (also x seen) (failing test xs)
        → paid seen (x ∷ xs) ≡ paid seen (passing test (x ∷ xs)) + paid seen (failing test (x ∷ xs))
    go true e ih =
        let other : paid (also x seen) (failing test xs) ≡ paid seen (failing test xs) =
        paid-same (also x seen) seen (failing test xs) (apart test places seen x true false e true≢false (failing test xs) (all-failing test xs)) in
        rw e (omega arith)
    go false e ih =
        let other : paid (also x seen) (passing test xs) ≡ paid seen (passing test xs) =
        paid-same (also x seen) seen (passing test xs) (apart test places seen x false true e (λ f. true≢false (sym f)) (passing test xs) (all-passing test xs)) in
        rw e (omega arith)

-- two parts that have no place in common cost their sum
pub parts-cost : (test : Pick → Bool) → IsOfPlaces test → (xs : List Pick) → sum_cost xs ≡ sum_cost (passing test xs) + sum_cost (failing test xs)
parts-cost test places xs = omega (arith, sum-paid xs, sum-paid (passing test xs), sum-paid (failing test xs), paid-parts test places none_seen xs)
