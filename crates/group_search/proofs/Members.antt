-- What is in a list that is put together, and in a list in order.
use Rattle.std.proofs.Common.{◌≡◌, ◌⊎◌, zero, suc, Bool, true, false, List, [], ◌∷◌, map, subst, sym, inl, inr, ⊎_elim, arith}
use Rattle.std.proofs.lemmas.Bool.{cases_Bool}
use Rattle.std.proofs.lemmas.List.Elements.{Contains-append_left, Contains-append_right}
use Rattle.std.specs.List.{AllByRecursion, Contains, flat_map}
use Rattle.place_values.specs.First.{IsLinear, placed, ranked}
use Rattle.place_values.specs.Laws.{all_placed}
use Rattle.best_first.specs.Lists.{all_in}
use Rattle.best_first.proofs.Histories.{contains_head as contains-here}
use Rattle.boolean_queries.proofs.Histories.{all-contained}

-- and so are those behind it
pub contains-later : {X : Type 0} (y : X) (ys : List X) (x : X) → Contains ys x → Contains (y ∷ ys) x
contains-later y ys x c = Contains-append_right (y ∷ []) ys x c

-- and no other
pub contains-cases : {X : Type 0} (y : X) (ys : List X) (x : X) → Contains (y ∷ ys) x → (y ≡ x) ⊎ Contains ys x
contains-cases y ys x (zero, less, same) = inl same
contains-cases y ys x (suc k, less, same) = inr (k, omega arith, same)

-- nothing is in the empty list
pub contains-none : {X : Type 0} (x : X) → Contains {X = X} [] x → ⊥
contains-none x c = let less = c.1 in omega arith

-- what a member gives is among what all give
pub contains-flat : {X Y : Type 0} (g : X → List Y) (xs : List X) (x : X) (y : Y) → Contains xs x → Contains (g x) y → Contains (flat_map g xs) y
contains-flat g [] x y c d = absurd (contains-none x c)
contains-flat g (z ∷ xs) x y c d = ⊎_elim
    (λ (same : z ≡ x). Contains-append_left (g z) (flat_map g xs) y (subst (λ w. Contains (g w) y) (sym same) d))
    (λ (later : Contains xs x). Contains-append_right (g z) (flat_map g xs) y (contains-flat g xs x y later d))
    (contains-cases z xs x c)

-- what a member becomes is among what all become
pub contains-map : {X Y : Type 0} (f : X → Y) (xs : List X) (x : X) → Contains xs x → Contains (map f xs) (f x)
contains-map f [] x c = absurd (contains-none x c)
contains-map f (z ∷ xs) x c = ⊎_elim
    (λ (same : z ≡ x). subst (λ w. Contains (f z ∷ map f xs) (f w)) same (contains-here (f z) (map f xs)))
    (λ (later : Contains xs x). contains-later (f z) (map f xs) (f x) (contains-map f xs x later))
    (contains-cases z xs x c)

-- what holds of what each becomes holds of all that they become
pub map-all : {X Y : Type 0} (P : Y → Type 0) (f : X → Y) (xs : List X) → AllByRecursion (λ x. P (f x)) xs → AllByRecursion P (map f xs)
map-all P f [] all = tt
map-all P f (x ∷ xs) all = (all.0, map-all P f xs all.1)

-- and the other way round
pub all-map : {X Y : Type 0} (P : Y → Type 0) (f : X → Y) (xs : List X) → AllByRecursion P (map f xs) → AllByRecursion (λ x. P (f x)) xs
all-map P f [] all = tt
all-map P f (x ∷ xs) all = (all.0, all-map P f xs all.1)

module _ {X : Type 0} {before : X → X → Bool} (o : IsLinear before) where
  -- what holds of all holds of them in order
  pub all-ranked : (P : X → Type 0) (xs : List X) → AllByRecursion P xs → AllByRecursion P (ranked before xs)
  all-ranked P [] all = all
  all-ranked P (x ∷ xs) all = all_placed o P x (ranked before xs) all.0 (all-ranked P xs all.1)

  placed-all : (P : X → Type 0) (x : X) (ys : List X) → AllByRecursion P (placed before x ys) → P x × AllByRecursion P ys
  placed-all P x [] all = all
  placed-all P x (y ∷ ys) all = ⊎_elim
      (λ (t : before y x ≡ true). let parts = rw t at all in let rest = placed-all P x ys parts.1 in (rest.0, (parts.0, rest.1)))
      (λ (f : before y x ≡ false). rw f at all)
      (cases_Bool (before y x))

  -- and the other way round
  pub ranked-all : (P : X → Type 0) (xs : List X) → AllByRecursion P (ranked before xs) → AllByRecursion P xs
  ranked-all P [] all = all
  ranked-all P (x ∷ xs) all = let parts = placed-all P x (ranked before xs) all in (parts.0, ranked-all P xs parts.1)

  pub among-ranked : (xs : List X) (x : X) → Contains xs x → Contains (ranked before xs) x
  among-ranked xs x c = all-contained (Contains (ranked before xs)) xs x (ranked-all (Contains (ranked before xs)) xs (all_in (ranked before xs))) c
