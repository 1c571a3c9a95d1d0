-- A product has just the choices of one member of each list.
use Rattle.std.proofs.Common.{ℕ, sum_by, arith, ◌∙◌, ◌≡◌, List, [], ◌∷◌, ◌++◌, map, refl, subst, ⊎_elim}
use Rattle.std.proofs.lemmas.List.Sums.{sum_by-cons, sum_by-append}
use Rattle.std.specs.List.{AllByRecursion, Contains, flat_map}
use Rattle.place_values.specs.Members.{SameMembers}
use Rattle.best_first.specs.Lists.{flat_map_same}
use Rattle.best_first.specs.Lists.{all_in, all_weaker, flat_all}
use Rattle.place_values.specs.Group.{product}
use Rattle.group_search.specs.Choices.{IsChoice}
use Rattle.group_search.proofs.Members.{contains-none, contains-cases, contains-flat, contains-map}
use Rattle.best_first.proofs.Histories.{contains_head as contains-here}

-- a choice is in the product
pub choice-among : {X : Type 0} (lists : List (List X)) (choice : List X) → IsChoice lists choice → Contains (product lists) choice
choice-among [] [] is = contains-here [] []
choice-among [] (x ∷ xs) is = absurd is
choice-among (list ∷ lists) [] is = absurd is
choice-among (list ∷ lists) (x ∷ xs) is =
    contains-flat (λ y. map (λ others. y ∷ others) (product lists)) list x (x ∷ xs) is.0 (contains-map (λ others. x ∷ others) (product lists) xs (choice-among lists xs is.1))

-- and the product has no other
pub all-choices : {X : Type 0} (lists : List (List X)) → AllByRecursion (IsChoice lists) (product lists)
all-choices [] = (tt, tt)
all-choices {X} (list ∷ lists) =
    flat_all (IsChoice (list ∷ lists)) (λ x. map (λ others. x ∷ others) (product lists)) list
    (all_weaker (Contains list) (λ x. AllByRecursion (IsChoice (list ∷ lists)) (map (λ others. x ∷ others) (product lists))) (λ x among. begun x among (product lists) (all-choices lists)) list (all_in list))
  where
    begun : (x : X) → Contains list x → (rest : List (List X)) → AllByRecursion (IsChoice lists) rest → AllByRecursion (IsChoice (list ∷ lists)) (map (λ others. x ∷ others) rest)
    begun x among [] all = tt
    begun x among (others ∷ rest) all = ((among, all.0), begun x among rest all.1)

-- a list more, and a member of it
pub choice-push : {X : Type 0} (lists : List (List X)) (choice : List X) (list : List X) (x : X) → IsChoice lists choice → Contains list x → IsChoice (lists ++ list ∷ []) (choice ++ x ∷ [])
choice-push [] [] list x is among = (among, tt)
choice-push [] (y ∷ ys) list x is among = absurd is
choice-push (l ∷ lists) [] list x is among = absurd is
choice-push (l ∷ lists) (y ∷ ys) list x is among = (is.0, choice-push lists ys list x is.1 among)

-- of lists of which one is empty there is no choice
pub product-none : {X : Type 0} (lists : List (List X)) → Contains lists [] → product lists ≡ []
product-none {X} lists none = nothing (product lists) (all-choices lists)
  where
    no-choice : (lists : List (List X)) → Contains lists [] → (choice : List X) → IsChoice lists choice → ⊥
    no-choice [] none choice is = contains-none [] none
    no-choice (list ∷ lists) none [] is = is
    no-choice (list ∷ lists) none (x ∷ xs) is = ⊎_elim
        (λ (empty : list ≡ []). contains-none x (subst (λ (l : List X). Contains l x) empty is.0))
        (λ (later : Contains lists []). no-choice lists later xs is.1)
        (contains-cases list lists [] none)

    nothing : (choices : List (List X)) → AllByRecursion (IsChoice lists) choices → choices ≡ []
    nothing [] all = refl
    nothing (choice ∷ choices) all = absurd (no-choice lists none choice all.0)

-- lists of the same members, one by one
abbrev pub AreSame : {X : Type 0} → List (List X) → List (List X) → Type 0
AreSame [] [] = Unit {0}
AreSame [] (ys ∷ others) = ⊥
AreSame (xs ∷ lists) [] = ⊥
AreSame (xs ∷ lists) (ys ∷ others) = SameMembers xs ys × AreSame lists others

-- a weight of what is put together
pub weight-mapped : {X Y : Type 0} (weight : Y → ℕ) (f : X → Y) (xs : List X) → sum_by weight (map f xs) ≡ sum_by (λ x. weight (f x)) xs
weight-mapped weight f [] = refl
weight-mapped weight f (x ∷ xs) = omega (arith, sum_by-cons weight (f x) (map f xs), sum_by-cons (λ y. weight (f y)) x xs, weight-mapped weight f xs)

-- each member goes on with the same members
same-behind : {X : Type 0} (rest more : List (List X)) → SameMembers rest more → (xs : List X) → SameMembers (flat_map (λ x. map (λ others. x ∷ others) rest) xs) (flat_map (λ x. map (λ others. x ∷ others) more) xs)
same-behind rest more same [] = λ weight. refl
same-behind rest more same (x ∷ xs) = λ weight.
    let a = sum_by-append weight (map (λ others. x ∷ others) rest) (flat_map (λ y. map (λ others. y ∷ others) rest) xs) in
    let b = sum_by-append weight (map (λ others. x ∷ others) more) (flat_map (λ y. map (λ others. y ∷ others) more) xs) in
    let c = weight-mapped weight (λ others. x ∷ others) rest in
    let d = weight-mapped weight (λ others. x ∷ others) more in
    let e = same (λ others. weight (x ∷ others)) in
    let f = same-behind rest more same xs weight in
    omega arith

-- the products of lists of the same members have the same members
pub product-same : {X : Type 0} (lists others : List (List X)) → AreSame lists others → SameMembers (product lists) (product others)
product-same [] [] same = λ weight. refl
product-same [] (ys ∷ others) same = absurd same
product-same (xs ∷ lists) [] same = absurd same
product-same (xs ∷ lists) (ys ∷ others) same = λ weight.
    same-behind (product lists) (product others) (product-same lists others same.1) ys weight
    ∙ flat_map_same (λ x. map (λ behind. x ∷ behind) (product lists)) xs ys same.0 weight
