-- What is known of the sum that a choice costs.
use Rattle.std.proofs.Common.{◌≡◌, ℕ, ◌+◌, ◌<◌, ◌≤◌, take, length, get_or, Bool, true, false, cond, not, List, [], ◌∷◌, ◌++◌, ◌||◌, sum_by, refl, ap, ◌∙◌, append_assoc, arith}
use Rattle.std.specs.List.{filter, list_any}
use Rattle.std.proofs.lemmas.List.{append-nil, take_more}
use Rattle.std.proofs.lemmas.List.Elements.{filter-append}
use Rattle.std.proofs.lemmas.List.Sums.{sum_by-append}
use Rattle.place_values.specs.declared.query.Pick.{Pick}
use Rattle.place_values.specs.GroupLaws.{IsRising}
use Rattle.place_values.specs.Sum.{is_same_place, distinct_picks, sum_cost}

-- some picks hold one of the place of a pick
abbrev pub has_place_of : List Pick → Pick → Bool
has_place_of picks pick = list_any (λ other. is_same_place other pick) picks

push_go : (a b : Bool) (x : Pick) (p : Pick) → is_same_place p x ≡ a → filter (λ other. not (is_same_place p other)) (cond b [] (x ∷ [])) ≡ cond (a || b) [] (x ∷ [])
push_go true true x p e = refl
push_go false true x p e = refl
push_go true false x p e = rw e refl
push_go false false x p e = rw e refl

-- one more pick is one more place, or none
pub distinct_push : (xs : List Pick) (x : Pick) → distinct_picks (xs ++ x ∷ []) ≡ distinct_picks xs ++ cond (has_place_of xs x) [] (x ∷ [])
distinct_push [] x = refl
distinct_push (p ∷ xs) x =
    ap (λ l. p ∷ filter (λ other. not (is_same_place p other)) l) (distinct_push xs x)
    ∙ ap (λ l. p ∷ l) (filter-append (λ other. not (is_same_place p other)) (distinct_picks xs) (cond (has_place_of xs x) [] (x ∷ []))
    ∙ ap (λ l. filter (λ other. not (is_same_place p other)) (distinct_picks xs) ++ l) (push_go (is_same_place p x) (has_place_of xs x) x p refl))

cost_go : (b : Bool) (x : Pick) → sum_by (λ (pick : Pick). pick.dist) (cond b [] (x ∷ [])) ≡ cond b 0 x.dist
cost_go true x = refl
cost_go false x = omega arith

-- one more pick costs its distance, unless its place is paid for
pub sum_push : (xs : List Pick) (x : Pick) → sum_cost (xs ++ x ∷ []) ≡ sum_cost xs + (cond (list_any (λ other. is_same_place other x) xs) 0 x.dist)
sum_push xs x =
    ap (sum_by (λ (pick : Pick). pick.dist)) (distinct_push xs x)
    ∙ sum_by-append (λ (pick : Pick). pick.dist) (distinct_picks xs) (cond (has_place_of xs x) [] (x ∷ []))
    ∙ ap (λ n. sum_cost xs + n) (cost_go (has_place_of xs x) x)

-- the same in a loop over the picks
pub sum_more : (xs : List Pick) (i : ℕ) (d : Pick) → i < length xs → sum_cost (take (i + 1) xs) ≡ sum_cost (take i xs) + cond (has_place_of (take i xs) (get_or xs i d)) 0 (get_or xs i d).dist
sum_more xs i d below = ap sum_cost (take_more xs i d below) ∙ sum_push (take i xs) (get_or xs i d)

-- what goes on from a front never costs less
pub sum_rising : IsRising sum_cost
sum_rising xs [] = let e : sum_cost (xs ++ []) ≡ sum_cost xs = ap sum_cost (append-nil xs) in omega arith
sum_rising xs (y ∷ ys) =
    let e : sum_cost ((xs ++ y ∷ []) ++ ys) ≡ sum_cost (xs ++ y ∷ ys) = ap sum_cost (append_assoc xs (y ∷ []) ys) in
    let p : sum_cost (xs ++ y ∷ []) ≡ sum_cost xs + cond (has_place_of xs y) 0 y.dist = sum_push xs y in
    let h : sum_cost (xs ++ y ∷ []) ≤ sum_cost ((xs ++ y ∷ []) ++ ys) = sum_rising (xs ++ y ∷ []) ys in
    omega arith
