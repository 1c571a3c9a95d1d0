-- A choice of one place.
use Rattle.std.proofs.Common.{◌≡◌, ℕ, ◌+◌, ◌<◌, ◌≤◌, Bool, true, false, cond, ◌||◌, List, [], ◌∷◌, map, refl, sym, ap, subst, ◌∙◌, arith}
use Rattle.std.specs.List.{AllByRecursion, Contains, list_all}
use Rattle.std.specs.Cmp.Lexicographic.{slice_cmp}
use Rattle.std.specs.Ordering.{nat_cmp, int_cmp, is_eq, is_lt, ordering_then, ordering_reverse}
use Rattle.std.specs.declared.cmp.Ordering.{Ordering}
use Rattle.std.specs.declared.cmp.Ordering.TheVariants.{Less, Equal, Greater}
use Rattle.std.proofs.lemmas.Bool.{and_parts, or_left, or_right, true≢false}
use Rattle.std.proofs.lemmas.Cmp.{tied_itself, nat_cmp_total}
use Rattle.spatial_base.specs.Key.{Name, key_cmp, key_cmp_total, key_cmp_same}
use Rattle.spatial_base.specs.Point.{Viewpoint, distance}
use Rattle.place_values.specs.declared.hit.Hit.{Hit}
use Rattle.place_values.specs.declared.query.Pick.{Pick}
use Rattle.place_values.specs.Group.{pick_cmp, is_less}
use Rattle.place_values.specs.Sum.{is_same_place, sum_cost}
use Rattle.group_search.specs.Choices.{IsChoice}
use Rattle.group_search.proofs.Members.{contains-later}
use Rattle.best_first.proofs.Histories.{contains_head}
use Rattle.collective_query.specs.TreePicks.{pick_from}
use Rattle.group_sum.specs.Splits.{is_one_place}
use Rattle.group_sum.specs.Shared.{AreNamed, shared_picks, is_nearer}
use Rattle.group_sum.proofs.Costs.{paid, also, none_seen, sum-paid, IsOfPlaces}
use Rattle.group_sum.proofs.Least.{IsLeast}

is-equal : (o : Ordering) → is_eq o ≡ true → o ≡ Equal
is-equal Equal h = refl
is-equal Less h = absurd (cc)
is-equal Greater h = absurd (cc)

-- picks of one place have one key
pub same-key : (x y : Pick) → is_same_place x y ≡ true → x.key ≡ y.key
same-key x y h = key_cmp_same x.key y.key (is-equal (key_cmp x.key y.key) h)

pub same-place : (x y : Pick) → x.key ≡ y.key → is_same_place x y ≡ true
same-place x y e = ap is_eq (ap (key_cmp x.key) (sym e) ∙ tied_itself key_cmp_total x.key)

-- to be of a pick's place is a test of places
pub place-test : (pick : Pick) → IsOfPlaces (is_same_place pick)
place-test pick x y h = ap (λ k. is_eq (key_cmp pick.key k)) (same-key x y h)

-- ---- what it costs

paid-none : (seen : Pick → Bool) (xs : List Pick) → list_all seen xs ≡ true → paid seen xs ≡ 0
paid-none seen [] h = refl
paid-none seen (x ∷ xs) h =
    let parts = and_parts (seen x) (list_all seen xs) h in
    let ih : paid (also x seen) xs ≡ 0 = paid-none (also x seen) xs (widened xs parts.1) in
    let e : cond (seen x) 0 x.dist ≡ 0 = ap (λ b. cond b 0 x.dist) parts.0 in
    omega arith
  where
    widened : (ys : List Pick) → list_all seen ys ≡ true → list_all (also x seen) ys ≡ true
    widened [] h = refl
    widened (y ∷ ys) h = let parts = and_parts (seen y) (list_all seen ys) h in let a = or_right (is_same_place x y) (seen y) parts.0 in let b = widened ys parts.1 in rw (a, b) refl

with-none : (x : Pick) (xs : List Pick) → list_all (is_same_place x) xs ≡ true → list_all (also x none_seen) xs ≡ true
with-none x [] h = refl
with-none x (y ∷ ys) h = let parts = and_parts (is_same_place x y) (list_all (is_same_place x) ys) h in let a = or_left (is_same_place x y) false parts.0 in let b = with-none x ys parts.1 in rw (a, b) refl

-- a choice of one place costs the distance to it
pub one-place-cost : (x : Pick) (xs : List Pick) → is_one_place (x ∷ xs) ≡ true → sum_cost (x ∷ xs) ≡ x.dist
one-place-cost x xs h = omega (arith, sum-paid (x ∷ xs), paid-none (also x none_seen) xs (with-none x xs h))

-- what a place gives to words is of one place
pub shared-one : (at : Viewpoint) (words : List (List ℕ)) (hit : Hit) → is_one_place (shared_picks at words hit) ≡ true
shared-one at [] hit = refl
shared-one at (word ∷ words) hit = go words
  where
    go : (ws : List (List ℕ)) → list_all (is_same_place (pick_from at word hit)) (shared_picks at ws hit) ≡ true
    go [] = refl
    go (w ∷ ws) = let a : is_same_place (pick_from at word hit) (pick_from at w hit) ≡ true = same-place (pick_from at word hit) (pick_from at w hit) refl in let b = go ws in rw (a, b) refl

-- ---- which one it is

keyed : (x : Pick) (xs : List Pick) → list_all (is_same_place x) xs ≡ true → AllByRecursion (λ (y : Pick). y.key ≡ x.key) xs
keyed x [] h = tt
keyed x (y ∷ ys) h = let parts = and_parts (is_same_place x y) (list_all (is_same_place x) ys) h in (sym (same-key x y parts.0), keyed x ys parts.1)

-- a choice whose picks all have a place's key is what the place gives
same-shared : (at : Viewpoint) (hit : Hit) (words : List (List ℕ)) (lists : List (List Pick)) (choice : List Pick) → AreNamed lists → IsChoice lists choice → IsChoice lists (shared_picks at words hit)
    → AllByRecursion (λ (y : Pick). y.key ≡ hit.key) choice → choice ≡ shared_picks at words hit
same-shared at hit [] [] [] named is shared keys = refl
same-shared at hit (word ∷ words) [] choice named is shared keys = absurd shared
same-shared at hit words [] (x ∷ xs) named is shared keys = absurd is
same-shared at hit words (list ∷ lists) [] named is shared keys = absurd is
same-shared at hit [] (list ∷ lists) (x ∷ xs) named is shared keys = absurd shared
same-shared at hit (word ∷ words) (list ∷ lists) (x ∷ xs) named is shared keys =
    let a : x ≡ pick_from at word hit = named list x (pick_from at word hit) (contains_head list lists) is.0 shared.0 keys.0 in
    let b : xs ≡ shared_picks at words hit = same-shared at hit words lists xs (λ l y z c d e k. named l y z (contains-later list lists l c) d e k) is.1 shared.1 keys.1 in
    cc

-- a pick of a lesser key comes first
key-first : (y x : Pick) → key_cmp y.key x.key ≡ Less → pick_cmp y x ≡ Less
key-first y x e =
    ap (λ o. ordering_then o (ordering_then (slice_cmp nat_cmp y.word x.word) (ordering_then (nat_cmp y.dist x.dist) (ordering_then (int_cmp y.point.x x.point.x) (int_cmp y.point.y x.point.y))))) e

-- neither comes first, so both have one key
one-key : (o k p : Ordering) (a b : Name) (tail : Ordering) → k ≡ key_cmp a b → (k ≡ Greater → p ≡ Less) → is_lt (ordering_then o k) ≡ false → is_lt (ordering_then (ordering_reverse o) (ordering_then p tail)) ≡ false → a ≡ b
one-key Less k p a b tail e f h i = absurd (cc)
one-key Greater k p a b tail e f h i = absurd (cc)
one-key Equal Less p a b tail e f h i = absurd (cc)
one-key Equal Equal p a b tail e f h i = key_cmp_same a b (sym e)
one-key Equal Greater p a b tail e f h i = absurd (let g : p ≡ Less = f refl in true≢false (sym (ap (λ r. is_lt (ordering_then r tail)) g) ∙ i))

-- the least choice is of one place: it is what the nearest place gives
pub least-shared : (at : Viewpoint) (hit : Hit) (words : List (List ℕ)) (lists : List (List Pick)) (x : Pick) (xs : List Pick) → AreNamed lists → IsLeast lists (x ∷ xs) → is_one_place (x ∷ xs) ≡ true
    → IsChoice lists (shared_picks at words hit) → is_nearer at x hit ≡ false → x ∷ xs ≡ shared_picks at words hit
least-shared at hit words [] x xs named least one shared near = absurd least.choice
least-shared at hit [] (list ∷ lists) x xs named least one shared near = absurd shared
least-shared at hit (word ∷ words) (list ∷ lists) x xs named least one shared near =
    let y : Pick = pick_from at word hit in
    let ys : List Pick = shared_picks at words hit in
    let own : sum_cost (x ∷ xs) ≡ x.dist = one-place-cost x xs one in
    let other : sum_cost (y ∷ ys) ≡ distance at hit.point = one-place-cost y ys (shared-one at (word ∷ words) hit) in
    let not_less : is_less sum_cost (y ∷ ys) (x ∷ xs) ≡ false = least.first (y ∷ ys) shared in
    let turned : nat_cmp (sum_cost (y ∷ ys)) (sum_cost (x ∷ xs)) ≡ ordering_reverse (nat_cmp x.dist (distance at hit.point)) =
    ap (λ n. nat_cmp n (sum_cost (x ∷ xs))) other ∙ ap (nat_cmp (distance at hit.point)) own ∙ nat_cmp_total.antisymm (distance at hit.point) x.dist in
    let tail : Ordering = slice_cmp pick_cmp ys xs in
    let behind : key_cmp x.key hit.key ≡ Greater → pick_cmp y x ≡ Less = λ e.
    let back : key_cmp hit.key x.key ≡ Less = key_cmp_total.antisymm hit.key x.key ∙ ap ordering_reverse e in
    key-first y x back in
    let not_before : is_lt (ordering_then (ordering_reverse (nat_cmp x.dist (distance at hit.point))) (ordering_then (pick_cmp y x) tail)) ≡ false =
    subst (λ o. is_lt (ordering_then o (ordering_then (pick_cmp y x) tail)) ≡ false) turned not_less in
    let key : x.key ≡ hit.key = one-key (nat_cmp x.dist (distance at hit.point)) (key_cmp x.key hit.key) (pick_cmp y x) x.key hit.key tail refl behind near not_before in
    same-shared at hit (word ∷ words) (list ∷ lists) (x ∷ xs) named least.choice shared (key, keyed-as xs (keyed x xs one) key)
  where
    keyed-as : (zs : List Pick) → AllByRecursion (λ (z : Pick). z.key ≡ x.key) zs → x.key ≡ hit.key → AllByRecursion (λ (z : Pick). z.key ≡ hit.key) zs
    keyed-as [] h e = tt
    keyed-as (z ∷ zs) h e = (h.0 ∙ e, keyed-as zs h.1 e)
