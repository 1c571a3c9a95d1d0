-- What may be in one choice with a pick of a list that each choice takes one of.
use Rattle.std.proofs.Common.{◌≡◌, ℕ, ◌+◌, ◌≤◌, max, Bool, true, List, [], ◌∷◌, map, ap, subst, ◌∙◌, arith, ⊎_elim}
use Rattle.std.proofs.lemmas.Bool.{cond_both}
use Rattle.std.proofs.lemmas.Bool.Decides.{nat_tests}
use Rattle.std.proofs.lemmas.List.Elements.{All-contains, All-contains_itself, All-filter, All-from_recursion, recursion_from_All}
use Rattle.std.proofs.lemmas.List.Folds.{list_any_at}
use Rattle.std.specs.List.{AllByRecursion, Contains, filter, list_any}
use Rattle.best_first.specs.Lists.{all_in}
use Rattle.spatial_base.specs.Laws.{distance-comm, distance-itself}
use Rattle.spatial_base.specs.Point.{Viewpoint, seen_from, distance}
use Rattle.place_values.specs.declared.query.Pick.{Pick}
use Rattle.place_values.specs.Group.{farthest, diameter, choice_cost}
use Rattle.group_search.specs.Choices.{IsChoice}
use Rattle.group_search.specs.Joins.{may_join, joined_by}
use Rattle.group_search.specs.Picks.{AreMeasured}
use Rattle.group_search.proofs.Costs.{farthest-cons}
use Rattle.group_search.proofs.Members.{contains-cases, contains-none, contains-later}
use Rattle.best_first.proofs.Histories.{contains_head as contains-here}
use Rattle.boolean_queries.proofs.Histories.{all-contained}

-- no pick is farther than the farthest
pub member-far : (from : Viewpoint) (choice : List Pick) (pick : Pick) → Contains choice pick → distance from pick.point ≤ farthest from choice
member-far from [] pick c = absurd (contains-none pick c)
member-far from (one ∷ others) pick c =
    let far = farthest-cons from one others in
    ⊎_elim (λ (same : one ≡ pick). subst (λ (p : Pick). distance from p.point ≤ farthest from (one ∷ others)) same (omega arith))
    (λ (later : Contains others pick). let rest = member-far from others pick later in omega arith)
    (contains-cases one others pick c)

-- no two picks are farther apart than the diameter
pub member-wide : (scale : ℕ) (choice : List Pick) (a b : Pick) → Contains choice a → Contains choice b → distance (seen_from a.point scale) b.point ≤ diameter scale choice
member-wide scale [] a b c d = absurd (contains-none a c)
member-wide scale (one ∷ others) a b c d = ⊎_elim
    (λ (first : one ≡ a). subst (λ (p : Pick). distance (seen_from p.point scale) b.point ≤ diameter scale (one ∷ others)) first (from-first b d))
    (λ (later : Contains others a). ⊎_elim
    (λ (first : one ≡ b). subst (λ (p : Pick). distance (seen_from a.point scale) p.point ≤ diameter scale (one ∷ others)) first
    (let far = member-far (seen_from one.point scale) others a later in let same = distance-comm a.point one.point scale in omega arith))
    (λ (also : Contains others b). let rest = member-wide scale others a b later also in omega arith)
    (contains-cases one others b d))
    (contains-cases one others a c)
  where
    from-first : (p : Pick) → Contains (one ∷ others) p → distance (seen_from one.point scale) p.point ≤ diameter scale (one ∷ others)
    from-first p e = ⊎_elim
        (λ (first : one ≡ p). subst (λ (q : Pick). distance (seen_from one.point scale) q.point ≤ diameter scale (one ∷ others)) first (let none = distance-itself one.point scale in omega arith))
        (λ (later : Contains others p). let far = member-far (seen_from one.point scale) others p later in omega arith)
        (contains-cases one others p e)

-- a choice takes one of each list
pub choice-meets : {X : Type 0} (lists : List (List X)) (choice : List X) (list : List X) → IsChoice lists choice → Contains lists list → (x : X) × Contains choice x × Contains list x
choice-meets [] choice list is c = absurd (contains-none list c)
choice-meets (first ∷ lists) [] list is c = absurd is
choice-meets {X} (first ∷ lists) (x ∷ xs) list is c = ⊎_elim
    (λ (same : first ≡ list). (x, contains-here x xs, subst (λ (l : List X). Contains l x) same is.0))
    (λ (later : Contains lists list). let rest = choice-meets lists xs list is.1 later in (rest.0, contains-later x xs rest.0 rest.1, rest.2))
    (contains-cases first lists list c)

-- what passes a test is among what is kept, and no other
pub contains-filter : {X : Type 0} (test : X → Bool) (xs : List X) (x : X) → Contains xs x → test x ≡ true → Contains (filter test xs) x
contains-filter test [] x c t = absurd (contains-none x c)
contains-filter test (y ∷ ys) x c t = ⊎_elim
    (λ (same : y ≡ x). let u : test y ≡ true = ap test same ∙ t in rw u (subst (Contains (y ∷ filter test ys)) same (contains-here y (filter test ys))))
    (λ (later : Contains ys x). let rest = contains-filter test ys x later t in cond_both (test y) (y ∷ filter test ys) (filter test ys) (λ l. Contains l x) (λ _. contains-later y (filter test ys) x rest) (λ _. rest))
    (contains-cases y ys x c)

pub filter-contains : {X : Type 0} (test : X → Bool) (xs : List X) (x : X) → Contains (filter test xs) x → Contains xs x
filter-contains test xs x c = All-contains (Contains xs) (filter test xs) x (All-filter test (Contains xs) xs (All-contains_itself xs)) c

pub filter-all : {X : Type 0} (P : X → Type 0) (test : X → Bool) (xs : List X) → AllByRecursion P xs → AllByRecursion P (filter test xs)
filter-all P test xs all = recursion_from_All P (filter test xs) (All-filter test P xs (All-from_recursion P xs all))

-- picks that are kept are as far as they say
pub joined-measured : (at : Viewpoint) (scale most : ℕ) (others picks : List Pick) → AreMeasured at picks → AreMeasured at (joined_by scale most others picks)
joined-measured at scale most others picks measured = filter-all (λ (pick : Pick). pick.dist ≡ distance at pick.point) (λ pick. list_any (may_join scale most pick) others) picks measured

-- a choice of what is kept is one of the lists
pub joined-choice : (scale most : ℕ) (others : List Pick) (lists : List (List Pick)) (choice : List Pick) → IsChoice (map (joined_by scale most others) lists) choice → IsChoice lists choice
joined-choice scale most others [] choice is = is
joined-choice scale most others (list ∷ lists) [] is = is
joined-choice scale most others (list ∷ lists) (pick ∷ picks) is = (filter-contains (λ p. list_any (may_join scale most p) others) list pick is.0, joined-choice scale most others lists picks is.1)

module _ (at : Viewpoint) (most : ℕ) (others : List Pick) (choice : List Pick) (one : Pick) (taken : Contains choice one) (among : Contains others one) (near : one.dist ≡ distance at one.point)
    (cheap : choice_cost at choice ≤ most)
  where
    joins : (pick : Pick) → Contains choice pick → pick.dist ≡ distance at pick.point → list_any (may_join at.scale most pick) others ≡ true
    joins pick c dist =
        let far = member-far at choice pick c in
        let also = member-far at choice one taken in
        let wide = member-wide at.scale choice pick one c taken in
        let within : max pick.dist one.dist + distance (seen_from pick.point at.scale) one.point ≤ most = omega arith in
        let test : may_join at.scale most pick one ≡ true = grind (arith, nat_tests) in
        list_any_at (may_join at.scale most pick) others among.0 one among.1 (ap (may_join at.scale most pick) among.2 ∙ test)

    each-joined : (lists : List (List Pick)) (picks : List Pick) → AllByRecursion (AreMeasured at) lists → AllByRecursion (Contains choice) picks → IsChoice lists picks → IsChoice (map (joined_by at.scale most others) lists) picks
    each-joined [] picks measured inside is = is
    each-joined (list ∷ lists) [] measured inside is = is
    each-joined (list ∷ lists) (pick ∷ picks) measured inside is = (
      contains-filter (λ p. list_any (may_join at.scale most p) others) list pick is.0 (joins pick inside.0 (all-contained (λ (p : Pick). p.dist ≡ distance at p.point) list pick measured.0 is.0)),
      each-joined lists picks measured.1 inside.1 is.1,
    )

-- and one of the lists that costs at most so much is one of what is kept
pub choice-joined : (at : Viewpoint) (most : ℕ) (others : List Pick) (lists : List (List Pick)) (choice : List Pick) → Contains lists others → AllByRecursion (AreMeasured at) lists → IsChoice lists choice → choice_cost at choice ≤ most
    → IsChoice (map (joined_by at.scale most others) lists) choice
choice-joined at most others lists choice c measured is cheap =
    let met = choice-meets lists choice others is c in
    let here : AreMeasured at others = all-contained (AreMeasured at) lists others measured c in
    each-joined at most others choice met.0 met.1 met.2 (all-contained (λ (p : Pick). p.dist ≡ distance at p.point) others met.0 here met.2) cheap lists choice measured (all_in choice) is
