-- Choices that begin with a front, by what they have among them.
use Rattle.std.proofs.Common.{◌≡◌, ℕ, ◌+◌, ◌<◌, ◌≤◌, max, List, [], ◌∷◌, ◌++◌, take, length, get_or, sym, ap, subst, ◌∙◌, arith, ⊎_elim}
use Rattle.std.proofs.lemmas.List.{append_assoc, take_more}
use Rattle.std.proofs.lemmas.List.Elements.{Contains-append_left, Contains-append_right, Contains-append_cases}
use Rattle.std.specs.List.{AllByRecursion, Contains}
use Rattle.spatial_base.specs.Point.{Viewpoint, seen_from, distance}
use Rattle.place_values.specs.declared.query.Pick.{Pick}
use Rattle.place_values.specs.Group.{farthest, diameter, choice_cost}
use Rattle.group_search.specs.Choices.{IsChoice}
use Rattle.group_search.specs.Fronts.{Completes}
use Rattle.group_search.specs.Picks.{AreMeasured}
use Rattle.group_search.proofs.Costs.{farthest-cons, farthest-push, diameter-push}
use Rattle.group_search.proofs.Joins.{member-far, member-wide, choice-meets}
use Rattle.group_search.proofs.Members.{contains-cases, contains-later, contains-none}
use Rattle.best_first.proofs.Histories.{contains_head as contains-here}
use Rattle.boolean_queries.proofs.Histories.{all-contained}

-- where no pick is farther, the farthest isn't
farthest-within : (from : Viewpoint) (picks : List Pick) (most : ℕ) → ((pick : Pick) → Contains picks pick → distance from pick.point ≤ most) → farthest from picks ≤ most
farthest-within from [] most near = omega arith
farthest-within from (one ∷ others) most near =
    let here = near one (contains-here one others) in
    let rest = farthest-within from others most (λ pick c. near pick (contains-later one others pick c)) in
    let split = farthest-cons from one others in
    omega arith

-- and where no two are farther apart, the diameter isn't greater
diameter-within : (scale : ℕ) (picks : List Pick) (most : ℕ) → ((a b : Pick) → Contains picks a → Contains picks b → distance (seen_from a.point scale) b.point ≤ most) → diameter scale picks ≤ most
diameter-within scale [] most near = omega arith
diameter-within scale (one ∷ others) most near =
    let here = farthest-within (seen_from one.point scale) others most (λ pick c. near one pick (contains-here one others) (contains-later one others pick c)) in
    let rest = diameter-within scale others most (λ a b c d. near a b (contains-later one others a c) (contains-later one others b d)) in
    omega arith

-- some of the picks cost no more
pub fewer-cost : (at : Viewpoint) (some all : List Pick) → ((pick : Pick) → Contains some pick → Contains all pick) → choice_cost at some ≤ choice_cost at all
fewer-cost at some all own =
    let far = farthest-within at some (farthest at all) (λ pick c. member-far at all pick (own pick c)) in
    let wide = diameter-within at.scale some (diameter at.scale all) (λ a b c d. member-wide at.scale all a b (own a c) (own b d)) in
    omega arith

-- a front costs no more with some of what it goes on with
pub behind-cost : (at : Viewpoint) (front some all : List Pick) → ((pick : Pick) → Contains some pick → Contains all pick) → choice_cost at (front ++ some) ≤ choice_cost at (front ++ all)
behind-cost at front some all own = fewer-cost at (front ++ some) (front ++ all)
    (λ pick c. ⊎_elim
    (λ (early : Contains front pick). Contains-append_left front all pick early)
    (λ (late : Contains some pick). Contains-append_right front all pick (own pick late))
    (Contains-append_cases front some pick c))

-- what a front costs with one more pick
pub pushed-cost : (at : Viewpoint) (front : List Pick) (pick : Pick) (far wide : ℕ) → far ≡ farthest at front → wide ≡ diameter at.scale front → pick.dist ≡ distance at pick.point
    → max far pick.dist + max wide (farthest (seen_from pick.point at.scale) front) ≡ choice_cost at (front ++ pick ∷ [])
pushed-cost at front pick far wide is also dist = omega (arith, farthest-push at front pick, diameter-push at.scale front pick, is, also, dist)

-- the only one of a list
alone : (x pick : Pick) (picks : List Pick) → Contains picks x → Contains (x ∷ []) pick → Contains picks pick
alone x pick picks among c = ⊎_elim (λ (same : x ≡ pick). subst (Contains picks) same among) (λ (later : Contains [] pick). absurd (contains-none pick later)) (contains-cases x [] pick c)

-- Where no pick of a list goes on a front for less than so much, no choice behind it costs less.
pub missed : (at : Viewpoint) (front : List Pick) (far wide bound : ℕ) (lists : List (List Pick)) (list choice : List Pick) → far ≡ farthest at front → wide ≡ diameter at.scale front → AreMeasured at list
    → AllByRecursion (λ (pick : Pick). bound ≤ max far pick.dist + max wide (farthest (seen_from pick.point at.scale) front)) list → Contains lists list → IsChoice lists choice → bound ≤ choice_cost at (front ++ choice)
missed at front far wide bound lists list choice is also measured misses among taken =
    let met = choice-meets lists choice list taken among in
    let pick : Pick = met.0 in
    let dist = all-contained (λ (p : Pick). p.dist ≡ distance at p.point) list pick measured met.2 in
    let least = all-contained (λ (p : Pick). bound ≤ max far p.dist + max wide (farthest (seen_from p.point at.scale) front)) list pick misses met.2 in
    let cost = pushed-cost at front pick far wide is also dist in
    let more = behind-cost at front (pick ∷ []) choice (λ p c. alone pick p choice met.1 c) in
    omega arith

-- a front that is completed can be completed with less of it
pub completes-front : (at : Viewpoint) (lists : List (List Pick)) (most : ℕ) (front more : List Pick) → Completes at lists most (front ++ more) → Completes at lists most front
completes-front at lists most front more done = (
  done.0,
  done.1,
  (let less = fewer-cost at (front ++ done.0) ((front ++ more) ++ done.0)
      (λ pick c. ⊎_elim
      (λ (early : Contains front pick). Contains-append_left (front ++ more) done.0 pick (Contains-append_left front more pick early))
      (λ (late : Contains done.0 pick). Contains-append_right (front ++ more) done.0 pick late)
      (Contains-append_cases front done.0 pick c)) in
      let cheap = done.2 in
      omega arith),
)

-- lists of each of which some picks have one have a choice of these picks
pub met-lists : {X : Type 0} (lists : List (List X)) (picks : List X) → ((list : List X) → Contains lists list → (x : X) × Contains picks x × Contains list x)
    → (choice : List X) × IsChoice lists choice × ((x : X) → Contains choice x → Contains picks x)
met-lists [] picks meets = ([], tt, λ x c. absurd (contains-none x c))
met-lists {X} (list ∷ lists) picks meets =
    let met = meets list (contains-here list lists) in
    let rest = met-lists lists picks (λ l c. meets l (contains-later list lists l c)) in (
      met.0 ∷ rest.0,
      (met.2, rest.1),
      λ x c. ⊎_elim
          (λ (same : met.0 ≡ x). subst (Contains picks) same met.1)
          (λ (later : Contains rest.0 x). rest.2 x later)
          (contains-cases met.0 rest.0 x c),
    )

-- lists among those of a choice have a choice of its picks
pub met-choice : {X : Type 0} (lists others : List (List X)) (choice : List X) → IsChoice lists choice → ((list : List X) → Contains others list → Contains lists list)
    → (other : List X) × IsChoice others other × ((x : X) → Contains other x → Contains choice x)
met-choice lists others choice is own = met-lists others choice (λ list c. choice-meets lists choice list is (own list c))

-- nor is it dearer where more may be spent
pub completes-more : (at : Viewpoint) (lists : List (List Pick)) (least most : ℕ) (front : List Pick) → least ≤ most → Completes at lists least front → Completes at lists most front
completes-more at lists least most front more done = (done.0, done.1, (let cheap = done.2 in omega arith))

-- a front that goes on with a pick of a list and then with others is completed by all of these
pub completes-longer : (at : Viewpoint) (front longer list : List Pick) (others : List (List Pick)) (most : ℕ) (pick : Pick) → longer ≡ front ++ pick ∷ [] → Contains list pick
    → Completes at others most longer → Completes at (list ∷ others) most front
completes-longer at front longer list others most pick is among done =
    (pick ∷ done.0, (among, done.1), subst (λ (picks : List Pick). choice_cost at picks ≤ most) (ap (λ f. f ++ done.0) is ∙ append_assoc front (pick ∷ []) done.0) done.2)

-- One pick of a list more was tried: no choice with those so far costs less than the least one.
pub more-least : (at : Viewpoint) (front longer picks : List Pick) (others : List (List Pick)) (i : ℕ) (pick : Pick) (old least : ℕ) → i < length picks → pick ≡ get_or picks i pick → longer ≡ front ++ pick ∷ [] → least ≤ old
    → ((choice : List Pick) → IsChoice (take i picks ∷ others) choice → old ≤ choice_cost at (front ++ choice))
    → ((rest : List Pick) → IsChoice others rest → least ≤ choice_cost at (longer ++ rest))
    → (choice : List Pick) → IsChoice (take (i + 1) picks ∷ others) choice → least ≤ choice_cost at (front ++ choice)
more-least at front longer picks others i pick old least inside is long less early late [] one = absurd one
more-least at front longer picks others i pick old least inside is long less early late (p ∷ ps) one =
    let taken : take (i + 1) picks ≡ take i picks ++ pick ∷ [] = take_more picks i pick inside ∙ ap (λ x. take i picks ++ x ∷ []) (sym is) in
    ⊎_elim
    (λ (here : Contains (take i picks) p). let cheap = early (p ∷ ps) (here, one.1) in omega arith)
    (λ (last : Contains (pick ∷ []) p). ⊎_elim
    (λ (same : pick ≡ p). subst (λ (q : Pick). least ≤ choice_cost at (front ++ q ∷ ps)) same
    (subst (λ (f : List Pick). least ≤ choice_cost at f) (ap (λ f. f ++ ps) long ∙ append_assoc front (pick ∷ []) ps) (late ps one.1)))
    (λ (later : Contains [] p). absurd (contains-none p later))
    (contains-cases pick [] p last))
    (Contains-append_cases (take i picks) (pick ∷ []) p (subst (λ (l : List Pick). Contains l p) taken one.0))

-- a front that is completed can go on with a pick of each list and still be
pub completes-met : (at : Viewpoint) (lists : List (List Pick)) (most : ℕ) (front list : List Pick) → Contains lists list → Completes at lists most front
    → (pick : Pick) × Contains list pick × Completes at lists most (front ++ pick ∷ [])
completes-met at lists most front list among done =
    let met = choice-meets lists done.0 list done.1 among in
    let pick : Pick = met.0 in (
      pick,
      met.2,
      (
        done.0,
        done.1,
        (let fewer = fewer-cost at ((front ++ pick ∷ []) ++ done.0) (front ++ done.0)
            (λ p c. ⊎_elim
            (λ (early : Contains (front ++ pick ∷ []) p). ⊎_elim
            (λ (first : Contains front p). Contains-append_left front done.0 p first)
            (λ (own : Contains (pick ∷ []) p). Contains-append_right front done.0 p (alone pick p done.0 met.1 own))
            (Contains-append_cases front (pick ∷ []) p early))
            (λ (late : Contains done.0 p). Contains-append_right front done.0 p late)
            (Contains-append_cases (front ++ pick ∷ []) done.0 p c)) in
            let cheap = done.2 in
            omega arith),
      ),
    )
