-- The least choice takes a lead pick, and is found when this pick is followed.
use Rattle.std.proofs.Common.{◌≡◌, ◌≢◌, ℕ, zero, suc, ◌<◌, ◌≤◌, Bool, true, false, nat_eq, if◌then◌else◌, List, [], ◌∷◌, ◌++◌, Some, length, get_or, refl, sym, ap, subst, ◌∙◌, arith, ⊎_elim}
use Rattle.std.proofs.lemmas.Bool.{cases_Bool, cases_lt, eqb-true, eqb-false}
use Rattle.std.proofs.lemmas.List.Elements.{Contains-get_or}
use Rattle.std.specs.List.{AllByRecursion, Contains}
use Rattle.std.specs.Ordering.{is_lt}
use Rattle.best_first.specs.Lists.{all_in, all_weaker, all_append}
use Rattle.spatial_base.specs.Point.{Viewpoint, distance}
use Rattle.place_values.specs.declared.query.Pick.{Pick}
use Rattle.place_values.specs.declared.query.Chosen.{Chosen}
use Rattle.place_values.specs.Group.{product, choice_cost, is_cheaper, least_of}
use Rattle.place_values.specs.GroupLaws.{choices_linear, least_cost}
use Rattle.group_search.specs.Choices.{IsChoice, IsWithin, IsCut, AreCut}
use Rattle.group_search.specs.Leads.{led_by, IsBeside, IsWanted, Betters, Follows}
use Rattle.group_search.specs.Tried.{IsChosen, IsFirst}
use Rattle.group_search.proofs.Cuts.{cut-choice, counted-choice}
use Rattle.group_search.proofs.Joins.{member-far, member-wide, choice-meets}
use Rattle.group_search.proofs.Least.{itself, least-among, least-first, least-is, dearer-after}
use Rattle.group_search.proofs.Members.{contains-cases, contains-none, contains-later}
use Rattle.best_first.proofs.Histories.{contains_head as contains-here}
use Rattle.group_search.proofs.Products.{choice-among, all-choices}
use Rattle.boolean_queries.proofs.Histories.{all-contained}

-- there are as many lists
pub led-length : {X : Type 0} (at : ℕ) (x : X) (lists : List (List X)) → length (led_by at x lists) ≡ length lists
led-length at x [] = refl
led-length zero x (list ∷ lists) = refl
led-length (suc at) x (list ∷ lists) = ap suc (led-length at x lists)

-- that of the lead is its own
pub led-own : {X : Type 0} (at i : ℕ) (x : X) (lists : List (List X)) → i ≡ at → i < length lists → get_or (led_by at x lists) i [] ≡ x ∷ []
led-own at i x [] same inside = absurd (omega arith)
led-own zero zero x (list ∷ lists) same inside = refl
led-own zero (suc i) x (list ∷ lists) same inside = absurd (omega arith)
led-own (suc at) zero x (list ∷ lists) same inside = absurd (omega arith)
led-own (suc at) (suc i) x (list ∷ lists) same inside = led-own at i x lists (omega arith) (omega arith)

-- the others are as before
pub led-other : {X : Type 0} (at i : ℕ) (x : X) (lists : List (List X)) → i ≢ at → get_or (led_by at x lists) i [] ≡ get_or lists i []
led-other at i x [] other = refl
led-other zero zero x (list ∷ lists) other = absurd (other refl)
led-other zero (suc i) x (list ∷ lists) other = refl
led-other (suc at) zero x (list ∷ lists) other = refl
led-other (suc at) (suc i) x (list ∷ lists) other = led-other at i x lists (λ same. other (ap suc same))

-- so it is by the test
pub led-here : {X : Type 0} (at i : ℕ) (x : X) (lists : List (List X)) (list : List X) → i < length lists → get_or lists i [] ≡ list → get_or (led_by at x lists) i [] ≡ (if nat_eq i at then x ∷ [] else list)
led-here at i x lists list inside is = ⊎_elim
    (λ (t : nat_eq i at ≡ true). rw t (led-own at i x lists (eqb-true i at t) inside))
    (λ (f : nat_eq i at ≡ false). rw f (led-other at i x lists (eqb-false i at f) ∙ is))
    (cases_Bool (nat_eq i at))

-- each choice takes a pick of a list, as a choice that is led by it
pub led-choice : {X : Type 0} (at : ℕ) (lists : List (List X)) (choice : List X) → at < length lists → IsChoice lists choice → (x : X) × Contains (get_or lists at []) x × Contains choice x × IsChoice (led_by at x lists) choice
led-choice at [] choice inside is = absurd (omega arith)
led-choice at (list ∷ lists) [] inside is = absurd is
led-choice zero (list ∷ lists) (x ∷ xs) inside is = (x, is.0, contains-here x xs, (contains-here x [], is.1))
led-choice (suc at) (list ∷ lists) (x ∷ xs) inside is =
    let rest = led-choice at lists xs (omega arith) is.1 in
    (rest.0, rest.1, contains-later x xs rest.0 rest.2, (is.0, rest.3))

-- one that is led by a pick takes it
pub led-takes : {X : Type 0} (at : ℕ) (x : X) (lists : List (List X)) (choice : List X) → at < length lists → IsChoice (led_by at x lists) choice → Contains choice x
led-takes at x [] choice inside is = absurd (omega arith)
led-takes zero x (list ∷ lists) [] inside is = absurd is
led-takes zero x (list ∷ lists) (y ∷ ys) inside is = ⊎_elim
    (λ (same : x ≡ y). subst (λ z. Contains (z ∷ ys) x) same (contains-here x ys))
    (λ (later : Contains [] y). absurd (contains-none y later))
    (contains-cases x [] y is.0)
led-takes (suc at) x (list ∷ lists) [] inside is = absurd is
led-takes (suc at) x (list ∷ lists) (y ∷ ys) inside is = contains-later y ys x (led-takes at x lists ys (omega arith) is.1)

-- and is a choice of the lists
pub led-is : {X : Type 0} (at : ℕ) (x : X) (lists : List (List X)) (choice : List X) → Contains (get_or lists at []) x → IsChoice (led_by at x lists) choice → IsChoice lists choice
led-is at x [] choice among is = is
led-is zero x (list ∷ lists) [] among is = absurd is
led-is {X} zero x (list ∷ lists) (y ∷ ys) among is = (
  ⊎_elim
      (λ (same : x ≡ y). subst (Contains list) same among)
      (λ (later : Contains [] y). absurd (contains-none y later))
      (contains-cases x [] y is.0),
  is.1,
)
led-is (suc at) x (list ∷ lists) [] among is = absurd is
led-is (suc at) x (list ∷ lists) (y ∷ ys) among is = (is.0, led-is at x lists ys among is.1)

-- a choice with its cost is the least of itself
pub one-tried : (at : Viewpoint) (best : Chosen) → best.cost ≡ choice_cost at best.picks → Some best ≡ least_of at (best.picks ∷ [])
one-tried at best is = λ i. Some record { cost = is i; picks = best.picks }

-- no choice before a best one comes before a better one
pub chained : (at : Viewpoint) (old new choice : List Pick) → is_cheaper at old new ≡ false → is_cheaper at choice old ≡ false → is_cheaper at choice new ≡ false
chained at old new choice = (choices_linear (choice_cost at)).chain new old choice

-- a choice that costs more comes after
pub dear : (at : Viewpoint) (lists : List (List Pick)) (best : Chosen) (choice : List Pick) → IsChosen at lists best → best.cost < choice_cost at choice → is_cheaper at choice best.picks ≡ false
dear at lists best choice chosen more = let costs = chosen.cost in ap is_lt (dearer-after at choice best.picks (omega arith))

-- the picks of a choice that costs at most so much
pub all-within : (at : Viewpoint) (most : ℕ) (choice : List Pick) → choice_cost at choice ≤ most → AllByRecursion (IsWithin at most) choice
all-within at most choice cheap = all_weaker (Contains choice) (IsWithin at most) (λ pick c. let far = member-far at choice pick c in omega arith) choice (all_in choice)

all-beside : (at : Viewpoint) (most : ℕ) (anchor : Pick) (choice : List Pick) → Contains choice anchor → choice_cost at choice ≤ most → AllByRecursion (IsBeside at anchor most) choice
all-beside at most anchor choice takes cheap = all_weaker (Contains choice) (IsBeside at anchor most)
    (λ pick c.
    let far = member-far at choice pick c in
    let also = member-far at choice anchor takes in
    let wide = member-wide at.scale choice anchor pick takes c in
    (omega arith, omega arith))
    choice (all_in choice)

-- the least of the best choice so far and of all choices of lists
module _ (at : Viewpoint) (lists cuts : List (List Pick)) (old new : Chosen) (was : IsChosen at lists old) (own : (choice : List Pick) → IsChoice cuts choice → IsChoice lists choice)
    (is : Some new ≡ least_of at (old.picks ∷ product cuts))
  where
    firsts : AllByRecursion (λ picks. is_cheaper at picks new.picks ≡ false) (old.picks ∷ product cuts)
    firsts = least-first at (old.picks ∷ product cuts) new (sym is)

    pub new-after : is_cheaper at old.picks new.picks ≡ false
    new-after = firsts.0

    pub new-first : IsFirst at cuts new
    new-first choice c = all-contained (λ picks. is_cheaper at picks new.picks ≡ false) (product cuts) choice firsts.1 (choice-among cuts choice c)

    pub new-chosen : IsChosen at lists new
    new-chosen = record {
      choice = ⊎_elim (λ (same : old.picks ≡ new.picks). subst (IsChoice lists) same was.choice)
          (λ (c : Contains (product cuts) new.picks). own new.picks (all-contained (IsChoice cuts) (product cuts) new.picks (all-choices cuts) c))
          (contains-cases old.picks (product cuts) new.picks (least-among at (old.picks ∷ product cuts) new (sym is)));
      cost = least_cost (choice_cost at) (old.picks ∷ product cuts) new (sym is);
    }

-- so it betters, where the lists that are searched are cut from others to what counts
pub cuts-better : (at : Viewpoint) (lists : List (List Pick)) (counts : Pick → Type 0) (others cuts : List (List Pick)) (old new : Chosen) → IsChosen at lists old → ((choice : List Pick) → IsChoice others choice → IsChoice lists choice)
    → AreCut counts others cuts → Some new ≡ least_of at (old.picks ∷ product cuts) → Betters at lists counts others old new
cuts-better at lists counts others cuts old new was own cut is =
    let mine : (choice : List Pick) → IsChoice cuts choice → IsChoice lists choice = λ choice c. own choice (cut-choice counts others cuts choice cut c) in
    record {
      chosen = new-chosen at lists cuts old new was mine is;
      after = new-after at lists cuts old new was mine is;
      first = λ choice c all. new-first at lists cuts old new was mine is choice (counted-choice counts others cuts choice cut c all);
    }

-- where no choice counts, the best one stays
pub none-better : (at : Viewpoint) (lists : List (List Pick)) (counts : Pick → Type 0) (others : List (List Pick)) (best : Chosen) → IsChosen at lists best
    → ((choice : List Pick) → IsChoice others choice → AllByRecursion counts choice → ⊥) → Betters at lists counts others best best
none-better at lists counts others best was none = record {
  chosen = was;
  after = itself at best.picks;
  first = λ choice c all. absurd (none choice c all);
}

-- one lead pick is followed
pub betters-follows : (at : Viewpoint) (lists : List (List Pick)) (own : ℕ) (anchor : Pick) (old new : Chosen) → own < length lists → IsChosen at lists old → Betters at lists (IsWanted at anchor (Some old.cost)) (led_by own anchor lists) old new
    → Follows at lists own (anchor ∷ []) old new
betters-follows at lists own anchor old new inside was better = record {
  chosen = better.chosen;
  after = better.after;
  first = (
    λ choice is. ⊎_elim
        (λ (more : old.cost < choice_cost at choice). chained at old.picks new.picks choice better.after (dear at lists old choice was more))
        (λ (cheap : choice_cost at choice ≤ old.cost). better.first choice is (all-beside at old.cost anchor choice (led-takes own anchor lists choice inside is) cheap))
        (cases_lt old.cost (choice_cost at choice)),
    tt,
  );
}

-- one that is farther than the best choice costs needn't be
pub far-follows : (at : Viewpoint) (lists : List (List Pick)) (own : ℕ) (anchor : Pick) (best : Chosen) → own < length lists → IsChosen at lists best → anchor.dist ≡ distance at anchor.point → best.cost < anchor.dist
    → Follows at lists own (anchor ∷ []) best best
far-follows at lists own anchor best inside was measured far = record {
  chosen = was;
  after = itself at best.picks;
  first = (
    λ choice is.
        let away = member-far at choice anchor (led-takes own anchor lists choice inside is) in
        dear at lists best choice was (omega arith),
    tt,
  );
}

-- nor one with which each choice costs more
pub dear-follows : (at : Viewpoint) (lists : List (List Pick)) (own : ℕ) (anchor : Pick) (best : Chosen) → IsChosen at lists best → ((choice : List Pick) → IsChoice (led_by own anchor lists) choice → best.cost < choice_cost at choice)
    → Follows at lists own (anchor ∷ []) best best
dear-follows at lists own anchor best was more = record { chosen = was; after = itself at best.picks; first = (λ choice is. dear at lists best choice was (more choice is), tt) }

-- where the lead is taken for a word, or all picks that count are, a choice with the lead has one of them
pub companion-met : (at : Viewpoint) (lists : List (List Pick)) (own index : ℕ) (anchor : Pick) (most : ℕ) (all picks choice : List Pick) (alone : Bool) → own < length lists → index < length lists
    → get_or lists index [] ≡ all → (alone ≡ false → index ≢ own) → IsCut (IsWanted at anchor (Some most)) (if alone then anchor ∷ [] else all) picks
    → IsChoice (led_by own anchor lists) choice → choice_cost at choice ≤ most → (pick : Pick) × Contains choice pick × Contains picks pick
companion-met at lists own index anchor most all picks choice true inside within is other cut one cheap =
    let takes = led-takes own anchor lists choice inside one in
    (anchor, takes, cut.whole anchor (contains-here anchor []) (all-contained (IsBeside at anchor most) choice anchor (all-beside at most anchor choice takes cheap) takes))
companion-met at lists own index anchor most all picks choice false inside within is other cut one cheap =
    let takes = led-takes own anchor lists choice inside one in
    let led : List (List Pick) = led_by own anchor lists in
    let there : index < length led = omega (arith, led-length own anchor lists) in
    let list_is : get_or led index [] ≡ all = led-other own index anchor lists (other refl) ∙ is in
    let met = choice-meets led choice (get_or led index []) one (Contains-get_or led index [] there) in
    (met.0, met.1, cut.whole met.0 (subst (λ (l : List Pick). Contains l met.0) list_is met.2) (all-contained (IsBeside at anchor most) choice met.0 (all-beside at most anchor choice takes cheap) met.1))

-- none is followed
pub none-follows : (at : Viewpoint) (lists : List (List Pick)) (own : ℕ) (best : Chosen) → IsChosen at lists best → Follows at lists own [] best best
none-follows at lists own best was = record { chosen = was; after = itself at best.picks; first = tt }

-- one after others
pub follows-then : (at : Viewpoint) (lists : List (List Pick)) (own : ℕ) (some more : List Pick) (old mid new : Chosen) → Follows at lists own some old mid → Follows at lists own more mid new → Follows at lists own (some ++ more) old new
follows-then at lists own some more old mid new a b = record {
  chosen = b.chosen;
  after = chained at mid.picks new.picks old.picks b.after a.after;
  first = all_append (λ anchor. IsFirst at (led_by own anchor lists) new) some more
      (all_weaker (λ anchor. IsFirst at (led_by own anchor lists) mid) (λ anchor. IsFirst at (led_by own anchor lists) new) (λ anchor first choice is. chained at mid.picks new.picks choice b.after (first choice is)) some a.first)
      b.first;
}

-- where all picks of a list that are no farther than the best choice costs were followed, no choice comes before the best one
pub follows-all : (at : Viewpoint) (lists : List (List Pick)) (own : ℕ) (leads : List Pick) (old new : Chosen) → own < length lists → IsChosen at lists old → IsCut (IsWithin at old.cost) (get_or lists own []) leads
    → Follows at lists own leads old new → IsFirst at lists new
follows-all at lists own leads old new inside was cut follows choice is =
    let led = led-choice own lists choice inside is in
    ⊎_elim
    (λ (more : old.cost < choice_cost at choice). chained at old.picks new.picks choice follows.after (dear at lists old choice was more))
    (λ (cheap : choice_cost at choice ≤ old.cost).
    let far = member-far at choice led.0 led.2 in
    all-contained (λ anchor. IsFirst at (led_by own anchor lists) new) leads led.0 follows.first (cut.whole led.0 led.1 (omega arith)) choice led.3)
    (cases_lt old.cost (choice_cost at choice))

-- and so it is where a choice of lists that have all picks that are no farther is the first of these lists
pub cut-first : (at : Viewpoint) (lists cuts : List (List Pick)) (best : Chosen) → IsChosen at lists best → AreCut (IsWithin at best.cost) lists cuts → IsFirst at cuts best → IsFirst at lists best
cut-first at lists cuts best was cut first choice is = ⊎_elim
    (λ (more : best.cost < choice_cost at choice). dear at lists best choice was more)
    (λ (cheap : choice_cost at choice ≤ best.cost). first choice (counted-choice (IsWithin at best.cost) lists cuts choice cut is (all-within at best.cost choice cheap)))
    (cases_lt best.cost (choice_cost at choice))

-- a choice that none comes before is the least
pub first-least : (at : Viewpoint) (lists : List (List Pick)) (best : Chosen) → IsChosen at lists best → IsFirst at lists best → Some best ≡ least_of at (product lists)
first-least at lists best was first =
    (λ i. Some record { cost = was.cost i; picks = best.picks })
    ∙ sym (least-is at (product lists) best.picks (choice-among lists best.picks was.choice)
    (all_weaker (IsChoice lists) (λ choice. is_cheaper at choice best.picks ≡ false) first (product lists) (all-choices lists)))
