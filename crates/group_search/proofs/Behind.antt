-- A lead pick at the point of one that was followed, and behind it in the picks' order, needn't be followed.
use Rattle.std.proofs.Common.{◌≡◌, ℕ, zero, suc, ◌+◌, max, false, List, [], ◌∷◌, ◌++◌, Option, Some, None, IfSome, IsSomeAnd, refl, sym, ap, subst, ◌∙◌, ⊎_elim}
use Rattle.std.proofs.lemmas.List.Elements.{Contains-append_left}
use Rattle.std.specs.Cmp.{nat_cmp_is}
use Rattle.std.specs.Cmp.Lexicographic.{slice_cmp}
use Rattle.std.specs.List.{Contains}
use Rattle.std.specs.Ordering.{nat_cmp, is_lt, ordering_then}
use Rattle.std.specs.declared.cmp.Ordering.{Ordering}
use Rattle.std.specs.declared.cmp.Ordering.TheVariants.{Less, Equal, Greater}
use Rattle.best_first.specs.Lists.{all_append}
use Rattle.spatial_base.specs.Point.{Viewpoint, seen_from, distance}
use Rattle.place_values.specs.declared.query.Pick.{Pick}
use Rattle.place_values.specs.declared.query.Chosen.{Chosen}
use Rattle.place_values.specs.Group.{farthest, diameter, choice_cost, pick_cmp, is_cheaper}
use Rattle.group_search.specs.Choices.{IsChoice}
use Rattle.group_search.specs.Leads.{led_by, IsBehind, Follows}
use Rattle.group_search.specs.Tried.{IsFirst}
use Rattle.group_search.proofs.Costs.{farthest-cons}
use Rattle.group_search.proofs.Leads.{chained}
use Rattle.group_search.proofs.Least.{itself}
use Rattle.group_search.proofs.Members.{contains-cases, contains-none}
use Rattle.best_first.proofs.Histories.{contains_head as contains-here}
use Rattle.boolean_queries.proofs.Histories.{all-contained}

-- each pick is at the point of the other choice's
abbrev AreAt : List Pick → List Pick → Type 0
AreAt [] [] = Unit {0}
AreAt [] (y ∷ ys) = ⊥
AreAt (x ∷ xs) [] = ⊥
AreAt (x ∷ xs) (y ∷ ys) = (x.point ≡ y.point) × AreAt xs ys

at-itself : (picks : List Pick) → AreAt picks picks
at-itself [] = tt
at-itself (pick ∷ picks) = (refl, at-itself picks)

-- they are as far from a point
same-far : (from : Viewpoint) (xs ys : List Pick) → AreAt xs ys → farthest from xs ≡ farthest from ys
same-far from [] [] same = refl
same-far from [] (y ∷ ys) same = absurd same
same-far from (x ∷ xs) [] same = absurd same
same-far from (x ∷ xs) (y ∷ ys) same =
    farthest-cons from x xs ∙ (λ i. max (distance from (same.0 i)) (same-far from xs ys same.1 i)) ∙ sym (farthest-cons from y ys)

-- and from each other
same-wide : (scale : ℕ) (xs ys : List Pick) → AreAt xs ys → diameter scale xs ≡ diameter scale ys
same-wide scale [] [] same = refl
same-wide scale [] (y ∷ ys) same = absurd same
same-wide scale (x ∷ xs) [] same = absurd same
same-wide scale (x ∷ xs) (y ∷ ys) same = λ i. max ((ap (λ point. farthest (seen_from point scale) xs) same.0 ∙ same-far (seen_from y.point scale) xs ys same.1) i) (same-wide scale xs ys same.1 i)

-- what is before neither by the first nor by the second comparison isn't before
not-then : (a b : Ordering) → is_lt a ≡ false → is_lt b ≡ false → is_lt (ordering_then a b) ≡ false
not-then Less b h g = h
not-then Equal b h g = g
not-then Greater b h g = refl

-- the second of two comparisons, where the first tells nothing
not-second : (a b : Ordering) → a ≡ Equal → is_lt (ordering_then a b) ≡ false → is_lt b ≡ false
not-second Less b tie h = absurd (cc)
not-second Equal b tie h = h
not-second Greater b tie h = absurd (cc)

-- the first of two
not-first : (a b : Ordering) → is_lt (ordering_then a b) ≡ false → is_lt a ≡ false
not-first Less b h = h
not-first Equal b h = refl
not-first Greater b h = refl

-- no list of picks comes before itself
list-itself : (at : Viewpoint) (picks : List Pick) → is_lt (slice_cmp pick_cmp picks picks) ≡ false
list-itself at picks =
    not-second (nat_cmp (choice_cost at picks) (choice_cost at picks)) (slice_cmp pick_cmp picks picks) (sym (nat_cmp_is (choice_cost at picks) (choice_cost at picks) Equal refl)) (itself at picks)

-- nor does a pick
pick-itself : (at : Viewpoint) (pick : Pick) → is_lt (pick_cmp pick pick) ≡ false
pick-itself at pick = not-first (pick_cmp pick pick) Equal (list-itself at (pick ∷ []))

-- a choice at the points of another one comes behind it, where its picks do
comes-behind : (at : Viewpoint) (xs ys : List Pick) → AreAt xs ys → is_lt (slice_cmp pick_cmp xs ys) ≡ false → is_cheaper at xs ys ≡ false
comes-behind at xs ys same after =
    let costs : choice_cost at xs ≡ choice_cost at ys = λ i. same-far at xs ys same i + same-wide at.scale xs ys same i in
    not-then (nat_cmp (choice_cost at xs) (choice_cost at ys)) (slice_cmp pick_cmp xs ys) (ap is_lt (sym (nat_cmp_is (choice_cost at xs) (choice_cost at ys) Equal costs))) after

-- a choice with a lead, and the one with another pick at its point in its place, which it comes behind
instead : (from : Viewpoint) (lists : List (List Pick)) (own : ℕ) (anchor other : Pick) (choice : List Pick) → IsBehind anchor other → IsChoice (led_by own anchor lists) choice
    → (new : List Pick) × IsChoice (led_by own other lists) new × AreAt choice new × (is_lt (slice_cmp pick_cmp choice new) ≡ false)
instead from [] own anchor other choice behind is = (choice, is, at-itself choice, list-itself from choice)
instead from (list ∷ lists) zero anchor other [] behind is = absurd is
instead from (list ∷ lists) zero anchor other (y ∷ ys) behind is = ⊎_elim
    (λ (one : anchor ≡ y). (
      other ∷ ys,
      (contains-here other [], is.1),
      (subst (λ (p : Pick). p.point ≡ other.point) one behind.0, at-itself ys),
      not-then (pick_cmp y other) (slice_cmp pick_cmp ys ys) (subst (λ (p : Pick). is_lt (pick_cmp p other) ≡ false) one behind.1) (list-itself from ys),
    ))
    (λ (later : Contains [] y). absurd (contains-none y later))
    (contains-cases anchor [] y is.0)
instead from (list ∷ lists) (suc own) anchor other [] behind is = absurd is
instead from (list ∷ lists) (suc own) anchor other (y ∷ ys) behind is =
    let rest = instead from lists own anchor other ys behind is.1 in
    (y ∷ rest.0, (is.0, rest.1), (refl, rest.2), not-then (pick_cmp y y) (slice_cmp pick_cmp ys rest.0) (pick-itself from y) rest.3)

-- so no choice with it comes before the best one, where none with the other does
behind-first : (at : Viewpoint) (lists : List (List Pick)) (own : ℕ) (anchor other : Pick) (best : Chosen) → IsBehind anchor other → IsFirst at (led_by own other lists) best → IsFirst at (led_by own anchor lists) best
behind-first at lists own anchor other best behind first choice is =
    let new = instead at lists own anchor other choice behind is in
    chained at new.0 best.picks choice (first new.0 new.1) (comes-behind at choice new.0 new.2 new.3)

-- and so it is followed with that one
pub behind-follows : (at : Viewpoint) (lists : List (List Pick)) (own : ℕ) (some : List Pick) (anchor : Pick) (last : Option Pick) (old best : Chosen) → IfSome last (Contains some)
    → IsSomeAnd last (IsBehind anchor) → Follows at lists own some old best → Follows at lists own (some ++ anchor ∷ []) old best
behind-follows at lists own some anchor None old best among is follows = absurd is
behind-follows at lists own some anchor (Some other) old best among is follows = record {
  chosen = follows.chosen;
  after = follows.after;
  first = all_append (λ pick. IsFirst at (led_by own pick lists) best) some (anchor ∷ []) follows.first
      (behind-first at lists own anchor other best is (all-contained (λ pick. IsFirst at (led_by own pick lists) best) some other follows.first among), tt);
}

-- the last one that was followed is still among them when there are more
pub still-among : (last : Option Pick) (some more : List Pick) → IfSome last (Contains some) → IfSome last (Contains (some ++ more))
still-among None some more among = tt
still-among (Some other) some more among = Contains-append_left some more other among
