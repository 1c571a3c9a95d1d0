-- The least choice of a set of words, from those of all its parts and the nearest place that serves all its words.
use Rattle.std.proofs.Common.{◌≡◌, ℕ, ◌+◌, ◌-◌, ◌/◌, ◌^◌, ◌<◌, ◌≤◌, Bool, true, false, cond, not, ◌||◌, List, [], ◌∷◌, map, length, get_or, Option, Some, None, bit_and, bit_xor, refl, sym, ap, subst, ◌∙◌, arith, ◌⊎◌, ⊎_elim}
use Rattle.std.specs.List.{AllByRecursion, Contains, list_all}
use Rattle.std.specs.Cmp.Lexicographic.{slice_cmp}
use Rattle.std.specs.Ordering.{nat_cmp, is_lt, ordering_then}
use Rattle.std.specs.FinMap.{nat_cmp-IsAntisymmetric, slice_cmp-IsAntisymmetric}
use Rattle.std.specs.declared.cmp.Ordering.{Ordering}
use Rattle.std.specs.declared.cmp.Ordering.TheVariants.{Less, Equal, Greater}
use Rattle.std.proofs.lemmas.Bool.{true≢false, cases_Bool, cases_lt, false_from_ne_true, or_left, or_right, and_cases, not_from_false, cond-false, cond_both}
use Rattle.std.proofs.lemmas.Cmp.{ranked, then_total, on_total, nat_cmp_total, lists_total}
use Rattle.std.proofs.lemmas.List.{length-map}
use Rattle.spatial_base.specs.Key.{both_tie}
use Rattle.spatial_base.specs.Point.{Viewpoint, distance}
use Rattle.place_values.specs.declared.hit.Hit.{Hit}
use Rattle.place_values.specs.declared.query.Pick.{Pick}
use Rattle.place_values.specs.declared.query.Chosen.{Chosen}
use Rattle.place_values.specs.First.{IsLinear}
use Rattle.place_values.specs.Laws.{linear_from_total}
use Rattle.place_values.specs.Group.{product, pick_cmp, is_less, least_by}
use Rattle.place_values.specs.GroupLaws.{pick_cmp_total, pick_cmp_same}
use Rattle.place_values.specs.Sum.{is_same_place, sum_cost}
use Rattle.group_search.specs.Choices.{IsChoice}
use Rattle.collective_query.specs.TreePicks.{pick_from}
use Rattle.group_sum.specs.Sets.{flags_from, flagged, in_set}
use Rattle.group_sum.specs.Splits.{sides_of, joined, is_one_place, joined_of, split_at, IsPart, comes_first, IsFirstSplit, IsLeastSplit}
use Rattle.group_sum.specs.Shared.{AreNamed, shared_picks, shared_choice, is_nearer, IsBeyond, IsNearestShared, limit_of, better_of}
use Rattle.group_sum.specs.Tables.{AreLeast}
use Rattle.group_sum.proofs.Costs.{passing, failing, all-passing, parts-cost, joined-cost}
use Rattle.group_sum.proofs.Joins.{others, choice-length, joined-choice, joined-other}
use Rattle.group_sum.proofs.Least.{IsLeast, costed, kept-costed, kept-least, one-kept}
use Rattle.group_sum.proofs.Parts.{less-go, passing-kept, failing-kept, whole-joined}
use Rattle.group_sum.proofs.Masks.{has_flag, part-in, rest-in, rest-sides, part-of, rest-sum, rest-within, rest-rest, some-part, set-some, sides-length, contains-flagged, flags-length}
use Rattle.group_sum.proofs.Shared.{same-place, place-test, one-place-cost, shared-one, least-shared}

-- ---- the order of choices by the costs that are given

-- choices have one order
pub chosen-linear : IsLinear comes_first
chosen-linear =
    linear_from_total
    (then_total (on_total (λ (c : Chosen). c.cost) nat_cmp_total) (on_total (λ (c : Chosen). c.picks) (lists_total pick_cmp_total)))
    (λ a b e.
    let both = both_tie (nat_cmp a.cost b.cost) (slice_cmp pick_cmp a.picks b.picks) e in
    let p = nat_cmp-IsAntisymmetric a.cost b.cost both.0 in
    let q = slice_cmp-IsAntisymmetric pick_cmp_same a.picks b.picks both.1 in
    λ i. record { cost = p i; picks = q i })

-- a choice that costs no more than is given doesn't come before the least
pub real-after : (lists : List (List Pick)) (least : List Pick) (best : Chosen) → IsLeast lists least → IsChoice lists best.picks → sum_cost best.picks ≤ best.cost → comes_first best (costed least) ≡ false
real-after lists least best is among cost = false_from_ne_true (comes_first best (costed least)) (λ t.
    let less : is_less sum_cost best.picks least ≡ true =
    less-go best.cost (sum_cost least) (sum_cost best.picks) (sum_cost least) (slice_cmp pick_cmp best.picks least) (slice_cmp pick_cmp best.picks least) _ _ refl refl (λ l. omega arith) (λ e. omega arith) (λ e. e) t in
    true≢false (sym less ∙ is.first best.picks among))

cost-go : (m n : ℕ) (o k : Ordering) → o ≡ nat_cmp m n → is_lt (ordering_then o k) ≡ false → n ≤ m
cost-go m n Less k e h = absurd (cc)
cost-go m n Equal k e h = let a = ranked m n Equal e in omega arith
cost-go m n Greater k e h = let a = ranked m n Greater e in omega arith

-- what doesn't come before a choice costs no less
pub no-cheaper : (a b : List Pick) → is_less sum_cost a b ≡ false → sum_cost b ≤ sum_cost a
no-cheaper a b h = cost-go (sum_cost a) (sum_cost b) _ (slice_cmp pick_cmp a b) refl h

-- ---- what is kept for the two parts

module _ (lists : List (List Pick)) (kept : List (Option Chosen)) (least : AreLeast lists kept) (set part : ℕ) (within : bit_and part set ≡ part) where
  part-kept : part < length kept → get_or kept part None ≡ least_by sum_cost (product (flagged (sides_of (length lists) set part) (in_set set lists)))
  part-kept below = least part below ∙ ap (λ l. least_by sum_cost (product l)) (sym (part-in set part lists within))

  rest-kept : bit_xor set part < length kept → get_or kept (bit_xor set part) None ≡ least_by sum_cost (product (flagged (others (sides_of (length lists) set part)) (in_set set lists)))
  rest-kept below = least (bit_xor set part) below ∙ ap (λ l. least_by sum_cost (product l)) (sym (rest-in set part lists within))

joined-real : (lists : List (List Pick)) (sides : List Bool) (x y : Option Chosen) (best : Chosen) → length sides ≡ length lists → x ≡ least_by sum_cost (product (flagged sides lists)) → y ≡ least_by sum_cost (product (flagged (others sides) lists))
    → joined_of sides x y ≡ Some best → IsChoice lists best.picks × (sum_cost best.picks ≤ best.cost)
joined-real lists sides None y best sized p q is = absurd (cc)
joined-real lists sides (Some a) None best sized p q is = absurd (cc)
joined-real lists sides (Some a) (Some b) best sized p q is = go (is_one_place a.picks || is_one_place b.picks) is
  where
    go : (t : Bool) → cond t (Some record { cost = a.cost + b.cost; picks = joined sides a.picks b.picks }) None ≡ Some best → IsChoice lists best.picks × (sum_cost best.picks ≤ best.cost)
    go false e = absurd (cc)
    go true e =
        let same : (let j : Chosen = record { cost = a.cost + b.cost; picks = joined sides a.picks b.picks } in j) ≡ best = cc in
        let left : IsLeast (flagged sides lists) a.picks = kept-least (flagged sides lists) a (sym p) in
        let right : IsLeast (flagged (others sides) lists) b.picks = kept-least (flagged (others sides) lists) b (sym q) in
        let costs : a.cost ≡ sum_cost a.picks = ap (λ (c : Chosen). c.cost) (kept-costed (flagged sides lists) a (sym p)) in
        let other_costs : b.cost ≡ sum_cost b.picks = ap (λ (c : Chosen). c.cost) (kept-costed (flagged (others sides) lists) b (sym q)) in
        let at_most : sum_cost (joined sides a.picks b.picks) ≤ sum_cost a.picks + sum_cost b.picks = joined-cost sides a.picks b.picks in
        subst (λ (c : Chosen). IsChoice lists c.picks × (sum_cost c.picks ≤ c.cost)) same
        (joined-choice sides lists a.picks b.picks sized left.choice right.choice, omega arith)

-- what a split joins to is a choice, and costs no more than is given
pub split-real : (lists : List (List Pick)) (kept : List (Option Chosen)) (set part : ℕ) (best : Chosen) → AreLeast lists kept → set ≤ length kept → IsPart set part → split_at (length lists) kept set part ≡ Some best
    → IsChoice (in_set set lists) best.picks × (sum_cost best.picks ≤ best.cost)
split-real lists kept set part best least long is found =
    let sum = rest-sum set part is.within in
    let half = is.half in
    let some = is.some in
    joined-real (in_set set lists) (sides_of (length lists) set part) (get_or kept part None) (get_or kept (bit_xor set part) None) best (sides-length set part lists)
    (part-kept lists kept least set part is.within (omega arith)) (rest-kept lists kept least set part is.within (omega arith)) found

-- ---- a choice of several places is what a split joins to

from-all : (test : Pick → Bool) (xs : List Pick) → AllByRecursion (λ y. test y ≡ true) xs → list_all test xs ≡ true
from-all test [] h = refl
from-all test (x ∷ xs) h = let a = h.0 in let b = from-all test xs h.1 in rw (a, b) refl

passing-one : (p : Pick) (rest : List Pick) → is_one_place (passing (is_same_place p) (p ∷ rest)) ≡ true
passing-one p rest = let a : is_same_place p p ≡ true = same-place p p refl in rw a (from-all (is_same_place p) (passing (is_same_place p) rest) (all-passing (is_same_place p) rest))

some-other : (test : Pick → Bool) (xs : List Pick) → list_all test xs ≡ false → has_flag (others (map test xs)) ≡ true
some-other test [] h = absurd (cc)
some-other test (x ∷ xs) h = ⊎_elim
    (λ (a : test x ≡ false). or_left (not (test x)) (has_flag (others (map test xs))) (not_from_false (test x) a))
    (λ (b : list_all test xs ≡ false). or_right (not (test x)) (has_flag (others (map test xs))) (some-other test xs b))
    (and_cases (test x) (list_all test xs) h)

joined-is : (sides : List Bool) (a b c : List Pick) → (is_one_place a || is_one_place b) ≡ true → sum_cost a + sum_cost b ≡ sum_cost c → joined sides a b ≡ c → joined_of sides (Some (costed a)) (Some (costed b)) ≡ Some (costed c)
joined-is sides a b c one cost join = rw one (λ i. Some record { cost = cost i; picks = join i })

-- the least choice of a set, if it is of several places, is what one of the splits joins to
pub split-found : (lists : List (List Pick)) (kept : List (Option Chosen)) (set : ℕ) (p : Pick) (rest : List Pick) → AreLeast lists kept → set ≤ length kept → IsLeast (in_set set lists) (p ∷ rest) → is_one_place (p ∷ rest) ≡ false
    → (part : ℕ) × IsPart set part × (split_at (length lists) kept set part ≡ Some (costed (p ∷ rest)))
split-found lists kept set p rest least long is several =
    let own : List (List Pick) = in_set set lists in
    let choice : List Pick = p ∷ rest in
    let test : Pick → Bool = is_same_place p in
    let a : List Pick = passing test choice in
    let b : List Pick = failing test choice in
    let sized : length (map test choice) ≡ length own = length-map choice test ∙ choice-length own choice is.choice in
    let found = part-of set lists (map test choice) sized in
    let part : ℕ = found.0 in
    let other : ℕ = bit_xor set part in
    let within : bit_and part set ≡ part = found.1 in
    let sides : sides_of (length lists) set part ≡ map test choice = found.2 in
    let sum : part + other ≡ set = rest-sum set part within in
    let some_here : 0 < part = some-part (length lists) set part (ap has_flag sides ∙ or_left (test p) (has_flag (map test rest)) (same-place p p refl)) in
    let some_there : 0 < other =
    some-part (length lists) set other (ap has_flag (rest-sides (length lists) set part within ∙ ap others sides) ∙ or_right (not (test p)) (has_flag (others (map test rest))) (some-other test rest several)) in
    let here : get_or kept part None ≡ Some (costed a) =
    part-kept lists kept least set part within (omega arith) ∙ ap (λ s. least_by sum_cost (product (flagged s own))) sides ∙ passing-kept own choice is test (place-test p) in
    let there : get_or kept other None ≡ Some (costed b) =
    rest-kept lists kept least set part within (omega arith) ∙ ap (λ s. least_by sum_cost (product (flagged (others s) own))) sides ∙ failing-kept own choice is test (place-test p) in
    let cost : sum_cost choice ≡ sum_cost a + sum_cost b = parts-cost test (place-test p) choice in
    let whole : joined (map test choice) a b ≡ choice = whole-joined own choice is test (place-test p) in
    let one : is_one_place a ≡ true = passing-one p rest in
    ⊎_elim
    (λ (less : other < part).
    let rest_sides : sides_of (length lists) set other ≡ others (map test choice) = rest-sides (length lists) set part within ∙ ap others sides in
    let back : get_or kept (bit_xor set other) None ≡ Some (costed a) = ap (λ n. get_or kept n None) (rest-rest set part within) ∙ here in
    let join : joined_of (others (map test choice)) (Some (costed b)) (Some (costed a)) ≡ Some (costed choice) =
    joined-is (others (map test choice)) b a choice (or_right (is_one_place b) (is_one_place a) one) (omega arith) (joined-other (map test choice) a b ∙ whole) in
    (other, record { some = some_there; half = omega arith; within = rest-within set part within }, split-is rest_sides there back ∙ join))
    (λ (le : part ≤ other).
    let join : joined_of (map test choice) (Some (costed a)) (Some (costed b)) ≡ Some (costed choice) =
    joined-is (map test choice) a b choice (or_left (is_one_place a) (is_one_place b) one) (omega arith) whole in
    (part, record { some = some_here; half = omega arith; within = within }, split-is sides here there ∙ join))
    (cases_lt other part)
  where
    split-is : {s t : List Bool} {x y u v : Option Chosen} → s ≡ t → x ≡ u → y ≡ v → joined_of s x y ≡ joined_of t u v
    split-is p q r = λ i. joined_of (p i) (q i) (r i)

-- ---- the better of both is the least

-- in what a set has of some lists a key stands once, too
pub named-in : (set : ℕ) (lists : List (List Pick)) → AreNamed lists → AreNamed (in_set set lists)
named-in set lists named list x y c d e k = named list x y (contains-flagged (flags_from set 0 (length lists)) lists list c) d e k

shared-costed : (at : Viewpoint) (words : List (List ℕ)) (hit : Hit) (lists : List (List Pick)) → IsChoice lists (shared_picks at words hit) → (lists ≡ [] → ⊥) → costed (shared_picks at words hit) ≡ shared_choice at words hit
shared-costed at [] hit [] is some = absurd (some refl)
shared-costed at [] hit (list ∷ lists) is some = absurd is
shared-costed at (word ∷ words) hit lists is some =
    let cost : sum_cost (shared_picks at (word ∷ words) hit) ≡ distance at hit.point = one-place-cost (pick_from at word hit) (shared_picks at words hit) (shared-one at (word ∷ words) hit) in
    λ i. record { cost = cost i; picks = shared_picks at (word ∷ words) hit }

module _ (at : Viewpoint) (words : List (List ℕ)) (lists : List (List Pick)) (kept : List (Option Chosen)) (named : AreNamed lists) (least : AreLeast lists kept) (some : 0 < length kept) (below : length kept < 2 ^ length lists) where
  real : (best : Chosen) → IsFirstSplit (length lists) kept (length kept) best → IsChoice (in_set (length kept) lists) best.picks × (sum_cost best.picks ≤ best.cost)
  real best first = split-real lists kept (length kept) first.among.0 best least (omega arith) first.among.1 first.among.2

  no-choice : (split : Option Chosen) (hit : Option Hit) → ((choice : List Pick) → IsChoice (in_set (length kept) lists) choice → ⊥) → IsLeastSplit (length lists) kept (length kept) split
      → IsNearestShared at words (in_set (length kept) lists) (limit_of split) hit → better_of at words split hit ≡ None
  no-choice None None none first near = refl
  no-choice (Some best) None none first near = absurd (none best.picks (real best first).0)
  no-choice split (Some hit) none first near = absurd (none (shared_picks at words hit) near.0)

  one-place : (p : Pick) (rest : List Pick) (split : Option Chosen) (hit : Option Hit) → IsLeast (in_set (length kept) lists) (p ∷ rest) → is_one_place (p ∷ rest) ≡ true → IsLeastSplit (length lists) kept (length kept) split
      → IsNearestShared at words (in_set (length kept) lists) (limit_of split) hit → better_of at words split hit ≡ Some (costed (p ∷ rest))
  one-place p rest None None is one first near = absurd (near p rest is.choice one)
  one-place p rest (Some best) None is one first near =
      let farther : best.cost < p.dist = near p rest is.choice one in
      let cost : sum_cost (p ∷ rest) ≡ p.dist = one-place-cost p rest one in
      let among = real best first in
      let no_less : sum_cost (p ∷ rest) ≤ sum_cost best.picks = no-cheaper best.picks (p ∷ rest) (is.first best.picks among.0) in
      let at_most = among.1 in
      absurd (omega arith)
  one-place p rest None (Some hit) is one first near =
      let same : p ∷ rest ≡ shared_picks at words hit = least-shared at hit words (in_set (length kept) lists) p rest (named-in (length kept) lists named) is one near.0 (near.1 p rest is.choice one) in
      ap (λ (c : Chosen). Some c) (sym (ap costed same ∙ shared-costed at words hit (in_set (length kept) lists) near.0 (set-some (length kept) lists some below)))
  one-place p rest (Some best) (Some hit) is one first near =
      let same : p ∷ rest ≡ shared_picks at words hit = least-shared at hit words (in_set (length kept) lists) p rest (named-in (length kept) lists named) is one near.0 (near.1 p rest is.choice one) in
      let costs : costed (p ∷ rest) ≡ shared_choice at words hit = ap costed same ∙ shared-costed at words hit (in_set (length kept) lists) near.0 (set-some (length kept) lists some below) in
      let among = real best first in
      let after : comes_first best (shared_choice at words hit) ≡ false =
      subst (λ c. comes_first best c ≡ false) costs (real-after (in_set (length kept) lists) (p ∷ rest) best is among.0 among.1) in
      let either : cond (comes_first (shared_choice at words hit) best) (Some (shared_choice at words hit)) (Some best) ≡ Some (shared_choice at words hit) =
      cond_both (comes_first (shared_choice at words hit) best) (Some (shared_choice at words hit)) (Some best) (λ c. c ≡ Some (shared_choice at words hit)) (λ t. refl)
      (λ f. ap (λ (c : Chosen). Some c) (chosen-linear.same best (shared_choice at words hit) after f)) in
      either ∙ ap (λ (c : Chosen). Some c) (sym costs)

  several-places : (p : Pick) (rest : List Pick) (split : Option Chosen) (hit : Option Hit) → IsLeast (in_set (length kept) lists) (p ∷ rest) → is_one_place (p ∷ rest) ≡ false → IsLeastSplit (length lists) kept (length kept) split
      → IsNearestShared at words (in_set (length kept) lists) (limit_of split) hit → better_of at words split hit ≡ Some (costed (p ∷ rest))
  several-places p rest None hit is more first near =
      let found = split-found lists kept (length kept) p rest least (omega arith) is more in
      absurd (let none = first found.0 found.1 in let one = found.2 in cc)
  several-places p rest (Some best) hit is more first near =
      let found = split-found lists kept (length kept) p rest least (omega arith) is more in
      let among = real best first in
      let same : best ≡ costed (p ∷ rest) =
      chosen-linear.same best (costed (p ∷ rest)) (real-after (in_set (length kept) lists) (p ∷ rest) best is among.0 among.1) (first.first found.0 (costed (p ∷ rest)) found.1 found.2) in
      go hit near same
    where
      go : (hit : Option Hit) → IsNearestShared at words (in_set (length kept) lists) (Some best.cost) hit → best ≡ costed (p ∷ rest) → better_of at words (Some best) hit ≡ Some (costed (p ∷ rest))
      go None near same = ap (λ (c : Chosen). Some c) same
      go (Some hit) near same =
          let costs : costed (shared_picks at words hit) ≡ shared_choice at words hit = shared-costed at words hit (in_set (length kept) lists) near.0 (set-some (length kept) lists some below) in
          let after : comes_first (shared_choice at words hit) best ≡ false =
          (λ i. comes_first (sym costs i) (same i)) ∙ is.first (shared_picks at words hit) near.0 in
          cond-false (comes_first (shared_choice at words hit) best) (Some (shared_choice at words hit)) (Some best) after ∙ ap (λ (c : Chosen). Some c) same

  -- it is the least choice of the set
  pub better-least : (split : Option Chosen) (hit : Option Hit) → IsLeastSplit (length lists) kept (length kept) split → IsNearestShared at words (in_set (length kept) lists) (limit_of split) hit
      → better_of at words split hit ≡ least_by sum_cost (product (in_set (length kept) lists))
  better-least split hit first near = go (least_by sum_cost (product (in_set (length kept) lists))) refl
    where
      go : (best : Option Chosen) → least_by sum_cost (product (in_set (length kept) lists)) ≡ best → better_of at words split hit ≡ best
      go None e = no-choice split hit (λ choice is. let one = one-kept (in_set (length kept) lists) choice is in let found = one.1 in absurd (cc)) first near
      go (Some best) e =
          let is : IsLeast (in_set (length kept) lists) best.picks = kept-least (in_set (length kept) lists) best e in
          by-picks best.picks is ∙ ap (λ (c : Chosen). Some c) (sym (kept-costed (in_set (length kept) lists) best e))
        where
          by-picks : (picks : List Pick) → IsLeast (in_set (length kept) lists) picks → better_of at words split hit ≡ Some (costed picks)
          by-picks [] is = absurd (set-some (length kept) lists some below (empty (in_set (length kept) lists) is.choice))
            where
              empty : (ls : List (List Pick)) → IsChoice ls [] → ls ≡ []
              empty [] h = refl
              empty (l ∷ ls) h = absurd h
          by-picks (p ∷ rest) is = ⊎_elim
              (λ (one : is_one_place (p ∷ rest) ≡ true). one-place p rest split hit is one first near)
              (λ (more : is_one_place (p ∷ rest) ≡ false). several-places p rest split hit is more first near)
              (cases_Bool (is_one_place (p ∷ rest)))
