-- The least choice, split by its places: each part is the least of its own lists.
use Rattle.std.proofs.Common.{◌≡◌, ℕ, ◌+◌, ◌<◌, ◌≤◌, Bool, true, false, not, List, [], ◌∷◌, map, length, Some, refl, sym, ap, subst, ◌∙◌, arith}
use Rattle.std.proofs.lemmas.Bool.{false_from_ne_true, true≢false}
use Rattle.std.proofs.lemmas.Cmp.{ranked}
use Rattle.std.proofs.lemmas.List.{length-map}
use Rattle.std.specs.Cmp.Lexicographic.{slice_cmp}
use Rattle.std.specs.Ordering.{nat_cmp, is_lt, ordering_then}
use Rattle.std.specs.declared.cmp.Ordering.{Ordering}
use Rattle.std.specs.declared.cmp.Ordering.TheVariants.{Less, Equal, Greater}
use Rattle.place_values.specs.declared.query.Pick.{Pick}
use Rattle.place_values.specs.Group.{product, pick_cmp, is_less, least_by}
use Rattle.place_values.specs.Sum.{sum_cost}
use Rattle.group_search.specs.Choices.{IsChoice}
use Rattle.group_sum.specs.Sets.{flagged}
use Rattle.group_sum.specs.Splits.{joined}
use Rattle.group_sum.proofs.Costs.{IsOfPlaces, passing, failing, parts-cost, joined-cost}
use Rattle.group_sum.proofs.Joins.{others, others-others, choice-length, part-choice, joined-choice, joined-parts, joined-less}
use Rattle.group_sum.proofs.Least.{IsLeast, costed, least-kept}

is-less : (o : Ordering) → is_lt o ≡ true → o ≡ Less
is-less Less h = refl
is-less Equal h = absurd (cc)
is-less Greater h = absurd (cc)

-- what comes first by cost and then by its picks still does where costs and picks go the same way
pub less-go : (m n p q : ℕ) (k l o r : Ordering) → o ≡ nat_cmp m n → r ≡ nat_cmp p q → (m < n → p < q) → (m ≡ n → p ≤ q) → (k ≡ Less → l ≡ Less) → is_lt (ordering_then o k) ≡ true → is_lt (ordering_then r l) ≡ true
less-go m n p q k l Less Less e f g h i t = refl
less-go m n p q k l Less Equal e f g h i t = absurd (let a = ranked m n Less e in let b = ranked p q Equal f in let c = g a in omega arith)
less-go m n p q k l Less Greater e f g h i t = absurd (let a = ranked m n Less e in let b = ranked p q Greater f in let c = g a in omega arith)
less-go m n p q k l Equal Less e f g h i t = refl
less-go m n p q k l Equal Equal e f g h i t = ap is_lt (i (is-less k t))
less-go m n p q k l Equal Greater e f g h i t = absurd (let a = ranked m n Equal e in let b = ranked p q Greater f in let c = h a in omega arith)
less-go m n p q k l Greater r e f g h i t = absurd (cc)

-- a part of the least choice is the least of its lists, where the parts have no place in common
part-least : (sides : List Bool) (lists : List (List Pick)) (choice : List Pick) → length sides ≡ length lists → sum_cost choice ≡ sum_cost (flagged sides choice) + sum_cost (flagged (others sides) choice)
    → IsLeast lists choice → IsLeast (flagged sides lists) (flagged sides choice)
part-least sides lists choice sized cost least = record { choice = part-choice sides lists choice least.choice; first = first }
  where
    first : (other : List Pick) → IsChoice (flagged sides lists) other → is_less sum_cost other (flagged sides choice) ≡ false
    first other is = false_from_ne_true (is_less sum_cost other (flagged sides choice)) (λ t.
        let left : List Pick = flagged sides choice in
        let right : List Pick = flagged (others sides) choice in
        let whole : joined sides left right ≡ choice = joined-parts sides choice (sized ∙ sym (choice-length lists choice least.choice)) in
        let of_right : IsChoice (flagged (others sides) lists) right = part-choice (others sides) lists choice least.choice in
        let among : IsChoice lists (joined sides other right) = joined-choice sides lists other right sized is of_right in
        let at_most : sum_cost (joined sides other right) ≤ sum_cost other + sum_cost right = joined-cost sides other right in
        let lesser : slice_cmp pick_cmp other left ≡ Less → slice_cmp pick_cmp (joined sides other right) choice ≡ Less =
        λ l. subst (λ c. slice_cmp pick_cmp (joined sides other right) c ≡ Less) whole (joined-less sides lists other left right sized is (part-choice sides lists choice least.choice) of_right l) in
        let less : is_less sum_cost (joined sides other right) choice ≡ true =
        less-go (sum_cost other) (sum_cost left) (sum_cost (joined sides other right)) (sum_cost choice) (slice_cmp pick_cmp other left) (slice_cmp pick_cmp (joined sides other right) choice)
        _ _ refl refl (λ l. omega arith) (λ e. omega arith) lesser t in
        true≢false (sym less ∙ least.first (joined sides other right) among))

module _ (lists : List (List Pick)) (choice : List Pick) (least : IsLeast lists choice) (test : Pick → Bool) (places : IsOfPlaces test) where
  sides-length : length (map test choice) ≡ length lists
  sides-length = length-map choice test ∙ choice-length lists choice (least.choice)

  -- the picks of the places that pass a test are the least choice of their lists
  pub passing-kept : least_by sum_cost (product (flagged (map test choice) lists)) ≡ Some (costed (passing test choice))
  passing-kept = least-kept (flagged (map test choice) lists) (passing test choice) (part-least (map test choice) lists choice sides-length (parts-cost test places choice) least)

  -- and so are the others
  pub failing-kept : least_by sum_cost (product (flagged (others (map test choice)) lists)) ≡ Some (costed (failing test choice))
  failing-kept =
      let sized : length (others (map test choice)) ≡ length lists = length-map (map test choice) not ∙ sides-length in
      let cost : sum_cost choice ≡ sum_cost (failing test choice) + sum_cost (flagged (others (others (map test choice))) choice) =
      subst (λ s. sum_cost choice ≡ sum_cost (failing test choice) + sum_cost (flagged s choice)) (sym (others-others (map test choice))) (let p = parts-cost test places choice in omega arith) in
      least-kept (flagged (others (map test choice)) lists) (failing test choice) (part-least (others (map test choice)) lists choice sized cost least)

  -- and both join to the choice
  pub whole-joined : joined (map test choice) (passing test choice) (failing test choice) ≡ choice
  whole-joined = joined-parts (map test choice) choice (length-map choice test)
