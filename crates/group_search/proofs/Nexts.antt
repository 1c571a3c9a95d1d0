-- The least picks with which a front can be completed.
use Rattle.std.proofs.Common.{◌≡◌, ℕ, true, false, List, [], ◌∷◌, ◌++◌, Option, Some, None, IfSome, IsSomeAnd, refl, sym, ap, subst, ◌∙◌, ⊎_elim}
use Rattle.std.proofs.lemmas.Bool.{cases_Bool}
use Rattle.std.proofs.lemmas.List.{append_assoc}
use Rattle.std.proofs.lemmas.List.Elements.{Contains-append_left, Contains-append_right}
use Rattle.std.specs.Cmp.Lexicographic.{slice_cmp}
use Rattle.std.specs.Ordering.{is_lt, ordering_then}
use Rattle.std.specs.declared.cmp.Ordering.{Ordering}
use Rattle.std.specs.declared.cmp.Ordering.TheVariants.{Less, Equal, Greater}
use Rattle.place_values.specs.First.{IsLinear}
use Rattle.place_values.specs.Laws.{linear_from_total}
use Rattle.best_first.specs.Lists.{all_append, all_weaker}
use Rattle.spatial_base.specs.Point.{Viewpoint}
use Rattle.place_values.specs.declared.query.Pick.{Pick}
use Rattle.place_values.specs.Group.{pick_cmp}
use Rattle.place_values.specs.GroupLaws.{pick_cmp_total, pick_cmp_same}
use Rattle.group_search.specs.Choices.{IsChoice}
use Rattle.group_search.specs.Fronts.{Completes, IsNext, HasLeastKeys}
use Rattle.group_search.proofs.Fronts.{completes-front}
use Rattle.best_first.proofs.Histories.{contains_head as contains-here}
use Rattle.boolean_queries.proofs.Histories.{all-contained}

-- picks have one order
picks-linear : IsLinear (λ a b. is_lt (pick_cmp a b))
picks-linear = linear_from_total pick_cmp_total pick_cmp_same

-- none comes before itself
itself : (pick : Pick) → is_lt (pick_cmp pick pick) ≡ false
itself pick = ⊎_elim (λ (t : is_lt (pick_cmp pick pick) ≡ true). picks-linear.one_way pick pick t) (λ f. f) (cases_Bool (is_lt (pick_cmp pick pick)))

module _ (at : Viewpoint) (lists : List (List Pick)) (most : ℕ) (front picks : List Pick) (pick : Pick) where
  -- one more that comes after the next one
  pub next-passed : (next : Option Pick) → IsNext at lists most front picks next → IsSomeAnd next (λ other. is_lt (pick_cmp pick other) ≡ false) → IsNext at lists most front (picks ++ pick ∷ []) next
  next-passed None is after = absurd after
  next-passed (Some next) is after =
      (Contains-append_left picks (pick ∷ []) next is.0, is.1, all_append (λ p. Completes at lists most (front ++ p ∷ []) → is_lt (pick_cmp p next) ≡ false) picks (pick ∷ []) is.2 ((λ _. after), tt))

  -- one more that doesn't complete the front
  pub next-refused : (next : Option Pick) → IsNext at lists most front picks next → (Completes at lists most (front ++ pick ∷ []) → ⊥) → IsNext at lists most front (picks ++ pick ∷ []) next
  next-refused None is refused = all_append (λ p. Completes at lists most (front ++ p ∷ []) → ⊥) picks (pick ∷ []) is (refused, tt)
  next-refused (Some next) is refused =
      (Contains-append_left picks (pick ∷ []) next is.0, is.1, all_append (λ p. Completes at lists most (front ++ p ∷ []) → is_lt (pick_cmp p next) ≡ false) picks (pick ∷ []) is.2 ((λ done. absurd (refused done)), tt))

  -- one more that does, and comes first
  pub next-taken : (next : Option Pick) → IsNext at lists most front picks next → IfSome next (λ other. is_lt (pick_cmp pick other) ≡ true) → Completes at lists most (front ++ pick ∷ []) → IsNext at lists most front (picks ++ pick ∷ []) (Some pick)
  next-taken None is first done =
      let Fits : Pick → Type 0 = λ p. Completes at lists most (front ++ p ∷ []) in (
        Contains-append_right picks (pick ∷ []) pick (contains-here pick []),
        done,
        all_append (λ p. Fits p → is_lt (pick_cmp p pick) ≡ false) picks (pick ∷ []) (all_weaker (λ p. Fits p → ⊥) (λ p. Fits p → is_lt (pick_cmp p pick) ≡ false) (λ p refused fits. absurd (refused fits)) picks is) ((λ _. itself pick), tt),
      )
  next-taken (Some next) is first done =
      let Fits : Pick → Type 0 = λ p. Completes at lists most (front ++ p ∷ []) in
      let before = picks-linear.one_way pick next first in (
        Contains-append_right picks (pick ∷ []) pick (contains-here pick []),
        done,
        all_append (λ p. Fits p → is_lt (pick_cmp p pick) ≡ false) picks (pick ∷ [])
            (all_weaker (λ p. Fits p → is_lt (pick_cmp p next) ≡ false) (λ p. Fits p → is_lt (pick_cmp p pick) ≡ false) (λ p after fits. picks-linear.chain pick next p before (after fits)) picks is.2) ((λ _. itself pick), tt),
      )

-- the least pick, and then the least others
module _ (at : Viewpoint) (firsts lists : List (List Pick)) (most : ℕ) (list front longer new : List Pick) (pick : Pick) (longer_is : longer ≡ front ++ pick ∷ []) (next : IsNext at lists most front list (Some pick))
    (rest : HasLeastKeys at firsts lists most longer new)
  where
    keys-after : (other : Pick) (others : List Pick) (o : Ordering) → pick_cmp other pick ≡ o → is_lt (pick_cmp other pick) ≡ false → IsChoice firsts others → Completes at lists most (front ++ other ∷ others)
        → is_lt (ordering_then o (slice_cmp pick_cmp others rest.picks)) ≡ false
    keys-after other others Less is after one done = absurd (cc)
    keys-after other others Greater is after one done = refl
    keys-after other others Equal is after one done =
        let same : other ≡ pick = pick_cmp_same other pick is in
        rest.least others one (subst (Completes at lists most)
        (ap (λ p. front ++ p ∷ others) same ∙ sym (append_assoc front (pick ∷ []) others) ∙ ap (λ f. f ++ others) (sym longer_is)) done)

    least-keys : (choice : List Pick) → IsChoice (list ∷ firsts) choice → Completes at lists most (front ++ choice) → is_lt (slice_cmp pick_cmp choice (pick ∷ rest.picks)) ≡ false
    least-keys [] one done = absurd one
    least-keys (other ∷ others) one done =
        let alone : Completes at lists most (front ++ other ∷ []) = completes-front at lists most (front ++ other ∷ []) others (subst (Completes at lists most) (sym (append_assoc front (other ∷ []) others)) done) in
        keys-after other others (pick_cmp other pick) refl (all-contained (λ p. Completes at lists most (front ++ p ∷ []) → is_lt (pick_cmp p pick) ≡ false) list other next.2 one.0 alone) one.1 done

    pub has-least : HasLeastKeys at (list ∷ firsts) lists most front new
    has-least = record {
      picks = pick ∷ rest.picks;
      is = rest.is ∙ ap (λ f. f ++ rest.picks) longer_is ∙ append_assoc front (pick ∷ []) rest.picks;
      choice = (next.0, rest.choice);
      within = rest.within;
      least = least-keys;
    }
