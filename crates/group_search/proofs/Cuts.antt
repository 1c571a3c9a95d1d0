-- Lists that are cut to what counts, and choices that needn't be searched.
use Rattle.std.proofs.Common.{◌≡◌, false, List, [], ◌∷◌, ◌++◌, Some, sym, subst, ◌∙◌, ⊎_elim}
use Rattle.std.proofs.lemmas.List.Elements.{Contains-append_left, Contains-append_right, Contains-append_cases}
use Rattle.std.specs.List.{AllByRecursion, Contains}
use Rattle.best_first.specs.Lists.{all_in, all_weaker}
use Rattle.spatial_base.specs.Point.{Viewpoint}
use Rattle.place_values.specs.declared.query.Pick.{Pick}
use Rattle.place_values.specs.declared.query.Chosen.{Chosen}
use Rattle.place_values.specs.Group.{is_cheaper, least_of, choice_cost}
use Rattle.place_values.specs.GroupLaws.{choices_linear, least_cost}
use Rattle.group_search.specs.Choices.{IsChoice, IsCut, AreCut}
use Rattle.group_search.proofs.Least.{costed, least-among, least-first, least-some, least-is}
use Rattle.group_search.proofs.Joins.{choice-meets}
use Rattle.group_search.proofs.Members.{contains-none, contains-cases}
use Rattle.boolean_queries.proofs.Histories.{all-contained}

-- what counts in fewer cases
pub cut-wider : (counts others : Pick → Type 0) (all cut : List Pick) → ((pick : Pick) → others pick → counts pick) → IsCut counts all cut → IsCut others all cut
cut-wider counts others all cut wider is = record { among = is.among; whole = λ pick c other. is.whole pick c (wider pick other) }

module _ (counts : Pick → Type 0) where
  -- a choice of the cut lists is one of the lists
  pub cut-choice : (lists cuts : List (List Pick)) (choice : List Pick) → AreCut counts lists cuts → IsChoice cuts choice → IsChoice lists choice
  cut-choice [] [] choice cut is = is
  cut-choice [] (c ∷ cuts) choice cut is = absurd cut
  cut-choice (l ∷ lists) [] choice cut is = absurd cut
  cut-choice (l ∷ lists) (c ∷ cuts) [] cut is = absurd is
  cut-choice (l ∷ lists) (c ∷ cuts) (pick ∷ picks) cut is = (cut.0.among pick is.0, cut-choice lists cuts picks cut.1 is.1)

  -- and one of the lists whose picks count is one of the cut lists
  pub counted-choice : (lists cuts : List (List Pick)) (choice : List Pick) → AreCut counts lists cuts → IsChoice lists choice → AllByRecursion counts choice → IsChoice cuts choice
  counted-choice [] [] choice cut is all = is
  counted-choice [] (c ∷ cuts) choice cut is all = absurd cut
  counted-choice (l ∷ lists) [] choice cut is all = absurd cut
  counted-choice (l ∷ lists) (c ∷ cuts) [] cut is all = absurd is
  counted-choice (l ∷ lists) (c ∷ cuts) (pick ∷ picks) cut is all = (cut.0.whole pick is.0 all.0, counted-choice lists cuts picks cut.1 is.1 all.1)

  -- one list more, and its cut
  pub cut-push : (lists cuts : List (List Pick)) (list cut : List Pick) → AreCut counts lists cuts → IsCut counts list cut → AreCut counts (lists ++ list ∷ []) (cuts ++ cut ∷ [])
  cut-push [] [] list cut are is = (is, tt)
  cut-push [] (c ∷ cuts) list cut are is = absurd are
  cut-push (l ∷ lists) [] list cut are is = absurd are
  cut-push (l ∷ lists) (c ∷ cuts) list cut are is = (are.0, cut-push lists cuts list cut are.1 is)

  -- where nothing of a list is left, no choice has a pick of it that counts
  pub none-counted : (lists : List (List Pick)) (choice list : List Pick) → Contains lists list → IsCut counts list [] → IsChoice lists choice → AllByRecursion counts choice → ⊥
  none-counted lists choice list c cut is all =
      let met = choice-meets lists choice list is c in
      contains-none met.0 (cut.whole met.0 met.2 (all-contained counts choice met.0 all met.1))

-- the least of some choices has its own cost
own-cost : (at : Viewpoint) (choices : List (List Pick)) (found : Chosen) → least_of at choices ≡ Some found → Some found ≡ Some (costed at found.picks)
own-cost at choices found is = let own = least_cost (choice_cost at) choices found is in λ i. Some record { cost = own i; picks = found.picks }

-- Choices that don't come before one that was tried needn't be.
pub covered-least : (at : Viewpoint) (tried some all : List (List Pick)) (best : Chosen) → Some best ≡ least_of at tried → ((choice : List Pick) → Contains some choice → Contains all choice)
    → ((choice : List Pick) → Contains all choice → (other : List Pick) × Contains (best.picks ∷ some) other × (is_cheaper at choice other ≡ false)) → least_of at (tried ++ some) ≡ least_of at (tried ++ all)
covered-least at tried some all best was own covered =
    let whole : List (List Pick) = tried ++ some in
    let more : List (List Pick) = tried ++ all in
    let best_among : Contains whole best.picks = Contains-append_left tried some best.picks (least-among at tried best (sym was)) in
    let least = least-some at whole best.picks best_among in
    let found : Chosen = least.0 in
    let first = least-first at whole found least.1 in
    let not_before : (choice : List Pick) → Contains whole choice → is_cheaper at choice found.picks ≡ false = λ choice c. all-contained (λ picks. is_cheaper at picks found.picks ≡ false) whole choice first c in
    let among : Contains more found.picks = ⊎_elim (λ (c : Contains tried found.picks). Contains-append_left tried all found.picks c) (λ (c : Contains some found.picks). Contains-append_right tried all found.picks (own found.picks c))
    (Contains-append_cases tried some found.picks (least-among at whole found least.1)) in
    let none_before : (choice : List Pick) → Contains more choice → is_cheaper at choice found.picks ≡ false = λ choice c. ⊎_elim
    (λ (here : Contains tried choice). not_before choice (Contains-append_left tried some choice here))
    (λ (there : Contains all choice).
    let cover = covered choice there in
    let other : List Pick = cover.0 in
    let among_whole : Contains whole other = ⊎_elim
    (λ (same : best.picks ≡ other). subst (Contains whole) same best_among)
    (λ (later : Contains some other). Contains-append_right tried some other later)
    (contains-cases best.picks some other cover.1) in
    (choices_linear (choice_cost at)).chain found.picks other choice (not_before other among_whole) cover.2)
    (Contains-append_cases tried all choice c) in
    least.1 ∙ own-cost at whole found least.1 ∙ sym (least-is at more found.picks among (all_weaker (Contains more) (λ choice. is_cheaper at choice found.picks ≡ false) none_before more (all_in more)))
