use Rattle.std.proofs.Common.{◌≡◌, ◌++◌, ◌∷◌, [], ◌∙◌, ◌⊎◌, ℕ, ◌+◌, zero, suc, insert, List, Vec, Global, inl, inr, ap, sym, subst, take, ⊎_elim}
use Rattle.std.proofs.lemmas.List.{map-append, take_more, take_all}
use Rattle.std.proofs.lemmas.List.Elements.{Contains-append_left, Contains-append_right, Contains-append_cases, Contains-get_or}
use Rattle.std.specs.List.{AllByRecursion, Contains}
use Rattle.place_values.specs.declared.query.Pick.{Pick}
use Rattle.place_values.specs.Search.{lists_in}
use Rattle.group_search.specs.Picks.{AreNear}
use Rattle.group_search.proofs.Members.{contains-later, contains-cases, contains-none}
use Rattle.best_first.proofs.Histories.{contains_head as contains-here}
use Rattle.group_search.proofs.joining.by_length.Goals as goal
use Rattle.boolean_queries.proofs.Histories.{all-contained}

-- what a list is put into has it, and what it had, and nothing else
inserted-cases : (lists : List (Vec Pick Global)) (at : ℕ) (one : Vec Pick Global) (list : List Pick) → Contains (lists_in (insert lists at one)) list → (one.items ≡ list) ⊎ Contains (lists_in lists) list
inserted-cases lists zero one list c = contains-cases one.items (lists_in lists) list c
inserted-cases [] (suc at) one list c = contains-cases one.items [] list c
inserted-cases (first ∷ lists) (suc at) one list c = ⊎_elim
    (λ (same : first.items ≡ list). inr (subst (Contains (first.items ∷ lists_in lists)) same (contains-here first.items (lists_in lists))))
    (λ (later : Contains (lists_in (insert lists at one)) list). ⊎_elim
    (λ (same : one.items ≡ list). inl same)
    (λ (old : Contains (lists_in lists) list). inr (contains-later first.items (lists_in lists) list old))
    (inserted-cases lists at one list later))
    (contains-cases first.items (lists_in (insert lists at one)) list c)

inserted-here : (lists : List (Vec Pick Global)) (at : ℕ) (one : Vec Pick Global) → Contains (lists_in (insert lists at one)) one.items
inserted-here lists zero one = contains-here one.items (lists_in lists)
inserted-here [] (suc at) one = contains-here one.items []
inserted-here (first ∷ lists) (suc at) one = contains-later first.items (lists_in (insert lists at one)) one.items (inserted-here lists at one)

inserted-later : (lists : List (Vec Pick Global)) (at : ℕ) (one : Vec Pick Global) (list : List Pick) → Contains (lists_in lists) list → Contains (lists_in (insert lists at one)) list
inserted-later lists zero one list c = contains-later one.items (lists_in lists) list c
inserted-later [] (suc at) one list c = absurd (contains-none list c)
inserted-later (first ∷ lists) (suc at) one list c = ⊎_elim
    (λ (same : first.items ≡ list). subst (Contains (first.items ∷ lists_in (insert lists at one))) same (contains-here first.items (lists_in (insert lists at one))))
    (λ (later : Contains (lists_in lists) list). contains-later first.items (lists_in (insert lists at one)) list (inserted-later lists at one list later))
    (contains-cases first.items (lists_in lists) list c)

inserted-near : (lists : List (Vec Pick Global)) (at : ℕ) (one : Vec Pick Global) → AreNear one.items → AllByRecursion (λ (list : Vec Pick Global). AreNear list.items) lists
    → AllByRecursion (λ (list : Vec Pick Global). AreNear list.items) (insert lists at one)
inserted-near lists zero one near all = (near, all)
inserted-near [] (suc at) one near all = (near, tt)
inserted-near (first ∷ lists) (suc at) one near all = (all.0, inserted-near lists at one near all.1)

pub loop-list-preserved : goal.loop-list-preserved
loop-list-preserved c =
    let h = c.loop-list.invariant in
    let lists = c.args.lists.now in
    let i = c.loop-list.list-index in
    let sorted = c.loop-list.sorted.items in
    let at = c.rank_of-at.result in
    let copy = c.in_ok-copy.copy in
    let one : Vec Pick Global = c.list-item.result in
    let items : copy.items ≡ one.items = c.in_ok-copy.ensures.items ∙ c.as_slice.ensures.value in
    let put : c.insert.new.self.items ≡ insert sorted at copy = c.in_ok-insert.ensures.items in
    let taken : lists_in (take (i + 1) lists) ≡ lists_in (take i lists) ++ one.items ∷ [] =
    ap lists_in (take_more lists i one c.loop-list-test.true ∙ ap (λ l. take i lists ++ l ∷ []) (sym c.list-item.is)) ∙ map-append (λ (list : Vec Pick Global). list.items) (take i lists) (one ∷ []) in
    let among : Contains lists one = subst (Contains lists) (sym c.list-item.is) (Contains-get_or lists i one c.loop-list-test.true) in
    let near : AreNear copy.items = subst AreNear (sym items) (all-contained (λ (list : Vec Pick Global). AreNear list.items) lists one c.requires among) in
    record {
      near = subst (AllByRecursion (λ (list : Vec Pick Global). AreNear list.items)) (sym put) (inserted-near sorted at copy near h.near);
      among = λ list there. subst (λ (l : List (List Pick)). Contains l list) (sym taken)
          (⊎_elim
          (λ (same : copy.items ≡ list). Contains-append_right (lists_in (take i lists)) (one.items ∷ []) list (subst (Contains (one.items ∷ [])) (sym items ∙ same) (contains-here one.items [])))
          (λ (old : Contains (lists_in sorted) list). Contains-append_left (lists_in (take i lists)) (one.items ∷ []) list (h.among list old))
          (inserted-cases sorted at copy list (subst (λ (l : List (Vec Pick Global)). Contains (lists_in l) list) put there)));
      whole = λ list there. subst (λ (l : List (Vec Pick Global)). Contains (lists_in l) list) (sym put)
          (⊎_elim
          (λ (early : Contains (lists_in (take i lists)) list). inserted-later sorted at copy list (h.whole list early))
          (λ (last : Contains (one.items ∷ []) list). ⊎_elim
          (λ (same : one.items ≡ list). subst (Contains (lists_in (insert sorted at copy))) (items ∙ same) (inserted-here sorted at copy))
          (λ (later : Contains [] list). absurd (contains-none list later))
          (contains-cases one.items [] list last))
          (Contains-append_cases (lists_in (take i lists)) (one.items ∷ []) list (subst (λ (l : List (List Pick)). Contains l list) taken there)));
    }

pub returns-clause-among : goal.returns-clause-among
returns-clause-among c = λ list there. subst (λ (l : List (Vec Pick Global)). Contains (lists_in l) list) (take_all c.loop-list.list-index c.args.lists.now c.loop-list-test.false) (c.loop-list.invariant.among list there)

pub returns-clause-whole : goal.returns-clause-whole
returns-clause-whole c = λ list there. c.loop-list.invariant.whole list (subst (λ (l : List (Vec Pick Global)). Contains (lists_in l) list) (sym (take_all c.loop-list.list-index c.args.lists.now c.loop-list-test.false)) there)
