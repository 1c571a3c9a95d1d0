-- The nearest picks for a word: they are in order, and where they go beyond a distance they have all that are nearer.
use Rattle.std.proofs.Common.{◌≡◌, ℕ, ◌<◌, ◌≤◌, Bool, true, false, nat_lt, if◌then◌else◌, List, [], ◌∷◌, ◌++◌, map, take, drop, length, Some, refl, sym, ap, subst, ◌∙◌, arith, ⊎_elim}
use Rattle.std.proofs.lemmas.List.{length-map, length-take, length-drop, take-append-drop}
use Rattle.std.proofs.lemmas.List.Elements.{Contains-append_right, Contains-append_cases}
use Rattle.std.specs.List.{AllByRecursion, Contains}
use Rattle.place_values.specs.First.{ranked, first, IsRanked}
use Rattle.place_values.specs.Laws.{ranked_is}
use Rattle.spatial_base.specs.Point.{Viewpoint, distance}
use Rattle.best_first.proofs.CostLaws.{upto_cost}
use Rattle.best_first.specs.Lists.{all_in, all_weaker, all_taken, flat_all}
use Rattle.place_values.specs.declared.hit.Hit.{Hit}
use Rattle.place_values.specs.declared.query.Expr.TheVariants.{Has}
use Rattle.place_values.specs.declared.query.Pick.{Pick}
use Rattle.place_values.specs.declared.query.Chosen.{Chosen}
use Rattle.place_values.specs.Hit.{comes_before, hits_linear}
use Rattle.rtree_nodes.specs.Slots.{NodeMap}
use Rattle.node_filter.specs.Numbers.{Numbers, impact_of}
use Rattle.node_filter.specs.Entries.{tree_places}
use Rattle.node_filter.specs.Hits.{hit_near, near_item}
use Rattle.group_search.specs.Choices.{IsChoice, IsWithin, IsCut, AreCut}
use Rattle.group_search.specs.Picks.{GoesBeyond}
use Rattle.collective_query.specs.TreePicks.{tree_picks, tree_lists, pick_from, word_hits, first_picks, first_lists}
use Rattle.group_search.specs.Tried.{IsChosen}
use Rattle.group_search.proofs.Members.{contains-later, contains-none, contains-cases, contains-map, map-all, all-ranked, among-ranked}
use Rattle.best_first.proofs.Histories.{contains_head as contains-here}
use Rattle.collective_query.proofs.TreePicks.{picks-made, hit-among}
use Rattle.boolean_queries.proofs.Histories.{all-contained}

-- of hits in order, none behind others costs less than one of them
before-behind : (xs ys : List Hit) (y : Hit) → IsRanked comes_before (xs ++ ys) → Contains ys y → AllByRecursion (λ (x : Hit). x.cost ≤ y.cost) xs
before-behind [] ys y ranks c = tt
before-behind (x ∷ xs) ys y ranks c =
    (upto_cost x y (all-contained (λ z. comes_before z x ≡ false) (xs ++ ys) y ranks.0 (Contains-append_right xs ys y c)), before-behind xs ys y ranks.1 c)

-- fewer than so many: none is behind them
none-behind : (k : ℕ) (hits : List Hit) (hit : Hit) → length (take k hits) < k → Contains (drop k hits) hit → ⊥
none-behind k hits hit few c = let less = c.1 in omega (arith, length-take k hits, length-drop k hits)

-- the nearest picks are picks of the tree's entries
pub first-among : (ids : Numbers) (at centre : Viewpoint) (nodes : NodeMap) (root : ℕ) (word : List ℕ) (pick : Pick) → Contains (first_picks ids at centre nodes root word) pick → Contains (tree_picks ids at nodes root word) pick
first-among ids at centre nodes root word pick c =
    let hits : List Hit = word_hits ids centre nodes root word in
    let P : Hit → Type 0 = λ one. Contains (tree_picks ids at nodes root word) (pick_from at word one) in
    let all : AllByRecursion P hits = all_weaker (Contains hits) P (hit-among ids at word nodes root centre) hits (all_in hits) in
    all-contained (Contains (tree_picks ids at nodes root word)) (first_picks ids at centre nodes root word) pick
    (map-all (Contains (tree_picks ids at nodes root word)) (pick_from at word) (take 5 (ranked comes_before hits)) (all_taken P 5 (ranked comes_before hits) (all-ranked hits_linear P hits all))) c

module _ (ids : Numbers) (at : Viewpoint) (nodes : NodeMap) (root : ℕ) (word : List ℕ) where
  abbrev hits : List Hit
  hits = word_hits ids at nodes root word

  abbrev in_order : List Hit
  in_order = ranked comes_before hits

  abbrev CostsDistance : Hit → Type 0
  CostsDistance hit = hit.cost ≡ distance at hit.point

  one-given : (P : Hit → Type 0) (there : Bool) (hit : Hit) → P hit → AllByRecursion P (if there then hit ∷ [] else [])
  one-given P true hit h = (h, tt)
  one-given P false hit h = tt

  hits-cost : AllByRecursion CostsDistance hits
  hits-cost =
      flat_all CostsDistance (near_item ids at (Some (Has word))) (tree_places nodes root)
      (all_weaker (Contains (tree_places nodes root)) (λ x. AllByRecursion CostsDistance (near_item ids at (Some (Has word)) x)) (λ x c. one-given CostsDistance (nat_lt 0 (impact_of ids x word)) (hit_near at x) refl)
      (tree_places nodes root) (all_in (tree_places nodes root)))

  firsts-cost : AllByRecursion CostsDistance (take 5 in_order)
  firsts-cost = all_taken CostsDistance 5 in_order (all-ranked hits_linear CostsDistance hits hits-cost)

  -- where there is none, no entry holds the word
  pub first-none : first_picks ids at at nodes root word ≡ [] → tree_picks ids at nodes root word ≡ []
  first-none none = picks-made ids at word nodes root at ∙ ap (map (pick_from at word)) (no-hits hits none)
    where
      some-first : (ordered : List Hit) (hit : Hit) → map (pick_from at word) (take 5 ordered) ≡ [] → Contains ordered hit → ⊥
      some-first [] hit none c = contains-none hit c
      some-first (h ∷ rest) hit none c = cc

      no-hits : (some : List Hit) → map (pick_from at word) (first comes_before 5 some) ≡ [] → some ≡ []
      no-hits [] none = refl
      no-hits (h ∷ rest) none = absurd (some-first (ranked comes_before (h ∷ rest)) h none (among-ranked hits_linear (h ∷ rest) h (contains-here h rest)))

  module _ (radius : ℕ) (beyond : GoesBeyond 5 radius (first_picks ids at at nodes root word)) where
    -- a hit behind them is farther
    far-behind : (hit : Hit) → CostsDistance hit → Contains (drop 5 in_order) hit → distance at hit.point ≤ radius → ⊥
    far-behind hit costs c close = ⊎_elim
        (λ (few : length (first_picks ids at at nodes root word) < 5). none-behind 5 in_order hit (let same = length-map (take 5 in_order) (pick_from at word) in omega arith) c)
        (λ (far : (pick : Pick) × Contains (first_picks ids at at nodes root word) pick × (radius < pick.dist)).
        let before = before-behind (take 5 in_order) (drop 5 in_order) hit (subst (IsRanked comes_before) (sym (take-append-drop 5 in_order)) (ranked_is hits_linear hits)) c in
        let near : AllByRecursion (λ (pick : Pick). pick.dist ≤ hit.cost) (first_picks ids at at nodes root word) = map-all (λ (pick : Pick). pick.dist ≤ hit.cost) (pick_from at word) (take 5 in_order) (each-near (take 5 in_order) before firsts-cost) in
        let low = all-contained (λ (pick : Pick). pick.dist ≤ hit.cost) (first_picks ids at at nodes root word) far.0 near far.1 in
        let high = far.2 in
        omega arith)
        beyond
      where
        each-near : (some : List Hit) → AllByRecursion (λ (x : Hit). x.cost ≤ hit.cost) some → AllByRecursion CostsDistance some → AllByRecursion (λ (x : Hit). distance at x.point ≤ hit.cost) some
        each-near [] low own = tt
        each-near (x ∷ some) low own = (let l = low.0 in let o = own.0 in omega arith, each-near some low.1 own.1)

    near-first : (hit : Hit) → Contains hits hit → distance at hit.point ≤ radius → Contains (first_picks ids at at nodes root word) (pick_from at word hit)
    near-first hit c close = ⊎_elim
        (λ (here : Contains (take 5 in_order) hit). contains-map (pick_from at word) (take 5 in_order) hit here)
        (λ (behind : Contains (drop 5 in_order) hit). absurd (far-behind hit (all-contained CostsDistance hits hit hits-cost c) behind close))
        (Contains-append_cases (take 5 in_order) (drop 5 in_order) hit (subst (λ (l : List Hit). Contains l hit) (sym (take-append-drop 5 in_order)) (among-ranked hits_linear hits hit c)))

    -- so they have all that are at most so far
    pub first-cut : IsCut (IsWithin at radius) (tree_picks ids at nodes root word) (first_picks ids at at nodes root word)
    first-cut = record {
      among = first-among ids at at nodes root word;
      whole = λ pick c close.
          let P : Pick → Type 0 = λ one. distance at one.point ≤ radius → Contains (first_picks ids at at nodes root word) one in
          let all : AllByRecursion P (map (pick_from at word) hits) = map-all P (pick_from at word) hits (all_weaker (Contains hits) (λ hit. P (pick_from at word hit)) near-first hits (all_in hits)) in
          all-contained P (map (pick_from at word) hits) pick all (subst (λ (picks : List Pick). Contains picks pick) (picks-made ids at word nodes root at) c) close;
    }

module _ (ids : Numbers) (at : Viewpoint) (nodes : NodeMap) (root : ℕ) where
  abbrev Firsts : List (List ℕ) → List (List Pick)
  Firsts words = first_lists ids at nodes root words

  abbrev All : List (List ℕ) → List (List Pick)
  All words = tree_lists ids at nodes root words

  -- a choice of the nearest picks is one of all
  pub first-choice : (words : List (List ℕ)) (choice : List Pick) → IsChoice (Firsts words) choice → IsChoice (All words) choice
  first-choice [] [] is = is
  first-choice [] (pick ∷ picks) is = absurd is
  first-choice (word ∷ words) [] is = absurd is
  first-choice (word ∷ words) (pick ∷ picks) is = (first-among ids at at nodes root word pick is.0, first-choice words picks is.1)

  -- and where a word has no nearest pick, it has none
  pub no-first : (words : List (List ℕ)) → Contains (Firsts words) [] → Contains (All words) []
  no-first [] none = absurd (contains-none [] none)
  no-first (word ∷ words) none = ⊎_elim
      (λ (here : first_picks ids at at nodes root word ≡ []). subst (λ (list : List Pick). Contains (list ∷ All words) []) (sym (first-none ids at nodes root word here)) (contains-here [] (All words)))
      (λ (later : Contains (Firsts words) []). contains-later (tree_picks ids at nodes root word) (All words) [] (no-first words later))
      (contains-cases (first_picks ids at at nodes root word) (Firsts words) [] none)

  -- so a choice of these with its cost is one of all
  pub first-chosen : (words : List (List ℕ)) (best : Chosen) → IsChosen at (Firsts words) best → IsChosen at (All words) best
  first-chosen words best is = record { choice = first-choice words best.picks is.choice; cost = is.cost }

  -- where they all go beyond a distance, they have all that are as near
  pub firsts-cut : (radius : ℕ) (words : List (List ℕ)) → AllByRecursion (GoesBeyond 5 radius) (Firsts words) → AreCut (IsWithin at radius) (All words) (Firsts words)
  firsts-cut radius [] beyond = tt
  firsts-cut radius (word ∷ words) beyond = (first-cut ids at nodes root word radius beyond.0, firsts-cut radius words beyond.1)
