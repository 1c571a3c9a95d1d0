-- What a tree's entries give to the words of a set.
use Rattle.std.proofs.Common.{◌≡◌, ℕ, Bool, true, false, List, [], ◌∷◌, length, take, None, refl, sym, ap, subst, ◌∙◌, ⊎_elim}
use Rattle.std.specs.List.{AllByRecursion, Contains}
use Rattle.std.proofs.lemmas.Bool.{cases_Bool}
use Rattle.spatial_base.specs.Point.{Viewpoint}
use Rattle.place_values.specs.First.{placed, ranked}
use Rattle.place_values.specs.declared.query.Pick.{Pick}
use Rattle.place_values.specs.Group.{product, least_by, head_by, is_less}
use Rattle.place_values.specs.Sum.{sum_cost}
use Rattle.rtree_nodes.specs.Slots.{Item, NodeMap}
use Rattle.best_first.proofs.Histories.{contains_head as contains-here}
use Rattle.node_filter.specs.Numbers.{Numbers}
use Rattle.group_search.specs.Choices.{IsChoice}
use Rattle.group_search.proofs.Members.{contains-none, contains-cases, contains-map}
use Rattle.group_search.proofs.Products.{choice-among, all-choices, product-none}
use Rattle.collective_query.specs.TreePicks.{pick_in, tree_picks, tree_lists}
use Rattle.group_sum.specs.Named.{AreNamedOnce}
use Rattle.group_sum.specs.Sets.{flags_from, flagged, in_set}
use Rattle.group_sum.specs.Shared.{AreNamed, IsNearestShared}
use Rattle.group_sum.proofs.Masks.{in-set-map}
use Rattle.group_sum.proofs.SharedHits.{pick-of}

-- a choice's members for the words of a set are a choice for these
flagged-choice : {X : Type 0} (flags : List Bool) (lists : List (List X)) (choice : List X) → IsChoice lists choice → IsChoice (flagged flags lists) (flagged flags choice)
flagged-choice [] lists choice is = tt
flagged-choice (flag ∷ flags) [] [] is = tt
flagged-choice (flag ∷ flags) [] (x ∷ xs) is = absurd is
flagged-choice (flag ∷ flags) (list ∷ lists) [] is = absurd is
flagged-choice (true ∷ flags) (list ∷ lists) (x ∷ xs) is = (is.0, flagged-choice flags lists xs is.1)
flagged-choice (false ∷ flags) (list ∷ lists) (x ∷ xs) is = flagged-choice flags lists xs is.1

-- where there is no least one, there is none
none-least : (choices : List (List Pick)) → least_by sum_cost choices ≡ None → choices ≡ []
none-least [] none = refl
none-least (choice ∷ choices) none = absurd (some-placed choice (ranked (is_less sum_cost) choices) none)
  where
    some-placed : (x : List Pick) (ys : List (List Pick)) → head_by sum_cost (take 1 (placed (is_less sum_cost) x ys)) ≡ None → ⊥
    some-placed x [] none = cc
    some-placed x (y ∷ ys) none = ⊎_elim
        (λ (t : is_less sum_cost y x ≡ true). (let n = rw t at none in cc))
        (λ (f : is_less sum_cost y x ≡ false). (let n = rw f at none in cc))
        (cases_Bool (is_less sum_cost y x))

-- where a set has no choice, all words together have none
pub none-whole : (set : ℕ) (lists : List (List Pick)) → least_by sum_cost (product (in_set set lists)) ≡ None → least_by sum_cost (product lists) ≡ None
none-whole set lists none = ap (least_by sum_cost) (nothing (product lists) (all-choices lists))
  where
    nothing : (choices : List (List Pick)) → AllByRecursion (IsChoice lists) choices → choices ≡ []
    nothing [] all = refl
    nothing (choice ∷ choices) all =
        absurd (contains-none (flagged (flags_from set 0 (length lists)) choice) (subst (λ (l : List (List Pick)). Contains l (flagged (flags_from set 0 (length lists)) choice)) (none-least (product (in_set set lists)) none)
        (choice-among (in_set set lists) (flagged (flags_from set 0 (length lists)) choice) (flagged-choice (flags_from set 0 (length lists)) lists choice all.0))))

module _ (ids : Numbers) (at : Viewpoint) (nodes : NodeMap) (root : ℕ) where
  abbrev lists_for : List (List ℕ) → List (List Pick)
  lists_for words = tree_lists ids at nodes root words

  -- the picks for the words of a set
  pub set-lists : (set : ℕ) (words : List (List ℕ)) → lists_for (in_set set words) ≡ in_set set (lists_for words)
  set-lists set words = sym (in-set-map (tree_picks ids at nodes root) set words)

  -- a list is that of a word
  list-of : (words : List (List ℕ)) (list : List Pick) → Contains (lists_for words) list → (word : List ℕ) × (list ≡ tree_picks ids at nodes root word)
  list-of [] list c = absurd (contains-none list c)
  list-of (word ∷ words) list c = ⊎_elim
      (λ (same : tree_picks ids at nodes root word ≡ list). (word, sym same))
      (λ (later : Contains (lists_for words) list). list-of words list later)
      (contains-cases (tree_picks ids at nodes root word) (lists_for words) list c)

  -- in each list a key stands once
  pub lists-named : AreNamedOnce nodes root → (words : List (List ℕ)) → AreNamed (lists_for words)
  lists-named once words list x y among cx cy same =
      let a = list-of words list among in
      let p = pick-of ids at nodes root a.0 x (subst (λ (l : List Pick). Contains l x) a.1 cx) in
      let q = pick-of ids at nodes root a.0 y (subst (λ (l : List Pick). Contains l y) a.1 cy) in
      let item : p.item ≡ q.item = once p.item q.item p.among q.among (sym (ap (λ (i : Pick). i.key) p.is) ∙ same ∙ ap (λ (i : Pick). i.key) q.is) in
      p.is ∙ ap (pick_in at a.0) item ∙ sym q.is

  -- where one of the words has no place, there is no choice
  pub lacks-one : (words : List (List ℕ)) (word : List ℕ) → Contains words word → IsNearestShared at (word ∷ []) (lists_for (word ∷ [])) None None → least_by sum_cost (product (lists_for words)) ≡ None
  lacks-one words word c none = ap (least_by sum_cost) (product-none (lists_for words) (subst (Contains (lists_for words)) (no-pick (tree_picks ids at nodes root word) none) (contains-map (tree_picks ids at nodes root) words word c)))
    where
      no-pick : (list : List Pick) → IsNearestShared at (word ∷ []) (list ∷ []) None None → list ≡ []
      no-pick [] none = refl
      no-pick (pick ∷ list) none = absurd (none pick [] (contains-here pick list, tt) refl)
