-- The nearest place that holds all of some words, as the nearest place that has a pick for each of them.
use Rattle.std.proofs.Common.{◌≡◌, ℕ, ◌<◌, ◌≤◌, Bool, true, false, ◌&&◌, nat_lt, if◌then◌else◌, List, [], ◌∷◌, take, Option, Some, None, refl, sym, ap, subst, ◌∙◌, arith, ⊎_elim}
use Rattle.std.specs.List.{AllByRecursion, Contains, list_all, flat_map}
use Rattle.std.specs.Ordering.{nat_cmp, is_eq, is_lt, ordering_then}
use Rattle.std.specs.declared.cmp.Ordering.{Ordering}
use Rattle.std.specs.declared.cmp.Ordering.TheVariants.{Less, Equal, Greater}
use Rattle.std.proofs.lemmas.Bool.{cases_Bool, leb-true, leb-false}
use Rattle.spatial_base.specs.Key.{Name, key_cmp, key_cmp_same}
use Rattle.spatial_base.specs.Point.{Viewpoint, distance}
use Rattle.place_values.specs.First.{ranked, first, IsRanked}
use Rattle.place_values.specs.Laws.{ranked_is}
use Rattle.place_values.specs.declared.hit.Hit.{Hit}
use Rattle.place_values.specs.declared.query.Expr.{Expr}
use Rattle.place_values.specs.declared.query.Pick.{Pick}
use Rattle.place_values.specs.Hit.{comes_before, hits_linear}
use Rattle.place_values.specs.Sum.{is_same_place}
use Rattle.rtree_nodes.specs.Slots.{Item, NodeMap}
use Rattle.best_first.specs.Cuts.{is_affordable, affordable}
use Rattle.best_first.specs.Lists.{all_in, all_weaker, flat_all}
use Rattle.best_first.proofs.CostLaws.{below_cost}
use Rattle.best_first.proofs.Histories.{contains_head as contains-here}
use Rattle.best_first.proofs.Limits.{all-affordable}
use Rattle.node_filter.specs.Numbers.{Numbers, impact_of}
use Rattle.node_filter.specs.Entries.{name_of, tree_places}
use Rattle.node_filter.specs.Filters.{admits}
use Rattle.node_filter.specs.Hits.{hit_near, near_item}
use Rattle.boolean_queries.proofs.Histories.{all-contained}
use Rattle.group_search.specs.Choices.{IsChoice}
use Rattle.group_search.proofs.Members.{contains-later, contains-none, contains-cases, contains-flat, all-ranked, ranked-all, among-ranked}
use Rattle.collective_query.specs.TreePicks.{pick_in, pick_item, tree_picks, tree_lists}
use Rattle.group_sum.specs.Held.{holds_all, shared_item, shared_hits, head_hit}
use Rattle.group_sum.specs.Named.{AreNamedOnce}
use Rattle.group_sum.specs.Splits.{is_one_place}
use Rattle.group_sum.specs.Shared.{shared_picks, IsBeyond, IsNearestShared}

and-parts : (a b : Bool) → (a && b) ≡ true → (a ≡ true) × (b ≡ true)
and-parts true b h = (refl, h)
and-parts false b h = absurd (cc)

both-true : (a b : Bool) → a ≡ true → b ≡ true → (a && b) ≡ true
both-true a b h k = ap (λ (x : Bool). x && b) h ∙ k

equal-is : (o : Ordering) → is_eq o ≡ true → o ≡ Equal
equal-is Less h = absurd (cc)
equal-is Equal h = refl
equal-is Greater h = absurd (cc)

-- what isn't before by three parts isn't before by two
front-later : (a b c : Ordering) → is_lt (ordering_then a (ordering_then b c)) ≡ false → is_lt (ordering_then a b) ≡ false
front-later Less b c h = h
front-later Equal Less c h = h
front-later Equal Equal c h = refl
front-later Equal Greater c h = h
front-later Greater b c h = h

-- an affordable hit is among the affordable ones
affordable-in : (limit : Option ℕ) (hits : List Hit) (hit : Hit) → Contains hits hit → is_affordable limit hit ≡ true → Contains (affordable limit hits) hit
affordable-in limit [] hit c fine = absurd (contains-none hit c)
affordable-in limit (h ∷ hits) hit c fine = ⊎_elim
    (λ (same : h ≡ hit).
    let one : is_affordable limit h ≡ true = ap (is_affordable limit) same ∙ fine in
    subst (λ (b : Bool). Contains (if b then h ∷ affordable limit hits else affordable limit hits) hit) (sym one)
    (subst (Contains (h ∷ affordable limit hits)) same (contains-here h (affordable limit hits))))
    (λ (later : Contains hits hit). behind (is_affordable limit h) (affordable-in limit hits hit later fine))
    (contains-cases h hits hit c)
  where
    behind : (b : Bool) → Contains (affordable limit hits) hit → Contains (if b then h ∷ affordable limit hits else affordable limit hits) hit
    behind true c = contains-later h (affordable limit hits) hit c
    behind false c = c

-- where the first one is missing, there is none
none-first : (hits : List Hit) (hit : Hit) → first comes_before 1 hits ≡ [] → Contains hits hit → ⊥
none-first hits hit none c = missing (ranked comes_before hits) none (among-ranked hits_linear hits hit c)
  where
    missing : (in_order : List Hit) → take 1 in_order ≡ [] → Contains in_order hit → ⊥
    missing [] none c = contains-none hit c
    missing (h ∷ rest) none c = cc

-- the first one is one of them
first-in : (P : Hit → Type 0) (hits : List Hit) (hit : Hit) (rest : List Hit) → first comes_before 1 hits ≡ hit ∷ rest → AllByRecursion P hits → P hit
first-in P hits hit rest is all = head (ranked comes_before hits) is (all-ranked hits_linear P hits all)
  where
    head : (in_order : List Hit) → take 1 in_order ≡ hit ∷ rest → AllByRecursion P in_order → P hit
    head [] is all = absurd (cc)
    head (h ∷ later) is all = let same : h ≡ hit = cc in subst P same all.0

-- and none comes before it
first-leads : (hits : List Hit) (hit : Hit) (rest : List Hit) → first comes_before 1 hits ≡ hit ∷ rest → AllByRecursion (λ y. comes_before y hit ≡ false) hits
first-leads hits hit rest is = ranked-all hits_linear (λ y. comes_before y hit ≡ false) hits (leads (ranked comes_before hits) (ranked_is hits_linear hits) is)
  where
    itself : (h : Hit) → comes_before h h ≡ false
    itself h = ⊎_elim (λ (t : comes_before h h ≡ true). hits_linear.one_way h h t) (λ f. f) (cases_Bool (comes_before h h))

    leads : (in_order : List Hit) → IsRanked comes_before in_order → take 1 in_order ≡ hit ∷ rest → AllByRecursion (λ y. comes_before y hit ≡ false) in_order
    leads [] ranks is = tt
    leads (h ∷ later) ranks is = let same : h ≡ hit = cc in subst (λ one. AllByRecursion (λ y. comes_before y one ≡ false) (h ∷ later)) same (itself h, ranks.0)

-- what doesn't come before a hit is no nearer, by distance and then by key
later-nearer : (other hit : Hit) → comes_before other hit ≡ false → is_lt (ordering_then (nat_cmp other.cost hit.cost) (key_cmp other.key hit.key)) ≡ false
later-nearer other hit h = front-later (nat_cmp other.cost hit.cost) (key_cmp other.key hit.key) _ h

-- what isn't affordable is beyond the limit
beyond : (limit : Option ℕ) (hit : Hit) (dist : ℕ) → dist ≡ hit.cost → is_affordable limit hit ≡ false → IsBeyond limit dist
beyond None hit dist e dear = absurd (cc)
beyond (Some limit) hit dist e dear = let more = leb-false hit.cost limit dear in omega arith

-- and comes before none that is affordable
dearer : (limit : Option ℕ) (hit other : Hit) → is_affordable limit hit ≡ true → is_affordable limit other ≡ false → comes_before other hit ≡ false
dearer None hit other fine dear = absurd (cc)
dearer (Some limit) hit other fine dear =
    let less = leb-true hit.cost limit fine in
    let more = leb-false other.cost limit dear in
    below_cost hit other (omega arith)

all-fine : (limit : Option ℕ) (hits : List Hit) → AllByRecursion (λ h. is_affordable limit h ≡ true) (affordable limit hits)
all-fine limit [] = tt
all-fine limit (h ∷ hits) = one-more (is_affordable limit h) refl (all-fine limit hits)
  where
    one-more : (b : Bool) → is_affordable limit h ≡ b → AllByRecursion (λ h. is_affordable limit h ≡ true) (affordable limit hits) → AllByRecursion (λ h. is_affordable limit h ≡ true) (if b then h ∷ affordable limit hits else affordable limit hits)
    one-more true e rest = (e, rest)
    one-more false e rest = rest

module _ (ids : Numbers) (at : Viewpoint) (nodes : NodeMap) (root : ℕ) where
  abbrev places : List Item
  places = tree_places nodes root

  -- the pick is one of an entry that holds the word
  pub record IsPickOf (word : List ℕ) (pick : Pick) : Type 0 where
    pub item : Item
    pub among : Contains places item
    pub holds : nat_lt 0 (impact_of ids item word) ≡ true
    pub is : pick ≡ pick_in at word item

  one-pick : (word : List ℕ) (x : Item) → Contains places x → (there : Bool) → nat_lt 0 (impact_of ids x word) ≡ there → AllByRecursion (IsPickOf word) (if there then pick_in at word x ∷ [] else [])
  one-pick word x c true e = (record { item = x; among = c; holds = e; is = refl }, tt)
  one-pick word x c false e = tt

  pub pick-of : (word : List ℕ) (pick : Pick) → Contains (tree_picks ids at nodes root word) pick → IsPickOf word pick
  pick-of word pick c =
      all-contained (IsPickOf word) (tree_picks ids at nodes root word) pick
      (flat_all (IsPickOf word) (pick_item ids at word) places
      (all_weaker (Contains places) (λ x. AllByRecursion (IsPickOf word) (pick_item ids at word x)) (λ x in_tree. one-pick word x in_tree (nat_lt 0 (impact_of ids x word)) refl) places (all_in places))) c

  -- and an entry that holds the word has a pick
  pub has-pick : (word : List ℕ) (x : Item) → Contains places x → nat_lt 0 (impact_of ids x word) ≡ true → Contains (tree_picks ids at nodes root word) (pick_in at word x)
  has-pick word x c holds = contains-flat (pick_item ids at word) places x (pick_in at word x) c (rw holds (contains-here (pick_in at word x) []))

  -- the hit is one of an entry that holds all of the words
  pub record IsHitOf (words : List (List ℕ)) (hit : Hit) : Type 0 where
    pub item : Item
    pub among : Contains places item
    pub holds : holds_all (impact_of ids item) words ≡ true
    pub is : hit ≡ hit_near at item

  module _ (words : List (List ℕ)) where
    abbrev hits : List Hit
    hits = shared_hits ids at nodes root words

    one-hit : (x : Item) → Contains places x → (there : Bool) → holds_all (impact_of ids x) words ≡ there → AllByRecursion (IsHitOf words) (if there then hit_near at x ∷ [] else [])
    one-hit x c true e = (record { item = x; among = c; holds = e; is = refl }, tt)
    one-hit x c false e = tt

    hits-of : AllByRecursion (IsHitOf words) hits
    hits-of =
        flat_all (IsHitOf words) (shared_item ids at words) places
        (all_weaker (Contains places) (λ x. AllByRecursion (IsHitOf words) (shared_item ids at words x)) (λ x in_tree. one-hit x in_tree (holds_all (impact_of ids x) words) refl) places (all_in places))

    has-hit : (x : Item) → Contains places x → holds_all (impact_of ids x) words ≡ true → Contains hits (hit_near at x)
    has-hit x c holds = contains-flat (shared_item ids at words) places x (hit_near at x) c (rw holds (contains-here (hit_near at x) []))

  -- the hit's place has a pick for each of the words
  picks-shared : (words : List (List ℕ)) (x : Item) → Contains places x → holds_all (impact_of ids x) words ≡ true → IsChoice (tree_lists ids at nodes root words) (shared_picks at words (hit_near at x))
  picks-shared [] x c holds = tt
  picks-shared (word ∷ words) x c holds =
      let parts = and-parts (nat_lt 0 (impact_of ids x word)) (holds_all (impact_of ids x) words) holds in
      (has-pick word x c parts.0, picks-shared words x c parts.1)

  module _ (once : AreNamedOnce nodes root) where
    -- a choice of one place is that of an entry which holds all of the words
    others-hold : (words : List (List ℕ)) (pick : Pick) (others : List Pick) (x : Item) → Contains places x → pick.key ≡ name_of x → IsChoice (tree_lists ids at nodes root words) others → list_all (is_same_place pick) others ≡ true
        → holds_all (impact_of ids x) words ≡ true
    others-hold [] pick [] x c named is one = refl
    others-hold [] pick (other ∷ others) x c named is one = absurd is
    others-hold (word ∷ words) pick [] x c named is one = absurd is
    others-hold (word ∷ words) pick (other ∷ others) x c named is one =
        let parts = and-parts (is_same_place pick other) (list_all (is_same_place pick) others) one in
        let of = pick-of word other is.0 in
        let key : pick.key ≡ other.key = key_cmp_same pick.key other.key (equal-is (key_cmp pick.key other.key) parts.0) in
        let other_key : other.key ≡ name_of of.item = ap (λ (p : Pick). p.key) of.is in
        let same : of.item ≡ x = once of.item x of.among c (sym other_key ∙ sym key ∙ named) in
        both-true (nat_lt 0 (impact_of ids x word)) (holds_all (impact_of ids x) words) (subst (λ (y : Item). nat_lt 0 (impact_of ids y word) ≡ true) same of.holds) (others-hold words pick others x c named is.1 parts.1)

    -- the entry of a choice of one place
    pub record IsOneOf (words : List (List ℕ)) (pick : Pick) : Type 0 where
      pub item : Item
      pub among : Contains places item
      pub holds : holds_all (impact_of ids item) words ≡ true
      pub key : pick.key ≡ (hit_near at item).key
      pub dist : pick.dist ≡ (hit_near at item).cost

    one-of : (words : List (List ℕ)) (pick : Pick) (others : List Pick) → IsChoice (tree_lists ids at nodes root words) (pick ∷ others) → is_one_place (pick ∷ others) ≡ true → IsOneOf words pick
    one-of [] pick others is one = absurd is
    one-of (word ∷ words) pick others is one =
        let of = pick-of word pick is.0 in
        let key : pick.key ≡ name_of of.item = ap (λ (p : Pick). p.key) of.is in
        record {
          item = of.item;
          among = of.among;
          holds = both-true (nat_lt 0 (impact_of ids of.item word)) (holds_all (impact_of ids of.item) words) of.holds (others-hold words pick others of.item of.among key is.1 one);
          key = key;
          dist = ap (λ (p : Pick). p.dist) of.is;
        }

    module _ (words : List (List ℕ)) (limit : Option ℕ) where
      -- no hit within the limit: each place that serves all of the words is beyond it
      pub none-shared : first comes_before 1 (affordable limit (hits words)) ≡ [] → IsNearestShared at words (tree_lists ids at nodes root words) limit None
      none-shared none pick others is one =
          let of = one-of words pick others is one in
          let c = has-hit words of.item of.among of.holds in
          ⊎_elim
          (λ (fine : is_affordable limit (hit_near at of.item) ≡ true). absurd (none-first (affordable limit (hits words)) (hit_near at of.item) none (affordable-in limit (hits words) (hit_near at of.item) c fine)))
          (λ (dear : is_affordable limit (hit_near at of.item) ≡ false). beyond limit (hit_near at of.item) pick.dist of.dist dear)
          (cases_Bool (is_affordable limit (hit_near at of.item)))

      -- the first hit within the limit is the nearest such place
      pub some-shared : (hit : Hit) (rest : List Hit) → first comes_before 1 (affordable limit (hits words)) ≡ hit ∷ rest → IsNearestShared at words (tree_lists ids at nodes root words) limit (Some hit)
      some-shared hit rest is =
          let some : List Hit = affordable limit (hits words) in
          let of = first-in (IsHitOf words) some hit rest is (all-affordable (IsHitOf words) limit (hits words) (hits-of words)) in (
            subst (λ (h : Hit). IsChoice (tree_lists ids at nodes root words) (shared_picks at words h)) (sym of.is) (picks-shared words of.item of.among of.holds),
            λ pick others choice one.
                let mine = one-of words pick others choice one in
                let other : Hit = hit_near at mine.item in
                let c = has-hit words mine.item mine.among mine.holds in
                let later : comes_before other hit ≡ false = ⊎_elim
                (λ (fine : is_affordable limit other ≡ true). all-contained (λ y. comes_before y hit ≡ false) some other (first-leads some hit rest is) (affordable-in limit (hits words) other c fine))
                (λ (dear : is_affordable limit other ≡ false). dearer limit hit other (first-in (λ h. is_affordable limit h ≡ true) some hit rest is (all-fine limit (hits words))) dear)
                (cases_Bool (is_affordable limit other)) in
                let far : hit.cost ≡ distance at hit.point = ap (λ (h : Hit). h.cost) of.is ∙ sym (ap (λ (h : Hit). distance at h.point) of.is) in
                subst (λ (n : ℕ). is_lt (ordering_then (nat_cmp pick.dist n) (key_cmp pick.key hit.key)) ≡ false) far
                (subst (λ (n : ℕ). is_lt (ordering_then (nat_cmp n hit.cost) (key_cmp pick.key hit.key)) ≡ false) (sym mine.dist)
                (subst (λ (k : Name). is_lt (ordering_then (nat_cmp other.cost hit.cost) (key_cmp k hit.key)) ≡ false) (sym mine.key) (later-nearer other hit later))),
          )

      -- so what a search finds is the nearest place that serves all of the words
      pub found-shared : (found : List Hit) → found ≡ first comes_before 1 (affordable limit (hits words)) → IsNearestShared at words (tree_lists ids at nodes root words) limit (head_hit found)
      found-shared [] is = none-shared (sym is)
      found-shared (hit ∷ rest) is = some-shared hit rest (sym is)

-- what a filter lets through is what it asks for
pub filter-shared : (ids : Numbers) (at : Viewpoint) (words : List (List ℕ)) (filter : Expr) → ((f : List ℕ → ℕ) → (level : ℕ) → admits level f filter ≡ holds_all f words) → near_item ids at (Some filter) ≡ shared_item ids at words
filter-shared ids at words filter asks = λ k x. (ap (λ (b : Bool). if b then hit_near at x ∷ [] else []) (asks (impact_of ids x) 0)) k

-- what was found by the filter from the same point
pub found-by : (ids : Numbers) (from at : Viewpoint) (nodes : NodeMap) (root : ℕ) (words : List (List ℕ)) (limit : Option ℕ) (filter : Expr) (found : List Hit) → from ≡ at → ((f : List ℕ → ℕ) → (level : ℕ) → admits level f filter ≡ holds_all f words)
    → found ≡ first comes_before 1 (affordable limit (flat_map (near_item ids from (Some filter)) (tree_places nodes root))) → found ≡ first comes_before 1 (affordable limit (shared_hits ids at nodes root words))
found-by ids from at nodes root words limit filter found same asks is =
    is ∙ ap (λ (v : Viewpoint). first comes_before 1 (affordable limit (flat_map (near_item ids v (Some filter)) (tree_places nodes root)))) same
    ∙ ap (λ (g : Item → List Hit). first comes_before 1 (affordable limit (flat_map g (tree_places nodes root)))) (filter-shared ids at words filter asks)
