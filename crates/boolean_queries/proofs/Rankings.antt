-- What a ranked search calls for, by what goes round the places below a node.
use Rattle.std.proofs.Common.{◌≡◌, ℕ, suc, ◌+◌, ◌<◌, ◌≤◌, Bool, true, false, ◌||◌, nat_lt, if◌then◌else◌, List, [], ◌∷◌, length, Option, Some, None, refl, sym, ap, subst, ◌∙◌, arith, ⊎_elim}
use Rattle.std.specs.List.{AllByRecursion, Contains, flat_map}
use Rattle.std.proofs.lemmas.Bool.{cases_Bool, ltb-true, lt-ltb}
use Rattle.spatial_base.specs.Point.{distance, Viewpoint, IsViewpoint}
use Rattle.spatial_base.specs.Rect.{mindist_of}
use Rattle.spatial_base.specs.Laws.{mindist-below}
use Rattle.place_values.specs.First.{first}
use Rattle.place_values.specs.declared.hit.Hit.{Hit}
use Rattle.place_values.specs.declared.query.Expr.{Expr}
use Rattle.place_values.specs.declared.query.Expr.TheVariants.{Has, Not', And', Or'}
use Rattle.place_values.specs.Hit.{comes_before}
use Rattle.place_values.specs.Top.{Weighted}
use Rattle.rtree_nodes.specs.Slots.{Item}
use Rattle.best_first.specs.Lists.{all_weaker, all_flat, flat_all}
use Rattle.best_first.proofs.Firsts.{all_first, kept_ranked}
use Rattle.node_filter.specs.Entries.{point_of, rect_of_item}
use Rattle.node_filter.specs.Filters.{may_meet, holds_by}
use Rattle.node_filter.specs.Numbers.{Numbers, number_of, by_number, impact_of}
use Rattle.best_first.specs.declared.ask.Ask.{Ask}
use Rattle.best_first.specs.declared.ask.Ask.TheVariants.{Nearest, Top}
use Rattle.best_first.specs.Asks.{qualifies, hit_by, hits_for, bound_by}
use Rattle.best_first.specs.Weighed.{IsUnder as IsLess, impact-under, cost-under, above, and-true, or-true}
use Rattle.boolean_queries.proofs.Covers.{IsPlace, IsUnder, under-holds}
use Rattle.boolean_queries.specs.BoundingItems.{farthest, bounding_item}
use Rattle.boolean_queries.specs.Logs.{IsUpToLast}
use Rattle.boolean_queries.proofs.OpenedLists.{all-both, all-unranked, first-all, all-up-to}
use Rattle.boolean_queries.proofs.Histories.{all-contained as of-member}
use Rattle.boolean_queries.proofs.BoundingItems.{attained, under-bounding}

-- words of more impact may meet an expression where those of less may
may-rises : (g f : List ℕ → ℕ) → IsLess g f → (filter : Expr) → may_meet g filter ≡ true → may_meet f filter ≡ true
may-rises g f u (Has word) h = above (g word) (f word) (u word) h
may-rises g f u (Not' _ one) h = refl
may-rises g f u (And' _ one _ other) h = and-true (may_meet g one) (may_meet g other) (may_meet f one) (may_meet f other) (may-rises g f u one) (may-rises g f u other) h
may-rises g f u (Or' _ one _ other) h = or-true (may_meet g one) (may_meet g other) (may_meet f one) (may_meet f other) (may-rises g f u one) (may-rises g f u other) h

held-rises : (g f : List ℕ → ℕ) → IsLess g f → (words : Weighted) → holds_by g words ≡ true → holds_by f words ≡ true
held-rises g f u [] h = h
held-rises g f u (term ∷ words) h = or-true (nat_lt 0 (g term.0)) (holds_by g words) (nat_lt 0 (f term.0)) (holds_by f words) (above (g term.0) (f term.0) (u term.0)) (held-rises g f u words) h

-- so an answer may stand below what has more impact
pub qualifies-rises : (ask : Ask) (g f : List ℕ → ℕ) → IsLess g f → qualifies ask 1 g ≡ true → qualifies ask 1 f ≡ true
qualifies-rises (Nearest (Some filter)) g f u h = may-rises g f u filter.now h
qualifies-rises (Nearest None) g f u h = refl
qualifies-rises (Top terms) g f u h = held-rises g f u terms.words.now h

-- above the leaves the level doesn't matter
pub qualifies-level : (ask : Ask) (level : ℕ) (f : List ℕ → ℕ) → qualifies ask (suc level) f ≡ qualifies ask 1 f
qualifies-level (Nearest (Some filter)) level f = refl
qualifies-level (Nearest None) level f = refl
qualifies-level (Top terms) level f = refl

-- of one item, if there is one
pub all-if : {X : Type 0} (P : X → Type 0) (b : Bool) (x : X) → (b ≡ true → P x) → AllByRecursion P (if b then x ∷ [] else [])
all-if P true x h = (h refl, tt)
all-if P false x h = tt

-- each place below which one may be an answer is one: no filter is asked for
abbrev pub IsPlain : Ask → Type 0
IsPlain (Nearest (Some filter)) = ⊥
IsPlain (Nearest None) = Unit {0}
IsPlain (Top terms) = Unit {0}

word-one : (xs : List Item) (o : Option ℕ) → nat_lt 0 (by_number (λ n. farthest (4 + n) xs) o) ≡ true → (y : Item) × Contains xs y × (nat_lt 0 (by_number (λ n. y.reach (4 + n)) o) ≡ true)
word-one xs None h = absurd (cc)
word-one xs (Some n) h = let r = attained (4 + n) xs (ltb-true 0 (farthest (4 + n) xs) h) in (r.0, r.1, lt-ltb 0 (r.0.reach (4 + n)) r.2)

or-first : (a b : Bool) → a ≡ true → (a || b) ≡ true
or-first true b h = refl
or-first false b h = absurd (cc)

or-second : (a b : Bool) → b ≡ true → (a || b) ≡ true
or-second true b h = refl
or-second false b h = h

-- a word that is held among places is held by one of them
held-one : (ids : Numbers) (xs : List Item) (words : Weighted) → holds_by (impact_of ids (bounding_item xs)) words ≡ true → (y : Item) × Contains xs y × (holds_by (impact_of ids y) words ≡ true)
held-one ids xs [] h = absurd (cc)
held-one ids xs (term ∷ words) h = ⊎_elim
    (λ (t : nat_lt 0 (impact_of ids (bounding_item xs) term.0) ≡ true).
    let r = word-one xs (number_of ids term.0) t in
    (r.0, r.1, or-first (nat_lt 0 (impact_of ids r.0 term.0)) (holds_by (impact_of ids r.0) words) r.2))
    (λ (f : nat_lt 0 (impact_of ids (bounding_item xs) term.0) ≡ false).
    let r = held-one ids xs words (sym (ap (λ (b : Bool). b || holds_by (impact_of ids (bounding_item xs)) words) f) ∙ h) in
    (r.0, r.1, or-second (nat_lt 0 (impact_of ids r.0 term.0)) (holds_by (impact_of ids r.0) words) r.2))
    (cases_Bool (nat_lt 0 (impact_of ids (bounding_item xs) term.0)))

-- where one of some places may be an answer, one is
plain-one : (ids : Numbers) (ask : Ask) (xs : List Item) → IsPlain ask → (y : Item) × Contains xs y → qualifies ask 1 (impact_of ids (bounding_item xs)) ≡ true → (y : Item) × Contains xs y × (qualifies ask 0 (impact_of ids y) ≡ true)
plain-one ids (Nearest (Some filter)) xs plain some may = absurd plain
plain-one ids (Nearest None) xs plain some may = (some.0, some.1, refl)
plain-one ids (Top terms) xs plain some may = held-one ids xs terms.words.now may

head-up : (bound : ℕ) (hs : List Hit) → 0 < length hs → AllByRecursion (λ (h : Hit). bound ≤ h.cost) hs → AllByRecursion (λ (h : Hit). (b : ℕ) → b ≤ h.cost → IsUpToLast b hs) hs → IsUpToLast bound hs
head-up bound [] some low up = absurd (omega arith)
head-up bound (h ∷ hs) some low up = up.0 bound low.0

module _ (ids : Numbers) (at : Viewpoint) (ask : Ask) where
  -- no place costs less than the bound of an item that it is under
  pub under-cost : IsViewpoint at → (y x : Item) → IsPlace y → IsUnder y x → bound_by at ask (impact_of ids x) x ≤ (hit_by at ask (impact_of ids y) y).cost
  under-cost on y x place u =
      cost-under ask (impact_of ids y) (impact_of ids x) (mindist_of (rect_of_item x) at) (distance at (point_of y)) (impact-under ids x y u)
      (mindist-below (rect_of_item x) at (point_of y) on place.on (under-holds y x place u))

  -- What a search for k hits that found these says of what goes round the places below a node: one of them may be an answer, and none costs less than
  -- a bound that is at most the last hit's cost, if there are k, or if no filter is asked for.
  pub record IsCalled (k : ℕ) (found : List Hit) (round : Item) : Type 0 where
    pub may : qualifies ask 1 (impact_of ids round) ≡ true
    pub full : length found ≡ k → IsUpToLast (bound_by at ask (impact_of ids round) round) found
    pub plain : IsPlain ask → IsUpToLast (bound_by at ask (impact_of ids round) round) found

  module _ (on : IsViewpoint at) (k : ℕ) (all : List Item) (found : List Hit) (is : found ≡ first comes_before k (flat_map (hits_for ids at ask) all)) where
    up-to : AllByRecursion (λ (h : Hit). (bound : ℕ) → bound ≤ h.cost → IsUpToLast bound found) found
    up-to = all-up-to found (kept_ranked k (flat_map (hits_for ids at ask) all) found is)

    -- the bound of what goes round all places
    pub root-up : AllByRecursion IsPlace all → 0 < length found → IsUpToLast (bound_by at ask (impact_of ids (bounding_item all)) (bounding_item all)) found
    root-up places some =
        let round : Item = bounding_item all in
        let bound : ℕ = bound_by at ask (impact_of ids round) round in
        let each : AllByRecursion (λ y. AllByRecursion (λ (h : Hit). bound ≤ h.cost) (hits_for ids at ask y)) all =
        all_weaker (λ y. IsPlace y × IsUnder y round) (λ y. AllByRecursion (λ (h : Hit). bound ≤ h.cost) (hits_for ids at ask y))
        (λ y p. all-if (λ (h : Hit). bound ≤ h.cost) (qualifies ask 0 (impact_of ids y)) (hit_by at ask (impact_of ids y) y) (λ t. under-cost on y round p.0 p.1))
        all (all-both IsPlace (λ y. IsUnder y round) all places (under-bounding all)) in
        let low : AllByRecursion (λ (h : Hit). bound ≤ h.cost) found =
        subst (AllByRecursion (λ (h : Hit). bound ≤ h.cost)) (sym is) (all_first (λ (h : Hit). bound ≤ h.cost) k (flat_map (hits_for ids at ask) all) (flat_all (λ (h : Hit). bound ≤ h.cost) (hits_for ids at ask) all each)) in
        head-up bound found some low up-to

    -- where fewer than k were found, the bound of what goes round some of the places, if one of these may be an answer
    pub fewer-up : (xs : List Item) → length found < k → ((y : Item) → Contains xs y → Contains all y) → AllByRecursion IsPlace xs → IsPlain ask → (y : Item) × Contains xs y → qualifies ask 1 (impact_of ids (bounding_item xs)) ≡ true
        → IsUpToLast (bound_by at ask (impact_of ids (bounding_item xs)) (bounding_item xs)) found
    fewer-up xs less among places plain some may =
        let hs : List Hit = flat_map (hits_for ids at ask) all in
        let Low : Hit → Type 0 = λ h. (bound : ℕ) → bound ≤ h.cost → IsUpToLast bound found in
        let few : length (first comes_before k hs) < k = subst (λ (l : List Hit). length l < k) is less in
        let over : AllByRecursion Low hs = all-unranked Low hs (subst (AllByRecursion Low) (is ∙ first-all k hs few) up-to) in
        let one = plain-one ids ask xs plain some may in
        let y : Item = one.0 in
        let here : AllByRecursion Low (hits_for ids at ask y) = of-member (λ z. AllByRecursion Low (hits_for ids at ask z)) all y (all_flat Low (hits_for ids at ask) all over) (among y one.1) in
        let hit : Hit = hit_by at ask (impact_of ids y) y in
        let low : Low hit = (subst (λ (b : Bool). AllByRecursion Low (if b then hit ∷ [] else [])) one.2 here).0 in
        low (bound_by at ask (impact_of ids (bounding_item xs)) (bounding_item xs))
        (under-cost on y (bounding_item xs) (of-member IsPlace xs y places one.1) (of-member (λ z. IsUnder z (bounding_item xs)) xs y (under-bounding xs) one.1))
