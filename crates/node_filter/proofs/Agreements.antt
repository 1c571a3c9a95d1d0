-- An entry of a tree gives to a query what the place that it stands for does.
use Rattle.std.proofs.Common.{◌≡◌, ℕ, ℤ, pos, ◌+◌, ◌-◌, ◌*◌, ◌≤ℤ◌, Bool, false, not, ◌&&◌, ◌||◌, nat_lt, nat_le, if◌then◌else◌, List, [], ◌∷◌, Option, Some, None, refl, ap, ◌∙◌, arith}
use Rattle.std.proofs.lemmas.Bool.Decides.{nat_tests}
use Rattle.std.proofs.lemmas.Int.{ints, clamps}
use Rattle.std.proofs.lemmas.List.Sums.{sum_by-cons}
use Rattle.spatial_base.specs.Key.{Name, IsName, form_of}
use Rattle.spatial_base.specs.Point.{Position, IsOnMap, Viewpoint, distance}
use Rattle.spatial_base.specs.Rect.{Bounds, holds_point}
use Rattle.term_impacts.specs.Pairs.{impact_in}
use Rattle.place_values.specs.declared.place.Place.{Place}
use Rattle.place_values.specs.declared.hit.Hit.{Hit}
use Rattle.place_values.specs.declared.query.Expr.{Expr}
use Rattle.place_values.specs.declared.query.Expr.TheVariants.{Has, Not', And', Or'}
use Rattle.place_values.specs.Filter.{holds, passes}
use Rattle.place_values.specs.Top.{Weighted, weight_sum, top_cost, relevance, holds_some}
use Rattle.place_values.specs.Answer.{near_hits, range_hits, box_hits, top_hits}
use Rattle.rtree_nodes.specs.Slots.{Item}
use Rattle.rtree_nodes.specs.Reach.{place_item, below_top}
use Rattle.rtree_nodes.proofs.Keys.{named}
use Rattle.irtree_shape.specs.Words.{worded, joined_item}
use Rattle.node_filter.specs.Numbers.{Numbers, number_of, by_number, impact_of, byte_of}
use Rattle.node_filter.specs.Filters.{meets, relevance_by, holds_by, AgreeOn, AgreeBy, AgreeWeighed}
use Rattle.node_filter.specs.Entries.{point_of, name_of, least_at}
use Rattle.node_filter.specs.Hits.{passes_item, relevance_of, near_item, range_item, box_item, top_item}

behind : (x : ℕ) (f : ℕ → ℕ) (n : ℕ) → (if nat_lt (4 + n) 4 then x else f ((4 + n) - 4)) ≡ f n
behind x f n = let e : (4 + n) - 4 ≡ n = omega arith in let t : nat_lt (4 + n) 4 ≡ false = grind (arith, nat_tests) in rw (t, e) refl

worded-number : (f : ℕ → ℕ) (x : Item) (o : Option ℕ) → by_number (λ n. (worded f x).reach (4 + n)) o ≡ by_number f o
worded-number f x None = refl
worded-number f x (Some n) = behind (x.reach (4 + n)) f n

-- the impact of a word in an item of these words is that of its number
pub worded-impact : (ids : Numbers) (f : ℕ → ℕ) (x : Item) (word : List ℕ) → impact_of ids (worded f x) word ≡ by_number f (number_of ids word)
worded-impact ids f x word = worded-number f x (number_of ids word)

-- so in an item with the bytes of its slot it is the byte
pub joined-impact : (ids : Numbers) (b : ℕ → ℕ → ℕ) (i : ℕ) (x : Item) (word : List ℕ) → impact_of ids (joined_item b i x) word ≡ byte_of ids b i word
joined-impact ids b i x word = worded-impact ids (λ w. b w i) x word

-- words that agree meet the same expressions
pub meets-agreed : (f g : List ℕ → ℕ) (filter : Expr) → AgreeOn f g filter → meets f filter ≡ meets g filter
meets-agreed f g (Has word) e = ap (λ (n : ℕ). nat_lt 0 n) e
meets-agreed f g (Not' _ one) e = ap not (meets-agreed f g one e)
meets-agreed f g (And' _ one _ other) e = ap (λ (b : Bool). b && meets f other) (meets-agreed f g one e.0) ∙ ap (λ (b : Bool). meets g one && b) (meets-agreed f g other e.1)
meets-agreed f g (Or' _ one _ other) e = ap (λ (b : Bool). b || meets f other) (meets-agreed f g one e.0) ∙ ap (λ (b : Bool). meets g one || b) (meets-agreed f g other e.1)

-- a place meets an expression by the impacts of its words
pub place-meets : (place : Place) (filter : Expr) → meets (impact_in place.words) filter ≡ holds place filter
place-meets place (Has word) = refl
place-meets place (Not' _ one) = ap not (place-meets place one)
place-meets place (And' _ one _ other) = ap (λ (b : Bool). b && meets (impact_in place.words) other) (place-meets place one) ∙ ap (λ (b : Bool). holds place one && b) (place-meets place other)
place-meets place (Or' _ one _ other) = ap (λ (b : Bool). b || meets (impact_in place.words) other) (place-meets place one) ∙ ap (λ (b : Bool). holds place one || b) (place-meets place other)

-- an item passes a filter as the place whose impacts it has
pub passes-agreed : (ids : Numbers) (filter : Option Expr) (x : Item) (place : Place) → AgreeBy (impact_of ids x) (impact_in place.words) filter → passes_item ids filter x ≡ passes filter place
passes-agreed ids None x place e = refl
passes-agreed ids (Some filter) x place e = meets-agreed (impact_of ids x) (impact_in place.words) filter e ∙ place-meets place filter

-- the relevance of impacts that agree
pub relevance-agreed : (f g : List ℕ → ℕ) (words : Weighted) → AgreeWeighed f g words → relevance_by f words ≡ relevance_by g words
relevance-agreed f g [] e = refl
relevance-agreed f g (term ∷ words) e =
    let a = sum_by-cons (λ (t : List ℕ × ℕ). t.1 * f t.0) term words in
    let b = sum_by-cons (λ (t : List ℕ × ℕ). t.1 * g t.0) term words in
    let c = relevance-agreed f g words e.1 in
    let d : term.1 * f term.0 ≡ term.1 * g term.0 = ap (λ (n : ℕ). term.1 * n) e.0 in
    omega arith

-- and which of the words they hold
pub held-agreed : (f g : List ℕ → ℕ) (words : Weighted) → AgreeWeighed f g words → holds_by f words ≡ holds_by g words
held-agreed f g [] e = refl
held-agreed f g (term ∷ words) e = ap (λ (n : ℕ). nat_lt 0 n || holds_by f words) e.0 ∙ ap (λ (b : Bool). nat_lt 0 (g term.0) || b) (held-agreed f g words e.1)

pub side-back : (z : ℤ) → z ≤ℤ pos 2147483648 → least_at (below_top z) ≡ z
side-back z l = omega (arith, ints, clamps)

-- a place's item stands where the place does
pub point-back : (f : ℕ → ℕ) (p : Position) (key : List ℕ) → IsOnMap p.x p.y → point_of (worded f (place_item p key)) ≡ p
point-back f p key on =
    let a = on.0 in
    let b = on.1 in
    let x : least_at (below_top p.x) ≡ p.x = side-back p.x (omega (arith, ints)) in
    let y : least_at (below_top p.y) ≡ p.y = side-back p.y (omega (arith, ints)) in
    λ i. record { x = x i; y = y i }

-- a hit by what the distance and the relevance cost
abbrev hit_with : (ℕ → ℕ → ℕ) → Viewpoint → Position → Name → ℕ → Hit
hit_with cost at p m s = record { cost = cost (distance at p) s; key = m; dist = distance at p; text = s; point = p }

hit-same : (cost : ℕ → ℕ → ℕ) (at : Viewpoint) (p q : Position) (m n : Name) (s t : ℕ) → p ≡ q → m ≡ n → s ≡ t → hit_with cost at p m s ≡ hit_with cost at q n t
hit-same cost at p q m n s t e k r = λ i. record { cost = cost (distance at (e i)) (r i); key = k i; dist = distance at (e i); text = r i; point = e i }

chosen : (a b : Bool) (x y : Hit) → a ≡ b → x ≡ y → (if a then x ∷ [] else []) ≡ (if b then y ∷ [] else [])
chosen a b x y e k = ap (λ (t : Bool). if t then x ∷ [] else []) e ∙ ap (λ (h : Hit). if b then h ∷ [] else []) k

module _ (ids : Numbers) (f : ℕ → ℕ) (key : Name) (place : Place) (named_so : IsName key) (on : IsOnMap place.point.x place.point.y) where
  -- to a nearest query
  pub near-agrees : (at : Viewpoint) (filter : Option Expr) → AgreeBy (impact_of ids (worded f (place_item place.point (form_of key)))) (impact_in place.words) filter
      → near_item ids at filter (worded f (place_item place.point (form_of key))) ≡ near_hits at filter (key, place)
  near-agrees at filter e =
      let x : Item = worded f (place_item place.point (form_of key)) in
      chosen (passes_item ids filter x) (passes filter place) _ _ (passes-agreed ids filter x place e)
      (hit-same (λ d s. d) at (point_of x) place.point (name_of x) key 0 0 (point-back f place.point (form_of key) on) (named key named_so) refl)

  -- to a range query
  pub range-agrees : (at : Viewpoint) (radius : ℕ) (filter : Option Expr) → AgreeBy (impact_of ids (worded f (place_item place.point (form_of key)))) (impact_in place.words) filter
      → range_item ids at radius filter (worded f (place_item place.point (form_of key))) ≡ range_hits at radius filter (key, place)
  range-agrees at radius filter e =
      let x : Item = worded f (place_item place.point (form_of key)) in
      let p = point-back f place.point (form_of key) on in
      chosen (nat_le (distance at (point_of x)) radius && passes_item ids filter x) (nat_le (distance at place.point) radius && passes filter place) _ _
      (ap (λ (q : Position). nat_le (distance at q) radius && passes_item ids filter x) p ∙ ap (λ (b : Bool). nat_le (distance at place.point) radius && b) (passes-agreed ids filter x place e))
      (hit-same (λ d s. d) at (point_of x) place.point (name_of x) key 0 0 p (named key named_so) refl)

  -- to a box query
  pub box-agrees : (rect : Bounds) (filter : Option Expr) → AgreeBy (impact_of ids (worded f (place_item place.point (form_of key)))) (impact_in place.words) filter
      → box_item ids rect filter (worded f (place_item place.point (form_of key))) ≡ box_hits rect filter (key, place)
  box-agrees rect filter e =
      let x : Item = worded f (place_item place.point (form_of key)) in
      let p = point-back f place.point (form_of key) on in
      let n = named key named_so in
      chosen (holds_point rect (point_of x) && passes_item ids filter x) (holds_point rect place.point && passes filter place) _ _
      (ap (λ (q : Position). holds_point rect q && passes_item ids filter x) p ∙ ap (λ (b : Bool). holds_point rect place.point && b) (passes-agreed ids filter x place e))
      (λ i. record { cost = 0; key = n i; dist = 0; text = 0; point = p i })

  -- to a top query
  pub top-agrees : (at : Viewpoint) (alpha reach : ℕ) (words : Weighted) → AgreeWeighed (impact_of ids (worded f (place_item place.point (form_of key)))) (impact_in place.words) words
      → top_item ids at alpha reach words (worded f (place_item place.point (form_of key))) ≡ top_hits at alpha reach words (key, place)
  top-agrees at alpha reach words e =
      let x : Item = worded f (place_item place.point (form_of key)) in
      chosen (holds_by (impact_of ids x) words) (holds_some words place) _ _ (held-agreed (impact_of ids x) (impact_in place.words) words e)
      (hit-same (λ d s. top_cost alpha reach (weight_sum words) d s) at (point_of x) place.point (name_of x) key (relevance_of ids words x) (relevance words place)
      (point-back f place.point (form_of key) on) (named key named_so) (relevance-agreed (impact_of ids x) (impact_in place.words) words e))
