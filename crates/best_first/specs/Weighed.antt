-- What entries below an item hold, from what the item does.
use Rattle.std.proofs.Common.{◌≡◌, ℕ, suc, ◌+◌, ◌*◌, ◌-◌, ◌≤◌, Bool, true, false, ◌&&◌, ◌||◌, nat_lt, List, [], ◌∷◌, Option, Some, None, refl, ap, ◌∙◌, arith}
use Rattle.std.proofs.lemmas.Bool.Decides.{nat_tests}
use Rattle.std.proofs.lemmas.Nat.{mul-le}
use Rattle.std.proofs.lemmas.List.Sums.{sum_by-cons}
use Rattle.place_values.specs.declared.query.Expr.{Expr}
use Rattle.place_values.specs.declared.query.Expr.TheVariants.{Has, Not', And', Or'}
use Rattle.place_values.specs.Top.{Weighted, weight_sum, top_cost}
use Rattle.rtree_nodes.specs.Slots.{Item}
use Rattle.node_filter.specs.Numbers.{Numbers, number_of, by_number, impact_of}
use Rattle.node_filter.specs.Filters.{meets, may_meet, relevance_by, holds_by}
use Rattle.best_first.specs.declared.ask.Ask.{Ask}
use Rattle.best_first.specs.declared.ask.Ask.TheVariants.{Nearest, Top}
use Rattle.best_first.specs.Asks.{qualifies, text_by, cost_by}

-- no word has more impact
abbrev pub IsUnder : (List ℕ → ℕ) → (List ℕ → ℕ) → Type 0
IsUnder g f = (word : List ℕ) → g word ≤ f word

pub above : (m n : ℕ) → m ≤ n → nat_lt 0 m ≡ true → nat_lt 0 n ≡ true
above m n l h = grind (arith, nat_tests)

pub and-true : (a b c d : Bool) → (a ≡ true → c ≡ true) → (b ≡ true → d ≡ true) → (a && b) ≡ true → (c && d) ≡ true
and-true true b c d f g h = ap (λ (x : Bool). x && d) (f refl) ∙ g h
and-true false b c d f g h = absurd (cc)

pub or-true : (a b c d : Bool) → (a ≡ true → c ≡ true) → (b ≡ true → d ≡ true) → (a || b) ≡ true → (c || d) ≡ true
or-true true b c d f g h = ap (λ (x : Bool). x || d) (f refl)
or-true false b true d f g h = refl
or-true false b false d f g h = g h

-- words that meet an expression may meet it, and so may those of more impact
pub meets-may : (g f : List ℕ → ℕ) → IsUnder g f → (filter : Expr) → meets g filter ≡ true → may_meet f filter ≡ true
meets-may g f u (Has word) h = above (g word) (f word) (u word) h
meets-may g f u (Not' _ one) h = refl
meets-may g f u (And' _ one _ other) h = and-true (meets g one) (meets g other) (may_meet f one) (may_meet f other) (meets-may g f u one) (meets-may g f u other) h
meets-may g f u (Or' _ one _ other) h = or-true (meets g one) (meets g other) (may_meet f one) (may_meet f other) (meets-may g f u one) (meets-may g f u other) h

held-may : (g f : List ℕ → ℕ) → IsUnder g f → (words : Weighted) → holds_by g words ≡ true → holds_by f words ≡ true
held-may g f u [] h = h
held-may g f u (term ∷ words) h = or-true (nat_lt 0 (g term.0)) (holds_by g words) (nat_lt 0 (f term.0)) (holds_by f words) (above (g term.0) (f term.0) (u term.0)) (held-may g f u words) h

-- an answer stands only below what may have one
pub qualifies-may : (ask : Ask) (level : ℕ) (g f : List ℕ → ℕ) → IsUnder g f → qualifies ask 0 g ≡ true → qualifies ask (suc level) f ≡ true
qualifies-may (Nearest (Some filter)) level g f u h = meets-may g f u filter.now h
qualifies-may (Nearest None) level g f u h = refl
qualifies-may (Top terms) level g f u h = held-may g f u terms.words.now h

not-true : (b : Bool) → (b ≡ true → ⊥) → b ≡ false
not-true true h = absurd (h refl)
not-true false h = refl

-- where none may be, none is
pub qualifies-none : (ask : Ask) (level : ℕ) (g f : List ℕ → ℕ) → IsUnder g f → qualifies ask (suc level) f ≡ false → qualifies ask 0 g ≡ false
qualifies-none ask level g f u h = not-true (qualifies ask 0 g) (λ t. let s = qualifies-may ask level g f u t in cc)

relevance-under : (g f : List ℕ → ℕ) → IsUnder g f → (words : Weighted) → relevance_by g words ≤ relevance_by f words
relevance-under g f u [] = omega arith
relevance-under g f u (term ∷ words) =
    let a = sum_by-cons (λ (t : List ℕ × ℕ). t.1 * g t.0) term words in
    let b = sum_by-cons (λ (t : List ℕ × ℕ). t.1 * f t.0) term words in
    let c = relevance-under g f u words in
    let d = mul-le term.1 (g term.0) term.1 (f term.0) (omega arith) (u term.0) in
    omega arith

-- a place nearer and of more relevance costs no more
cheaper : (alpha reach weight d e s t : ℕ) → d ≤ e → t ≤ s → top_cost alpha reach weight d s ≤ top_cost alpha reach weight e t
cheaper alpha reach weight d e s t l m =
    let a : alpha * d ≤ alpha * e = mul-le alpha d alpha e (omega arith) l in
    let b : alpha * d * 255 ≤ alpha * e * 255 = mul-le (alpha * d) 255 (alpha * e) 255 a (omega arith) in
    let c : alpha * d * 255 * weight ≤ alpha * e * 255 * weight = mul-le (alpha * d * 255) weight (alpha * e * 255) weight b (omega arith) in
    let g : (1000 - alpha) * reach * (255 * weight - s) ≤ (1000 - alpha) * reach * (255 * weight - t) =
    mul-le ((1000 - alpha) * reach) (255 * weight - s) ((1000 - alpha) * reach) (255 * weight - t) (omega arith) (let w = 255 * weight in omega arith) in
    omega arith

-- so what bounds an item bounds each place below it
pub cost-under : (ask : Ask) (g f : List ℕ → ℕ) (d e : ℕ) → IsUnder g f → d ≤ e → cost_by ask d (text_by ask f) ≤ cost_by ask e (text_by ask g)
cost-under (Nearest filter) g f d e u l = l
cost-under (Top terms) g f d e u l =
    cheaper terms.alpha terms.reach (weight_sum terms.words.now) d e (relevance_by f terms.words.now) (relevance_by g terms.words.now) l (relevance-under g f u terms.words.now)

number-under : (x y : Item) → ((d : ℕ) → y.reach d ≤ x.reach d) → (o : Option ℕ) → by_number (λ n. y.reach (4 + n)) o ≤ by_number (λ n. x.reach (4 + n)) o
number-under x y r None = omega arith
number-under x y r (Some n) = r (4 + n)

-- an item that reaches no further has no word of more impact
pub impact-under : (ids : Numbers) (x y : Item) → ((d : ℕ) → y.reach d ≤ x.reach d) → IsUnder (impact_of ids y) (impact_of ids x)
impact-under ids x y r word = number-under x y r (number_of ids word)
