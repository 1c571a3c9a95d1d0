-- What is asked of words, by the impact of each word.
use Rattle.std.specs.Prelude.{◌≡◌, ℕ, zero, suc, ◌*◌, Bool, true, not, ◌&&◌, ◌||◌, nat_lt, List, [], ◌∷◌, Option, Some, None, sum_by}
use Rattle.std.specs.List.{list_any}
use Rattle.place_values.specs.declared.query.Expr.{Expr}
use Rattle.place_values.specs.declared.query.Expr.TheVariants.{Has, Not', And', Or'}
use Rattle.place_values.specs.Top.{Weighted}

-- words of these impacts meet the expression: a word is held where its impact is above 0
abbrev pub meets : (List ℕ → ℕ) → Expr → Bool
meets f (Has word) = nat_lt 0 (f word)
meets f (Not' _ one) = not (meets f one)
meets f (And' _ one _ other) = meets f one && meets f other
meets f (Or' _ one _ other) = meets f one || meets f other

-- below an entry with these greatest impacts a place may meet the expression: what isn't held above may still be missing below
abbrev pub may_meet : (List ℕ → ℕ) → Expr → Bool
may_meet f (Has word) = nat_lt 0 (f word)
may_meet f (Not' _ one) = true
may_meet f (And' _ one _ other) = may_meet f one && may_meet f other
may_meet f (Or' _ one _ other) = may_meet f one || may_meet f other

-- an entry of a node of this level is admitted: a leaf's meets the expression, and below any other a place may meet it
abbrev pub admits : ℕ → (List ℕ → ℕ) → Expr → Bool
admits zero f filter = meets f filter
admits (suc level) f filter = may_meet f filter

-- the same by a filter, where there is one
abbrev pub admits_by : ℕ → (List ℕ → ℕ) → Option Expr → Bool
admits_by level f (Some filter) = admits level f filter
admits_by level f None = true

-- the relevance of these impacts: the sum of each word's weight times its impact
abbrev pub relevance_by : (List ℕ → ℕ) → Weighted → ℕ
relevance_by f words = sum_by (λ term. term.1 * f term.0) words

-- one of the words is held
abbrev pub holds_by : (List ℕ → ℕ) → Weighted → Bool
holds_by f words = list_any (λ term. nat_lt 0 (f term.0)) words

-- two impacts agree on each word of the expression
abbrev pub AgreeOn : (List ℕ → ℕ) → (List ℕ → ℕ) → Expr → Type 0
AgreeOn f g (Has word) = f word ≡ g word
AgreeOn f g (Not' _ one) = AgreeOn f g one
AgreeOn f g (And' _ one _ other) = AgreeOn f g one × AgreeOn f g other
AgreeOn f g (Or' _ one _ other) = AgreeOn f g one × AgreeOn f g other

-- of a filter, where there is one
abbrev pub AgreeBy : (List ℕ → ℕ) → (List ℕ → ℕ) → Option Expr → Type 0
AgreeBy f g (Some filter) = AgreeOn f g filter
AgreeBy f g None = Unit {0}

-- and on each of a query's weighed words
abbrev pub AgreeWeighed : (List ℕ → ℕ) → (List ℕ → ℕ) → Weighted → Type 0
AgreeWeighed f g [] = Unit {0}
AgreeWeighed f g (term ∷ words) = (f term.0 ≡ g term.0) × AgreeWeighed f g words
