-- Impacts that agree on each word that is asked about.
use Rattle.std.proofs.Common.{◌≡◌, ℕ, List, [], ◌∷◌, Option, Some, None, refl, arith}
use Rattle.std.proofs.lemmas.List.Elements.{Contains-append_left, Contains-append_right}
use Rattle.std.specs.List.{Contains}
use Rattle.place_values.specs.declared.query.Expr.{Expr}
use Rattle.place_values.specs.declared.query.Expr.TheVariants.{Has, Not', And', Or'}
use Rattle.place_values.specs.Top.{Weighted}
use Rattle.node_filter.specs.Filters.{AgreeOn, AgreeBy, AgreeWeighed}
use Rattle.query_execution.specs.Asked.{words_in, words_by, words_of}

-- two impacts agree on each of some words
abbrev pub AgreeAmong : (List ℕ → ℕ) → (List ℕ → ℕ) → List (List ℕ) → Type 0
AgreeAmong f g words = (word : List ℕ) → Contains words word → f word ≡ g word

-- the first of a list is in it
first-in : (word : List ℕ) (words : List (List ℕ)) → Contains (word ∷ words) word
first-in word words = (0, omega arith, refl)

module _ (f g : List ℕ → ℕ) where
  -- on the words of an expression
  agree-on : (filter : Expr) → AgreeAmong f g (words_in filter) → AgreeOn f g filter
  agree-on (Has word) same = same word (first-in word [])
  agree-on (Not' _ one) same = agree-on one same
  agree-on (And' _ one _ other) same = (
    agree-on one (λ word among. same word (Contains-append_left (words_in one) (words_in other) word among)),
    agree-on other (λ word among. same word (Contains-append_right (words_in one) (words_in other) word among)),
  )
  agree-on (Or' _ one _ other) same = (
    agree-on one (λ word among. same word (Contains-append_left (words_in one) (words_in other) word among)),
    agree-on other (λ word among. same word (Contains-append_right (words_in one) (words_in other) word among)),
  )

  -- of a filter, where there is one
  pub agree-by : (filter : Option Expr) → AgreeAmong f g (words_by filter) → AgreeBy f g filter
  agree-by (Some filter) same = agree-on filter same
  agree-by None same = tt

  -- and on weighed words
  pub agree-weighed : (words : Weighted) → AgreeAmong f g (words_of words) → AgreeWeighed f g words
  agree-weighed [] same = tt
  agree-weighed (term ∷ words) same = (
    same term.0 (first-in term.0 (words_of words)),
    agree-weighed words (λ word among. same word (Contains-append_right (term.0 ∷ []) (words_of words) word among)),
  )
