-- The words that a query asks about, and the numbers that the store has for them.
use Rattle.std.specs.Prelude.{◌≡◌, ℕ, List, [], ◌∷◌, ◌++◌, map, Option, Some, None}
use Rattle.std.specs.List.{Contains}
use Rattle.term_impacts.specs.Form.{word_form}
use Rattle.place_values.specs.declared.query.Expr.{Expr}
use Rattle.place_values.specs.declared.query.Expr.TheVariants.{Has, Not', And', Or'}
use Rattle.place_values.specs.declared.query.Query.{Query}
use Rattle.place_values.specs.declared.query.Query.TheVariants.{Range, Inside, Nearest, Top, Rare, Group, Gather}
use Rattle.place_values.specs.Top.{Weighted}
use Rattle.store_tables.specs.Entries.{number_of_word}
use Rattle.node_filter.specs.Numbers.{Numbers, number_of}

-- the words of an expression, from the left
abbrev pub words_in : Expr → List (List ℕ)
words_in (Has word) = word ∷ []
words_in (Not' _ one) = words_in one
words_in (And' _ one _ other) = words_in one ++ words_in other
words_in (Or' _ one _ other) = words_in one ++ words_in other

-- of a filter, where there is one
abbrev pub words_by : Option Expr → List (List ℕ)
words_by (Some filter) = words_in filter
words_by None = []

-- of weighed words
abbrev pub words_of : Weighted → List (List ℕ)
words_of terms = map (λ term. term.0) terms

-- the words that a query asks about
abbrev pub asked_in : Query → List (List ℕ)
asked_in (Range at scale radius filter) = words_by filter
asked_in (Inside rect filter) = words_by filter
asked_in (Nearest at scale k filter) = words_by filter
asked_in (Top at scale k alpha reach words) = words_of words
asked_in (Rare at scale k alpha reach words) = words
asked_in (Group at scale words) = words
asked_in (Gather at scale words) = words

-- a word's form with its number
abbrev pub form_with : List ℕ → Option ℕ → Numbers
form_with word None = []
form_with word (Some n) = (word_form word, n) ∷ []

-- a word's form with the number that it has by text, if it has one
abbrev pub id_in : List (List ℕ × ℕ) → List ℕ → Numbers
id_in texts word = form_with word (number_of_word word texts)

-- each of some words has the number that the words by text have for it, or none as there
abbrev pub AreKnown : Numbers → List (List ℕ × ℕ) → List (List ℕ) → Type 0
AreKnown ids texts words = (word : List ℕ) → Contains words word → number_of ids word ≡ number_of_word word texts
