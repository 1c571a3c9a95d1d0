-- What is asked of a place's words.
use Rattle.std.specs.Prelude.{ℕ, Bool, true, not, ◌&&◌, ◌||◌, nat_lt, List, Option, Some, None}
use Rattle.term_impacts.specs.Pairs.{impact_in}
use Rattle.place_values.specs.declared.place.Place.{Place}
use Rattle.place_values.specs.declared.query.Expr.{Expr}
use Rattle.place_values.specs.declared.query.Expr.TheVariants.{Has, Not', And', Or'}

-- the place holds the word: its impact is above 0
abbrev pub has_word : Place → List ℕ → Bool
has_word place word = nat_lt 0 (impact_in place.words word)

-- the place meets the expression (a box stands in a pattern as where it is and what it holds)
abbrev pub holds : Place → Expr → Bool
holds place (Has word) = has_word place word
holds place (Not' _ one) = not (holds place one)
holds place (And' _ one _ other) = holds place one && holds place other
holds place (Or' _ one _ other) = holds place one || holds place other

-- the place meets the filter, where there is one
abbrev pub passes : Option Expr → Place → Bool
passes (Some filter) place = holds place filter
passes None place = true
