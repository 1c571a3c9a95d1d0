-- The limits of a filter: how many words it names, and how many levels of `not` and parentheses it takes to write it.
use Rattle.std.specs.Prelude.{ℕ, ◌+◌, ◌≤◌, max, Option, Some, None}
use Rattle.place_values.specs.declared.query.Expr.{Expr}
use Rattle.place_values.specs.declared.query.Expr.TheVariants.{Has, Not', And', Or'}

-- how many words an expression names
abbrev pub words_in : Expr → ℕ
words_in (Has word) = 1
words_in (Not' _ one) = words_in one
words_in (And' _ one _ other) = words_in one + words_in other
words_in (Or' _ one _ other) = words_in one + words_in other

-- As what an expression is written: whole, as one of those that `or` joins, or as one of those that `and` joins.
pub data Form : Type 0 where
  Whole : Form
  Term : Form
  Factor : Form

-- the level of the parentheses that stand around what `or` joins, unless it is written whole
abbrev pub around_or : Form → ℕ
around_or Whole = 0
around_or Term = 1
around_or Factor = 1

-- the level of the parentheses that stand around what `and` joins, where it is a factor
abbrev pub around_and : Form → ℕ
around_and Whole = 0
around_and Term = 0
around_and Factor = 1

-- The least number of levels that writing an expression in a form takes: whole it is one or more terms joined by `or`, a term is
-- one or more factors joined by `and`, both from the left, and a factor is `not` and a factor, a whole in parentheses, or a word.
abbrev pub levels_as : Form → Expr → ℕ
levels_as form (Has word) = 0
levels_as form (Not' _ one) = 1 + levels_as Factor one
levels_as form (And' _ one _ other) = around_and form + max (levels_as Term one) (levels_as Factor other)
levels_as form (Or' _ one _ other) = around_or form + max (levels_as Whole one) (levels_as Term other)

-- an expression that may be asked for
pub record IsExpression (expr : Expr) : Type 0 where
  pub words : words_in expr ≤ 64
  pub levels : levels_as Whole expr ≤ 32

-- a filter that may be asked for
abbrev pub IsFilter : Option Expr → Type 0
IsFilter None = Unit {0}
IsFilter (Some expr) = IsExpression expr
