-- What a line says, wherever the boxes of its expression stand.
use Rattle.std.specs.Prelude.{Option, option_map}
use Rattle.std.specs.declared.alloc.Global.{Global}
use Rattle.std.specs.declared.boxed.Box.{Box}
use denote.RawPtr.{null_ptr}
use Rattle.place_values.specs.declared.query.Expr.{Expr}
use Rattle.place_values.specs.declared.query.Expr.TheVariants.{Has, Not, And, Or, Not', And', Or'}
use Rattle.place_values.specs.Query.{IsWithinLimits}
use Rattle.place_values.specs.Update.{NamesText}
use Rattle.place_values.specs.declared.query.Query.{Query}
use Rattle.place_values.specs.declared.query.Query.TheVariants.{Range, Inside, Nearest, Top, Rare, Group, Gather}
use Rattle.query_lang.specs.declared.line.Line.{Line}
use Rattle.query_lang.specs.declared.line.Line.TheVariants as lines

-- an expression in a box that stands nowhere
abbrev pub boxed : Expr → Box Expr Global
boxed expr = record { ptr = null_ptr; alloc = record { memory = record { seal = record {} } }; value = expr }

-- the expression with each box standing nowhere
abbrev pub plain : Expr → Expr
plain (Has word) = Has word
plain (Not' _ one) = Not (boxed (plain one))
plain (And' _ one _ other) = And (boxed (plain one)) (boxed (plain other))
plain (Or' _ one _ other) = Or (boxed (plain one)) (boxed (plain other))

-- the filter
abbrev pub plain_filter : Option Expr → Option Expr
plain_filter filter = option_map plain filter

-- the query
abbrev pub plain_query : Query → Query
plain_query (Range at scale radius filter) = Range at scale radius (plain_filter filter)
plain_query (Inside rect filter) = Inside rect (plain_filter filter)
plain_query (Nearest at scale k filter) = Nearest at scale k (plain_filter filter)
plain_query (Top at scale k alpha reach words) = Top at scale k alpha reach words
plain_query (Rare at scale k alpha reach words) = Rare at scale k alpha reach words
plain_query (Group at scale words) = Group at scale words
plain_query (Gather at scale words) = Gather at scale words

-- the line
abbrev pub plain_line : Line → Line
plain_line lines.Nothing = lines.Nothing
plain_line (lines.Do update) = lines.Do update
plain_line (lines.Ask query explain) = lines.Ask (plain_query query) explain
plain_line (lines.Show key) = lines.Show key
plain_line lines.Count = lines.Count

-- what the calls that take the parts of a line ask of them: a query keeps the limits, and a place is put at a text key
abbrev pub IsSound : Line → Type 0
IsSound lines.Nothing = Unit {0}
IsSound (lines.Do update) = NamesText update
IsSound (lines.Ask query explain) = IsWithinLimits query
IsSound (lines.Show key) = Unit {0}
IsSound lines.Count = Unit {0}
