-- What places may give to a query, by what goes round them.
use Rattle.std.specs.Prelude.{ℕ, Bool, true, false, List, Option, Some, None}
use Rattle.spatial_base.specs.Point.{seen_from}
use Rattle.spatial_base.specs.Rect.{mindist_of}
use Rattle.rtree_nodes.specs.Slots.{Item}
use Rattle.place_values.specs.declared.query.Expr.{Expr}
use Rattle.place_values.specs.declared.query.Query.{Query}
use Rattle.place_values.specs.declared.query.Query.TheVariants.{Range, Inside, Nearest, Top, Rare, Group, Gather}
use Rattle.place_values.specs.Top.{weight_sum, top_cost}
use Rattle.node_filter.specs.Entries.{rect_of_item}
use Rattle.node_filter.specs.Numbers.{Numbers, impact_of}
use Rattle.node_filter.specs.Filters.{may_meet, holds_by, relevance_by}

-- one of the places may pass the filter, where there is one, by the greatest impacts among them
abbrev pub may_pass : (List ℕ → ℕ) → Option Expr → Bool
may_pass f (Some filter) = may_meet f filter
may_pass f None = true

-- One of the places may be an answer, as far as words tell: it may pass the filter, or holds one of a top query's words. A query by rarity is
-- asked as a top query.
abbrev pub may_answer : Numbers → Query → Item → Bool
may_answer ids (Range at scale radius filter) round = may_pass (impact_of ids round) filter
may_answer ids (Inside rect filter) round = may_pass (impact_of ids round) filter
may_answer ids (Nearest at scale k filter) round = may_pass (impact_of ids round) filter
may_answer ids (Top at scale k alpha reach words) round = holds_by (impact_of ids round) words
may_answer ids (Rare at scale k alpha reach words) round = false
may_answer ids (Group at scale words) round = false
may_answer ids (Gather at scale words) round = false

-- none of the places costs less: a nearest query's cost is the distance, and a top query's weighs it against the relevance
abbrev pub bound_for : Numbers → Query → Item → ℕ
bound_for ids (Nearest at scale k filter) round = mindist_of (rect_of_item round) (seen_from at scale)
bound_for ids (Top at scale k alpha reach words) round = top_cost alpha reach (weight_sum words) (mindist_of (rect_of_item round) (seen_from at scale)) (relevance_by (impact_of ids round) words)
bound_for ids _ round = 0
