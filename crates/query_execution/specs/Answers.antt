-- What the entries of a tree give to a query, and what the hits or the choice is then.
use Rattle.std.specs.Prelude.{◌≡◌, ℕ, List, [], Option, None}
use Rattle.place_values.specs.First.{ranked, first}
use Rattle.place_values.specs.declared.hit.Hit.{Hit}
use Rattle.place_values.specs.declared.query.Query.{Query}
use Rattle.place_values.specs.declared.query.Query.TheVariants.{Range, Inside, Nearest, Top, Rare, Group, Gather}
use Rattle.place_values.specs.declared.query.Answer.{Answer}
use Rattle.place_values.specs.declared.query.Chosen.{Chosen}
use Rattle.place_values.specs.declared.query.Answer.TheVariants as answers
use Rattle.place_values.specs.Group.{least_by, least_of}
use Rattle.place_values.specs.Hit.{comes_before}
use Rattle.place_values.specs.Sum.{sum_cost}
use Rattle.spatial_base.specs.Point.{seen_from}
use Rattle.rtree_nodes.specs.Slots.{Item, NodeMap}
use Rattle.node_filter.specs.Numbers.{Numbers}
use Rattle.node_filter.specs.Hits.{near_item, range_item, box_item, top_item}
use Rattle.collective_query.specs.TreePicks.{tree_choices}

-- what a place's item gives to a query as it is asked of the places; a query that chooses a place for each word has no hits
abbrev pub hits_by : Numbers → Query → Item → List Hit
hits_by ids (Range at scale radius filter) = range_item ids (seen_from at scale) radius filter
hits_by ids (Inside rect filter) = box_item ids rect filter
hits_by ids (Nearest at scale k filter) = near_item ids (seen_from at scale) filter
hits_by ids (Top at scale k alpha reach words) = top_item ids (seen_from at scale) alpha reach words
hits_by ids (Rare at scale k alpha reach words) = λ x. []
hits_by ids (Group at scale words) = λ x. []
hits_by ids (Gather at scale words) = λ x. []

-- which of all hits a query is answered with, in order: the first k of a nearest or top query, and else all of them
abbrev pub cut_by : Query → List Hit → List Hit
cut_by (Nearest at scale k filter) = first comes_before k
cut_by (Top at scale k alpha reach words) = first comes_before k
cut_by _ = ranked comes_before

-- The answer is these hits. A group or gather query is answered with other than hits: then there are none.
abbrev pub IsAnswer : Query → Answer → List Hit → Type 0
IsAnswer (Group at scale words) answer hits = hits ≡ []
IsAnswer (Gather at scale words) answer hits = hits ≡ []
IsAnswer _ answer hits = answer ≡ answers.Hits hits

-- which of a tree's choices a query is answered with: a group query with the least by its cost, a gather query with the one of least sum
abbrev pub choice_by : Numbers → Query → NodeMap → ℕ → Option Chosen
choice_by ids (Group at scale words) nodes root = least_of (seen_from at scale) (tree_choices ids (seen_from at scale) nodes root words)
choice_by ids (Gather at scale words) nodes root = least_by sum_cost (tree_choices ids (seen_from at scale) nodes root words)
choice_by ids _ nodes root = None

-- The answer is this choice. A query for hits is answered with other than a choice: then there is none.
abbrev pub IsChoice : Query → Answer → Option Chosen → Type 0
IsChoice (Group at scale words) answer chosen = answer ≡ answers.Group chosen
IsChoice (Gather at scale words) answer chosen = answer ≡ answers.Group chosen
IsChoice _ answer chosen = chosen ≡ None
