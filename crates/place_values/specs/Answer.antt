-- What a query answers: the places are filtered, ordered and cut.
use Rattle.std.specs.Prelude.{ℕ, ◌&&◌, nat_le, if◌then◌else◌, List, [], ◌∷◌, Option}
use Rattle.std.specs.List.{flat_map}
use Rattle.spatial_base.specs.Key.{Name}
use Rattle.spatial_base.specs.Point.{Viewpoint, seen_from, distance}
use Rattle.spatial_base.specs.Rect.{Bounds, holds_point}
use Rattle.place_values.specs.First.{ranked, first}
use Rattle.place_values.specs.declared.place.Place.{Place}
use Rattle.place_values.specs.declared.hit.Hit.{Hit}
use Rattle.place_values.specs.declared.query.Expr.{Expr}
use Rattle.place_values.specs.declared.query.Query.{Query}
use Rattle.place_values.specs.declared.query.Query.TheVariants.{Range, Inside, Nearest, Top, Rare, Group, Gather}
use Rattle.place_values.specs.declared.query.Answer.{Answer}
use Rattle.place_values.specs.declared.query.Answer.TheVariants as answers
use Rattle.place_values.specs.Hit.{comes_before}
use Rattle.place_values.specs.Filter.{passes}
use Rattle.place_values.specs.Top.{Weighted, weight_sum, relevance, holds_some, top_cost}
use Rattle.place_values.specs.Group.{group_of}
use Rattle.place_values.specs.Rarity.{weighed_by_rarity}
use Rattle.place_values.specs.Sum.{gathered_of}
use Rattle.place_values.specs.State.{Contents}

-- the hit of a place whose cost is its distance
abbrev pub near_hit : Viewpoint → Name × Place → Hit
near_hit at entry = record {
  cost = distance at entry.1.point;
  key = entry.0;
  dist = distance at entry.1.point;
  text = 0;
  point = entry.1.point;
}

-- what a place gives to a nearest query: its hit where it passes the filter
abbrev pub near_hits : Viewpoint → Option Expr → Name × Place → List Hit
near_hits at filter entry = if passes filter entry.1 then near_hit at entry ∷ [] else []

-- to a range query: the same at most so far away
abbrev pub range_hits : Viewpoint → ℕ → Option Expr → Name × Place → List Hit
range_hits at radius filter entry =
    if nat_le (distance at entry.1.point) radius && passes filter entry.1 then near_hit at entry ∷ [] else []

-- to a box query: its hit without a cost where it is in the rectangle and passes the filter
abbrev pub box_hits : Bounds → Option Expr → Name × Place → List Hit
box_hits rect filter entry =
    if holds_point rect entry.1.point && passes filter entry.1
    then record { cost = 0; key = entry.0; dist = 0; text = 0; point = entry.1.point } ∷ []
    else []

-- to a top query: its hit where it holds one of the words
abbrev pub top_hits : Viewpoint → ℕ → ℕ → Weighted → Name × Place → List Hit
top_hits at alpha reach words entry =
    if holds_some words entry.1
    then record {
      cost = top_cost alpha reach (weight_sum words) (distance at entry.1.point) (relevance words entry.1);
      key = entry.0;
      dist = distance at entry.1.point;
      text = relevance words entry.1;
      point = entry.1.point;
    } ∷ []
    else []

-- The query as it is asked of the places: the words of a top query by rarity have the weights that these places give them.
abbrev pub asked_of : Contents → Query → Query
asked_of state (Rare at scale k alpha reach words) = Top at scale k alpha reach (weighed_by_rarity state.places words)
asked_of state query = query

-- what a place gives to a query as it is asked of the places; a query that chooses a place for each word has no hits
abbrev pub hits_of : Query → Name × Place → List Hit
hits_of (Range at scale radius filter) = range_hits (seen_from at scale) radius filter
hits_of (Inside rect filter) = box_hits rect filter
hits_of (Nearest at scale k filter) = near_hits (seen_from at scale) filter
hits_of (Top at scale k alpha reach words) = top_hits (seen_from at scale) alpha reach words
hits_of (Rare at scale k alpha reach words) = λ entry. []
hits_of (Group at scale words) = λ entry. []
hits_of (Gather at scale words) = λ entry. []

-- the answer to a query over all places: each distance is measured with the query's scale
abbrev pub answer_of : Contents → Query → Answer
answer_of state (Range at scale radius filter) =
    answers.Hits (ranked comes_before (flat_map (range_hits (seen_from at scale) radius filter) state.places))
answer_of state (Inside rect filter) = answers.Hits (ranked comes_before (flat_map (box_hits rect filter) state.places))
answer_of state (Nearest at scale k filter) = answers.Hits (first comes_before k (flat_map (near_hits (seen_from at scale) filter) state.places))
answer_of state (Top at scale k alpha reach words) =
    answers.Hits (first comes_before k (flat_map (top_hits (seen_from at scale) alpha reach words) state.places))
answer_of state (Rare at scale k alpha reach words) =
    answers.Hits (first comes_before k (flat_map (top_hits (seen_from at scale) alpha reach (weighed_by_rarity state.places words)) state.places))
answer_of state (Group at scale words) = answers.Group (group_of state.places (seen_from at scale) words)
answer_of state (Gather at scale words) = answers.Group (gathered_of state.places (seen_from at scale) words)
