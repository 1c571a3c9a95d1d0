-- What an entry of a tree gives to a query, as the places of a map do.
use Rattle.std.specs.Prelude.{ℕ, ◌&&◌, nat_le, if◌then◌else◌, Bool, List, [], ◌∷◌, Option}
use Rattle.spatial_base.specs.Point.{Viewpoint, distance}
use Rattle.spatial_base.specs.Rect.{Bounds, holds_point}
use Rattle.rtree_nodes.specs.Slots.{Item}
use Rattle.place_values.specs.declared.hit.Hit.{Hit}
use Rattle.place_values.specs.declared.query.Expr.{Expr}
use Rattle.place_values.specs.Top.{Weighted, weight_sum, top_cost}
use Rattle.node_filter.specs.Numbers.{Numbers, impact_of}
use Rattle.node_filter.specs.Filters.{admits_by, relevance_by, holds_by}
use Rattle.node_filter.specs.Entries.{point_of, name_of}

-- a place's item passes the filter, where there is one
abbrev pub passes_item : Numbers → Option Expr → Item → Bool
passes_item ids filter x = admits_by 0 (impact_of ids x) filter

-- the relevance of an item to a query's words: of a place, or the most that one below the item can have
abbrev pub relevance_of : Numbers → Weighted → Item → ℕ
relevance_of ids words x = relevance_by (impact_of ids x) words

-- the hit of a place whose cost is its distance
abbrev pub hit_near : Viewpoint → Item → Hit
hit_near at x = record {
  cost = distance at (point_of x);
  key = name_of x;
  dist = distance at (point_of x);
  text = 0;
  point = point_of x;
}

-- the hit of a place without a cost
abbrev pub hit_in_box : Item → Hit
hit_in_box x = record { cost = 0; key = name_of x; dist = 0; text = 0; point = point_of x }

-- the hit of a place by its distance and its relevance
abbrev pub hit_of_top : Numbers → Viewpoint → ℕ → ℕ → Weighted → Item → Hit
hit_of_top ids at alpha reach words x = record {
  cost = top_cost alpha reach (weight_sum words) (distance at (point_of x)) (relevance_of ids words x);
  key = name_of x;
  dist = distance at (point_of x);
  text = relevance_of ids words x;
  point = point_of x;
}

-- what a place's item gives to a nearest query: its hit where it passes the filter
abbrev pub near_item : Numbers → Viewpoint → Option Expr → Item → List Hit
near_item ids at filter x = if passes_item ids filter x then hit_near at x ∷ [] else []

-- to a range query: the same at most so far away
abbrev pub range_item : Numbers → Viewpoint → ℕ → Option Expr → Item → List Hit
range_item ids at radius filter x = if nat_le (distance at (point_of x)) radius && passes_item ids filter x then hit_near at x ∷ [] else []

-- to a box query: its hit without a cost where it is in the rectangle and passes the filter
abbrev pub box_item : Numbers → Bounds → Option Expr → Item → List Hit
box_item ids rect filter x = if holds_point rect (point_of x) && passes_item ids filter x then hit_in_box x ∷ [] else []

-- to a top query: its hit where it holds one of the words
abbrev pub top_item : Numbers → Viewpoint → ℕ → ℕ → Weighted → Item → List Hit
top_item ids at alpha reach words x = if holds_by (impact_of ids x) words then hit_of_top ids at alpha reach words x ∷ [] else []
