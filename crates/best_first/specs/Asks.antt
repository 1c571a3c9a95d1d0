-- What a ranked search asks of the entries of a tree.
use Rattle.std.specs.Prelude.{◌≡◌, ℕ, Bool, if◌then◌else◌, List, [], ◌∷◌, Option, Some, None}
use Rattle.std.specs.Borrow.{Bor}
use Rattle.spatial_base.specs.Point.{distance, Viewpoint}
use Rattle.spatial_base.specs.Rect.{mindist_of}
use Rattle.rtree_nodes.specs.Slots.{Item}
use Rattle.place_values.specs.declared.hit.Hit.{Hit}
use Rattle.place_values.specs.declared.query.Expr.{Expr}
use Rattle.place_values.specs.Top.{Weighted, weight_sum, top_cost}
use Rattle.node_filter.specs.Numbers.{Numbers, impact_of}
use Rattle.node_filter.specs.Filters.{admits_by, relevance_by, holds_by}
use Rattle.node_filter.specs.Entries.{point_of, name_of, rect_of_item}
use Rattle.best_first.specs.declared.ask.Ask.{Ask}
use Rattle.best_first.specs.declared.ask.Ask.TheVariants.{Nearest, Top}

-- the filter that is lent, where there is one
abbrev pub filter_of : Option (Bor Expr) → Option Expr
filter_of (Some filter) = Some filter.now
filter_of None = None

-- an entry of a node of this level, with words of these impacts, is an answer or may have one below it
abbrev pub qualifies : Ask → ℕ → (List ℕ → ℕ) → Bool
qualifies (Nearest filter) level f = admits_by level f (filter_of filter)
qualifies (Top terms) level f = holds_by f terms.words.now

-- the relevance of words of these impacts, or the most that a place below can have
abbrev pub text_by : Ask → (List ℕ → ℕ) → ℕ
text_by (Nearest filter) f = 0
text_by (Top terms) f = relevance_by f terms.words.now

-- what a place costs at a distance and with a relevance, or the least that one below costs
abbrev pub cost_by : Ask → ℕ → ℕ → ℕ
cost_by (Nearest filter) dist text = dist
cost_by (Top terms) dist text = top_cost terms.alpha terms.reach (weight_sum terms.words.now) dist text

-- the hit of a place's item of this relevance
abbrev pub hit_with : Viewpoint → Ask → ℕ → Item → Hit
hit_with at ask text x = record {
  cost = cost_by ask (distance at (point_of x)) text;
  key = name_of x;
  dist = distance at (point_of x);
  text = text;
  point = point_of x;
}

-- the hit of a place's item, by the impacts of its words
abbrev pub hit_by : Viewpoint → Ask → (List ℕ → ℕ) → Item → Hit
hit_by at ask f x = hit_with at ask (text_by ask f) x

-- what a place's item gives
abbrev pub hits_for : Numbers → Viewpoint → Ask → Item → List Hit
hits_for ids at ask x = if qualifies ask 0 (impact_of ids x) then hit_by at ask (impact_of ids x) x ∷ [] else []

-- no place below an item costs less, if none has more relevance
abbrev pub bound_with : Viewpoint → Ask → ℕ → Item → ℕ
bound_with at ask text x = cost_by ask (mindist_of (rect_of_item x) at) text

-- no place below an item of these greatest impacts costs less
abbrev pub bound_by : Viewpoint → Ask → (List ℕ → ℕ) → Item → ℕ
bound_by at ask f x = bound_with at ask (text_by ask f) x

-- the search asks for places that hold one of these words, ranked by these numbers
abbrev pub IsTopFor : ℕ → ℕ → Weighted → Ask → Type 0
IsTopFor alpha reach words (Nearest filter) = ⊥
IsTopFor alpha reach words (Top terms) = (terms.alpha ≡ alpha) × (terms.reach ≡ reach) × (terms.words.now ≡ words)
