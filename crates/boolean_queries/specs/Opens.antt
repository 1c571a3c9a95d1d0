-- What each node of a tree gives to a query, and where the walk starts.
use Rattle.std.specs.Prelude.{ℕ, zero, suc, ◌&&◌, if◌then◌else◌, List, [], ◌∷◌, Option, Some, None}
use Rattle.std.specs.Borrow.{Bor}
use Rattle.page_face.specs.FreeList.{PageMap}
use Rattle.place_values.specs.declared.hit.Hit.{Hit}
use Rattle.place_values.specs.declared.query.Expr.{Expr}
use Rattle.rtree_nodes.specs.Slots.{Item, NodeMap}
use Rattle.btree_nodes.specs.Tree.{IsMap, map_uses}
use Rattle.paged_map.specs.Maps.{AreCounted as AreRowsCounted}
use Rattle.rtree_nodes.specs.Stock.{view, rows_form}
use Rattle.rtree_nodes.specs.Subtrees.{IsNodeAt, AreCounted}
use Rattle.irtree_shape.specs.Made.{nodes_in}
use Rattle.rtree_nodes.specs.Pages.{node_of}
use Rattle.irtree_shape.specs.Whole.{IsWhole, level_at}
use Rattle.best_first.specs.declared.item.Item as best
use Rattle.best_first.specs.declared.item.Item.TheVariants.{Node}
use Rattle.node_filter.specs.Numbers.{Numbers, impact_of}
use Rattle.node_filter.specs.Filters.{admits_by}
use Rattle.node_filter.specs.Hits.{range_item, box_item}
use Rattle.boolean_queries.specs.declared.region.Region.{Region}
use Rattle.boolean_queries.specs.declared.region.Region.TheVariants.{Within, Inside}
use Rattle.boolean_queries.specs.Near.{in_order, listed, touches, given}

-- a filter that may be missing, and is lent
abbrev pub filter_in : Option (Bor Expr) → Option Expr
filter_in None = None
filter_in (Some lent) = Some lent.now

-- what an item gives to a query
abbrev pub gives : Region → Numbers → Option Expr → ℕ → Item → List best.Item
gives region ids filter level x = if touches region level x && admits_by level (impact_of ids x) filter then given region level x ∷ [] else []

-- what a node gives: of a leaf the hits of the places in the region that pass the filter, of another node the children below which there may be one
abbrev pub opens_in : Region → Numbers → Option Expr → NodeMap → ℕ → ℕ → List best.Item
opens_in region ids filter nodes page level = in_order 32 (λ i. listed (gives region ids filter level) ((nodes page).slots i))

-- the root, where there is one
abbrev pub starts_at : NodeMap → ℕ → List best.Item
starts_at nodes zero = []
starts_at nodes (suc n) = Node (suc n) (level_at nodes (suc n)) 0 ∷ []

-- what a place gives to a query
abbrev pub hits_in : Region → Numbers → Option Expr → Item → List Hit
hits_in (Within at radius) ids filter = range_item ids at radius filter
hits_in (Inside rect) ids filter = box_item ids rect filter

-- a well-formed node of this level stands at the page with all below it, beside a well-formed map of rows, and all their pages are counted
pub record IsGood (pages : PageMap) (rows count level page : ℕ) : Type 0 where
  pub map : IsMap rows_form pages rows
  pub rows_counted : AreRowsCounted (map_uses rows_form pages rows) count
  pub node : IsNodeAt (nodes_in node_of pages rows) level page
  pub counted : AreCounted (nodes_in node_of pages rows) count level page

-- a tree stands at the root as it has to be
abbrev pub Fits : PageMap → ℕ → ℕ → ℕ → ℕ → Type 0
Fits pages rows count first root = (free : List ℕ) × IsWhole node_of (view pages rows count first free) root
