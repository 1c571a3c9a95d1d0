-- Which nodes a query opened, by the log of the pages that were asked for.
use Rattle.std.specs.Prelude.{◌≡◌, ◌⊎◌, ℕ, suc, ◌<◌, ◌≤◌, true, List, [], ◌∷◌, ◌++◌, length, Some, None}
use Rattle.std.specs.List.{AllByRecursion, Contains}
use Rattle.spatial_base.specs.Point.{seen_from}
use Rattle.spatial_base.specs.Rect.{mindist_of}
use Rattle.rtree_nodes.specs.Slots.{Item, NodeMap, IsChildAt}
use Rattle.irtree_shape.specs.Whole.{tree_uses}
use Rattle.place_values.specs.declared.hit.Hit.{Hit}
use Rattle.place_values.specs.declared.query.Query.{Query}
use Rattle.place_values.specs.declared.query.Query.TheVariants.{Range, Inside, Nearest, Top, Rare, Group, Gather}
use Rattle.best_first.specs.Openings.{last_cost}
use Rattle.node_filter.specs.Entries.{rect_of_item}
use Rattle.node_filter.specs.Numbers.{Numbers}
use Rattle.boolean_queries.specs.Regions.{overlaps}
use Rattle.boolean_queries.specs.BoundingItems.{bounding_item_at}
use Rattle.boolean_queries.specs.Bounds.{may_answer, bound_for}

-- hits were found, and the last of them costs no less
abbrev pub IsUpToLast : ℕ → List Hit → Type 0
IsUpToLast bound [] = ⊥
IsUpToLast bound (h ∷ hs) = bound ≤ last_cost (h ∷ hs)

-- A query with these hits calls for a node, the root or not, with this round the places below it. One of them may be an answer; and a range
-- comes as near and a box meets the rectangle, but for the root's, while no place of a nearest or top query costs less than its bound, which is
-- at most the last hit's cost. Only where a filter leaves fewer than k hits the bound may be greater. A query by rarity is asked as a top query.
abbrev pub CallsFor : Numbers → Query → List Hit → Type 0 → Item → Type 0
CallsFor ids (Range at scale radius filter) found is_root round = is_root ⊎ ((may_answer ids (Range at scale radius filter) round ≡ true) × (mindist_of (rect_of_item round) (seen_from at scale) ≤ radius))
CallsFor ids (Inside rect filter) found is_root round = is_root ⊎ ((may_answer ids (Inside rect filter) round ≡ true) × (overlaps rect (rect_of_item round) ≡ true))
CallsFor ids (Nearest at scale k None) found is_root round = IsUpToLast (bound_for ids (Nearest at scale k None) round) found
CallsFor ids (Nearest at scale k (Some filter)) found is_root round =
    (may_answer ids (Nearest at scale k (Some filter)) round ≡ true) × (length found ≡ k → IsUpToLast (bound_for ids (Nearest at scale k (Some filter)) round) found)
CallsFor ids (Top at scale k alpha reach words) found is_root round =
    (may_answer ids (Top at scale k alpha reach words) round ≡ true) × IsUpToLast (bound_for ids (Top at scale k alpha reach words) round) found
CallsFor ids (Rare at scale k alpha reach words) found is_root round = ⊥
CallsFor ids (Group at scale words) found is_root round = ⊥
CallsFor ids (Gather at scale words) found is_root round = ⊥

-- the node at a page is a child of one that was asked for
pub record IsChildOfAsked (nodes : NodeMap) (asked : List ℕ) (page : ℕ) : Type 0 where
  pub parent : ℕ
  pub among : Contains asked parent
  pub level_is : (nodes parent).level ≡ suc (nodes page).level
  pub at : ℕ
  pub within : at < 32
  pub child : IsChildAt (nodes parent).slots at page

-- A page of the tree: its root, or a child of a node that was asked for. The query calls for it.
pub record IsOpened (ids : Numbers) (query : Query) (nodes : NodeMap) (root : ℕ) (asked : List ℕ) (found : List Hit) (page : ℕ) : Type 0 where
  pub used : 0 < tree_uses nodes root page
  pub from : (page ≡ root) ⊎ IsChildOfAsked nodes asked page
  pub called : CallsFor ids query found (page ≡ root) (bounding_item_at nodes page)

-- an item in a slot of a leaf that was asked for gives the value: a hit of a query, or what is made of one
pub record IsFromAsked {X : Type 0} (nodes : NodeMap) (asked : List ℕ) (gives : Item → List X) (value : X) : Type 0 where
  pub leaf : ℕ
  pub among : Contains asked leaf
  pub level_is : (nodes leaf).level ≡ 0
  pub at : ℕ
  pub within : at < 32
  pub item : Item
  pub is : (nodes leaf).slots at ≡ Some item
  pub gave : Contains (gives item) value

-- Few nodes were opened: each page asked for between two logs is one beside the tree, or a node that was opened; and each hit, as an item gives
-- it, is from a leaf that was.
pub record OpensFew (beside : ℕ → Type 0) (gives : Item → List Hit) (ids : Numbers) (query : Query) (nodes : NodeMap) (root : ℕ) (old new : List ℕ) (found : List Hit) : Type 0 where
  pub asked : List ℕ
  pub log : new ≡ old ++ asked
  pub each : AllByRecursion (λ page. beside page ⊎ IsOpened ids query nodes root asked found page) asked
  pub from : AllByRecursion (IsFromAsked nodes asked gives) found
