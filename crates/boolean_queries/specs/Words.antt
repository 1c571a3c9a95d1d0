-- Which nodes searches for words opened, by the log of the pages that were asked for.
use Rattle.std.specs.Prelude.{◌≡◌, ◌⊎◌, ℕ, ◌<◌, List, ◌++◌}
use Rattle.std.specs.List.{AllByRecursion, Contains}
use Rattle.rtree_nodes.specs.Slots.{Item, NodeMap}
use Rattle.irtree_shape.specs.Whole.{tree_uses}
use Rattle.node_filter.specs.Numbers.{Numbers, impact_of}
use Rattle.boolean_queries.specs.BoundingItems.{bounding_item_at}
use Rattle.boolean_queries.specs.Logs.{IsChildOfAsked, IsFromAsked}

-- one of the words is held by one of the places that this goes round
abbrev pub HoldsOneOf : Numbers → List (List ℕ) → Item → Type 0
HoldsOneOf ids words round = (word : List ℕ) × Contains words word × (0 < impact_of ids round word)

-- A page of the tree: its root, or a child of a node that was asked for, and below this child a place holds one of the words.
pub record IsOpenedForWords (ids : Numbers) (words : List (List ℕ)) (nodes : NodeMap) (root : ℕ) (asked : List ℕ) (page : ℕ) : Type 0 where
  pub used : 0 < tree_uses nodes root page
  pub from : (page ≡ root) ⊎ (IsChildOfAsked nodes asked page × HoldsOneOf ids words (bounding_item_at nodes page))

-- Few nodes were opened for words: each page asked for between two logs is one beside the tree, or a node that was opened for them; and each
-- value, as an item gives it, is from a leaf that was asked for.
pub record OpensFewForWords {X : Type 0} (beside : ℕ → Type 0) (gives : X → Item → List X) (ids : Numbers) (words : List (List ℕ)) (nodes : NodeMap) (root : ℕ) (old new : List ℕ) (found : List X) : Type 0 where
  pub asked : List ℕ
  pub log : new ≡ old ++ asked
  pub each : AllByRecursion (λ page. beside page ⊎ IsOpenedForWords ids words nodes root asked page) asked
  pub from : AllByRecursion (λ value. IsFromAsked nodes asked (gives value) value) found
