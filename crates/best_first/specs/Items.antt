-- What an opener gives: nodes and places.
use Rattle.std.specs.Prelude.{◌≡◌, ℕ, zero, suc, List, [], ◌∷◌}
use Rattle.std.specs.List.{flat_map}
use Rattle.place_values.specs.declared.hit.Hit.{Hit}
use Rattle.best_first.specs.declared.item.Item.{Item}
use Rattle.best_first.specs.declared.item.Item.TheVariants.{Node, Place}

-- the item where it is a node
abbrev pub node_alone : Item → List Item
node_alone (Node page level bound) = Node page level bound ∷ []
node_alone (Place hit) = []

-- its hit where it is a place
abbrev pub place_alone : Item → List Hit
place_alone (Node page level bound) = []
place_alone (Place hit) = hit ∷ []

-- its page where it is a node
abbrev pub page_alone : Item → List ℕ
page_alone (Node page level bound) = page ∷ []
page_alone (Place hit) = []

-- the nodes among items
abbrev pub nodes_of : List Item → List Item
nodes_of items = flat_map node_alone items

-- the hits of the places among them
abbrev pub places_of : List Item → List Hit
places_of items = flat_map place_alone items

-- the pages of the nodes among them
abbrev pub pages_of : List Item → List ℕ
pages_of items = flat_map page_alone items

-- what no place that an item leads to costs less than
abbrev pub bound_of : Item → ℕ
bound_of (Node page level bound) = bound
bound_of (Place hit) = hit.cost

-- What a node of this level may give: a leaf gives places, and every other node gives nodes of one level less.
abbrev pub IsGivenAt : ℕ → Item → Type 0
IsGivenAt zero (Node page level bound) = ⊥
IsGivenAt zero (Place hit) = Unit {0}
IsGivenAt (suc l) (Node page level bound) = level ≡ l
IsGivenAt (suc l) (Place hit) = ⊥

-- what holds of the item's page and level, where it is a node
abbrev pub OfNode : (ℕ → ℕ → Type 0) → Item → Type 0
OfNode P (Node page level bound) = P page level
OfNode P (Place hit) = Unit {0}

-- nothing, or a node of this page alone
abbrev pub IsRootAlone : ℕ → List Item → Type 0
IsRootAlone root [] = Unit {0}
IsRootAlone root (Node page level bound ∷ []) = page ≡ root
IsRootAlone root (Node page level bound ∷ i ∷ items) = ⊥
IsRootAlone root (Place hit ∷ items) = ⊥
