-- Places that hold all of some words.
use Rattle.std.specs.Prelude.{ℕ, Bool, nat_lt, if◌then◌else◌, List, [], ◌∷◌, Option, Some, None}
use Rattle.std.specs.List.{list_all, flat_map}
use Rattle.spatial_base.specs.Point.{Viewpoint}
use Rattle.place_values.specs.declared.hit.Hit.{Hit}
use Rattle.rtree_nodes.specs.Slots.{Item, NodeMap}
use Rattle.node_filter.specs.Entries.{tree_places}
use Rattle.node_filter.specs.Hits.{hit_near}
use Rattle.node_filter.specs.Numbers.{Numbers, impact_of}

-- all of the words are held, by the impact of each
abbrev pub holds_all : (List ℕ → ℕ) → List (List ℕ) → Bool
holds_all f words = list_all (λ word. nat_lt 0 (f word)) words

-- what a place's item gives to a search for all of the words: its hit where it holds them
abbrev pub shared_item : Numbers → Viewpoint → List (List ℕ) → Item → List Hit
shared_item ids at words x = if holds_all (impact_of ids x) words then hit_near at x ∷ [] else []

-- the hits of the tree's entries that hold all of the words
abbrev pub shared_hits : Numbers → Viewpoint → NodeMap → ℕ → List (List ℕ) → List Hit
shared_hits ids at nodes root words = flat_map (shared_item ids at words) (tree_places nodes root)

-- the first of some hits, where there is one
abbrev pub head_hit : List Hit → Option Hit
head_hit [] = None
head_hit (hit ∷ hits) = Some hit
