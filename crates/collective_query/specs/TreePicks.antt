-- What the entries of a tree give to a group query, as the places of a map do.
use Rattle.std.specs.Prelude.{ℕ, nat_lt, if◌then◌else◌, List, [], ◌∷◌, map, Some}
use Rattle.std.specs.List.{flat_map}
use Rattle.place_values.specs.First.{ranked, first}
use Rattle.spatial_base.specs.Point.{Viewpoint, distance}
use Rattle.place_values.specs.declared.hit.Hit.{Hit}
use Rattle.place_values.specs.declared.query.Expr.TheVariants.{Has}
use Rattle.place_values.specs.declared.query.Pick.{Pick}
use Rattle.place_values.specs.Group.{product}
use Rattle.place_values.specs.Hit.{comes_before}
use Rattle.rtree_nodes.specs.Slots.{Item, NodeMap}
use Rattle.node_filter.specs.Numbers.{Numbers, impact_of}
use Rattle.node_filter.specs.Entries.{point_of, name_of, tree_places}
use Rattle.node_filter.specs.Hits.{near_item, range_item}

-- a place's item as the pick for a word
abbrev pub pick_in : Viewpoint → List ℕ → Item → Pick
pick_in at word x = record { key = name_of x; word = word; dist = distance at (point_of x); point = point_of x }

-- what a place's item gives to a word: its pick where it holds the word
abbrev pub pick_item : Numbers → Viewpoint → List ℕ → Item → List Pick
pick_item ids at word x = if nat_lt 0 (impact_of ids x word) then pick_in at word x ∷ [] else []

-- the picks of a tree's entries for a word
abbrev pub tree_picks : Numbers → Viewpoint → NodeMap → ℕ → List ℕ → List Pick
tree_picks ids at nodes root word = flat_map (pick_item ids at word) (tree_places nodes root)

-- those for each word
abbrev pub tree_lists : Numbers → Viewpoint → NodeMap → ℕ → List (List ℕ) → List (List Pick)
tree_lists ids at nodes root words = map (tree_picks ids at nodes root) words

-- all choices: a pick of the tree's entries for each word, in the words' order
abbrev pub tree_choices : Numbers → Viewpoint → NodeMap → ℕ → List (List ℕ) → List (List Pick)
tree_choices ids at nodes root words = product (map (tree_picks ids at nodes root) words)

-- the place of a hit as the pick for a word
abbrev pub pick_from : Viewpoint → List ℕ → Hit → Pick
pick_from at word hit = record { key = hit.key; word = word; dist = distance at hit.point; point = hit.point }

-- the hits of the tree's entries that hold a word, from a point
abbrev pub word_hits : Numbers → Viewpoint → NodeMap → ℕ → List ℕ → List Hit
word_hits ids from nodes root word = flat_map (near_item ids from (Some (Has word))) (tree_places nodes root)

-- the picks for a word that are nearest to a centre, by their distance from it and then by key: five, or all where there are fewer
abbrev pub first_picks : Numbers → Viewpoint → Viewpoint → NodeMap → ℕ → List ℕ → List Pick
first_picks ids at centre nodes root word = map (pick_from at word) (first comes_before 5 (word_hits ids centre nodes root word))

-- those for each word that are nearest to the point
abbrev pub first_lists : Numbers → Viewpoint → NodeMap → ℕ → List (List ℕ) → List (List Pick)
first_lists ids at nodes root words = map (first_picks ids at at nodes root) words

-- the hits that are at most so far from a centre, in order
abbrev pub hits_within : Numbers → Viewpoint → ℕ → NodeMap → ℕ → List ℕ → List Hit
hits_within ids centre radius nodes root word = ranked comes_before (flat_map (range_item ids centre radius (Some (Has word))) (tree_places nodes root))

-- the picks for a word at most so far from a centre, by their distance from it and then by key
abbrev pub near_picks : Numbers → Viewpoint → Viewpoint → ℕ → NodeMap → ℕ → List ℕ → List Pick
near_picks ids at centre radius nodes root word = map (pick_from at word) (hits_within ids centre radius nodes root word)
