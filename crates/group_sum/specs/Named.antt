-- The places of a tree and their keys.
use Rattle.std.specs.Prelude.{◌≡◌, ℕ, List}
use Rattle.std.specs.List.{Contains}
use Rattle.rtree_nodes.specs.Slots.{Item, NodeMap}
use Rattle.node_filter.specs.Entries.{name_of, tree_places}

-- no two places of a tree have one key
abbrev pub AreNamedOnce : NodeMap → ℕ → Type 0
AreNamedOnce nodes root = (x y : Item) → Contains (tree_places nodes root) x → Contains (tree_places nodes root) y → name_of x ≡ name_of y → x ≡ y
