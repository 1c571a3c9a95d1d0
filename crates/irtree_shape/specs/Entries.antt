-- The entry that a place has in a tree.
use Rattle.std.specs.Prelude.{◌≡◌, ◌≢◌, ℕ, ◌+◌, ◌≤◌, ◌==◌, if◌then◌else◌, List}
use Rattle.spatial_base.specs.Key.{Name, form_of}
use Rattle.spatial_base.specs.Point.{Position}
use Rattle.row_codec.specs.declared.stored.Stored.{Stored}
use Rattle.row_codec.specs.Stored.{held_pairs}
use Rattle.node_rows.specs.Impacts.{impact_in}
use Rattle.rtree_nodes.specs.Slots.{Item, NodeMap}
use Rattle.rtree_nodes.specs.Reach.{place_item}
use Rattle.rtree_nodes.specs.Entries.{is_entry}
use Rattle.irtree_shape.specs.Words.{worded}
use Rattle.irtree_shape.specs.Whole.{tree_sum}

-- the item of a key's place: the place's point, the key and the place's words
abbrev pub entry_at : Name → Stored → Item
entry_at key stored = worded (impact_in (held_pairs stored)) (place_item stored.point (form_of key))

-- a tree has an entry of a key at a point
abbrev pub HasPlace : NodeMap → ℕ → Name → Position → Type 0
HasPlace nodes root key point = 1 ≤ tree_sum nodes root (is_entry point (form_of key))

-- 1 for an entry of this point and this key's bytes that has this impact of the word, and else 0
abbrev pub has_impact : Position → List ℕ → ℕ → ℕ → Item → ℕ
has_impact point key w c x = if x.reach (4 + w) == c then is_entry point key x else 0

-- each entry of this point and this key's bytes in a tree has these impacts
abbrev pub AreWorded : NodeMap → ℕ → Position → List ℕ → (ℕ → ℕ) → Type 0
AreWorded nodes root point key f = (w c : ℕ) → c ≢ f w → tree_sum nodes root (has_impact point key w c) ≡ 0

-- a tree has the entry of a key's place, and none of its key and point with other words
pub record HasEntry (nodes : NodeMap) (root : ℕ) (key : Name) (stored : Stored) : Type 0 where
  pub there : HasPlace nodes root key stored.point
  pub words : AreWorded nodes root stored.point (form_of key) (impact_in (held_pairs stored))
