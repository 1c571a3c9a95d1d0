-- The item of an entry that is put in or taken out.
use Rattle.std.specs.Prelude.{ℕ, take}
use Rattle.spatial_base.specs.Key.{form_of}
use Rattle.node_rows.specs.Impacts.{impact_in}
use Rattle.rtree_nodes.specs.Slots.{Item}
use Rattle.rtree_nodes.specs.Reach.{place_item}
use Rattle.irtree_shape.specs.Words.{worded}
use Rattle.split_condense.specs.declared.entry.Entry.{Entry}

-- the impact of each word in an entry, 0 for a word that it doesn't have
abbrev pub impact_of : Entry → ℕ → ℕ
impact_of entry = impact_in (take entry.count entry.pairs)

-- the item of an entry in a leaf: its point, its key and its words
abbrev pub entry_item : Entry → Item
entry_item entry = worded (impact_of entry) (place_item entry.point (form_of entry.key))
