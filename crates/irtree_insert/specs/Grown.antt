-- A node that was made beside another one.
use Rattle.std.specs.Prelude.{ℕ, Option, None, Some}
use Rattle.rtree_nodes.specs.Slots.{Item}
use Rattle.rtree_nodes.specs.Reach.{child_item}
use Rattle.node_rows.specs.Rows.{Bytes}
use Rattle.node_rows.specs.Impacts.{top_at}
use Rattle.irtree_insert.specs.declared.grown.Beside.{Beside}

-- the node as an item, without its words
abbrev pub beside_item : Beside → Item
beside_item b = child_item b.rect b.page

-- the greatest byte of a word in the node, if one was made
abbrev pub beside_top : Bytes → Option Beside → ℕ → ℕ
beside_top b None w = 0
beside_top b (Some y) w = top_at b y.page w
