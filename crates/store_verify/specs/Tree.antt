-- The tree of a store by itself, and what its rows of words say of it.
use Rattle.std.specs.Prelude.{◌≡◌, ℕ, ◌<◌, List, [], ◌∷◌, Some, if◌then◌else◌}
use Rattle.std.specs.Str.{bytes_eq}
use Rattle.page_face.specs.FreeList.{PageMap}
use Rattle.page_face.specs.declared.head.Head.{Head}
use Rattle.btree_nodes.specs.Tree.{map_rows}
use Rattle.spatial_base.specs.Key.{Name, form_of}
use Rattle.row_codec.specs.declared.stored.Stored.{Stored}
use Rattle.row_codec.specs.Stored.{held_pairs}
use Rattle.rtree_nodes.specs.Slots.{Item, NodeMap, NodeView}
use Rattle.rtree_nodes.specs.Made as made
use Rattle.rtree_nodes.specs.Stock.{rows_form}
use Rattle.rtree_nodes.specs.Pages.{node_of}
use Rattle.rtree_nodes.specs.Whole.{tree_uses}
use Rattle.node_rows.specs.Rows.{AreFilled, Bytes, bytes_in}
use Rattle.node_rows.specs.Impacts.{impact_in, top_at}
use Rattle.irtree_shape.specs.Made.{IsBlank}

-- the nodes in pages by themselves, without their rows
abbrev pub plain_nodes : PageMap → NodeMap
plain_nodes = made.nodes_in node_of

-- how often the tree uses a page
abbrev pub node_uses : Head → PageMap → ℕ → ℕ
node_uses head pages = tree_uses node_of pages head.tree

-- the impact of a word in the place at a key's bytes; 0 if the place hasn't the word, or there is no place
abbrev pub word_impact : List (Name × Stored) → ℕ → List ℕ → ℕ
word_impact [] word bytes = 0
word_impact (e ∷ places) word bytes = if bytes_eq (form_of e.0) bytes then impact_in (held_pairs e.1) word else word_impact places word bytes

-- at each slot of a leaf, the byte of each word is its impact in the place of the slot's key
abbrev pub AreImpacts : Bytes → List (Name × Stored) → ℕ → NodeView → Type 0
AreImpacts bytes places n node = node.level ≡ 0 → (w i : ℕ) (x : Item) → node.slots i ≡ Some x → bytes n w i ≡ word_impact places w x.key

-- at each slot of an inner node, the byte of each word is the greatest one of the child's row
abbrev pub AreGreatest : Bytes → ℕ → NodeView → Type 0
AreGreatest bytes n node = 0 < node.level → (w i : ℕ) (x : Item) → node.slots i ≡ Some x → bytes n w i ≡ top_at bytes x.to w

-- The rows say of each leaf and word the impacts of the places, and of each inner node the greatest byte below each slot. No row is all
-- zeros, no byte is at a slot that isn't used, and each row names a node of the tree.
pub record AreRowsOf (head : Head) (pages : PageMap) (places : List (Name × Stored)) : Type 0 where
  pub impacts : (n : ℕ) → 0 < node_uses head pages n → AreImpacts (bytes_in pages head.rows) places n (node_of (pages n))
  pub greatest : (n : ℕ) → 0 < node_uses head pages n → AreGreatest (bytes_in pages head.rows) n (node_of (pages n))
  pub filled : AreFilled (map_rows rows_form pages head.rows)
  pub blank : (n : ℕ) → IsBlank node_of pages head.rows n
  pub named : (n w i : ℕ) → node_uses head pages n ≡ 0 → bytes_in pages head.rows n w i ≡ 0
