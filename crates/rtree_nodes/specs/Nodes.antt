-- Nodes in memory.
use Rattle.std.specs.Prelude.{◌≡◌, ℕ, ◌<◌, true, false, nat_lt, ◌&&◌, ◌==◌, if◌then◌else◌, slice_index, slice_index_or, List, Option, Some, None}
use Rattle.std.specs.Int.{bit_at}
use Rattle.spatial_base.specs.Key.{Name, Auto}
use Rattle.spatial_base.specs.Point.{Position}
use Rattle.spatial_base.specs.Rect.{Bounds}
use Rattle.rtree_nodes.specs.Slots.{NodeView}
use Rattle.rtree_nodes.specs.declared.held.Slots.{Slots}
use Rattle.rtree_nodes.specs.declared.held.Slots.TheVariants.{Leaf, Inner}
use Rattle.rtree_nodes.specs.declared.held.Node.{Node}
use Rattle.rtree_nodes.specs.declared.content.Slot.{Slot}
use Rattle.rtree_nodes.specs.declared.content.Slot.TheVariants.{Place, Child}
use Rattle.rtree_nodes.specs.Reach.{item_of, origin, origin_rect}
use Rattle.rtree_nodes.specs.Pages.{is_used, item_at}

-- what the arrays hold at slot i
abbrev pub slot_of : Slots → ℕ → Slot
slot_of (Leaf points keys) i = Place (slice_index_or points i origin) (slice_index_or keys i (Auto 0))
slot_of (Inner rects children) i = Child (slice_index_or rects i origin_rect) (slice_index children i)

-- what they hold at an unused slot of a node that was read
abbrev pub unused_slot : Slots → Slot
unused_slot (Leaf points keys) = Place origin (Auto 0)
unused_slot (Inner rects children) = Child origin_rect 0

-- the node that it stands for
unfoldable pub view_of : Node → NodeView
view_of node = record {
  level = node.level;
  slots = λ i. if nat_lt i 32 && (bit_at node.used i == 1) then Some (item_of (slot_of node.slots i)) else None;
}

-- the unused slots are as those of a node that was read
abbrev pub IsPlain : Node → Type 0
IsPlain node = (i : ℕ) → i < 32 → bit_at node.used i ≡ 0 → slot_of node.slots i ≡ unused_slot node.slots

-- what stands in slot i of the page, or the slot holds what an unused one does
abbrev pub HoldsAt : List ℕ → Slots → ℕ → Type 0
HoldsAt page slots i =
    (is_used page i ≡ true → item_of (slot_of slots i) ≡ item_at page i) × (is_used page i ≡ false → slot_of slots i ≡ unused_slot slots)

-- each slot holds what stands in the page
abbrev pub HoldsAll : List ℕ → Slots → Type 0
HoldsAll page slots = (i : ℕ) → i < 32 → HoldsAt page slots i

-- a leaf's arrays hold this for what stands in a slot
abbrev pub IsLeafSlot : Option Slot → Position → Name → Type 0
IsLeafSlot (Some (Place place name)) point key = (point ≡ place) × (key ≡ name)
IsLeafSlot (Some (Child bounds page)) point key = (point ≡ origin) × (key ≡ Auto 0)
IsLeafSlot None point key = (point ≡ origin) × (key ≡ Auto 0)

-- and an inner node's arrays hold this
abbrev pub IsInnerSlot : Option Slot → Bounds → ℕ → Type 0
IsInnerSlot (Some (Place place name)) rect child = (rect ≡ origin_rect) × (child ≡ 0)
IsInnerSlot (Some (Child bounds page)) rect child = (rect ≡ bounds) × (child ≡ page)
IsInnerSlot None rect child = (rect ≡ origin_rect) × (child ≡ 0)
