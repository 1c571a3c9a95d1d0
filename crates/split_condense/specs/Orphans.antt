-- Orphans as loose items, and why a page on the way to an entry is refused.
use Rattle.std.specs.Prelude.{◌≡◌, ◌≢◌, ◌≤◌, ◌<◌, ◌⊎◌, ℕ, List, None, map, true, false}
use Rattle.page_face.specs.declared.fault.PageFault.{PageFault}
use Rattle.page_face.specs.declared.fault.PageFault.TheVariants.{Damaged, Memory}
use Rattle.page_face.specs.declared.fault.Rule.TheVariants.{Fill, Value, Level}
use Rattle.rtree_nodes.specs.Slots.{Item, filled}
use Rattle.rtree_nodes.specs.Loose.{Loose, AllLoose, IsAt}
use Rattle.rtree_nodes.specs.declared.content.Slot.{Slot}
use Rattle.rtree_nodes.specs.Breaks.{BreaksFirst, BreaksHeader}
use Rattle.rtree_nodes.specs.Pages.{is_form, level_in, slots_in}
use Rattle.rtree_nodes.specs.Reach.{item_of, is_place}
use Rattle.node_rows.specs.Impacts.{impact_in}
use Rattle.irtree_shape.specs.Words.{worded}
use Rattle.irtree_shape.specs.Damages.{IsLone}
use Rattle.split_condense.specs.declared.orphan.Orphan.{Orphan}

-- an orphan as a loose item
abbrev pub loose_of : Orphan → ℕ × Item
loose_of o = (o.level, worded (impact_in o.words.items) (item_of o.slot))

-- orphans as loose items
abbrev pub loose_in : List Orphan → Loose
loose_in os = map loose_of os

-- no loose item is above this level
abbrev pub AreLow : ℕ → Loose → Type 0
AreLow top = AllLoose (λ l y. l ≤ top)

-- the slot is that of a child at this page
abbrev pub IsChildOf : ℕ → Slot → Type 0
IsChildOf page slot = (is_place slot ≡ false) × ((item_of slot).to ≡ page)

-- why a page's slots aren't read: no memory was left, or the page isn't a node's
abbrev pub IsUnread : ℕ → List ℕ → PageFault → Type 0
IsUnread page bytes Memory = Unit {0}
IsUnread page bytes (Damaged damage) = (damage ≡ record { page = page; rule = Value }) × (is_form bytes ≡ false)
IsUnread page bytes _ = ⊥

-- why a page doesn't say that it is a node's: its kind, or a mask of no slot
abbrev pub IsHeadless : ℕ → List ℕ → PageFault → Type 0
IsHeadless page bytes (Damaged damage) = (damage.page ≡ page) × BreaksHeader damage.rule bytes
IsHeadless page bytes _ = ⊥

-- why a page isn't that of a node of this level: the first rule of a node's page that it breaks, its level byte, or that its node is an inner one of one child
abbrev pub IsMisplaced : ℕ → ℕ → List ℕ → PageFault → Type 0
IsMisplaced page level bytes (Damaged damage) =
    (damage.page ≡ page) × (BreaksFirst damage.rule bytes ⊎ ((damage.rule ≡ Level) × (level_in bytes ≢ level)) ⊎ ((damage.rule ≡ Fill) × IsLone bytes))
IsMisplaced page level bytes _ = ⊥

-- why a path doesn't lead through a page: the page isn't a node's, or nothing is in the slot
abbrev pub IsOffPath : ℕ → ℕ → List ℕ → PageFault → Type 0
IsOffPath page at bytes (Damaged damage) =
    (damage ≡ record { page = page; rule = Value }) × (at < 32 → is_form bytes ≡ true → slots_in bytes at ≡ None)
IsOffPath page at bytes _ = ⊥

-- an inner node has one child, and it stands at this page
pub record IsOnlyChild (bytes : List ℕ) (child : ℕ) : Type 0 where
  pub inner : 0 < level_in bytes
  pub alone : filled (slots_in bytes) ≡ 1
  pub at : ℕ
  pub item : Item
  pub there : IsAt (slots_in bytes) at item
  pub to_is : item.to ≡ child
