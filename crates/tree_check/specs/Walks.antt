-- What a walk has done if it found no damage, and what it found. `before n` and `after n` are how often page n was met.
use Rattle.std.specs.Prelude.{◌≡◌, ◌⊎◌, ℕ, ◌+◌, ◌<◌, List, ◌++◌, Option, Some}
use Rattle.page_face.specs.FreeList.{PageMap}
use Rattle.page_face.specs.Causes.{IsUncounted}
use Rattle.page_face.specs.declared.fault.Damage.{Damage}
use Rattle.page_walks.specs.Misuse.{IsMisused}
use Rattle.rtree_nodes.specs.Slots.{Item, Slots, got, sum_to, Held}
use Rattle.rtree_nodes.specs.Trees.{IsNode, IsItem, uses}
use Rattle.tree_check.specs.Nodes.{nodes_in, beneath, chained, listed, pages_below, node_pages}
use Rattle.tree_check.specs.Damages.{SomeItem, IsWrongItem}

-- how often a page is used by the first slots of a node of this level
abbrev pub slot_uses : PageMap → ℕ → Slots → ℕ → ℕ → ℕ
slot_uses pages level slots at n = sum_to at (λ i. got (λ y. uses (nodes_in pages) level y n) (slots i))

-- the pages below the first slots
abbrev pub slot_pages : PageMap → ℕ → Slots → ℕ → List ℕ
slot_pages pages level slots at = chained at (λ i. listed (λ y. pages_below (nodes_in pages) level y) (slots i))

-- A node of this level was walked: it is well formed with all below it. The pages below it are counted and were met, and they joined the
-- list, the node's own page after them.
pub record IsWalked (pages : PageMap) (count least level page : ℕ) (before after : ℕ → ℕ) (list found : List ℕ) : Type 0 where
  pub node : IsNode (λ y. IsItem (nodes_in pages) level y) least level (nodes_in pages page)
  pub counted : (n : ℕ) → IsUncounted count n → beneath (nodes_in pages) level page n ≡ 0
  pub met : (n : ℕ) → after n ≡ before n + beneath (nodes_in pages) level page n
  pub gives : found ≡ list ++ node_pages (nodes_in pages) level page

-- a slot of a node of this level was walked, with all below it
pub record IsWalkedSlot (pages : PageMap) (count level : ℕ) (slot : Option Item) (before after : ℕ → ℕ) (list found : List ℕ) : Type 0 where
  pub item : Held (λ y. IsItem (nodes_in pages) level y) slot
  pub counted : (n : ℕ) → IsUncounted count n → got (λ y. uses (nodes_in pages) level y n) slot ≡ 0
  pub met : (n : ℕ) → after n ≡ before n + got (λ y. uses (nodes_in pages) level y n) slot
  pub gives : found ≡ list ++ listed (λ y. pages_below (nodes_in pages) level y) slot

-- the first slots of a node of this level were walked, with all below them
pub record AreWalked (pages : PageMap) (count level : ℕ) (slots : Slots) (before after : ℕ → ℕ) (list found : List ℕ) (at : ℕ) : Type 0 where
  pub items : (i : ℕ) → i < at → Held (λ y. IsItem (nodes_in pages) level y) (slots i)
  pub counted : (n : ℕ) → IsUncounted count n → slot_uses pages level slots at n ≡ 0
  pub met : (n : ℕ) → after n ≡ before n + slot_uses pages level slots at n
  pub gives : found ≡ list ++ slot_pages pages level slots at

-- the damage is of a slot of a node of this level at a page: a page is misused below it, or its item is wrong
pub record IsBrokenSlot (pages : PageMap) (count : ℕ) (before : ℕ → ℕ) (level page : ℕ) (slot : Option Item) (damage : Damage) : Type 0 where
  pub item : Item
  pub is : slot ≡ Some item
  pub breaks : IsMisused count before (uses (nodes_in pages) level item) damage ⊎ IsWrongItem pages damage level page item

-- the damage is of one of the slots
abbrev pub AreBrokenSlots : PageMap → ℕ → (ℕ → ℕ) → ℕ → ℕ → Slots → Damage → Type 0
AreBrokenSlots pages count before level page slots damage =
    IsMisused count before (slot_uses pages level slots 32) damage ⊎ SomeItem (λ y. IsWrongItem pages damage level page y) slots
