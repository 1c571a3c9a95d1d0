-- Which rule a page of a tree breaks in its place there.
use Rattle.std.specs.Prelude.{◌≡◌, ◌≢◌, ◌⊎◌, ℕ, zero, suc, ◌<◌, List, Some}
use Rattle.page_face.specs.FreeList.{PageMap}
use Rattle.page_face.specs.declared.fault.Rule.{Rule}
use Rattle.page_face.specs.declared.fault.Rule.TheVariants.{Kind, Fill, Spare, Level, Value, Rect}
use Rattle.page_face.specs.declared.fault.Damage.{Damage}
use Rattle.page_walks.specs.Misuse.{IsMisused, AreUsedOnce}
use Rattle.rtree_nodes.specs.Slots.{Item, Slots, NodeMap, filled, tops}
use Rattle.rtree_nodes.specs.Trees.{IsNode, IsItem, root_least}
use Rattle.rtree_nodes.specs.Breaks.{BreaksNode}
use Rattle.rtree_nodes.specs.Pages.{level_in, stored_in, slots_in, node_of}
use Rattle.rtree_nodes.specs.Whole.{IsWell, tree_uses}
use Rattle.tree_check.specs.Nodes.{nodes_in, beneath}

-- the rule that a page breaks, of those of a node of this level with at least so many items
abbrev pub BreaksPlaced : Rule → ℕ → ℕ → List ℕ → Type 0
BreaksPlaced Kind least level page = BreaksNode Kind page
BreaksPlaced Fill least level page = filled (stored_in page) < least
BreaksPlaced Spare least level page = BreaksNode Spare page
BreaksPlaced Level least level page = level_in page ≢ level
BreaksPlaced Value least level page = BreaksNode Value page
BreaksPlaced _ least level page = ⊥

-- an item in some slot is so
pub record SomeItem (P : Item → Type 0) (slots : Slots) : Type 0 where
  pub at : ℕ
  pub within : at < 32
  pub item : Item
  pub is : slots at ≡ Some item
  pub holds : P item

-- All below a child is well formed, and the child's rectangle isn't the least one round that.
pub record IsNotLeast (nodes : NodeMap) (level : ℕ) (x : Item) : Type 0 where
  pub node : IsNode (λ y. IsItem nodes level y) 12 level (nodes x.to)
  pub apart : ((d : ℕ) → x.reach d ≡ tops d (nodes x.to).slots) → ⊥

-- The damage is of an item in a node of this level at a page: the item's rectangle isn't the least one, which is broken at that page, or a
-- page below the item breaks a rule in its place.
abbrev pub IsWrongItem : PageMap → Damage → ℕ → ℕ → Item → Type 0
IsWrongItem pages damage zero page x = ⊥
IsWrongItem pages damage (suc level) page x =
    ((damage ≡ record { page = page; rule = Rect }) × IsNotLeast (nodes_in pages) level x)
    ⊎ (((damage.page ≡ x.to) × BreaksPlaced damage.rule 12 level (pages x.to)) ⊎ SomeItem (λ y. IsWrongItem pages damage level x.to y) (slots_in (pages x.to)))

-- the damage is of a page of a tree, or of one below it: a rule that it breaks as a node of this level with at least so many items
abbrev pub IsDamaged : PageMap → Damage → ℕ → ℕ → ℕ → Type 0
IsDamaged pages damage least level page =
    ((damage.page ≡ page) × BreaksPlaced damage.rule least level (pages page)) ⊎ SomeItem (λ y. IsWrongItem pages damage level page y) (slots_in (pages page))

-- the damage is below a page: a page there is misused, or one there or the page itself breaks a rule in its place
abbrev pub IsBrokenBelow : PageMap → ℕ → (ℕ → ℕ) → ℕ → ℕ → ℕ → Damage → Type 0
IsBrokenBelow pages count before least level page damage =
    IsMisused count before (beneath (nodes_in pages) level page) damage ⊎ IsDamaged pages damage least level page

-- the damage is that the root is above level 9: no tree is so high whose pages are counted and used once each
abbrev pub IsTooHigh : PageMap → Damage → ℕ → Type 0
IsTooHigh pages damage root = (damage ≡ record { page = root; rule = Level }) × (9 < level_in (pages root))

-- a page of the tree at a root breaks a rule in its place
abbrev pub IsDamagedTree : PageMap → Damage → ℕ → Type 0
IsDamagedTree pages damage zero = ⊥
IsDamagedTree pages damage (suc n) =
    IsTooHigh pages damage (suc n) ⊎ IsDamaged pages damage (root_least (level_in (pages (suc n)))) (level_in (pages (suc n))) (suc n)

-- The damage is of the tree at a root: a page of it is misused, or breaks a rule in its place. `before n` is how often page n was used.
abbrev pub IsBrokenTree : PageMap → ℕ → (ℕ → ℕ) → ℕ → Damage → Type 0
IsBrokenTree pages count before root damage =
    IsMisused count before (tree_uses node_of pages root) damage ⊎ IsDamagedTree pages damage root

-- the tree at a root is well formed, each of its pages is counted, and none is used twice or was used before
pub record IsWholeTree (pages : PageMap) (count : ℕ) (before : ℕ → ℕ) (root : ℕ) : Type 0 where
  pub tree : IsWell node_of pages root
  pub used : AreUsedOnce count before (tree_uses node_of pages root)
