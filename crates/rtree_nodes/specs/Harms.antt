-- Which rule a page that was asked for breaks.
use Rattle.std.specs.Prelude.{◌≡◌, ◌≢◌, ◌⊎◌, ℕ, suc, ◌<◌, List, length}
use Rattle.page_face.specs.FreeList.{PageMap}
use Rattle.page_face.specs.Causes.{IsUncounted}
use Rattle.page_face.specs.declared.fault.Rule.{Rule}
use Rattle.page_face.specs.declared.fault.Rule.TheVariants.{Kind, Fill, Value, Level, Link}
use Rattle.page_face.specs.declared.fault.Damage.{Damage}
use Rattle.btree_nodes.specs.Damages.{AskedSince}
use Rattle.rtree_nodes.specs.Slots.{IsChildAt}
use Rattle.rtree_nodes.specs.Pages.{level_in, stored_in}
use Rattle.rtree_nodes.specs.Breaks.{BreaksNode, BreaksHeader}

-- this holds of the page's bytes, if they are told
abbrev pub IfReadable : PageMap → ℕ → (List ℕ → Type 0) → Type 0
IfReadable pages page P = 0 < length (pages page) → P (pages page)

-- the rule that a page breaks by itself: it isn't counted, isn't a node's, has no slot, or has a slot that isn't of its form
abbrev pub BreaksAlone : Rule → PageMap → ℕ → ℕ → Type 0
BreaksAlone Link pages count page = IsUncounted count page
BreaksAlone Kind pages count page = IfReadable pages page (BreaksHeader Kind)
BreaksAlone Fill pages count page = IfReadable pages page (BreaksHeader Fill)
BreaksAlone Value pages count page = IfReadable pages page (BreaksNode Value)
BreaksAlone _ pages count page = ⊥

-- the rule that a page breaks by itself, or by a level that its place doesn't allow
abbrev pub BreaksPlace : Rule → PageMap → ℕ → ℕ → (ℕ → Type 0) → Type 0
BreaksPlace rule pages count page wrong = BreaksAlone rule pages count page ⊎ ((rule ≡ Level) × IfReadable pages page (λ bytes. wrong (level_in bytes)))

-- a page that was asked for names the child in a slot, and isn't one level above it
pub record IsMislevelled (pages : PageMap) (before after : List ℕ) (child : ℕ) : Type 0 where
  pub parent : ℕ
  pub at : ℕ
  pub asked : AskedSince before after parent
  pub names : IfReadable pages parent (λ bytes. IsChildAt (stored_in bytes) at child)
  pub level : IfReadable pages parent (λ above. IfReadable pages child (λ bytes. level_in above ≢ suc (level_in bytes)))

-- the page has a level that its place in the tree doesn't allow: the root is above level 9, or a child isn't one level below its parent
abbrev pub HasWrongLevel : PageMap → ℕ → List ℕ → List ℕ → ℕ → Type 0
HasWrongLevel pages root before after page = ((page ≡ root) × IfReadable pages page (λ bytes. 9 < level_in bytes)) ⊎ IsMislevelled pages before after page

-- the damage is of a page that was asked for: a rule that it breaks by itself, or by its level
pub record IsHarm (pages : PageMap) (count root : ℕ) (before after : List ℕ) (damage : Damage) : Type 0 where
  pub asked : AskedSince before after damage.page
  pub breaks : BreaksAlone damage.rule pages count damage.page ⊎ ((damage.rule ≡ Level) × HasWrongLevel pages root before after damage.page)
