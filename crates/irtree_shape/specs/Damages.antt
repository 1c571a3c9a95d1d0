-- Which rule a page of a tree breaks wherever it stands, and why a change of a tree is damaged.
use Rattle.std.specs.Prelude.{◌≡◌, ◌⊎◌, ℕ, ◌<◌, List}
use Rattle.page_face.specs.FreeList.{PageMap}
use Rattle.page_face.specs.Causes.{IsUncounted}
use Rattle.page_face.specs.declared.fault.Rule.{Rule}
use Rattle.page_face.specs.declared.fault.Rule.TheVariants.{Kind, Fill, Spare, Value, Level, Link}
use Rattle.page_face.specs.declared.fault.Damage.{Damage}
use Rattle.btree_nodes.specs.Damages.{AskedSince}
use Rattle.rtree_nodes.specs.Slots.{filled}
use Rattle.rtree_nodes.specs.Pages.{level_in, stored_in}
use Rattle.rtree_nodes.specs.Breaks.{BreaksNode, BreaksHeader}
use Rattle.rtree_nodes.specs.Harms.{IfReadable, IsMislevelled}
use Rattle.node_rows.specs.Damages.{IsRowsHarm}

-- an inner node of one child, which would choose nothing
abbrev pub IsLone : List ℕ → Type 0
IsLone page = (0 < level_in page) × (filled (stored_in page) ≡ 1)

-- The rule that a page breaks as a node's, wherever in a tree it stands: it isn't a node's, has no slot or one child alone, has spare bytes that aren't 0,
-- a slot that isn't of its form, or a level above 9.
abbrev pub BreaksAnywhere : Rule → List ℕ → Type 0
BreaksAnywhere Kind page = BreaksHeader Kind page
BreaksAnywhere Fill page = BreaksHeader Fill page ⊎ IsLone page
BreaksAnywhere Spare page = BreaksNode Spare page
BreaksAnywhere Value page = BreaksNode Value page
BreaksAnywhere Level page = 9 < level_in page
BreaksAnywhere _ page = ⊥

-- the rule that a page breaks by itself: it isn't counted, or its bytes, if they are told, break the rule
abbrev pub IsBroken : Rule → PageMap → ℕ → ℕ → Type 0
IsBroken Link pages count page = IsUncounted count page
IsBroken Kind pages count page = IfReadable pages page (BreaksAnywhere Kind)
IsBroken Fill pages count page = IfReadable pages page (BreaksAnywhere Fill)
IsBroken Spare pages count page = IfReadable pages page (BreaksAnywhere Spare)
IsBroken Value pages count page = IfReadable pages page (BreaksAnywhere Value)
IsBroken Level pages count page = IfReadable pages page (BreaksAnywhere Level)
IsBroken _ pages count page = ⊥

-- the damage is of a node's page that was asked for: a rule that it breaks by itself, or it isn't one level below a page that names it and was asked for
pub record IsNodeHarm (pages : PageMap) (count : ℕ) (before after : List ℕ) (damage : Damage) : Type 0 where
  pub asked : AskedSince before after damage.page
  pub breaks : IsBroken damage.rule pages count damage.page ⊎ ((damage.rule ≡ Level) × IsMislevelled pages before after damage.page)

-- why a change of a tree is damaged, over the pages and the root of the rows as it leaves them: by a node's page, or as a change of rows is
abbrev pub IsTreeHarm : PageMap → ℕ → ℕ → ℕ → List ℕ → List ℕ → Damage → Type 0
IsTreeHarm pages count first rows before after damage = IsNodeHarm pages count before after damage ⊎ IsRowsHarm pages count first rows before after damage
