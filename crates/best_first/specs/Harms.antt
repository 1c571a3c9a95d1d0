-- What a damage says of the pages that a search asked for.
use Rattle.std.specs.Prelude.{◌≡◌, ◌⊎◌, ℕ, List}
use Rattle.page_face.specs.FreeList.{PageMap}
use Rattle.page_face.specs.declared.fault.Damage.{Damage}
use Rattle.page_face.specs.declared.fault.Rule.TheVariants.{Level}
use Rattle.btree_nodes.specs.Damages.{AskedSince}
use Rattle.btree_nodes.specs.Tree.{map_uses}
use Rattle.paged_map.specs.Maps.{IsMapDamaged}
use Rattle.rtree_nodes.specs.Stock.{rows_form}
use Rattle.rtree_nodes.specs.Harms.{BreaksAlone, IsMislevelled}

-- a rule that a page breaks: as a node's by itself or by a level that its parent's doesn't allow, or in its place in the rows' map
abbrev pub BreaksOne : PageMap → ℕ → ℕ → List ℕ → List ℕ → Damage → Type 0
BreaksOne pages count rows before after damage = (BreaksAlone damage.rule pages count damage.page ⊎ ((damage.rule ≡ Level) × IsMislevelled pages before after damage.page)) ⊎ IsMapDamaged rows_form pages count rows damage

-- the page was asked for, and breaks the rule
abbrev pub IsHarm : PageMap → ℕ → ℕ → List ℕ → List ℕ → Damage → Type 0
IsHarm pages count rows before after damage = AskedSince before after damage.page × BreaksOne pages count rows before after damage

-- a page that the rows' map doesn't use
abbrev pub IsNodePage : PageMap → ℕ → ℕ → Type 0
IsNodePage pages rows page = map_uses rows_form pages rows page ≡ 0
