-- Why a look for a node's row is damaged, and why a change of rows is.
use Rattle.std.specs.Prelude.{◌⊎◌, ℕ, List}
use Rattle.page_face.specs.FreeList.{PageMap}
use Rattle.page_face.specs.declared.fault.Damage.{Damage}
use Rattle.btree_nodes.specs.Damages.{AskedSince, IsRefusedTake}
use Rattle.paged_map.specs.Maps.{IsMapDamaged}
use Rattle.rtree_nodes.specs.Stock.{rows_form}

-- a page of the rows' map that was asked for breaks a rule in its place
abbrev pub IsRowsDamage : PageMap → ℕ → ℕ → List ℕ → List ℕ → Damage → Type 0
IsRowsDamage pages count root before asked damage = IsMapDamaged rows_form pages count root damage × AskedSince before asked damage.page

-- why a change of rows is damaged, over the pages and the root as it leaves them: so, or a take was refused for it
abbrev pub IsRowsHarm : PageMap → ℕ → ℕ → ℕ → List ℕ → List ℕ → Damage → Type 0
IsRowsHarm pages count first root before asked damage = IsRowsDamage pages count root before asked damage ⊎ IsRefusedTake pages count first damage
