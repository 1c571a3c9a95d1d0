-- Which rule a page that was asked for breaks.
use Rattle.std.specs.Prelude.{◌≡◌, ◌≢◌, ◌⊎◌, ℕ, List}
use Rattle.page_face.specs.FreeList.{PageMap}
use Rattle.page_face.specs.declared.fault.Damage.{Damage}
use Rattle.btree_nodes.specs.Damages.{AskedSince}
use Rattle.rtree_nodes.specs.Harms.{BreaksPlace, IsHarm}
use Rattle.node_rows.specs.Damages.{IsRowsDamage}

-- the page of a node, looked at as one of this level, breaks a rule, or a page of the rows' map does
abbrev pub IsNodeHarm : PageMap → ℕ → ℕ → ℕ → ℕ → List ℕ → List ℕ → Damage → Type 0
IsNodeHarm pages count rows level page before after damage =
    ((damage.page ≡ page) × AskedSince before after page × BreaksPlace damage.rule pages count page (λ found. found ≢ level))
    ⊎ IsRowsDamage pages count rows before after damage

-- a page of the tree or of the rows' map that was asked for breaks a rule
abbrev pub IsQueryHarm : PageMap → ℕ → ℕ → ℕ → List ℕ → List ℕ → Damage → Type 0
IsQueryHarm pages count rows root before after damage = IsHarm pages count root before after damage ⊎ IsRowsDamage pages count rows before after damage
