-- Nodes whose pages aren't of the level that they were given with.
use Rattle.std.specs.Prelude.{ℕ, List}
use Rattle.page_face.specs.FreeList.{PageMap}
use Rattle.btree_nodes.specs.Damages.{AskedSince}
use Rattle.best_first.specs.declared.item.Item.{Item}
use Rattle.best_first.specs.declared.item.Item.TheVariants.{Node}
use Rattle.best_first.specs.Items.{IsGivenAt}

-- the page was asked for, and its bytes haven't this level
abbrev pub IsOffLevel : (List ℕ → ℕ → Type 0) → PageMap → List ℕ → List ℕ → ℕ → ℕ → Type 0
IsOffLevel has_level pages old_log new_log page level = AskedSince old_log new_log page × (has_level (pages page) level → ⊥)

-- A parent one level above gave the page with this level: the parent was asked for, its bytes have its level, and the page stands in them.
pub record IsGivenBelow (stands : List ℕ → ℕ → Item → Type 0) (has_level : List ℕ → ℕ → Type 0) (pages : PageMap) (old_log new_log : List ℕ) (page level : ℕ) : Type 0 where
  pub parent : ℕ
  pub above : ℕ
  pub bound : ℕ
  pub asked : AskedSince old_log new_log parent
  pub has : has_level (pages parent) above
  pub stood : stands (pages parent) above (Node page level bound)
  pub below : IsGivenAt above (Node page level bound)
