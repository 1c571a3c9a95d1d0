-- What a walk below a page has shown.
use Rattle.std.specs.Prelude.{◌≡◌, ℕ, ◌+◌, List}
use Rattle.page_face.specs.FreeList.{PageMap}
use Rattle.page_face.specs.Causes.{IsUncounted}
use Rattle.btree_nodes.specs.declared.form.Form.{Form}
use Rattle.btree_nodes.specs.Rows.{Row}
use Rattle.btree_nodes.specs.Tree.{IsTree, rows_at}
use Rattle.page_walks.specs.Beneath.{beneath}
use Rattle.page_walks.specs.Leaves.{AreGood}

-- The page heads a tree, the pages below it are counted and were met, each as often as it is used, its leaves are good, and its rows
-- were taken.
pub record HasWalked (good : List ℕ → Type 0) (takes : List Row → Type 0) (form : Form) (pages : PageMap) (count least level page low high : ℕ) (before now : ℕ → ℕ) : Type 0 where
  pub tree : IsTree form least pages level page low high
  pub known : (n : ℕ) → IsUncounted count n → beneath form pages level page n ≡ 0
  pub met : (n : ℕ) → now n ≡ before n + beneath form pages level page n
  pub leaves : AreGood good form pages level page
  pub taken : takes (rows_at form pages level page)
