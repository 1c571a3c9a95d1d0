-- A page below another one of a tree.
use Rattle.std.specs.Prelude.{◌≡◌, ℕ, ◌<◌, ◌≤◌, List, ◌++◌}
use Rattle.page_face.specs.FreeList.{PageMap}
use Rattle.btree_nodes.specs.declared.form.Form.{Form}
use Rattle.btree_nodes.specs.Rows.{Row, IsWithin}
use Rattle.btree_nodes.specs.Tree.{IsTree, rows_at, uses}

-- pages in which a page heads a tree of these rows, which uses the same pages
pub record HeadsInstead (form : Form) (least : ℕ) (pages pages' : PageMap) (level page low high : ℕ) (rows : List Row) : Type 0 where
  pub tree : IsTree form least pages' level page low high
  pub has : rows_at form pages' level page ≡ rows
  pub uses : (n : ℕ) → uses form pages' level page n ≡ uses form pages level page n

-- The page `here` heads a tree below `page`, whose rows are those in front, those of `here`, and those behind. Where no page is used twice and only pages below `here` change, a tree in its place that uses the same pages gives `page` its rows.
pub record LiesBelow (form : Form) (pages : PageMap) (least level page low high fill height here lo hi : ℕ) : Type 0 where
  pub tree : IsTree form fill pages height here lo hi
  pub fewer : (n : ℕ) → uses form pages height here n ≤ uses form pages level page n
  pub front : List Row
  pub back : List Row
  pub rows : rows_at form pages level page ≡ front ++ (rows_at form pages height here ++ back)
  pub before : IsWithin low lo front
  pub behind : IsWithin hi high back
  pub edit : (pages' : PageMap) → ((n : ℕ) → uses form pages level page n ≤ 1)
      → ((n : ℕ) → uses form pages height here n ≡ 0 → 0 < uses form pages level page n → pages' n ≡ pages n)
      → IsTree form fill pages' height here lo hi → ((n : ℕ) → uses form pages' height here n ≡ uses form pages height here n)
      → HeadsInstead form least pages pages' level page low high (front ++ (rows_at form pages' height here ++ back))
