-- The pages in which a tree stands together with the rows of its words.
use Rattle.std.specs.Prelude.{◌≡◌, ℕ, ◌+◌, ◌<◌}
use Rattle.rtree_nodes.specs.Stock.{View, plain, spare_in}
use Rattle.node_rows.specs.Rows.{IsRows, bytes_in}

-- The free list ends at 0, the rows' map is well formed and has no row of zeros, no page is in both or twice in one, and no row names a page that the tree could have.
pub record IsSupplied (v : View) : Type 0 where
  pub rows : IsRows (plain v) v.rows
  pub clear : (n w i : ℕ) → 0 < spare_in v n → bytes_in v.pages v.rows n w i ≡ 0

-- a page and the rows of its node are as they were
pub record IsAsBefore (before after : View) (n : ℕ) : Type 0 where
  pub page : after.pages n ≡ before.pages n
  pub bytes : (w i : ℕ) → bytes_in after.pages after.rows n w i ≡ bytes_in before.pages before.rows n w i

-- The pages `mine` have become `ours`, each as often as it is used: no page is lost, and what is neither mine nor spare stays, with its rows.
pub record Moves (before after : View) (mine ours : ℕ → ℕ) : Type 0 where
  pub supplied : IsSupplied after
  pub kept : (n : ℕ) → ours n + spare_in after n ≡ mine n + spare_in before n
  pub others : (n : ℕ) → mine n ≡ 0 → spare_in before n ≡ 0 → IsAsBefore before after n
