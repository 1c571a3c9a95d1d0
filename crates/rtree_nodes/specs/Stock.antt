-- The pages in which a tree stands: the free ones, and the map of rows beside it.
use Rattle.std.specs.Prelude.{◌≡◌, ℕ, ◌+◌, ◌≤◌, List}
use Rattle.std.proofs.Common.{lit≤}
use Rattle.page_face.specs.FreeList.{PageMap}
use Rattle.btree_nodes.specs.declared.form.Form.{Form}
use Rattle.btree_nodes.specs.Tree.{IsMap, map_uses}
use Rattle.btree_nodes.specs.Supply as supply

-- the map of the rows of words: a key is a node's page and a word's number, a value one byte for each slot
abbrev pub rows_form : Form
rows_form = record { key = 12; value = 32; map = 4; some = lit≤ tt; short = lit≤ tt; fits = lit≤ tt }

-- what a tree sees of the pages: what each holds, the root of the rows' map, how many are counted, and the free ones
pub record View : Type 0 where
  pub pages : PageMap
  pub rows : ℕ
  pub count : ℕ
  pub first : ℕ
  pub free : List ℕ

-- a view of these
abbrev pub view : PageMap → ℕ → ℕ → ℕ → List ℕ → View
view pages rows count first free = record { pages = pages; rows = rows; count = count; first = first; free = free }

-- what a map sees of them
abbrev pub plain : View → supply.View
plain v = supply.view v.pages v.count v.first v.free

-- how often the tree can have a page: from the free ones, as a new one, or from the rows' map, whose pages come and go as rows do
abbrev pub spare_in : View → ℕ → ℕ
spare_in v n = map_uses rows_form v.pages v.rows n + supply.spare_in (plain v) n

-- the free list ends at 0, the rows' map is well formed, no page is in both or twice in one, and page 0 is in neither
pub record IsSupplied (v : View) : Type 0 where
  pub chain : supply.IsSupplied (plain v)
  pub map : IsMap rows_form v.pages v.rows
  pub once : (n : ℕ) → spare_in v n ≤ 1
  pub away : spare_in v 0 ≡ 0

-- The pages `mine` have become `ours`, each as often as it is used: no page is lost, and what is neither mine nor spare stays.
pub record Moves (before after : View) (mine ours : ℕ → ℕ) : Type 0 where
  pub supplied : IsSupplied after
  pub kept : (n : ℕ) → ours n + spare_in after n ≡ mine n + spare_in before n
  pub others : (n : ℕ) → mine n ≡ 0 → spare_in before n ≡ 0 → after.pages n ≡ before.pages n
