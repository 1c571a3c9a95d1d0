-- A page that has become one or two.
use Rattle.std.specs.Prelude.{◌≡◌, ℕ, suc, ◌+◌, List, [], ◌∷◌, ◌++◌, take, drop, ◌==◌, if◌then◌else◌}
use Rattle.std.specs.List.{flat_map}
use Rattle.page_face.specs.FreeList.{PageMap}
use Rattle.btree_nodes.specs.declared.form.Form.{Form}
use Rattle.btree_nodes.specs.Supply.{View, view, Moves, one_at}
use Rattle.btree_nodes.specs.Rows.{Row}
use Rattle.btree_nodes.specs.Nodes.{Entry, half_of}
use Rattle.btree_nodes.specs.Tree.{uses, total, IsFan, IsTree, rows_at, with_low}

-- one page has become two, of these bytes
pub record IsSplit (before : View) (pages : PageMap) (count first page right : ℕ) (front back : List ℕ) : Type 0 where
  pub free : List ℕ
  pub moves : Moves before (view pages count first free) (one_at page) (λ n. one_at page n + one_at right n)
  pub here : pages page ≡ front
  pub there : pages right ≡ back

-- the entries in a page's place: itself, and where it was split the right one, under a key
abbrev pub grown : ℕ → ℕ → ℕ → ℕ → List Entry
grown low page right middle = if right == 0 then (low, page) ∷ [] else (low, page) ∷ ((middle, right) ∷ [])

-- the least number of cells of a page: as it was, and where it was split that of a page that isn't the root
abbrev pub least_after : ℕ → ℕ → ℕ → ℕ
least_after least half right = if right == 0 then least else half

-- The tree below a page has become one of these rows, or two beside each other. Its pages `mine` are now those of the new tree or trees, and none is lost.
pub record IsGrown (form : Form) (least : ℕ) (before : View) (mine : ℕ → ℕ) (pages : PageMap) (count first level page low high : ℕ) (rows : List Row) (right middle : ℕ) : Type 0 where
  pub free : List ℕ
  pub entries : List Entry
  pub is : entries ≡ grown low page right middle
  pub moves : Moves before (view pages count first free) mine (λ n. total (λ c. uses form pages level c n) entries)
  pub fan : IsFan (IsTree form (least_after least (half_of form level) right) pages level) low high entries
  pub gives : flat_map (λ (e : Entry). rows_at form pages level e.1) entries ≡ rows

-- the rows below these entries
abbrev pub below_rows : Form → PageMap → ℕ → List Entry → List Row
below_rows form pages level es = flat_map (λ (e : Entry). rows_at form pages level e.1) es

-- the entries with one more behind the one at this place
abbrev pub linked : ℕ → List Entry → ℕ → ℕ → ℕ → List Entry
linked low es at right middle = take (suc at) (with_low low es) ++ ((middle, right) ∷ drop (suc at) (with_low low es))
