-- What taking out a row does to trees of pages.
use Rattle.std.specs.Prelude.{◌≡◌, ◌⊎◌, ℕ, ◌+◌, ◌<◌, List, [], ◌∷◌, ◌++◌, length, Bool, if◌then◌else◌}
use Rattle.page_face.specs.FreeList.{PageMap}
use Rattle.btree_nodes.specs.declared.form.Form.{Form}
use Rattle.btree_nodes.specs.Supply.{View, view, Moves, one_at}
use Rattle.btree_nodes.specs.Rows.{Row}
use Rattle.btree_nodes.specs.Nodes.{Entry, half_of}
use Rattle.btree_nodes.specs.Tree.{uses, total, next_key, IsFan, IsTree}
use Rattle.btree_nodes.specs.Store.{below_rows}

-- two pages have become one, of these bytes, and the other one is free
pub record IsMerged (before : View) (pages : PageMap) (count first left right : ℕ) (bytes : List ℕ) : Type 0 where
  pub free : List ℕ
  pub moves : Moves before (view pages count first free) (λ n. one_at left n + one_at right n) (one_at left)
  pub here : pages left ≡ bytes

-- two pages have been written
pub record IsHalved (before : View) (pages : PageMap) (count first left right : ℕ) (front back : List ℕ) : Type 0 where
  pub free : List ℕ
  pub moves : Moves before (view pages count first free) (λ n. one_at left n + one_at right n) (λ n. one_at left n + one_at right n)
  pub here : pages left ≡ front
  pub there : pages right ≡ back

-- Trees of the pages `mine` have become those of these entries, side by side from `low` up to `high`, with these rows; no page is lost.
pub record Becomes (form : Form) (least : ℕ) (before : View) (mine : ℕ → ℕ) (pages : PageMap) (count first level low high : ℕ) (rows : List Row) (entries : List Entry) : Type 0 where
  pub free : List ℕ
  pub moves : Moves before (view pages count first free) mine (λ n. total (λ c. uses form pages level c n) entries)
  pub fan : IsFan (IsTree form least pages level) low high entries
  pub gives : below_rows form pages level entries ≡ rows

-- the entries of two neighbours: of the left one alone where they were merged, and else of both, the right one under a new key
abbrev pub joined : Bool → ℕ → ℕ → ℕ → ℕ → List Entry
joined merged low left right middle = if merged then (low, left) ∷ [] else (low, left) ∷ ((middle, right) ∷ [])

-- Of these entries, that at the place and the next one head trees, of which one may have few cells. All before and behind the two head trees that are half full.
pub record HasPair (form : Form) (pages : PageMap) (level low high at : ℕ) (entries : List Entry) : Type 0 where
  pub xs : List Entry
  pub ys : List Entry
  pub left : Entry
  pub right : Entry
  pub is : entries ≡ xs ++ (left ∷ (right ∷ ys))
  pub place : length xs ≡ at
  pub front : IsFan (IsTree form (half_of form level) pages level) low left.0 xs
  pub first : IsTree form 1 pages level left.1 left.0 right.0
  pub second : IsTree form 1 pages level right.1 right.0 (next_key high ys)
  pub back : IsFan (IsTree form (half_of form level) pages level) (next_key high ys) high ys

-- Of these entries, that at the place heads a tree whose top has at least `left` cells. All before and behind it head trees that are half full.
pub record HasLow (form : Form) (pages : PageMap) (level low high at left : ℕ) (entries : List Entry) : Type 0 where
  pub xs : List Entry
  pub ys : List Entry
  pub child : Entry
  pub is : entries ≡ xs ++ (child ∷ ys)
  pub place : length xs ≡ at
  pub front : IsFan (IsTree form (half_of form level) pages level) low child.0 xs
  pub tree : IsTree form left pages level child.1 child.0 (next_key high ys)
  pub back : IsFan (IsTree form (half_of form level) pages level) (next_key high ys) high ys

-- one place is next to another one, among so many
abbrev pub IsBeside : ℕ → ℕ → ℕ → Type 0
IsBeside at count near = (near < count) × ((near ≡ at + 1) ⊎ (near + 1 ≡ at))
