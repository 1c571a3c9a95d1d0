-- What taking out a row answers.
use Rattle.std.specs.Prelude.{◌≡◌, ℕ, zero, suc, ◌+◌, ◌*◌, ◌<◌, ◌≤◌, List, [], ◌∷◌, Option, Some, None}
use Rattle.page_face.specs.FreeList.{PageMap}
use Rattle.page_face.specs.declared.fault.Rule.{Rule}
use Rattle.btree_nodes.specs.declared.form.Form.{Form}
use Rattle.btree_nodes.specs.Supply.{View, view, Moves}
use Rattle.btree_nodes.specs.Rows.{Row, lookup, without}
use Rattle.page_face.specs.Nodes.{count_of}
use Rattle.btree_nodes.specs.Nodes.{width_of}
use Rattle.btree_nodes.specs.Damages.{BreaksLeaf, BreaksInner}
use Rattle.btree_delete.specs.Mended.{Becomes}

-- the rule that a page of this level breaks in its place
abbrev pub BreaksAt : Rule → Form → ℕ → ℕ → ℕ → ℕ → List ℕ → Type 0
BreaksAt rule form least zero low high page = BreaksLeaf rule form least low high page
BreaksAt rule form least (suc level) low high page = BreaksInner rule form least (suc level) low high page

-- The pages `mine` are free now, and no row is left.
pub record IsEmptied (before : View) (mine : ℕ → ℕ) (pages : PageMap) (count first : ℕ) (rows : List Row) : Type 0 where
  pub free : List ℕ
  pub moves : Moves before (view pages count first free) mine (λ n. 0)
  pub gives : rows ≡ []

-- The row at the key is out of the tree below a page, which has `left` cells now, or is free where no row is left. The page holds these bytes now.
pub record IsOut (form : Form) (before : View) (mine : ℕ → ℕ) (pages : PageMap) (count first level page low high key : ℕ) (rows : List Row) (bytes : List ℕ) (left : ℕ) : Type 0 where
  pub there : lookup key rows ≡ None → ⊥
  pub some : 0 < left → Becomes form left before mine pages count first level low high (without key rows) ((low, page) ∷ [])
  pub bytes_are : 0 < left → bytes ≡ pages page
  pub none : left ≡ 0 → IsEmptied before mine pages count first (without key rows)

-- No row has the key, or it is out.
abbrev pub HasRemoved : Form → View → (ℕ → ℕ) → PageMap → ℕ → ℕ → ℕ → ℕ → ℕ → ℕ → ℕ → List Row → List ℕ → Option ℕ → Type 0
HasRemoved form before mine pages count first level page low high key rows bytes None = lookup key rows ≡ None
HasRemoved form before mine pages count first level page low high key rows bytes (Some left) = IsOut form before mine pages count first level page low high key rows bytes left

-- A page that has `left` cells had at most one more, and not fewer than its least number, all of which fit.
pub record IsLess (form : Form) (level least : ℕ) (old new : List ℕ) (left : ℕ) : Type 0 where
  pub counted : 0 < left → left ≡ count_of new
  pub most : left ≤ count_of old
  pub one : count_of old ≤ left + 1
  pub fill : least ≤ left + 1
  pub fits : 16 + width_of form level * left ≤ 4096

-- the page's bytes are as they were, or have at most one cell less
abbrev pub Lessens : Form → ℕ → ℕ → List ℕ → List ℕ → Option ℕ → Type 0
Lessens form level least old new None = new ≡ old
Lessens form level least old new (Some left) = IsLess form level least old new left

-- where no row had the key, the pages are as they were
abbrev pub IsSame : PageMap → PageMap → ℕ → ℕ → Option ℕ → Type 0
IsSame old new first first' None = (new ≡ old) × (first' ≡ first)
IsSame old new first first' (Some left) = Unit {0}
