-- What was found beside a child.
use Rattle.std.specs.Prelude.{◌≡◌, ℕ, ◌+◌, ◌*◌, ◌<◌, ◌≤◌, List, length, Option, Some, None}
use Rattle.page_face.specs.FreeList.{PageMap}
use Rattle.page_face.specs.Causes.{IsUncounted}
use Rattle.btree_nodes.specs.declared.form.Form.{Form}
use Rattle.page_face.specs.Nodes.{count_of}
use Rattle.btree_nodes.specs.Nodes.{width_of, half_of}
use Rattle.btree_nodes.specs.Bounds.{child_of}
use Rattle.btree_delete.specs.declared.settling.Beside.{Beside}
use Rattle.btree_delete.specs.Mended.{IsBeside}

-- a neighbour of the child at a place: a counted page that is half full
pub record IsNeighbour (form : Form) (counted below : ℕ) (bytes : List ℕ) (at count : ℕ) (beside : Beside) : Type 0 where
  pub place : IsBeside at count beside.at
  pub is_counted : IsUncounted counted (child_of form bytes beside.at) → ⊥
  pub count_is : beside.count ≡ count_of beside.bytes
  pub half : half_of form below ≤ beside.count
  pub fits : 16 + width_of form below * beside.count ≤ 4096

-- the neighbour, or none where the child has more than half of the cells that fit
abbrev pub HasLooked : Form → ℕ → ℕ → List ℕ → ℕ → ℕ → ℕ → Option Beside → Type 0
HasLooked form counted below bytes at count cells None = half_of form below < cells
HasLooked form counted below bytes at count cells (Some beside) = IsNeighbour form counted below bytes at count beside

-- the neighbour's bytes, where they are told
abbrev pub ReadableBeside : Form → PageMap → List ℕ → Option Beside → Type 0
ReadableBeside form pages bytes None = Unit {0}
ReadableBeside form pages bytes (Some beside) = 0 < length (pages (child_of form bytes beside.at)) → beside.bytes ≡ pages (child_of form bytes beside.at)

-- the neighbour's bytes are those of its page
abbrev pub HasBeside : Form → PageMap → List ℕ → Option Beside → Type 0
HasBeside form pages bytes None = Unit {0}
HasBeside form pages bytes (Some beside) = beside.bytes ≡ pages (child_of form bytes beside.at)
