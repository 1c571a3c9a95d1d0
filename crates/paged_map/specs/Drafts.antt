-- A leaf whose rows are changed in memory before it is written.
use Rattle.std.specs.Prelude.{◌≡◌, ℕ, ◌<◌, ◌≤◌, List, ◌++◌}
use Rattle.page_face.specs.Causes.{IsUncounted}
use Rattle.page_face.specs.FreeList.{PageMap}
use Rattle.page_face.specs.Nodes.{count_of}
use Rattle.btree_nodes.specs.declared.form.Form.{Form}
use Rattle.btree_nodes.specs.Nodes.{IsLeaf, rows_in}
use Rattle.btree_nodes.specs.Rows.{Row, IsWithin}
use Rattle.btree_nodes.specs.Leaves.{IsLeafOf}
use Rattle.btree_nodes.specs.Steps.{low_of, high_of}
use Rattle.btree_nodes.specs.Ways.{IsWayOf}
use Rattle.paged_map.specs.declared.draft.LeafDraft.{LeafDraft}

-- the key belongs to the leaf
abbrev pub IsKeyOf : LeafDraft → ℕ → Type 0
IsKeyOf draft key = (low_of draft.form draft.bounds ≤ key) × (key < high_of draft.form draft.bounds)

-- the draft of a counted page is a leaf of keys that belong to it
pub record IsLeafDraft (count : ℕ) (draft : LeafDraft) : Type 0 where
  pub counted : IsUncounted count draft.page → ⊥
  pub some : 1 ≤ draft.least
  pub leaf : IsLeaf draft.form draft.least draft.bytes
  pub within : IsWithin (low_of draft.form draft.bounds) (high_of draft.form draft.bounds) (rows_in draft.form draft.bytes)
  pub is : draft.count ≡ count_of draft.bytes

-- with a leaf of these bytes in the place of that one the map at a root has these rows
pub record IsDrafted (form : Form) (pages : PageMap) (root least page low high : ℕ) (bytes : List ℕ) (rows : List Row) : Type 0 where
  pub leaf : IsLeafOf form pages root least page low high
  pub is : rows ≡ leaf.front ++ (rows_in form bytes ++ leaf.back)

-- with the draft in the place of its leaf the map at a root has these rows
abbrev pub Drafts : PageMap → ℕ → List Row → LeafDraft → Type 0
Drafts pages root rows draft =
    IsDrafted draft.form pages root draft.least draft.page (low_of draft.form draft.bounds) (high_of draft.form draft.bounds) draft.bytes rows

-- the draft is a copy of the leaf at the end of a key's way, on which each page keeps the rules in its place
abbrev pub IsDraftedAt : PageMap → ℕ → ℕ → ℕ → LeafDraft → Type 0
IsDraftedAt pages count root key draft =
    IsWayOf draft.form pages count root key draft.page (low_of draft.form draft.bounds) (high_of draft.form draft.bounds) × (draft.bytes ≡ pages draft.page)
