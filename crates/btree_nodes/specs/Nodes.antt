-- What the bytes of a page of a map say.
use Rattle.std.specs.Prelude.{◌≡◌, ℕ, zero, suc, ◌+◌, ◌/◌, List, take, drop, map}
use Rattle.std.specs.Int.{from_be_bytes, w32}
use Rattle.page_face.specs.Number.{number}
use Rattle.page_face.specs.Nodes.{count_of, IsNode}
use Rattle.page_face.specs.Cells.{chop, cells, key_at}
use Rattle.btree_nodes.specs.declared.form.Form.{Form}
use Rattle.btree_nodes.specs.Rows.{Row}

-- an entry of an inner page: the number of its key, and a page
abbrev pub Entry : Type 0
Entry = ℕ × ℕ

-- a leaf's cell: a key, and a value behind it
abbrev pub row_of : ℕ → List ℕ → Row
row_of key cell = (number (take key cell), drop key cell)

-- an inner page's cell: a key, and behind it the child's page in four bytes
abbrev pub entry_of : ℕ → List ℕ → Entry
entry_of key cell = (number (take key cell), from_be_bytes w32 (drop key cell))

-- the rows of so many cells of a leaf
abbrev pub rows_of : Form → ℕ → List ℕ → List Row
rows_of form count bytes = map (row_of form.key) (chop (form.key + form.value) count bytes)

-- the entries of so many cells of an inner page
abbrev pub entries_of : Form → ℕ → List ℕ → List Entry
entries_of form count bytes = map (entry_of form.key) (chop (form.key + 4) count bytes)

-- the rows of a leaf
unfoldable pub rows_in : Form → List ℕ → List Row
rows_in form page = map (row_of form.key) (cells (form.key + form.value) (count_of page) page)

-- the entries of an inner page
unfoldable pub entries_in : Form → List ℕ → List Entry
entries_in form page = map (entry_of form.key) (cells (form.key + 4) (count_of page) page)

-- the width of a cell at a level
abbrev pub width_of : Form → ℕ → ℕ
width_of form zero = form.key + form.value
width_of form (suc level) = form.key + 4

-- half of the greatest number of cells of this width, rounded down
unfoldable pub half_of_width : ℕ → ℕ
half_of_width width = 4080 / width / 2

-- the least number of cells of a page of this level that isn't the root
abbrev pub half_of : Form → ℕ → ℕ
half_of form level = half_of_width (width_of form level)

-- the least number of cells of a root: a leaf has a row, an inner page two entries
abbrev pub least_of_root : ℕ → ℕ
least_of_root zero = 1
least_of_root (suc level) = 2

-- a leaf of at least so many rows
abbrev pub IsLeaf : Form → ℕ → List ℕ → Type 0
IsLeaf form = IsNode form.map 1 0 (form.key + form.value)

-- an inner page of at least so many entries, whose first key is all zeros
pub record IsInner (form : Form) (least level : ℕ) (page : List ℕ) : Type 0 where
  pub node : IsNode form.map 2 level (form.key + 4) least page
  pub first : key_at form.key (form.key + 4) page 0 ≡ 0
