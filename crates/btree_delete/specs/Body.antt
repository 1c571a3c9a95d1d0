-- The cells of a page of a map, apart from the page.
use Rattle.std.specs.Prelude.{◌≡◌, ℕ, zero, suc, ◌+◌, ◌*◌, List, ◌++◌, length, take, drop, replicate}
use Rattle.page_face.specs.FreeList.{PageMap}
use Rattle.page_face.specs.Number.{number}
use Rattle.btree_nodes.specs.declared.form.Form.{Form}
use Rattle.btree_nodes.specs.Rows.{Row, IsWithin}
use Rattle.btree_nodes.specs.Nodes.{half_of, rows_of, entries_of}
use Rattle.btree_nodes.specs.Tree.{uses, total, with_low, IsFan, IsTree}
use Rattle.btree_nodes.specs.Store.{below_rows}

-- a page's kind by its level: 1 for a leaf, 2 for an inner page
abbrev pub kind_of : ℕ → ℕ
kind_of zero = 1
kind_of (suc level) = 2

-- So many cells are those of a node of this level whose keys go from `low` up to `high`: rows in order, or entries whose first key is zeros and whose children are half full.
abbrev pub IsBody : Form → PageMap → ℕ → ℕ → ℕ → ℕ → List ℕ → Type 0
IsBody form pages zero low high count bytes = IsWithin low high (rows_of form count bytes)
IsBody form pages (suc level) low high count bytes =
    (number (take form.key bytes) ≡ 0) × IsFan (IsTree form (half_of form level) pages level) low high (with_low low (entries_of form count bytes))

-- the rows in and below these cells
abbrev pub body_rows : Form → PageMap → ℕ → ℕ → List ℕ → List Row
body_rows form pages zero count bytes = rows_of form count bytes
body_rows form pages (suc level) count bytes = below_rows form pages level (entries_of form count bytes)

-- how often a page is used below these cells
abbrev pub body_uses : Form → PageMap → ℕ → ℕ → List ℕ → ℕ → ℕ
body_uses form pages zero count bytes n = 0
body_uses form pages (suc level) count bytes n = total (λ (c : ℕ). uses form pages level c n) (entries_of form count bytes)

-- cells as the first ones of a page: in an inner page the first key is zeros
abbrev pub cleared : ℕ → ℕ → List ℕ → List ℕ
cleared zero key bytes = bytes
cleared (suc level) key bytes = replicate key 0 ++ drop key bytes

-- cells that stood first in a page, behind those of another page: in an inner page the first key is what parted the two
abbrev pub headed : ℕ → ℕ → List ℕ → List ℕ → List ℕ
headed zero key parting bytes = bytes
headed (suc level) key parting bytes = parting ++ drop key bytes

-- the bytes of so many cells of a page
abbrev pub cells_in : ℕ → ℕ → List ℕ → List ℕ
cells_in width count page = take (width * count) (drop 16 page)

-- cells without the one at this place
abbrev pub without_cell : ℕ → ℕ → List ℕ → List ℕ
without_cell width at cells = take (width * at) cells ++ drop (width * at + width) cells

-- cells with another key at this place
abbrev pub with_key : ℕ → ℕ → List ℕ → List ℕ → List ℕ
with_key width at key cells = take (width * at) cells ++ (key ++ drop (width * at + length key) cells)
