-- The pages under a root, as a tree of rows: a B+-tree (Comer, The Ubiquitous B-Tree, 1979).
use Rattle.std.specs.Prelude.{◌≡◌, ℕ, zero, suc, ◌+◌, ◌^◌, ◌<◌, ◌≤◌, List, [], ◌∷◌, length, slice_index, slice_index_or}
use Rattle.std.specs.List.{flat_map}
use Rattle.page_face.specs.FreeList.{PageMap}
use Rattle.btree_nodes.specs.declared.form.Form.{Form}
use Rattle.btree_nodes.specs.Supply.{one_at}
use Rattle.btree_nodes.specs.Rows.{Row, IsWithin}
use Rattle.btree_nodes.specs.Nodes.{Entry, rows_in, entries_in, IsLeaf, IsInner, half_of, least_of_root}

-- the rows below a page of this level
abbrev pub rows_at : Form → PageMap → ℕ → ℕ → List Row
rows_at form pages zero page = rows_in form (pages page)
rows_at form pages (suc level) page = flat_map (λ (e : Entry). rows_at form pages level e.1) (entries_in form (pages page))

-- the sum over the entries' pages
abbrev pub total : (ℕ → ℕ) → List Entry → ℕ
total f [] = 0
total f (e ∷ es) = f e.1 + total f es

-- how often a page is used below a page of this level, itself included
abbrev pub uses : Form → PageMap → ℕ → ℕ → ℕ → ℕ
uses form pages zero page n = one_at page n
uses form pages (suc level) page n = one_at page n + total (λ (c : ℕ). uses form pages level c n) (entries_in form (pages page))

-- The entries with the bound `low` for the first one's key: its key is all zeros on the page.
abbrev pub with_low : ℕ → List Entry → List Entry
with_low low [] = []
with_low low (e ∷ es) = (low, e.1) ∷ es

-- the key of the first entry, or the bound where there is none
abbrev pub next_key : ℕ → List Entry → ℕ
next_key high [] = high
next_key high (e ∷ es) = e.0

-- The entries' keys ascend strictly from `low` to `high`, and each child keeps to the keys from its own up to the next.
abbrev pub IsFan : (ℕ → ℕ → ℕ → Type 0) → ℕ → ℕ → List Entry → Type 0
IsFan P low high [] = low ≡ high
IsFan P low high (e ∷ es) = (e.0 ≡ low) × (low < next_key high es) × P e.1 low (next_key high es) × IsFan P (next_key high es) high es

-- A page of this level with at least so many cells heads a tree whose keys go from `low` up to `high`. Every page below it is half full.
abbrev pub IsTree : Form → ℕ → PageMap → ℕ → ℕ → ℕ → ℕ → Type 0
IsTree form least pages zero page low high = IsLeaf form least (pages page) × IsWithin low high (rows_in form (pages page))
IsTree form least pages (suc level) page low high =
    IsInner form least (suc level) (pages page)
    × IsFan (IsTree form (half_of form level) pages level) low high (with_low low (entries_in form (pages page)))

-- the place of the last entry whose key is at most this one
pub record IsPlaceFor (entries : List Entry) (key at : ℕ) : Type 0 where
  pub within : at < length entries
  pub from : (slice_index_or entries at (0, 0)).0 ≤ key
  pub next : suc at < length entries → key < (slice_index_or entries (suc at) (0, 0)).0

-- the level that a page says that it has, in byte 4
abbrev pub level_of : List ℕ → ℕ
level_of page = slice_index page 4

-- the rows of a map, by its root; 0 is an empty map, which has no page
abbrev pub map_rows : Form → PageMap → ℕ → List Row
map_rows form pages zero = []
map_rows form pages (suc n) = rows_at form pages (level_of (pages (suc n))) (suc n)

-- how often a map uses a page
abbrev pub map_uses : Form → PageMap → ℕ → ℕ → ℕ
map_uses form pages zero n = 0
map_uses form pages (suc m) n = uses form pages (level_of (pages (suc m))) (suc m) n

-- a root heads a well-formed map: a tree over all keys, of any fill at its root
abbrev pub IsMap : Form → PageMap → ℕ → Type 0
IsMap form pages zero = Unit {0}
IsMap form pages (suc n) =
    IsTree form (least_of_root (level_of (pages (suc n)))) pages (level_of (pages (suc n))) (suc n) 0 (256 ^ form.key)
