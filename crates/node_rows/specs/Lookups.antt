-- What a look for a node's row gives on any pages that tell their bytes, each page that it goes over keeping the rules in its place.
use Rattle.std.specs.Prelude.{◌≡◌, ◌≢◌, ℕ, ◌^◌, ◌<◌, List, Option, Some, None}
use Rattle.page_face.specs.FreeList.{PageMap}
use Rattle.btree_nodes.specs.Rows.{Row}
use Rattle.paged_map.specs.Lookups.{IsLookedUp, IsFirstFound}
use Rattle.rtree_nodes.specs.Stock.{rows_form}
use Rattle.node_rows.specs.Rows.{HasBytes, byte_in, key_of}

-- the bytes of the row at a node's key for a word, and zeros where there is none
abbrev pub IsRowFound : PageMap → ℕ → ℕ → ℕ → ℕ → List ℕ → Type 0
IsRowFound pages count root node word row =
    (found : Option (List ℕ)) × IsLookedUp rows_form pages count root (key_of node word) found × HasBytes row (byte_in found)

-- the row is another node's, or there is none
abbrev pub IsOthers : ℕ → Option Row → Type 0
IsOthers node None = Unit {0}
IsOthers node (Some row) = (other : ℕ) × (word : ℕ) × (other ≢ node) × (word < 2 ^ 64) × (row.0 ≡ key_of other word)

-- a node's next row by the one that follows in the map
abbrev pub IsNextBy : ℕ → Option Row → Option (ℕ × List ℕ) → Type 0
IsNextBy node found None = IsOthers node found
IsNextBy node found (Some next) = found ≡ Some (key_of node next.0, next.1)

-- the first row of a node from a word on, if there is any
abbrev pub IsNextFound : PageMap → ℕ → ℕ → ℕ → ℕ → Option (ℕ × List ℕ) → Type 0
IsNextFound pages count root node from next =
    (found : Option Row) × IsFirstFound rows_form pages count root (key_of node from) found × IsNextBy node found next
