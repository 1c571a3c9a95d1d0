-- The rows of words that make an R-tree an IR-tree: for each node, word and slot one byte, the greatest impact of the word below the slot (Cong, Jensen and Wu, VLDB 2009).
use Rattle.std.specs.Prelude.{◌≡◌, ℕ, ◌+◌, ◌*◌, ◌^◌, List, Option, Some, None, ◌==◌, ◌&&◌, if◌then◌else◌, nat_lt, slice_index, false}
use Rattle.page_face.specs.FreeList.{PageMap, are_zero}
use Rattle.btree_nodes.specs.Rows.{Row, lookup}
use Rattle.btree_nodes.specs.Supply.{View}
use Rattle.btree_nodes.specs.Tree.{map_rows}
use Rattle.paged_map.specs.Maps.{IsKept}
use Rattle.rtree_nodes.specs.Stock.{rows_form}

-- the byte at a node, a word and a slot; 0 where there is no row
abbrev pub Bytes : Type 0
Bytes = ℕ → ℕ → ℕ → ℕ

-- the key of a node's row for a word, as a number: four bytes of the node's page and eight of the word's number
unfoldable pub key_of : ℕ → ℕ → ℕ
key_of node word = node * 2 ^ 64 + word

-- a row's byte at a slot; 0 where there is no row
abbrev pub byte_in : Option (List ℕ) → ℕ → ℕ
byte_in None slot = 0
byte_in (Some row) slot = slice_index row slot

-- the bytes that the rows of a map say
unfoldable pub bytes_of : List Row → Bytes
bytes_of rows node word slot = if nat_lt word (2 ^ 64) then byte_in (lookup (key_of node word) rows) slot else 0

-- the bytes that the rows' map at a root says
abbrev pub bytes_in : PageMap → ℕ → Bytes
bytes_in pages root = bytes_of (map_rows rows_form pages root)

-- a row that is stored isn't all zeros
abbrev pub IsFilled : Option (List ℕ) → Type 0
IsFilled None = Unit {0}
IsFilled (Some row) = are_zero row ≡ false

-- no row is all zeros
abbrev pub AreFilled : List Row → Type 0
AreFilled rows = (key : ℕ) → IsFilled (lookup key rows)

-- a well-formed map of rows stands at a root, and none of its rows is all zeros
pub record IsRows (v : View) (root : ℕ) : Type 0 where
  pub kept : IsKept rows_form v root
  pub filled : AreFilled (map_rows rows_form v.pages root)

-- the row has these bytes, slot by slot
abbrev pub HasBytes : List ℕ → (ℕ → ℕ) → Type 0
HasBytes row bytes = (slot : ℕ) → slice_index row slot ≡ bytes slot

-- one slot of one node has a byte at each word, and nothing else has any
abbrev pub only : ℕ → ℕ → (ℕ → ℕ) → Bytes
only node slot f n w i = if (n == node) && (i == slot) then f w else 0
