-- What calls on the rows of words do, in bytes.
use Rattle.std.specs.Prelude.{◌≡◌, ℕ, ◌^◌, ◌<◌, ◌≤◌, List, Option, Some, None, ◌==◌, ◌&&◌, if◌then◌else◌, slice_index, false}
use Rattle.std.specs.Int.{bit_at}
use Rattle.page_face.specs.FreeList.{PageMap, are_zero}
use Rattle.btree_nodes.specs.Supply.{View, view, Moves}
use Rattle.btree_nodes.specs.Tree.{map_uses}
use Rattle.rtree_nodes.specs.Stock.{rows_form}
use Rattle.node_rows.specs.Rows.{Bytes, HasBytes, IsRows, bytes_in}

-- The rows' map at a root has become that of these bytes at another one. Its pages, those that were free and those newly counted are now each in exactly one of the map and the free list, and all others stay.
pub record Turns (before : View) (root : ℕ) (pages : PageMap) (count first root' : ℕ) (bytes : Bytes) : Type 0 where
  pub free : List ℕ
  pub rows : IsRows (view pages count first free) root'
  pub is : (node word slot : ℕ) → bytes_in pages root' node word slot ≡ bytes node word slot
  pub moves : Moves before (view pages count first free) (map_uses rows_form before.pages root) (map_uses rows_form pages root')

-- one row is set
abbrev pub with_row : ℕ → ℕ → List ℕ → Bytes → Bytes
with_row node word row b n w i = if (n == node) && (w == word) then slice_index row i else b n w i

-- all rows of a node are gone
abbrev pub dropped : ℕ → Bytes → Bytes
dropped node b n w i = if n == node then 0 else b n w i

-- the bytes at the slots of a mask have moved from one node to the same slots of another one
unfoldable pub moved : ℕ → ℕ → ℕ → Bytes → Bytes
moved node mask to b n w i =
    if n == node then (if bit_at mask i == 1 then 0 else b node w i)
    else if n == to then (if bit_at mask i == 1 then b node w i else 0)
    else b n w i

-- the node has no rows
abbrev pub HasNone : Bytes → ℕ → Type 0
HasNone b node = (word slot : ℕ) → b node word slot ≡ 0

-- the node's first row from a word on: its word and its bytes
pub record IsNext (b : Bytes) (node from word : ℕ) (row : List ℕ) : Type 0 where
  pub on : from ≤ word
  pub small : word < 2 ^ 64
  pub is : HasBytes row (b node word)
  pub none : (w i : ℕ) → from ≤ w → w < word → b node w i ≡ 0

-- the first row of a node from a word on, or none where all its bytes from there on are 0
abbrev pub Next : Bytes → ℕ → ℕ → Option (ℕ × List ℕ) → Type 0
Next b node from None = (w i : ℕ) → from ≤ w → b node w i ≡ 0
Next b node from (Some found) = IsNext b node from found.0 found.1

-- the row that is given, if any, isn't all zeros
abbrev pub GivesFilled : Option (ℕ × List ℕ) → Type 0
GivesFilled None = Unit {0}
GivesFilled (Some found) = are_zero found.1 ≡ false
