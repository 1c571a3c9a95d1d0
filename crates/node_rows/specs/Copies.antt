-- A leaf of the rows' map that was copied, and what the copy says of a node.
use Rattle.std.specs.Prelude.{◌≡◌, ℕ, ◌+◌, ◌*◌, ◌<◌, ◌≤◌, List, Option, Some, None, Result, Ok, Err}
use Rattle.page_face.specs.Nodes.{count_of}
use Rattle.btree_nodes.specs.Nodes.{rows_in}
use Rattle.btree_nodes.specs.Rows.{IsWithin}
use Rattle.rtree_nodes.specs.Stock.{rows_form}
use Rattle.node_rows.specs.Rows.{AreFilled, Bytes, bytes_of}
use Rattle.node_rows.specs.Turns.{Next}
use Rattle.node_rows.specs.declared.leaf.LeafCopy.{LeafCopy}

-- the word stands before that one, or before the end
abbrev pub IsBefore : ℕ → Option ℕ → Type 0
IsBefore word None = Unit {0}
IsBefore word (Some next) = word < next

-- the copy is of a leaf whose keys ascend, and its rows say the bytes of a node at each of its words
pub record HasRows (b : Bytes) (node : ℕ) (copy : LeafCopy) : Type 0 where
  pub low : ℕ
  pub high : ℕ
  pub fits : 16 + 44 * count_of copy.page ≤ 4096
  pub within : IsWithin low high (rows_in rows_form copy.page)
  pub is : (w i : ℕ) → copy.from ≤ w → IsBefore w copy.next → bytes_of (rows_in rows_form copy.page) node w i ≡ b node w i

-- the same, unless the copy has no word
abbrev pub IsCopy : Bytes → ℕ → LeafCopy → Type 0
IsCopy b node copy = IsBefore copy.from copy.next → HasRows b node copy

-- no row of the copied leaf is all zeros, unless the copy has no word
abbrev pub IsFilledCopy : LeafCopy → Type 0
IsFilledCopy copy = IsBefore copy.from copy.next → AreFilled (rows_in rows_form copy.page)

-- the first row of a node from a word on, or none before the end of a copy's words
abbrev pub NextBefore : Bytes → ℕ → ℕ → Option ℕ → Option (ℕ × List ℕ) → Type 0
NextBefore b node from end None = (w i : ℕ) → from ≤ w → IsBefore w end → b node w i ≡ 0
NextBefore b node from end (Some found) = Next b node from (Some found)

-- the first row of a node from a word on, if there is any, or a word before which there is none
abbrev pub NextOr : Bytes → ℕ → ℕ → Result (Option (ℕ × List ℕ)) ℕ → Type 0
NextOr b node from (Ok found) = Next b node from found
NextOr b node from (Err at) = (w i : ℕ) → from ≤ w → w < at → b node w i ≡ 0
