-- The rows of a node in memory.
use Rattle.std.specs.Prelude.{◌≡◌, ℕ, ◌+◌, ◌≤◌, max, List, [], ◌∷◌, ◌==◌, if◌then◌else◌, slice_index}
use Rattle.page_face.specs.FreeList.{PageMap}
use Rattle.btree_nodes.specs.Supply.{View}
use Rattle.node_rows.specs.Rows.{Bytes}
use Rattle.node_rows.specs.Turns.{Turns, dropped}
use Rattle.node_inverted.specs.declared.taking.NodeRow.{NodeRow}

-- the words of rows in memory ascend from one bound to another
abbrev pub AreOrdered : ℕ → ℕ → List NodeRow → Type 0
AreOrdered low high [] = low ≤ high
AreOrdered low high (r ∷ rows) = (low ≤ r.number) × AreOrdered (r.number + 1) high rows

-- the bytes of one node, whatever node is asked
abbrev pub bytes_at : ℕ → Bytes → Bytes
bytes_at node b n w i = b node w i

-- the byte of a word and a slot by one row in memory
abbrev pub lifted_by : NodeRow → ℕ → ℕ → ℕ
lifted_by r w i = if r.number == w then slice_index r.bytes i else 0

-- the byte of a word and a slot among rows in memory; 0 where the word has none
abbrev pub lifted_at : List NodeRow → ℕ → ℕ → ℕ
lifted_at [] w i = 0
lifted_at (r ∷ rows) w i = max (lifted_at rows w i) (lifted_by r w i)

-- all rows of a node were taken out, and are these
pub record IsTaken (before : View) (root : ℕ) (pages : PageMap) (count first rows node : ℕ) (b : Bytes) (list : List NodeRow) : Type 0 where
  pub turn : Turns before root pages count first rows (dropped node b)
  pub lifted : (w i : ℕ) → lifted_at list w i ≡ b node w i
