-- The rows of a node in memory: the number of each row's word, and the row's bytes.
use Rattle.std.specs.Prelude.{◌≡◌, ℕ, ◌+◌, ◌≤◌, List, [], ◌∷◌, ◌==◌, if◌then◌else◌, slice_index}
use Rattle.node_rows.specs.Impacts.{impact_in}
use Rattle.node_rows.specs.Rows.{Bytes}

-- the words of rows at a slot, in the rows' order: those whose byte there isn't 0, each with that byte
abbrev pub words_in : ℕ → List (ℕ × List ℕ) → List (ℕ × ℕ)
words_in at [] = []
words_in at (row ∷ rows) = if slice_index row.1 at == 0 then words_in at rows else (row.0, slice_index row.1 at) ∷ words_in at rows

-- the byte that rows say at a word and a slot, whatever node is asked
abbrev pub said_by : List (ℕ × List ℕ) → Bytes
said_by rows n w i = impact_in (words_in i rows) w

-- the bytes of one node, whatever node is asked
abbrev pub node_bytes : Bytes → ℕ → Bytes
node_bytes b node n w i = b node w i

-- the rows' words ascend from one bound to another
abbrev pub DoAscend : ℕ → ℕ → List (ℕ × List ℕ) → Type 0
DoAscend low high [] = low ≤ high
DoAscend low high (row ∷ rows) = (low ≤ row.0) × DoAscend (row.0 + 1) high rows

-- the rows say the bytes of a node
abbrev pub SayBytes : Bytes → ℕ → List (ℕ × List ℕ) → Type 0
SayBytes b node rows = (w i : ℕ) → impact_in (words_in i rows) w ≡ b node w i
