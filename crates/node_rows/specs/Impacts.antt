-- Slots whose bytes follow the words below them.
use Rattle.std.specs.Prelude.{ℕ, max, List, [], ◌∷◌, ◌==◌, ◌&&◌, if◌then◌else◌}
use Rattle.rtree_nodes.specs.Slots.{top_to}
use Rattle.node_rows.specs.Rows.{Bytes, only}

-- the impact of a word by one pair of a word's number and its impact
abbrev pub impact_at : ℕ × ℕ → ℕ → ℕ
impact_at pair word = if pair.0 == word then pair.1 else 0

-- the impact of a word among an entry's pairs; 0 where the entry doesn't have the word
abbrev pub impact_in : List (ℕ × ℕ) → ℕ → ℕ
impact_in [] word = 0
impact_in (pair ∷ pairs) word = max (impact_in pairs word) (impact_at pair word)

-- one byte is set
abbrev pub with_byte : ℕ → ℕ → ℕ → ℕ → Bytes → Bytes
with_byte node word slot byte b n w i = if (n == node) && ((w == word) && (i == slot)) then byte else b n w i

-- one slot of a node is raised to f of each word
abbrev pub raised : ℕ → ℕ → (ℕ → ℕ) → Bytes → Bytes
raised node slot f b n w i = max (b n w i) (only node slot f n w i)

-- the greatest byte of a node at a word
unfoldable pub top_at : Bytes → ℕ → ℕ → ℕ
top_at b node word = top_to 32 (λ slot. b node word slot)

-- one slot of a node has at each word the greatest byte of its child
unfoldable pub refreshed : ℕ → ℕ → ℕ → Bytes → Bytes
refreshed node slot child b n w i = if (n == node) && (i == slot) then top_at b child w else b n w i
