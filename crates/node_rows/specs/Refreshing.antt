-- A slot that is refreshed: two nodes' rows gone through side by side.
use Rattle.std.specs.Prelude.{◌≡◌, ℕ, ◌^◌, ◌≤◌, List, [], ◌∷◌, Option, Some, None, ◌==◌, if◌then◌else◌, nat_lt, nat_le, Bool, true, false, slice_index}
use Rattle.page_face.specs.FreeList.{PageMap}
use Rattle.btree_nodes.specs.Supply.{View}
use Rattle.node_rows.specs.Rows.{Bytes}
use Rattle.node_rows.specs.Turns.{Turns, Next}
use Rattle.node_rows.specs.Ascents.{until}
use Rattle.node_rows.specs.Impacts.{refreshed}

-- the row that lies ahead isn't before this word
abbrev pub IsFrom : ℕ → Option (ℕ × List ℕ) → Type 0
IsFrom word None = Unit {0}
IsFrom word (Some ahead) = word ≤ ahead.0

-- the word of the row that lies ahead
abbrev pub word_of : Option (ℕ × List ℕ) → Option ℕ
word_of None = None
word_of (Some ahead) = Some ahead.0

-- the lesser of two words, if there is one
abbrev pub lesser_of : Option ℕ → Option ℕ → Option ℕ
lesser_of None b = b
lesser_of (Some x) None = Some x
lesser_of (Some x) (Some y) = Some (if nat_lt y x then y else x)

-- a byte at a word, by the row that lies ahead
abbrev pub byte_ahead : ℕ → Option (ℕ × List ℕ) → ℕ → ℕ
byte_ahead word None i = 0
byte_ahead word (Some ahead) i = if ahead.0 == word then slice_index ahead.1 i else 0

-- the row that lies ahead is that of this word or of one before it
abbrev pub is_due_at : ℕ → Option (ℕ × List ℕ) → Bool
is_due_at word None = false
is_due_at word (Some ahead) = nat_le ahead.0 word

-- no byte at a word that no row can have
abbrev pub IsBounded : Bytes → Type 0
IsBounded b = (n w i : ℕ) → 2 ^ 64 ≤ w → b n w i ≡ 0

-- a slot of a node is being refreshed: the words below some word are done, and these rows of the child and of the node lie ahead
pub record IsRefreshing (before : View) (root : ℕ) (pages : PageMap) (count first rows node slot child : ℕ) (b : Bytes) (below above : Option (ℕ × List ℕ)) : Type 0 where
  pub k : ℕ
  pub small : k ≤ 2 ^ 64
  pub turn : Turns before root pages count first rows (until k (refreshed node slot child b) b)
  pub low : Next b child k below
  pub high : Next b node k above

-- the word stands among these
abbrev pub is_named : List (ℕ × ℕ) → ℕ → Bool
is_named [] w = false
is_named (pair ∷ pairs) w = if pair.0 == w then true else is_named pairs w

-- these words are done
abbrev pub on_words : List (ℕ × ℕ) → Bytes → Bytes → Bytes
on_words pairs new old n w i = if is_named pairs w then new n w i else old n w i
