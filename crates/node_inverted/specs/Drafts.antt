-- Rows of words that are changed in memory, leaf by leaf.
use Rattle.std.specs.Prelude.{◌≡◌, ℕ, List, [], ◌∷◌, length}
use Rattle.page_face.specs.FreeList.{PageMap}
use Rattle.btree_nodes.specs.Rows.{Row}
use Rattle.btree_nodes.specs.Supply.{View}
use Rattle.paged_map.specs.Drafts.{Drafts, IsKeyOf}
use Rattle.node_rows.specs.Rows.{AreFilled, Bytes, bytes_of, key_of}
use Rattle.node_rows.specs.Turns.{Turns, with_row}
use Rattle.node_rows.specs.Impacts.{impact_at, raised}
use Rattle.node_inverted.specs.declared.edits.RowEdit.{RowEdit}
use Rattle.node_inverted.specs.declared.edits.RowEdit.TheVariants.{Set, Raise}
use Rattle.node_inverted.specs.declared.edits.RowEdits.{RowEdits}
use Rattle.node_inverted.specs.declared.edits.RowEdits.TheVariants.{Sets, Raises}
use Rattle.node_inverted.specs.declared.row_draft.RowDraft.{RowDraft}
use Rattle.node_inverted.specs.declared.taking.NodeRow.{NodeRow}

-- these rows of a node are set, one after another
abbrev pub with_rows : ℕ → List NodeRow → Bytes → Bytes
with_rows node [] b = b
with_rows node (r ∷ rows) b = with_rows node rows (with_row node r.number r.bytes b)

-- a slot of a node is raised by these pairs of a word's number and its impact, one after another
abbrev pub raised_by : ℕ → ℕ → List (ℕ × ℕ) → Bytes → Bytes
raised_by node slot [] b = b
raised_by node slot (pair ∷ pairs) b = raised_by node slot pairs (raised node slot (impact_at pair) b)

-- the row of a node for a word is changed
abbrev pub edited : ℕ → ℕ → RowEdit → Bytes → Bytes
edited node word (Set row) b = with_row node word row.now b
edited node word (Raise slot impact) b = raised node slot.at (impact_at (word, impact)) b

-- rows of a node are changed, one after another
abbrev pub edited_by : ℕ → RowEdits → Bytes → Bytes
edited_by node (Sets rows) b = with_rows node rows.now b
edited_by node (Raises slot pairs) b = raised_by node slot.at pairs.now b

-- how many rows are changed
abbrev pub edits_in : RowEdits → ℕ
edits_in (Sets rows) = length rows.now
edits_in (Raises slot pairs) = length pairs.now

-- the draft's leaf is the one that the row of a node for a word belongs to
abbrev pub IsRowOf : RowDraft → ℕ → ℕ → Type 0
IsRowOf draft node word = IsKeyOf draft.leaf (key_of node word)

-- with the draft written, the rows' map at a root says these bytes, and no row is all zeros
pub record IsDrafting (pages : PageMap) (root : ℕ) (b : Bytes) (draft : RowDraft) : Type 0 where
  pub rows : List Row
  pub drafted : Drafts pages root rows draft.leaf
  pub filled : AreFilled rows
  pub is : bytes_of rows ≡ b

-- with the draft written the rows' map says bytes from which the changes that are left lead to those that all of them lead to; where none is done, they are as before
pub record EditsUntil (pages : PageMap) (root node : ℕ) (edits : RowEdits) (b : Bytes) (left : RowEdits) (draft : RowDraft) : Type 0 where
  pub bytes : Bytes
  pub drafting : IsDrafting pages root bytes draft
  pub is : edited_by node left bytes ≡ edited_by node edits b

-- the rows' map has come so far that what is left to do leads to these bytes
pub record Reaches (before : View) (root : ℕ) (pages : PageMap) (count first root' : ℕ) (rest : Bytes → Bytes) (goal : Bytes) : Type 0 where
  pub bytes : Bytes
  pub turn : Turns before root pages count first root' bytes
  pub is : rest bytes ≡ goal
