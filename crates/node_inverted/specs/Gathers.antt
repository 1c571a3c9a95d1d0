-- Rows of a node that are gathered in memory before they are set.
use Rattle.std.specs.Prelude.{◌≡◌, ℕ, ◌≤◌, List}
use Rattle.page_face.specs.FreeList.{PageMap}
use Rattle.btree_nodes.specs.Supply.{View}
use Rattle.node_rows.specs.Rows.{Bytes}
use Rattle.node_rows.specs.Turns.{Turns, dropped, moved}
use Rattle.node_rows.specs.Ascents.{until}
use Rattle.node_rows.specs.Copies.{IsCopy}
use Rattle.node_inverted.specs.Drafts.{with_rows}
use Rattle.node_rows.specs.Impacts.{refreshed, top_at}
use Rattle.node_rows.specs.Refreshing.{on_words}
use Rattle.node_rows.specs.declared.leaf.LeafCopy.{LeafCopy}
use Rattle.node_inverted.specs.declared.taking.NodeRow.{NodeRow}

-- bytes of a node are being moved to another one: with what stays and what goes set, the words below k are done; the pages have the words from there on as before
pub record IsMoving (before : View) (root : ℕ) (pages : PageMap) (count first rows node slots to : ℕ) (b : Bytes) (k : ℕ) (stays goes : List NodeRow) : Type 0 where
  pub bytes : Bytes
  pub turn : Turns before root pages count first rows bytes
  pub is : (n w i : ℕ) → with_rows to goes (with_rows node stays bytes) n w i ≡ until k (moved node slots to b) b n w i
  pub ahead : (n w i : ℕ) → k ≤ w → bytes n w i ≡ b n w i

-- rows of a node are being dropped: with the gathered rows set, the words below k are done; the pages have the words from there on as before
pub record IsDropping (before : View) (root : ℕ) (pages : PageMap) (count first rows node : ℕ) (b : Bytes) (k : ℕ) (list : List NodeRow) : Type 0 where
  pub bytes : Bytes
  pub turn : Turns before root pages count first rows bytes
  pub is : (n w i : ℕ) → with_rows node list bytes n w i ≡ until k (dropped node b) b n w i
  pub ahead : (n w i : ℕ) → k ≤ w → bytes n w i ≡ b n w i

-- a slot of a node is being renewed: with the gathered rows set, these words are done. The pages have other bytes at that slot alone; where it is right in them it stays so. The copies say the child's bytes and the node's.
pub record IsRenewing (before : View) (root : ℕ) (pages : PageMap) (count first rows node slot child : ℕ) (b : Bytes) (words : List (ℕ × ℕ)) (list : List NodeRow) (below above : LeafCopy) : Type 0 where
  pub bytes : Bytes
  pub turn : Turns before root pages count first rows bytes
  pub is : (n w i : ℕ) → with_rows node list bytes n w i ≡ on_words words (refreshed node slot child b) b n w i
  pub beside : (w i : ℕ) → (i ≡ slot → ⊥) → bytes node w i ≡ b node w i
  pub child_is : (w i : ℕ) → bytes child w i ≡ b child w i
  pub right : (w : ℕ) → bytes node w slot ≡ top_at b child w → with_rows node list bytes node w slot ≡ top_at b child w
  pub low : IsCopy b child below
  pub high : IsCopy bytes node above
