-- Rows of a node that are gathered in memory before they are set.
use Rattle.std.proofs.Common.{◌≡◌, ℕ, inl, inr, arith, refl, sym, ap, ◌∙◌, List, [], ◌∷◌, ◌++◌, if◌then◌else◌, ◌==◌, ◌&&◌, true, false, Bool, slice_index}
use Rattle.std.proofs.Math.Path.{fun_ext}
use Rattle.std.proofs.lemmas.Bool.Decides.{nat_tests}
use Rattle.page_face.specs.FreeList.{PageMap}
use Rattle.btree_nodes.specs.Supply.{View, view}
use Rattle.rtree_nodes.proofs.Amounts.{same_or}
use Rattle.node_rows.specs.Rows.{Bytes, bytes_in}
use Rattle.node_rows.specs.Turns.{Turns, dropped, moved, with_row}
use Rattle.node_rows.specs.Ascents.{until}
use Rattle.node_rows.specs.Copies.{IsCopy}
use Rattle.node_inverted.specs.Drafts.{with_rows}
use Rattle.node_inverted.specs.Gathers.{IsDropping, IsMoving, IsRenewing}
use Rattle.node_rows.specs.Impacts.{refreshed, with_byte}
use Rattle.node_rows.specs.Refreshing.{on_words}
use Rattle.node_rows.specs.declared.leaf.LeafCopy.{LeafCopy}
use Rattle.node_inverted.specs.declared.taking.NodeRow.{NodeRow}
use Rattle.node_rows.proofs.Ascents.{until-left}
use Rattle.node_rows.proofs.Bytes.{with-here, with-elsewhere, with-another}
use Rattle.node_rows.proofs.Impacts.{byte-here, byte-elsewhere, byte-another, byte-beside}
use Rattle.node_rows.proofs.Refreshes.{away, child-same, refreshed-beside}
use Rattle.node_rows.proofs.Turned.{turns-as, turns-further}

-- bytes that are the same everywhere
pub bytes-ext : (b d : Bytes) → ((n w i : ℕ) → b n w i ≡ d n w i) → b ≡ d
bytes-ext b d h = fun_ext (λ n. fun_ext (λ w. fun_ext (λ i. h n w i)))

-- one row more is set last
pub rows-more : (node : ℕ) (rows : List NodeRow) (r : NodeRow) (b : Bytes) → with_rows node (rows ++ r ∷ []) b ≡ with_row node r.number r.bytes (with_rows node rows b)
rows-more node [] r b = refl
rows-more node (q ∷ rows) r b = rows-more node rows r (with_row node q.number q.bytes b)

-- a row was set
pub row-more : (node : ℕ) (old new : List NodeRow) (r : NodeRow) (b : Bytes) → new ≡ old ++ r ∷ [] → with_rows node new b ≡ with_row node r.number r.bytes (with_rows node old b)
row-more node old new r b e = ap (λ (rows : List NodeRow). with_rows node rows b) e ∙ rows-more node old r b

-- rows of two nodes are set in either order
row-swap : (node to v w : ℕ) (stay go : List ℕ) (b : Bytes) → (node ≡ to → ⊥) → (n x i : ℕ) → with_row to w go (with_row node v stay b) n x i ≡ with_row node v stay (with_row to w go b) n x i
row-swap node to v w stay go b apart n x i = elim (same_or n node) [
  | inl e ↦
      let k : n ≡ to → ⊥ = λ f. apart (sym e ∙ f) in
      with-elsewhere to w go (with_row node v stay b) n x i k
      ∙ ap (λ (y : ℕ). if (n == node) && (x == v) then slice_index stay i else y) (sym (with-elsewhere to w go b n x i k))
  | inr k ↦
      ap (λ (y : ℕ). if (n == to) && (x == w) then slice_index go i else y) (with-elsewhere node v stay b n x i k)
      ∙ sym (with-elsewhere node v stay (with_row to w go b) n x i k)
]

rows-swap : (node to v : ℕ) (stay : List ℕ) (goes : List NodeRow) (b : Bytes) → (node ≡ to → ⊥) → with_rows to goes (with_row node v stay b) ≡ with_row node v stay (with_rows to goes b)
rows-swap node to v stay [] b apart = refl
rows-swap node to v stay (g ∷ goes) b apart =
    ap (with_rows to goes) (bytes-ext (with_row to g.number g.bytes (with_row node v stay b)) (with_row node v stay (with_row to g.number g.bytes b)) (row-swap node to v g.number stay g.bytes b apart))
    ∙ rows-swap node to v stay goes (with_row to g.number g.bytes b) apart

-- one row more is set at either node
pub both-more : (node to : ℕ) (stays stays' goes goes' : List NodeRow) (s g : NodeRow) (b : Bytes) → (node ≡ to → ⊥) → stays' ≡ stays ++ s ∷ [] → goes' ≡ goes ++ g ∷ []
    → with_rows to goes' (with_rows node stays' b) ≡ with_row to g.number g.bytes (with_row node s.number s.bytes (with_rows to goes (with_rows node stays b)))
both-more node to stays stays' goes goes' s g b apart e f =
    row-more to goes goes' g (with_rows node stays' b) f
    ∙ ap (λ (d : Bytes). with_row to g.number g.bytes (with_rows to goes d)) (row-more node stays stays' s b e)
    ∙ ap (with_row to g.number g.bytes) (rows-swap node to s.number s.bytes goes (with_rows node stays b) apart)

-- a row set in the same bytes
pub row-same : (node word : ℕ) (row : List ℕ) (b d : Bytes) → ((n w i : ℕ) → b n w i ≡ d n w i) → (n w i : ℕ) → with_row node word row b n w i ≡ with_row node word row d n w i
row-same node word row b d h n w i = ap (λ (y : ℕ). if (n == node) && (w == word) then slice_index row i else y) (h n w i)

-- nothing is gathered
pub moving-none : (before : View) (root : ℕ) (pages : PageMap) (count first rows node slots to : ℕ) (b : Bytes) (k : ℕ) (stays goes : List NodeRow) → stays ≡ [] → goes ≡ []
    → Turns before root pages count first rows (until k (moved node slots to b) b) → IsMoving before root pages count first rows node slots to b k stays goes
moving-none before root pages count first rows node slots to b k stays goes e f turn =
    let d : Bytes = until k (moved node slots to b) b in
    record {
      bytes = d;
      turn = turn;
      is = λ n w i. ap (λ (s : List NodeRow). with_rows to goes (with_rows node s d) n w i) e ∙ ap (λ (s : List NodeRow). with_rows to s d n w i) f;
      ahead = λ n w i l. until-left k (moved node slots to b) b n w i l;
    }

-- what was gathered is set
pub moving-set : (before : View) (root : ℕ) (pages : PageMap) (count first rows node slots to : ℕ) (b : Bytes) (k : ℕ) (stays goes : List NodeRow) (h : IsMoving before root pages count first rows node slots to b k stays goes)
    (mid : PageMap) (count' first' rows' : ℕ) (one : Turns (view pages count first h.turn.free) rows mid count' first' rows' (with_rows node stays (bytes_in pages rows)))
    (new : PageMap) (count'' first'' rows'' : ℕ) → Turns (view mid count' first' one.free) rows' new count'' first'' rows'' (with_rows to goes (bytes_in mid rows'))
    → Turns before root new count'' first'' rows'' (until k (moved node slots to b) b)
moving-set before root pages count first rows node slots to b k stays goes h mid count' first' rows' one new count'' first'' rows'' two =
    let d : Bytes = until k (moved node slots to b) b in
    let e : with_rows to goes (bytes_in mid rows') ≡ with_rows to goes (with_rows node stays h.bytes) =
    ap (with_rows to goes) (bytes-ext (bytes_in mid rows') (with_rows node stays (bytes_in pages rows)) one.is)
    ∙ ap (λ (c : Bytes). with_rows to goes (with_rows node stays c)) (bytes-ext (bytes_in pages rows) h.bytes h.turn.is) in
    turns-further before root pages count first rows h.bytes h.turn new count'' first'' rows'' d
    (turns-further (view pages count first h.turn.free) rows mid count' first' rows' (with_rows node stays (bytes_in pages rows)) one new count'' first'' rows'' d
    (turns-as (view mid count' first' one.free) rows' new count'' first'' rows'' (with_rows to goes (bytes_in mid rows')) d (λ n w i. ap (λ (c : Bytes). c n w i) e ∙ h.is n w i) two))

-- a row with one byte set
pub row-renewed : (node word slot byte : ℕ) (bytes b now : Bytes) (row changed : List ℕ) → ((n w i : ℕ) → now n w i ≡ b n w i) → ((i : ℕ) → slice_index row i ≡ bytes node word i)
    → ((i : ℕ) → (i ≡ slot → ⊥) → b node word i ≡ bytes node word i) → ((i : ℕ) → slice_index changed i ≡ (if i == slot then byte else slice_index row i))
    → (n w i : ℕ) → with_row node word changed now n w i ≡ with_byte node word slot byte b n w i
row-renewed node word slot byte bytes b now row changed same is beside put n w i = elim (same_or n node) [
  | inr k ↦ with-elsewhere node word changed now n w i k ∙ same n w i ∙ sym (byte-elsewhere node word slot byte b n w i k)
  | inl e ↦ elim (same_or w word) [
    | inr k ↦ with-another node word changed now n w i k ∙ same n w i ∙ sym (byte-another node word slot byte b n w i k)
    | inl f ↦ with-here node word changed now n w i e f ∙ put i ∙ elim (same_or i slot) [
      | inl h ↦ let t : (i == slot) ≡ true = grind (arith, nat_tests) in ap (λ (x : Bool). if x then byte else slice_index row i) t ∙ sym (byte-here node word slot byte b n w i e f h)
      | inr k ↦
          let t : (i == slot) ≡ false = grind (arith, nat_tests) in
          let a : b node word i ≡ b n w i = rw (e, f) refl in
          ap (λ (x : Bool). if x then byte else slice_index row i) t ∙ is i ∙ sym (beside i k) ∙ a ∙ sym (byte-beside node word slot byte b n w i k)
    ]
  ]
]

-- no row is gathered
pub renewing-none : (before : View) (root : ℕ) (pages : PageMap) (count first rows node slot child : ℕ) (b : Bytes) (words : List (ℕ × ℕ)) (list : List NodeRow) (below above : LeafCopy) → (node ≡ child → ⊥) → list ≡ []
    → IsCopy b child below → ((d : Bytes) → IsCopy d node above) → Turns before root pages count first rows (on_words words (refreshed node slot child b) b)
    → IsRenewing before root pages count first rows node slot child b words list below above
renewing-none before root pages count first rows node slot child b words list below above apart e low high turn =
    let f : Bytes = refreshed node slot child b in
    let d : Bytes = on_words words f b in
    record {
      bytes = d;
      turn = turn;
      is = λ n w i. ap (λ (l : List NodeRow). with_rows node l d n w i) e;
      beside = λ w i k. away node slot child b d words apart (λ n' w' i'. refl) node w i (refreshed-beside node slot child b node w i k);
      child_is = λ w i. child-same node slot child b d words apart (λ n' w' i'. refl) w i;
      right = λ w h. ap (λ (l : List NodeRow). with_rows node l d node w slot) e ∙ h;
      low = low;
      high = high d;
    }

-- the gathered rows are set
pub renewing-set : (before : View) (root : ℕ) (pages : PageMap) (count first rows node slot child : ℕ) (b : Bytes) (words : List (ℕ × ℕ)) (list : List NodeRow) (below above : LeafCopy)
    (h : IsRenewing before root pages count first rows node slot child b words list below above)
    (new : PageMap) (count' first' rows' : ℕ) → Turns (view pages count first h.turn.free) rows new count' first' rows' (with_rows node list (bytes_in pages rows))
    → Turns before root new count' first' rows' (on_words words (refreshed node slot child b) b)
renewing-set before root pages count first rows node slot child b words list below above h new count' first' rows' one =
    let d : Bytes = on_words words (refreshed node slot child b) b in
    let e : with_rows node list (bytes_in pages rows) ≡ with_rows node list h.bytes = ap (with_rows node list) (bytes-ext (bytes_in pages rows) h.bytes h.turn.is) in
    turns-further before root pages count first rows h.bytes h.turn new count' first' rows' d
    (turns-as (view pages count first h.turn.free) rows new count' first' rows' (with_rows node list (bytes_in pages rows)) d (λ n w i. ap (λ (c : Bytes). c n w i) e ∙ h.is n w i) one)

-- no row to be dropped is gathered
pub dropping-none : (before : View) (root : ℕ) (pages : PageMap) (count first rows node : ℕ) (b : Bytes) (k : ℕ) (list : List NodeRow) → list ≡ []
    → Turns before root pages count first rows (until k (dropped node b) b) → IsDropping before root pages count first rows node b k list
dropping-none before root pages count first rows node b k list e turn =
    let d : Bytes = until k (dropped node b) b in
    record {
      bytes = d;
      turn = turn;
      is = λ n w i. ap (λ (s : List NodeRow). with_rows node s d n w i) e;
      ahead = λ n w i l. until-left k (dropped node b) b n w i l;
    }

-- the gathered rows are dropped
pub dropping-set : (before : View) (root : ℕ) (pages : PageMap) (count first rows node : ℕ) (b : Bytes) (k : ℕ) (list : List NodeRow) (h : IsDropping before root pages count first rows node b k list)
    (new : PageMap) (count' first' rows' : ℕ) → Turns (view pages count first h.turn.free) rows new count' first' rows' (with_rows node list (bytes_in pages rows))
    → Turns before root new count' first' rows' (until k (dropped node b) b)
dropping-set before root pages count first rows node b k list h new count' first' rows' one =
    let d : Bytes = until k (dropped node b) b in
    let e : with_rows node list (bytes_in pages rows) ≡ with_rows node list h.bytes = ap (with_rows node list) (bytes-ext (bytes_in pages rows) h.bytes h.turn.is) in
    turns-further before root pages count first rows h.bytes h.turn new count' first' rows' d
    (turns-as (view pages count first h.turn.free) rows new count' first' rows' (with_rows node list (bytes_in pages rows)) d (λ n w i. ap (λ (c : Bytes). c n w i) e ∙ h.is n w i) one)
