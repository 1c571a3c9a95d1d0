-- What a copy of a leaf of the rows' map says of a node.
use Rattle.std.proofs.Common.{◌≡◌, ℕ, ◌^◌, ◌<◌, ◌≤◌, inl, inr, arith, refl, sym, ap, ◌∙◌, subst, Option, Some, None, List, [], ◌∷◌, length}
use Rattle.page_face.specs.FreeList.{PageMap}
use Rattle.page_face.specs.Number.{number}
use Rattle.btree_nodes.specs.Bounds.{upper_of}
use Rattle.btree_nodes.specs.declared.form.Form.{Form}
use Rattle.btree_nodes.specs.Nodes.{IsLeaf, rows_in}
use Rattle.btree_nodes.specs.Rows.{Row, IsWithin, lookup, first_from}
use Rattle.btree_nodes.specs.Tree.{map_rows}
use Rattle.btree_nodes.proofs.Checks.{upper-some}
use Rattle.btree_nodes.proofs.Spans.{lookup-above, lookup-below}
use Rattle.btree_nodes.specs.Leaves.{IsLeafOf}
use Rattle.paged_map.proofs.Leaves.{lookup-leaf}
use Rattle.paged_map.proofs.Maps.{map-none}
use Rattle.rtree_nodes.specs.Stock.{rows_form}
use Rattle.rtree_nodes.proofs.Heights.{under_or}
use Rattle.node_rows.specs.Rows.{AreFilled, Bytes, IsFilled, byte_in, bytes_in, bytes_of, key_of}
use Rattle.node_rows.specs.Turns.{IsNext, Next}
use Rattle.node_rows.specs.Copies.{HasRows, IsBefore}
use Rattle.node_rows.specs.declared.leaf.LeafCopy.{LeafCopy}
use Rattle.node_rows.proofs.Bytes.{bytes-large, bytes-small, key-word, next-away, next-here, next-none}

-- a word before one that stands before the end
pub before-less : (w v : ℕ) (o : Option ℕ) → w < v → IsBefore v o → IsBefore w o
before-less w v None l h = tt
before-less w v (Some next) l h = omega arith

-- a word up to one that stands before the end
pub before-le : (w v : ℕ) (o : Option ℕ) → w ≤ v → IsBefore v o → IsBefore w o
before-le w v None l h = tt
before-le w v (Some next) l h = omega arith

-- a word before the end stands before one that doesn't
pub before-past : (w v : ℕ) (o : Option ℕ) → IsBefore w o → (IsBefore v o → ⊥) → w < v
before-past w v None h k = absurd (k tt)
before-past w v (Some next) h k = elim (under_or v next) [
  | inl l ↦ absurd (k l)
  | inr l ↦ omega arith
]

module _ (b : Bytes) (node : ℕ) (copy : LeafCopy) (from : ℕ) (small : from < 2 ^ 64) (h : HasRows b node copy) (on : copy.from ≤ from) where
  rows : List Row
  rows = rows_in rows_form copy.page

  -- no row follows in the leaf
  pub copy-none : first_from (key_of node from) (rows_in rows_form copy.page) ≡ None → (w i : ℕ) → from ≤ w → IsBefore w copy.next → b node w i ≡ 0
  unfolding rows
  copy-none e w i l m = sym (h.is w i (omega arith) m) ∙ next-none rows h.low h.high node from small h.within e w i l

  module _ (n v : ℕ) (row : List ℕ) (fits : v < 2 ^ 64) (first : first_from (key_of node from) (rows_in rows_form copy.page) ≡ Some (key_of n v, row)) where
    -- a row of another node follows
    pub copy-away : (n ≡ node → ⊥) → (w i : ℕ) → from ≤ w → IsBefore w copy.next → b node w i ≡ 0
    unfolding rows
    copy-away d w i l m = sym (h.is w i (omega arith) m) ∙ next-away rows h.low h.high node from small h.within n v row fits first d w i l

    here : n ≡ node → IsNext (bytes_of (rows_in rows_form copy.page)) node from v row
    unfolding rows
    here e = next-here rows h.low h.high node from small h.within n v row fits first e

    -- the row that follows isn't before the word
    pub copy-on : n ≡ node → from ≤ v
    copy-on e = let o = (here e).on in omega arith

    -- the row that follows is behind the copy's words
    pub copy-past : n ≡ node → (IsBefore v copy.next → ⊥) → (w i : ℕ) → from ≤ w → IsBefore w copy.next → b node w i ≡ 0
    copy-past e k w i l m = sym (h.is w i (omega arith) m) ∙ (here e).none w i l (before-past w v copy.next m k)

    -- the row that follows is the node's
    pub copy-next : n ≡ node → IsBefore v copy.next → IsNext b node from v row
    copy-next e m =
        let o = (here e).on in
        record {
          on = o;
          small = fits;
          is = λ i. (here e).is i ∙ h.is v i (omega arith) m;
          none = λ w i a l. sym (h.is w i (omega arith) (before-less w v copy.next l m)) ∙ (here e).none w i a l;
        }

-- a leaf of the map was copied
pub filled : (form : Form) → form ≡ rows_form → (pages : PageMap) (root node from least page low high : ℕ) (b : Bytes) (bytes : List ℕ) (next : Option ℕ) → bytes ≡ pages page → IsLeaf form least bytes
    → IsWithin low high (rows_in form bytes) → IsLeafOf form pages root least page low high → low ≤ key_of node from → ((w : ℕ) → w < 2 ^ 64 → IsBefore w next → key_of node w < high)
    → ((w i : ℕ) → from ≤ w → bytes_in pages root node w i ≡ b node w i) → HasRows b node (record { page = bytes; from = from; next = next })
filled form e pages root node from least page low high b bytes next is sound within leaf on below same =
    let sound' : IsLeaf rows_form least bytes = subst (λ (f : Form). IsLeaf f least bytes) e sound in
    let leaf' : IsLeafOf rows_form pages root least page low high = subst (λ (f : Form). IsLeafOf f pages root least page low high) e leaf in
    record {
      low = low;
      high = high;
      fits = sound'.fits;
      within = subst (λ (f : Form). IsWithin low high (rows_in f bytes)) e within;
      is = λ w i l m. elim (under_or w (2 ^ 64)) [
        | inl s ↦
            let k = key-word node from w l in
            bytes-small (rows_in rows_form bytes) node w i s
            ∙ ap (λ (o : Option (List ℕ)). byte_in o i) (ap (λ (x : List ℕ). lookup (key_of node w) (rows_in rows_form x)) is ∙ sym (lookup-leaf rows_form pages root least page low high leaf' (key_of node w) (omega arith) (below w s m)))
            ∙ sym (bytes-small (map_rows rows_form pages root) node w i s) ∙ same w i l
        | inr s ↦ bytes-large (rows_in rows_form bytes) node w i s ∙ sym (bytes-large (map_rows rows_form pages root) node w i s) ∙ same w i l
      ];
    }

-- no row of a leaf is all zeros, where none of the map is
pub leaf-filled : (form : Form) → form ≡ rows_form → (pages : PageMap) (root least page low high : ℕ) (bytes : List ℕ) → bytes ≡ pages page → IsWithin low high (rows_in form bytes) → IsLeafOf form pages root least page low high
    → AreFilled (map_rows rows_form pages root) → AreFilled (rows_in rows_form bytes)
leaf-filled form e pages root least page low high bytes is within leaf filled key =
    let leaf' : IsLeafOf rows_form pages root least page low high = subst (λ (f : Form). IsLeafOf f pages root least page low high) e leaf in
    let within' : IsWithin low high (rows_in rows_form bytes) = subst (λ (f : Form). IsWithin low high (rows_in f bytes)) e within in
    let rows : List Row = rows_in rows_form bytes in
    elim (under_or key low) [
      | inl below ↦ subst IsFilled (sym (lookup-below low high key rows within' below)) tt
      | inr from ↦ elim (under_or key high) [
        | inl to ↦ subst IsFilled (lookup-leaf rows_form pages root least page low high leaf' key from to ∙ sym (ap (λ (x : List ℕ). lookup key (rows_in rows_form x)) is)) (filled key)
        | inr past ↦ subst IsFilled (sym (lookup-above low high key rows within' past)) tt
      ]
    ]

-- the first row from a word on is that from an earlier one on, if nothing lies between
pub next-on : (b d : Bytes) (node from at : ℕ) (o : Option (ℕ × List ℕ)) → from ≤ at → ((w i : ℕ) → at ≤ w → d node w i ≡ b node w i) → ((w i : ℕ) → from ≤ w → w < at → b node w i ≡ 0) → Next d node at o → Next b node from o
next-on b d node from at None le same quiet next = λ w i l. elim (under_or w at) [
  | inl m ↦ quiet w i l m
  | inr m ↦ sym (same w i m) ∙ next w i m
]
next-on b d node from at (Some found) le same quiet next =
    let o = next.on in
    record {
      on = omega arith;
      small = next.small;
      is = λ i. next.is i ∙ same found.0 i o;
      none = λ w i l m. elim (under_or w at) [
        | inl k ↦ quiet w i l k
        | inr k ↦ sym (same w i k) ∙ next.none w i k m
      ];
    }

-- an empty map has no bytes
pub bytes-empty : (pages : PageMap) (root n w i : ℕ) → root ≡ 0 → bytes_in pages root n w i ≡ 0
bytes-empty pages root n w i e = ap (λ (rows : List Row). bytes_of rows n w i) (map-none rows_form pages root e) ∙ elim (under_or w (2 ^ 64)) [
  | inl s ↦ bytes-small [] n w i s
  | inr s ↦ bytes-large [] n w i s
]

-- no bound is that of all keys
pub upper-empty : (high : List ℕ) → length high ≡ 0 → upper_of 12 high ≡ 256 ^ 12
upper-empty [] e = refl
upper-empty (x ∷ xs) e = absurd (omega arith)

-- each key is below it
pub key-below_all : (node w : ℕ) → node < 2 ^ 32 → w < 2 ^ 64 → key_of node w < 256 ^ 12
unfolding key_of
key-below_all node w a b = omega arith

-- a bound by its bytes
pub upper-bytes : (high bytes : List ℕ) (key : ℕ) → 0 < length high → bytes ≡ high → number bytes ≡ key → upper_of 12 high ≡ key
upper-bytes high bytes key some same is = upper-some 12 high some ∙ ap number (sym same) ∙ is

-- words of a node are ordered as their keys are
pub word-below : (n n' w v : ℕ) → n' ≡ n → key_of n w < key_of n' v → w < v
unfolding key_of
word-below n n' w v e l = omega arith

pub key-below : (n n' w v : ℕ) → n' ≡ n → w < v → key_of n w < key_of n' v
unfolding key_of
key-below n n' w v e l = omega arith
