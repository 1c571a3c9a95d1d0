-- The bytes that rows say.
use Rattle.std.proofs.Common.{◌≡◌, ℕ, zero, suc, ◌^◌, ◌<◌, ◌≤◌, inl, inr, arith, refl, sym, ap, ◌∙◌, subst, Option, Some, None, List, [], ◌∷◌, ◌&&◌, ◌==◌, true, false, Bool, nat_lt, slice_index}
use Rattle.std.proofs.lemmas.Bool.Decides.{nat_tests}
use Rattle.page_face.specs.FreeList.{are_zero}
use Rattle.btree_nodes.specs.Rows.{Row, IsWithin, lookup, first_from, put, without}
use Rattle.node_rows.specs.Rows.{Bytes, key_of, byte_in, bytes_of, IsFilled, AreFilled}
use Rattle.node_rows.specs.Turns.{with_row, IsNext}
use Rattle.node_rows.proofs.Lookups.{lookup-put, lookup-put_other, lookup-without, lookup-without_other, first-none, first-some, IsFirst}
use Rattle.rtree_nodes.proofs.Amounts.{same_or}
use Rattle.rtree_nodes.proofs.Heights.{under_or}

pub word-same : (n n' w w' : ℕ) → w < 2 ^ 64 → w' < 2 ^ 64 → key_of n w ≡ key_of n' w' → w ≡ w'
unfolding key_of
word-same n n' w w' a b e = omega arith

pub node-same : (n n' w w' : ℕ) → w < 2 ^ 64 → w' < 2 ^ 64 → key_of n w ≡ key_of n' w' → n ≡ n'
unfolding key_of
node-same n n' w w' a b e = omega arith

pub key-word : (n w w' : ℕ) → w ≤ w' → key_of n w ≤ key_of n w'
unfolding key_of
key-word n w w' h = omega arith

pub key-word_less : (n w w' : ℕ) → w < w' → key_of n w < key_of n w'
unfolding key_of
key-word_less n w w' h = omega arith

pub word-on : (n w w' : ℕ) → key_of n w ≤ key_of n w' → w ≤ w'
unfolding key_of
word-on n w w' h = omega arith

-- a later node's keys
pub node-later : (n n' w v w' : ℕ) → v < 2 ^ 64 → w' < 2 ^ 64 → (n' ≡ n → ⊥) → key_of n w ≤ key_of n' w' → w < 2 ^ 64 → key_of n v < key_of n' w'
unfolding key_of
node-later n n' w v w' b c d e f = grind arith

pub bytes-small : (rows : List Row) (n w i : ℕ) → w < 2 ^ 64 → bytes_of rows n w i ≡ byte_in (lookup (key_of n w) rows) i
unfolding bytes_of
bytes-small rows n w i h = let t : nat_lt w (2 ^ 64) ≡ true = grind (arith, nat_tests) in rw t refl

pub bytes-large : (rows : List Row) (n w i : ℕ) → 2 ^ 64 ≤ w → bytes_of rows n w i ≡ 0
unfolding bytes_of
bytes-large rows n w i h = let t : nat_lt w (2 ^ 64) ≡ false = grind (arith, nat_tests) in rw t refl

pub with-here : (node word : ℕ) (row : List ℕ) (b : Bytes) (n w i : ℕ) → n ≡ node → w ≡ word → with_row node word row b n w i ≡ slice_index row i
with-here node word row b n w i e f = let t : (n == node) ≡ true = grind (arith, nat_tests) in let u : (w == word) ≡ true = grind (arith, nat_tests) in rw (t, u) refl

pub with-elsewhere : (node word : ℕ) (row : List ℕ) (b : Bytes) (n w i : ℕ) → (n ≡ node → ⊥) → with_row node word row b n w i ≡ b n w i
with-elsewhere node word row b n w i e = let t : (n == node) ≡ false = grind (arith, nat_tests) in rw t refl

pub and_false : (a : Bool) → (a && false) ≡ false
and_false true = refl
and_false false = refl

pub with-another : (node word : ℕ) (row : List ℕ) (b : Bytes) (n w i : ℕ) → (w ≡ word → ⊥) → with_row node word row b n w i ≡ b n w i
with-another node word row b n w i e = let t : (w == word) ≡ false = grind (arith, nat_tests) in rw (t, and_false (n == node)) refl

pub zero-at : (value : List ℕ) (i : ℕ) → are_zero value ≡ true → slice_index value i ≡ 0
zero-at [] zero h = refl
zero-at [] (suc i) h = refl
zero-at (x ∷ xs) zero h = grind (arith, nat_tests)
zero-at (x ∷ xs) (suc i) h = elim (x == 0) as (λ b. (b && are_zero xs) ≡ true → slice_index xs i ≡ 0) [ true ↦ λ k. zero-at xs i k | false ↦ λ k. cc ] h

module _ (rows after : List Row) (node word : ℕ) (value : List ℕ) (small : word < 2 ^ 64)
    (here : byte_in (lookup (key_of node word) after) ≡ slice_index value)
    (others : (q : ℕ) → (q ≡ key_of node word → ⊥) → lookup q after ≡ lookup q rows) where
  same-bytes : (n w i : ℕ) → (w < 2 ^ 64 → key_of n w ≡ key_of node word → ⊥) → bytes_of after n w i ≡ bytes_of rows n w i
  same-bytes n w i h = elim (under_or w (2 ^ 64)) [
    | inl l ↦ bytes-small after n w i l ∙ ap (λ (o : Option (List ℕ)). byte_in o i) (others (key_of n w) (h l)) ∙ sym (bytes-small rows n w i l)
    | inr l ↦ bytes-large after n w i l ∙ sym (bytes-large rows n w i l)
  ]

  -- a row that is put, or taken out, is one set
  pub bytes-set : (n w i : ℕ) → bytes_of after n w i ≡ with_row node word value (bytes_of rows) n w i
  bytes-set n w i = elim (same_or w word) [
    | inr k ↦ same-bytes n w i (λ l e. k (word-same n node w word l small e)) ∙ sym (with-another node word value (bytes_of rows) n w i k)
    | inl e ↦ elim (same_or n node) [
      | inr k ↦ same-bytes n w i (λ l e. k (node-same n node w word l small e)) ∙ sym (with-elsewhere node word value (bytes_of rows) n w i k)
      | inl f ↦
          let g : key_of n w ≡ key_of node word = rw (e, f) refl in
          bytes-small after n w i (omega arith) ∙ ap (λ (k : ℕ). byte_in (lookup k after) i) g ∙ ap (λ (h : ℕ → ℕ). h i) here ∙ sym (with-here node word value (bytes_of rows) n w i f e)
    ]
  ]

-- the first row from a key on isn't all zeros, where none is
pub first-filled : (low high key : ℕ) (row : Row) (rows : List Row) → IsWithin low high rows → AreFilled rows → first_from key rows ≡ Some row → are_zero row.1 ≡ false
first-filled low high key row rows within filled is = subst IsFilled (first-some low high key row rows within is).is (filled row.0)

-- the next row of a node
module _ (rows : List Row) (low high node from : ℕ) (small : from < 2 ^ 64) (within : IsWithin low high rows) where
  pub next-none : first_from (key_of node from) rows ≡ None → (v i : ℕ) → from ≤ v → bytes_of rows node v i ≡ 0
  next-none e v i l = elim (under_or v (2 ^ 64)) [
    | inl s ↦ bytes-small rows node v i s ∙ ap (λ (o : Option (List ℕ)). byte_in o i) (first-none low high (key_of node from) (key_of node v) rows within e (key-word node from v l))
    | inr s ↦ bytes-large rows node v i s
  ]

  module _ (n w : ℕ) (row : List ℕ) (fits : w < 2 ^ 64) (is : first_from (key_of node from) rows ≡ Some (key_of n w, row)) where
    first : IsFirst (key_of node from) (key_of n w, row) rows
    first = first-some low high (key_of node from) (key_of n w, row) rows within is

    pub next-here : n ≡ node → IsNext (bytes_of rows) node from w row
    next-here e =
        let k : key_of n w ≡ key_of node w = ap (λ (m : ℕ). key_of m w) e in
        let f = first.is in
        let g : lookup (key_of node w) rows ≡ Some row = ap (λ (m : ℕ). lookup m rows) (sym k) ∙ f in
        record {
          on = word-on node from w (let o = first.on in subst (λ (m : ℕ). key_of node from ≤ m) k o);
          small = fits;
          is = λ i. sym (bytes-small rows node w i fits ∙ ap (λ (o : Option (List ℕ)). byte_in o i) g);
          none = λ v i a b. bytes-small rows node v i (omega arith)
              ∙ ap (λ (o : Option (List ℕ)). byte_in o i) (first.none (key_of node v) (key-word node from v a) (let l = key-word_less node v w b in subst (λ (m : ℕ). key_of node v < m) (sym k) l));
        }

    pub next-away : (n ≡ node → ⊥) → (v i : ℕ) → from ≤ v → bytes_of rows node v i ≡ 0
    next-away d v i l = elim (under_or v (2 ^ 64)) [
      | inl s ↦ bytes-small rows node v i s
          ∙ ap (λ (o : Option (List ℕ)). byte_in o i) (first.none (key_of node v) (key-word node from v l) (node-later node n from v w s fits d first.on small))
      | inr s ↦ bytes-large rows node v i s
    ]

pub filled-put : (key : ℕ) (value : List ℕ) (rows : List Row) → are_zero value ≡ false → AreFilled rows → AreFilled (put key value rows)
filled-put key value rows some all q = elim (same_or q key) [
  | inl e ↦ subst IsFilled (sym (ap (λ (k : ℕ). lookup k (put key value rows)) e ∙ lookup-put key value rows)) some
  | inr n ↦ subst IsFilled (sym (lookup-put_other key q value rows n)) (all q)
]

pub filled-without : (low high key : ℕ) (rows : List Row) → IsWithin low high rows → AreFilled rows → AreFilled (without key rows)
filled-without low high key rows within all q = elim (same_or q key) [
  | inl e ↦ subst IsFilled (sym (ap (λ (k : ℕ). lookup k (without key rows)) e ∙ lookup-without low high key rows within)) tt
  | inr n ↦ subst IsFilled (sym (lookup-without_other key q rows n)) (all q)
]
