-- Bytes that move to another node.
use Rattle.std.proofs.Common.{◌≡◌, ℕ, inl, inr, arith, refl, sym, ap, ◌∙◌, List, if◌then◌else◌, ◌==◌, true, false, slice_index}
use Rattle.std.proofs.lemmas.Bool.Decides.{nat_tests}
use Rattle.std.specs.Int.{bit_at}
use Rattle.page_face.specs.FreeList.{are_zero}
use Rattle.node_rows.specs.Rows.{Bytes}
use Rattle.node_rows.specs.Turns.{moved, with_row}
use Rattle.node_rows.specs.Ascents.{on_word}
use Rattle.node_rows.proofs.Bytes.{with-here, with-elsewhere, with-another, zero-at}
use Rattle.rtree_nodes.proofs.Amounts.{same_or}

-- the word that is done
pub on-here : (word : ℕ) (new old : Bytes) (n w i : ℕ) → w ≡ word → on_word word new old n w i ≡ new n w i
on-here word new old n w i e = let t : (w == word) ≡ true = grind (arith, nat_tests) in rw t refl

-- another word
pub on-other : (word : ℕ) (new old : Bytes) (n w i : ℕ) → (w ≡ word → ⊥) → on_word word new old n w i ≡ old n w i
on-other word new old n w i e = let t : (w == word) ≡ false = grind (arith, nat_tests) in rw t refl

module _ (node mask to : ℕ) (b : Bytes) (n w i : ℕ) where
  pub moved-node : n ≡ node → moved node mask to b n w i ≡ (if bit_at mask i == 1 then 0 else b node w i)
  unfolding moved
  moved-node e = let t : (n == node) ≡ true = grind (arith, nat_tests) in rw t refl

  pub moved-to : (n ≡ node → ⊥) → n ≡ to → moved node mask to b n w i ≡ (if bit_at mask i == 1 then b node w i else 0)
  unfolding moved
  moved-to k e = let t : (n == node) ≡ false = grind (arith, nat_tests) in let u : (n == to) ≡ true = grind (arith, nat_tests) in rw (t, u) refl

  pub moved-other : (n ≡ node → ⊥) → (n ≡ to → ⊥) → moved node mask to b n w i ≡ b n w i
  unfolding moved
  moved-other k e = let t : (n == node) ≡ false = grind (arith, nat_tests) in let u : (n == to) ≡ false = grind (arith, nat_tests) in rw (t, u) refl

-- what moves at a word is said by the bytes at that word
pub moved-same : (node mask to : ℕ) (b d : Bytes) (w : ℕ) → ((n i : ℕ) → b n w i ≡ d n w i) → (n i : ℕ) → moved node mask to b n w i ≡ moved node mask to d n w i
unfolding moved
moved-same node mask to b d w e n i = rw (e node i, e n i) refl

module _ (node mask to word : ℕ) (b : Bytes) (row go : List ℕ) (apart : node ≡ to → ⊥) (is : (i : ℕ) → slice_index row i ≡ b node word i) (clear : (i : ℕ) → b to word i ≡ 0)
    (goes : (i : ℕ) → slice_index go i ≡ (if bit_at mask i == 1 then slice_index row i else 0)) where
  -- no byte moves
  pub moved-none : are_zero go ≡ true → (n w i : ℕ) → b n w i ≡ on_word word (moved node mask to b) b n w i
  moved-none zeros n w i = elim (same_or w word) [
    | inr k ↦ sym (on-other word (moved node mask to b) b n w i k)
    | inl e ↦
        let none : (if bit_at mask i == 1 then slice_index row i else 0) ≡ 0 = sym (goes i) ∙ zero-at go i zeros in
        let none' : (if bit_at mask i == 1 then b node word i else 0) ≡ 0 = ap (λ (k : ℕ). if bit_at mask i == 1 then k else 0) (sym (is i)) ∙ none in
        ap (λ (v : ℕ). b n v i) e ∙ elim (same_or n node) [
          | inl f ↦ ap (λ (m : ℕ). b m word i) f ∙ elim (bit_at mask i == 1) as (λ c. (if c then b node word i else 0) ≡ 0 → b node word i ≡ (if c then 0 else b node word i)) [ true ↦ λ z. z | false ↦ λ z. refl ] none'
              ∙ sym (moved-node node mask to b n word i f)
          | inr k ↦ elim (same_or n to) [
            | inl f ↦ ap (λ (m : ℕ). b m word i) f ∙ clear i ∙ sym none' ∙ sym (moved-to node mask to b n word i k f)
            | inr j ↦ sym (moved-other node mask to b n word i k j)
          ]
        ] ∙ ap (λ (v : ℕ). moved node mask to b n v i) (sym e) ∙ sym (on-here word (moved node mask to b) b n w i e)
  ]

  module _ (stay : List ℕ) (stays : (i : ℕ) → slice_index stay i ≡ (if bit_at mask i == 1 then 0 else slice_index row i)) (mid : Bytes) (mid_is : (n w i : ℕ) → mid n w i ≡ with_row node word stay b n w i) where
    -- both rows were set
    pub moved-set : (n w i : ℕ) → with_row to word go mid n w i ≡ on_word word (moved node mask to b) b n w i
    moved-set n w i = elim (same_or w word) [
      | inr k ↦ with-another to word go mid n w i k ∙ mid_is n w i ∙ with-another node word stay b n w i k ∙ sym (on-other word (moved node mask to b) b n w i k)
      | inl e ↦ elim (same_or n to) [
        | inl f ↦ with-here to word go mid n w i f e ∙ goes i ∙ ap (λ (k : ℕ). if bit_at mask i == 1 then k else 0) (is i) ∙ sym (moved-to node mask to b n word i (λ g. apart (sym g ∙ f)) f)
        | inr k ↦ with-elsewhere to word go mid n w i k ∙ mid_is n w i ∙ elim (same_or n node) [
          | inl f ↦ with-here node word stay b n w i f e ∙ stays i ∙ ap (λ (k : ℕ). if bit_at mask i == 1 then 0 else k) (is i) ∙ sym (moved-node node mask to b n word i f)
          | inr j ↦ with-elsewhere node word stay b n w i j ∙ ap (λ (v : ℕ). b n v i) e ∙ sym (moved-other node mask to b n word i j k)
        ]
      ] ∙ ap (λ (v : ℕ). moved node mask to b n v i) (sym e) ∙ sym (on-here word (moved node mask to b) b n w i e)
    ]

-- a word at which the node has no byte moves nothing
pub moved-idle : (node mask to : ℕ) (b : Bytes) (w : ℕ) → ((i : ℕ) → b node w i ≡ 0) → ((i : ℕ) → b to w i ≡ 0) → (n i : ℕ) → moved node mask to b n w i ≡ b n w i
unfolding moved
moved-idle node mask to b w none clear n i = elim (same_or n node) [
  | inl e ↦ let t : (n == node) ≡ true = grind (arith, nat_tests) in rw (t, e) (elim (bit_at mask i == 1) as (λ c. (if c then 0 else b node w i) ≡ b node w i) [ true ↦ sym (none i) | false ↦ refl ])
  | inr k ↦ let t : (n == node) ≡ false = grind (arith, nat_tests) in rw t (elim (same_or n to) [
    | inl e ↦ let u : (n == to) ≡ true = grind (arith, nat_tests) in rw (u, e) (elim (bit_at mask i == 1) as (λ c. (if c then b node w i else 0) ≡ b to w i) [ true ↦ none i ∙ sym (clear i) | false ↦ sym (clear i) ])
    | inr j ↦ let u : (n == to) ≡ false = grind (arith, nat_tests) in rw u refl
  ])
]
