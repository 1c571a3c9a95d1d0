-- Rows that are gone through word by word: what is done, and what is left as it was.
use Rattle.std.proofs.Common.{◌≡◌, ℕ, ◌+◌, ◌<◌, ◌≤◌, inl, inr, arith, refl, sym, ap, ◌∙◌, true, false, nat_lt}
use Rattle.std.proofs.lemmas.Bool.Decides.{nat_tests}
use Rattle.node_rows.specs.Rows.{Bytes}
use Rattle.node_rows.specs.Ascents.{until}
use Rattle.node_rows.proofs.Lookups.{order}
use Rattle.rtree_nodes.proofs.Heights.{under_or}

-- a word that is done
pub until-done : (k : ℕ) (new old : Bytes) (n w i : ℕ) → w < k → until k new old n w i ≡ new n w i
until-done k new old n w i h = let t : nat_lt w k ≡ true = grind (arith, nat_tests) in rw t refl

-- a word that is left
pub until-left : (k : ℕ) (new old : Bytes) (n w i : ℕ) → k ≤ w → until k new old n w i ≡ old n w i
until-left k new old n w i h = let t : nat_lt w k ≡ false = grind (arith, nat_tests) in rw t refl

module _ (new old now : Bytes) (at : ℕ) (is : (n w i : ℕ) → now n w i ≡ until at new old n w i) where
  -- the words from the next one on are as they were
  pub left : (n w i : ℕ) → at ≤ w → now n w i ≡ old n w i
  left n w i l = is n w i ∙ until-left at new old n w i l

  -- one word was done, and nothing was to be done before it
  pub ascend : (after : Bytes) (word : ℕ) → at ≤ word → ((n w i : ℕ) → (w ≡ word → ⊥) → after n w i ≡ now n w i) → ((n i : ℕ) → after n word i ≡ new n word i)
      → ((n w i : ℕ) → at ≤ w → w < word → new n w i ≡ old n w i) → (n w i : ℕ) → after n w i ≡ until (word + 1) new old n w i
  ascend after word on others here idle n w i = elim (order w word) [
    | inl l ↦ others n w i (λ e. omega arith) ∙ elim (under_or w at) [
      | inl k ↦ is n w i ∙ until-done at new old n w i k
      | inr k ↦ left n w i k ∙ sym (idle n w i k l)
    ] ∙ sym (until-done (word + 1) new old n w i (omega arith))
    | inr (inl e) ↦ ap (λ (v : ℕ). after n v i) e ∙ here n i ∙ ap (λ (v : ℕ). new n v i) (sym e) ∙ sym (until-done (word + 1) new old n w i (omega arith))
    | inr (inr g) ↦ others n w i (λ e. omega arith) ∙ left n w i (omega arith) ∙ sym (until-left (word + 1) new old n w i (omega arith))
  ]

  -- nothing is left to be done
  pub rest : (k : ℕ) → at ≤ k → ((n w i : ℕ) → at ≤ w → new n w i ≡ old n w i) → (n w i : ℕ) → now n w i ≡ until k new old n w i
  rest k on idle n w i = elim (under_or w at) [
    | inl l ↦ is n w i ∙ until-done at new old n w i l ∙ sym (until-done k new old n w i (omega arith))
    | inr l ↦ left n w i l ∙ elim (under_or w k) [
      | inl m ↦ sym (idle n w i l) ∙ sym (until-done k new old n w i m)
      | inr m ↦ sym (until-left k new old n w i m)
    ]
  ]

-- all words are done
pub all : (k : ℕ) (new old : Bytes) → ((n w i : ℕ) → k ≤ w → new n w i ≡ old n w i) → (n w i : ℕ) → until k new old n w i ≡ new n w i
all k new old idle n w i = elim (under_or w k) [
  | inl l ↦ until-done k new old n w i l
  | inr l ↦ until-left k new old n w i l ∙ sym (idle n w i l)
]

-- no word is done
pub start : (new old : Bytes) (n w i : ℕ) → old n w i ≡ until 0 new old n w i
start new old n w i = sym (until-left 0 new old n w i (omega arith))
