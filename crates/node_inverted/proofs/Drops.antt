-- Rows that are dropped.
use Rattle.std.proofs.Common.{◌≡◌, ℕ, inl, inr, arith, refl, sym, ap, ◌∙◌, List, ◌==◌, true, false, slice_index}
use Rattle.std.proofs.lemmas.Bool.Decides.{nat_tests}
use Rattle.node_rows.specs.Rows.{Bytes}
use Rattle.node_rows.specs.Turns.{dropped, with_row}
use Rattle.node_rows.proofs.Bytes.{with-here, with-elsewhere}
use Rattle.rtree_nodes.proofs.Amounts.{same_or}

-- a word without bytes has none to be dropped
pub dropped-idle : (node : ℕ) (b : Bytes) (w : ℕ) → ((i : ℕ) → b node w i ≡ 0) → (n i : ℕ) → dropped node b n w i ≡ b n w i
dropped-idle node b w none n i = elim (same_or n node) [
  | inl e ↦ let t : (n == node) ≡ true = grind (arith, nat_tests) in rw t (sym (ap (λ (m : ℕ). b m w i) e ∙ none i))
  | inr k ↦ let t : (n == node) ≡ false = grind (arith, nat_tests) in rw t refl
]

-- zeros were set at a word
pub dropped-set : (node word : ℕ) (b now : Bytes) (zeros : List ℕ) → ((i : ℕ) → slice_index zeros i ≡ 0) → ((n i : ℕ) → now n word i ≡ b n word i) → (n i : ℕ) → with_row node word zeros now n word i ≡ dropped node b n word i
dropped-set node word b now zeros clear same n i = elim (same_or n node) [
  | inl e ↦ with-here node word zeros now n word i e (λ j. word) ∙ clear i ∙ (let t : (n == node) ≡ true = grind (arith, nat_tests) in rw t refl)
  | inr k ↦ with-elsewhere node word zeros now n word i k ∙ same n i ∙ (let t : (n == node) ≡ false = grind (arith, nat_tests) in rw t refl)
]
