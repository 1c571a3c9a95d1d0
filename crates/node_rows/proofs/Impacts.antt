-- Greatest bytes, single bytes that change, and slots that are raised.
use Rattle.std.proofs.Common.{◌≡◌, ℕ, suc, ◌+◌, inl, inr, max, arith, refl, sym, ap, ◌∙◌, List, [], ◌∷◌, ◌++◌, if◌then◌else◌, ◌==◌, true, false, Bool, slice_index}
use Rattle.std.proofs.lemmas.Bool.Decides.{nat_tests}
use Rattle.rtree_nodes.specs.Slots.{top_to}
use Rattle.rtree_nodes.proofs.Amounts.{same_or}
use Rattle.rtree_nodes.proofs.Sums.{top-same, top-zero}
use Rattle.node_rows.specs.Rows.{Bytes}
use Rattle.node_rows.specs.Turns.{with_row}
use Rattle.node_rows.specs.Impacts.{impact_at, impact_in, raised, top_at, with_byte}
use Rattle.node_rows.proofs.Bytes.{and_false, with-here, with-elsewhere, with-another}

-- the greatest of one more
pub top-next : (n : ℕ) (f : ℕ → ℕ) → top_to (n + 1) f ≡ max (f n) (top_to n f)
unfolding top_to
top-next n f = let e : n + 1 ≡ suc n = omega arith in rw e refl

-- the greatest of none
pub top-none : (f : ℕ → ℕ) → top_to 0 f ≡ 0
unfolding top_to
top-none f = refl

-- a word without bytes has 0 as its greatest
pub top-clear : (b : Bytes) (n w : ℕ) → ((i : ℕ) → b n w i ≡ 0) → top_at b n w ≡ 0
unfolding top_at
top-clear b n w h = top-same 32 (λ i. b n w i) (λ i. 0) (λ i l. h i) ∙ top-zero 32

-- the greatest byte of a row is that of its word
pub top-row : (b : Bytes) (n w : ℕ) (row : List ℕ) → ((i : ℕ) → slice_index row i ≡ b n w i) → top_to 32 (λ i. slice_index row i) ≡ top_at b n w
unfolding top_at
top-row b n w row h = top-same 32 (λ i. slice_index row i) (λ i. b n w i) (λ i l. h i)

-- the greatest of the same bytes
pub top-at-same : (b c : Bytes) (n w : ℕ) → ((i : ℕ) → b n w i ≡ c n w i) → top_at b n w ≡ top_at c n w
unfolding top_at
top-at-same b c n w h = top-same 32 (λ i. b n w i) (λ i. c n w i) (λ i l. h i)

module _ (node word slot byte : ℕ) (b : Bytes) (n w i : ℕ) where
  -- the byte that is set
  pub byte-here : n ≡ node → w ≡ word → i ≡ slot → with_byte node word slot byte b n w i ≡ byte
  byte-here e f h = let t : (n == node) ≡ true = grind (arith, nat_tests) in let u : (w == word) ≡ true = grind (arith, nat_tests) in let v : (i == slot) ≡ true = grind (arith, nat_tests) in rw (t, u, v) refl

  -- another node's
  pub byte-elsewhere : (n ≡ node → ⊥) → with_byte node word slot byte b n w i ≡ b n w i
  byte-elsewhere k = let t : (n == node) ≡ false = grind (arith, nat_tests) in rw t refl

  -- another word's
  pub byte-another : (w ≡ word → ⊥) → with_byte node word slot byte b n w i ≡ b n w i
  byte-another k = let t : (w == word) ≡ false = grind (arith, nat_tests) in rw (t, and_false (n == node)) refl

  -- another slot's
  pub byte-beside : (i ≡ slot → ⊥) → with_byte node word slot byte b n w i ≡ b n w i
  byte-beside k = let t : (i == slot) ≡ false = grind (arith, nat_tests) in rw (t, and_false (w == word), and_false (n == node)) refl

module _ (node word slot byte : ℕ) (b : Bytes) where
  -- it is so already
  pub byte-same : b node word slot ≡ byte → (n w i : ℕ) → b n w i ≡ with_byte node word slot byte b n w i
  byte-same is n w i = elim (same_or n node) [
    | inr k ↦ sym (byte-elsewhere node word slot byte b n w i k)
    | inl e ↦ elim (same_or w word) [
      | inr k ↦ sym (byte-another node word slot byte b n w i k)
      | inl f ↦ elim (same_or i slot) [
        | inr k ↦ sym (byte-beside node word slot byte b n w i k)
        | inl h ↦ let a : b n w i ≡ b node word slot = rw (e, f, h) refl in a ∙ is ∙ sym (byte-here node word slot byte b n w i e f h)
      ]
    ]
  ]

  -- a row was set that differs in this byte
  pub byte-set : (row changed : List ℕ) → ((i : ℕ) → slice_index row i ≡ b node word i) → ((i : ℕ) → slice_index changed i ≡ (if i == slot then byte else slice_index row i))
      → (n w i : ℕ) → with_row node word changed b n w i ≡ with_byte node word slot byte b n w i
  byte-set row changed is has n w i = elim (same_or n node) [
    | inr k ↦ with-elsewhere node word changed b n w i k ∙ sym (byte-elsewhere node word slot byte b n w i k)
    | inl e ↦ elim (same_or w word) [
      | inr k ↦ with-another node word changed b n w i k ∙ sym (byte-another node word slot byte b n w i k)
      | inl f ↦ with-here node word changed b n w i e f ∙ has i ∙ elim (same_or i slot) [
        | inr k ↦ let t : (i == slot) ≡ false = grind (arith, nat_tests) in ap (λ (x : Bool). if x then byte else slice_index row i) t ∙ is i ∙ (let a : b node word i ≡ b n w i = rw (e, f) refl in a) ∙ sym (byte-beside node word slot byte b n w i k)
        | inl h ↦ let t : (i == slot) ≡ true = grind (arith, nat_tests) in ap (λ (x : Bool). if x then byte else slice_index row i) t ∙ sym (byte-here node word slot byte b n w i e f h)
      ]
    ]
  ]

  -- a byte that is raised
  pub byte-raised : (impact : ℕ) → byte ≡ max impact (b node word slot) → (n w i : ℕ) → with_byte node word slot byte b n w i ≡ raised node slot (impact_at (word, impact)) b n w i
  byte-raised impact is n w i = elim (same_or n node) [
    | inr k ↦ byte-elsewhere node word slot byte b n w i k ∙ (let t : (n == node) ≡ false = grind (arith, nat_tests) in rw t (omega arith))
    | inl e ↦ elim (same_or i slot) [
      | inr k ↦ byte-beside node word slot byte b n w i k ∙ (let t : (i == slot) ≡ false = grind (arith, nat_tests) in rw (t, and_false (n == node)) (omega arith))
      | inl h ↦ elim (same_or w word) [
        | inr k ↦ byte-another node word slot byte b n w i k ∙ (let t : (word == w) ≡ false = grind (arith, nat_tests) in let u : (n == node) ≡ true = grind (arith, nat_tests) in let v : (i == slot) ≡ true = grind (arith, nat_tests) in rw (u, v, t) (omega arith))
        | inl f ↦ byte-here node word slot byte b n w i e f h ∙ is
            ∙ (let t : (word == w) ≡ true = grind (arith, nat_tests) in let u : (n == node) ≡ true = grind (arith, nat_tests) in let v : (i == slot) ≡ true = grind (arith, nat_tests) in
            let a : b n w i ≡ b node word slot = rw (e, f, h) refl in rw (u, v, t) (omega arith))
      ]
    ]
  ]

pub swap : (a b c : ℕ) → max (max a b) c ≡ max (max a c) b
swap a b c = omega arith

-- the impact of a word among one more pair
pub impact-one : (ps : List (ℕ × ℕ)) (p : ℕ × ℕ) (w : ℕ) → impact_in (ps ++ p ∷ []) w ≡ max (impact_in ps w) (impact_at p w)
impact-one [] p w = refl
impact-one (q ∷ ps) p w = let h = impact-one ps p w in let a : max (max (impact_in ps w) (impact_at p w)) (impact_at q w) ≡ max (max (impact_in ps w) (impact_at q w)) (impact_at p w) = swap (impact_in ps w) (impact_at p w) (impact_at q w) in
    ap (λ (k : ℕ). max k (impact_at q w)) h ∙ a
