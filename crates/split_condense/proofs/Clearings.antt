-- Slots of which some words were cleared.
use Rattle.std.proofs.Common.{◌≡◌, ℕ, inl, inr, refl, sym, ap, ◌∙◌, List, ◌∷◌, [], ◌++◌, if◌then◌else◌, ◌==◌, true, false, Bool, arith}
use Rattle.std.proofs.lemmas.Bool.Decides.{nat_tests}
use Rattle.rtree_nodes.proofs.Amounts.{same_or}
use Rattle.node_rows.specs.Rows.{Bytes}
use Rattle.node_rows.specs.Impacts.{with_byte}
use Rattle.node_rows.specs.Refreshing.{is_named, on_words}
use Rattle.node_rows.proofs.Bytes.{and_false}
use Rattle.node_rows.proofs.Impacts.{byte-here, byte-elsewhere, byte-another, byte-beside}
use Rattle.node_rows.proofs.Refreshes.{named-push, named-same}
use Rattle.split_condense.specs.Clears.{cleared}

module _ (node slot : ℕ) (b : Bytes) (n w i : ℕ) where
  -- the slot that is cleared
  pub cleared-here : n ≡ node → i ≡ slot → cleared node slot b n w i ≡ 0
  cleared-here e f = let t : (n == node) ≡ true = grind (arith, nat_tests) in let u : (i == slot) ≡ true = grind (arith, nat_tests) in rw (t, u) refl

  -- another node
  pub cleared-elsewhere : (n ≡ node → ⊥) → cleared node slot b n w i ≡ b n w i
  cleared-elsewhere k = let t : (n == node) ≡ false = grind (arith, nat_tests) in rw t refl

  -- another slot
  pub cleared-beside : (i ≡ slot → ⊥) → cleared node slot b n w i ≡ b n w i
  cleared-beside k = let t : (i == slot) ≡ false = grind (arith, nat_tests) in rw (t, and_false (n == node)) refl

-- where the bytes are the same, the words don't matter
pub words-same : (ps : List (ℕ × ℕ)) (new old : Bytes) (n w i : ℕ) → new n w i ≡ old n w i → on_words ps new old n w i ≡ old n w i
words-same ps new old n w i e = elim (is_named ps w) as (λ x. (if x then new n w i else old n w i) ≡ old n w i) [ true ↦ e | false ↦ refl ]

-- one word more is cleared
pub cleared-next : (node slot : ℕ) (b now : Bytes) (ps : List (ℕ × ℕ)) → ((n w i : ℕ) → now n w i ≡ on_words ps (cleared node slot b) b n w i) → (p : ℕ × ℕ)
    → (n w i : ℕ) → with_byte node p.0 slot 0 now n w i ≡ on_words (ps ++ p ∷ []) (cleared node slot b) b n w i
cleared-next node slot b now ps is p n w i = elim (same_or w p.0) [
  | inr d ↦ byte-another node p.0 slot 0 now n w i d ∙ is n w i ∙ ap (λ (x : Bool). if x then cleared node slot b n w i else b n w i) (sym (named-push ps p w (λ e. d (sym e))))
  | inl e ↦ elim (same_or n node) [
    | inr d ↦ byte-elsewhere node p.0 slot 0 now n w i d ∙ is n w i ∙ words-same ps (cleared node slot b) b n w i (cleared-elsewhere node slot b n w i d) ∙ sym (cleared-elsewhere node slot b n w i d)
    | inl f ↦ elim (same_or i slot) [
      | inr d ↦ byte-beside node p.0 slot 0 now n w i d ∙ is n w i ∙ words-same ps (cleared node slot b) b n w i (cleared-beside node slot b n w i d) ∙ sym (cleared-beside node slot b n w i d)
      | inl h ↦ byte-here node p.0 slot 0 now n w i f e h ∙ sym (cleared-here node slot b n w i f h)
    ]
  ] ∙ ap (λ (x : Bool). if x then cleared node slot b n w i else b n w i) (sym (named-same ps p w (sym e)))
]

module _ (node slot : ℕ) (b : Bytes) (ps : List (ℕ × ℕ)) (w : ℕ) where
  -- the bytes of words that are named are gone
  pub cleared-named : is_named ps w ≡ true → on_words ps (cleared node slot b) b node w slot ≡ 0
  cleared-named e = ap (λ (x : Bool). if x then cleared node slot b node w slot else b node w slot) e ∙ cleared-here node slot b node w slot refl refl

  -- those of other words stay
  pub cleared-unnamed : is_named ps w ≡ false → on_words ps (cleared node slot b) b node w slot ≡ b node w slot
  cleared-unnamed e = ap (λ (x : Bool). if x then cleared node slot b node w slot else b node w slot) e
