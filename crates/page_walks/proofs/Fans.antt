-- The entries of an inner page by their places.
use Rattle.std.proofs.Common.{◌≡◌, ℕ, zero, suc, ◌+◌, ◌<◌, ◌≤◌, List, [], ◌∷◌, ◌++◌, length, get_or, drop, take, arith, sym, ap, ◌∙◌, subst, inl, inr, ⊎_elim, append_assoc}
use Rattle.std.proofs.lemmas.List.{append-nil}
use Rattle.std.specs.List.{flat_map}
use Rattle.btree_nodes.specs.declared.form.Form.{Form}
use Rattle.btree_nodes.specs.Rows.{Row}
use Rattle.btree_nodes.specs.Nodes.{Entry, entries_in}
use Rattle.btree_nodes.specs.Tree.{total, next_key, with_low, IsFan}
use Rattle.btree_nodes.specs.Bounds.{child_of, low_at, high_at}
use Rattle.btree_nodes.specs.Damages.{AnyChild, SomeChild}
use Rattle.btree_nodes.proofs.Fans.{no_entry, with_low-child, drop-with_low, length-with_low}
use Rattle.page_walks.specs.Leaves.{EachChild, AnyChildIs}

-- a fan of children, each of which is so
fan-of : (P : ℕ → ℕ → ℕ → Type 0) (low high : ℕ) (es : List Entry) → IsFan AnyChild low high es
    → ((i : ℕ) → i < length es → P (get_or es i no_entry).1 (get_or es i no_entry).0 (next_key high (drop (suc i) es))) → IsFan P low high es
fan-of P low high [] f each = f
fan-of P low high (e ∷ es) f each =
    (f.0, f.1, subst (λ (x : ℕ). P e.1 x (next_key high es)) f.0 (each 0 (omega arith)), fan-of P (next_key high es) high es f.3 (λ i h. each (suc i) (omega arith)))

some-child : (P : ℕ → ℕ → ℕ → Type 0) (high : ℕ) (es : List Entry) (i : ℕ) → i < length es → P (get_or es i no_entry).1 (get_or es i no_entry).0 (next_key high (drop (suc i) es)) → SomeChild P high es
some-child P high [] i h p = absurd (omega arith)
some-child P high (e ∷ es) zero h p = inl p
some-child P high (e ∷ es) (suc i) h p = inr (some-child P high es i (omega arith) p)

module _ (P : ℕ → ℕ → ℕ → Type 0) (form : Form) (low high : ℕ) (node : List ℕ) where
  es : List Entry
  es = entries_in form node

  -- the children of a page in order, each between its bounds
  pub children-fan : IsFan AnyChild low high (with_low low (entries_in form node))
      → ((i : ℕ) → i < length (entries_in form node) → P (child_of form node i) (low_at form node low i) (high_at form node high i)) → IsFan P low high (with_low low (entries_in form node))
  children-fan order each =
      fan-of P low high (with_low low (entries_in form node)) order (λ i h.
      let n = length-with_low low (entries_in form node) in
      subst (λ (c : ℕ). P c (low_at form node low i) (next_key high (drop (suc i) (with_low low (entries_in form node))))) (sym (with_low-child low (entries_in form node) i))
      (subst (λ (x : List Entry). P (child_of form node i) (low_at form node low i) (next_key high x)) (sym (drop-with_low low (entries_in form node) i)) (each i (omega arith))))

  -- one of them is so
  pub child-some : (i : ℕ) → i < length (entries_in form node) → P (child_of form node i) (low_at form node low i) (high_at form node high i) → SomeChild P high (with_low low (entries_in form node))
  child-some i h p =
      let n = length-with_low low (entries_in form node) in
      some-child P high (with_low low (entries_in form node)) i (omega arith)
      (subst (λ (c : ℕ). P c (low_at form node low i) (next_key high (drop (suc i) (with_low low (entries_in form node))))) (sym (with_low-child low (entries_in form node) i))
      (subst (λ (x : List Entry). P (child_of form node i) (low_at form node low i) (next_key high x)) (sym (drop-with_low low (entries_in form node) i)) p))

pub each-child : (P : ℕ → Type 0) (es : List Entry) → ((k : ℕ) → k < length es → P (get_or es k no_entry).1) → EachChild P es
each-child P [] all = tt
each-child P (e ∷ es) all = (all 0 (omega arith), each-child P es (λ k h. all (suc k) (omega arith)))

pub any-child : (P : ℕ → Type 0) (es : List Entry) (i : ℕ) → i < length es → P (get_or es i no_entry).1 → AnyChildIs P es
any-child P [] i h p = absurd (omega arith)
any-child P (e ∷ es) zero h p = inl p
any-child P (e ∷ es) (suc i) h p = inr (any-child P es i (omega arith) p)

-- a child that is so keeps all from being what isn't so
pub children-apart : (P Q : ℕ → Type 0) → ((c : ℕ) → P c → Q c → ⊥) → (es : List Entry) → AnyChildIs P es → EachChild Q es → ⊥
children-apart P Q never [] a q = a
children-apart P Q never (e ∷ es) a q = ⊎_elim (λ p. never e.1 p q.0) (λ r. children-apart P Q never es r q.1) a

-- no child is what nothing is
pub children-none : (P : ℕ → Type 0) → ((c : ℕ) → P c → ⊥) → (es : List Entry) → AnyChildIs P es → ⊥
children-none P never [] a = a
children-none P never (e ∷ es) a = ⊎_elim (λ p. never e.1 p) (λ r. children-none P never es r) a

pub total-take : (f : ℕ → ℕ) (es : List Entry) (i : ℕ) → i < length es → total f (take (suc i) es) ≡ total f (take i es) + f (get_or es i no_entry).1
total-take f [] i h = absurd (omega arith)
total-take f (e ∷ es) zero h = omega arith
total-take f (e ∷ es) (suc i) h = let r = total-take f es i (omega arith) in omega arith

pub total-part : (f : ℕ → ℕ) (es : List Entry) (i : ℕ) → i < length es → total f (take i es) + f (get_or es i no_entry).1 ≤ total f es
total-part f [] i h = absurd (omega arith)
total-part f (e ∷ es) zero h = omega arith
total-part f (e ∷ es) (suc i) h = let r = total-part f es i (omega arith) in omega arith

pub total-front : (f : ℕ → ℕ) (es : List Entry) (i : ℕ) → total f (take i es) ≤ total f es
total-front f [] zero = omega arith
total-front f [] (suc i) = omega arith
total-front f (e ∷ es) zero = omega arith
total-front f (e ∷ es) (suc i) = let r = total-front f es i in omega arith

pub rows-take : (f : ℕ → List Row) (es : List Entry) (i : ℕ) → i < length es
    → flat_map (λ (e : Entry). f e.1) (take (suc i) es) ≡ flat_map (λ (e : Entry). f e.1) (take i es) ++ f (get_or es i no_entry).1
rows-take f [] i h = absurd (omega arith)
rows-take f (e ∷ es) zero h = append-nil (f e.1)
rows-take f (e ∷ es) (suc i) h =
    ap (λ (x : List Row). f e.1 ++ x) (rows-take f es i (omega arith)) ∙ sym (append_assoc (f e.1) (flat_map (λ (e : Entry). f e.1) (take i es)) (f (get_or es i no_entry).1))
