-- What is found in rows after one was put or taken out, and which is the first from a key on.
use Rattle.std.proofs.Common.{◌≡◌, ℕ, ◌+◌, ◌<◌, ◌≤◌, ◌⊎◌, inl, inr, arith, refl, sym, ap, ◌∙◌, subst, Some, None, List, [], ◌∷◌, if◌then◌else◌, ◌==◌, true, false}
use Rattle.std.proofs.lemmas.Bool.Decides.{nat_tests}
use Rattle.btree_nodes.specs.Rows.{Row, IsWithin, lookup, first_from, put, without}
use Rattle.btree_nodes.proofs.Spans.{lookup-below}
use Rattle.btree_nodes.proofs.Puts.{put-before as put-less, put-here as put-same, put-behind as put-more, without-here as without-same, without-other}
use Rattle.btree_nodes.proofs.Firsts.{first_from-less as first-less, first_from-here as first-here}
use Rattle.btree_nodes.proofs.Finds.{lookup-here}
use Rattle.rtree_nodes.proofs.Amounts.{same_or}
use Rattle.rtree_nodes.proofs.Heights.{under_or}

lookup-other : (key : ℕ) (row : Row) (rows : List Row) → (row.0 ≡ key → ⊥) → lookup key (row ∷ rows) ≡ lookup key rows
lookup-other key row rows h = let t : (row.0 == key) ≡ false = grind (arith, nat_tests) in rw t refl

-- which of two is less
pub order : (a b : ℕ) → (a < b) ⊎ ((a ≡ b) ⊎ (b < a))
order a b = grind arith

-- a put row is found at its key
pub lookup-put : (key : ℕ) (value : List ℕ) (rows : List Row) → lookup key (put key value rows) ≡ Some value
lookup-put key value [] = lookup-here key (key, value) [] refl
lookup-put key value (row ∷ rows) = elim (order key row.0) [
  | inl l ↦ ap (lookup key) (put-less key value row rows l) ∙ lookup-here key (key, value) (row ∷ rows) refl
  | inr (inl e) ↦ ap (lookup key) (put-same key value row rows (sym e)) ∙ lookup-here key (key, value) rows refl
  | inr (inr m) ↦ ap (lookup key) (put-more key value row rows m) ∙ lookup-other key row (put key value rows) (λ e. omega arith) ∙ lookup-put key value rows
]

-- and the others stay
pub lookup-put_other : (key q : ℕ) (value : List ℕ) (rows : List Row) → (q ≡ key → ⊥) → lookup q (put key value rows) ≡ lookup q rows
lookup-put_other key q value [] h = lookup-other q (key, value) [] (λ e. h (sym e))
lookup-put_other key q value (row ∷ rows) h = elim (order key row.0) [
  | inl l ↦ ap (lookup q) (put-less key value row rows l) ∙ lookup-other q (key, value) (row ∷ rows) (λ e. h (sym e))
  | inr (inl e) ↦ ap (lookup q) (put-same key value row rows (sym e)) ∙ lookup-other q (key, value) rows (λ k. h (sym k)) ∙ sym (lookup-other q row rows (λ k. h (sym k ∙ sym e)))
  | inr (inr m) ↦ ap (lookup q) (put-more key value row rows m) ∙ elim (row.0 == q) as (λ b. (if b then Some row.1 else lookup q (put key value rows)) ≡ (if b then Some row.1 else lookup q rows)) [
    | true ↦ refl
    | false ↦ lookup-put_other key q value rows h
  ]
]

-- a row that was taken out isn't found
pub lookup-without : (low high key : ℕ) (rows : List Row) → IsWithin low high rows → lookup key (without key rows) ≡ None
lookup-without low high key [] h = refl
lookup-without low high key (row ∷ rows) h = elim (same_or row.0 key) [
  | inl e ↦ ap (lookup key) (without-same key row rows e) ∙ lookup-below (row.0 + 1) high key rows h.1 (omega arith)
  | inr n ↦ ap (lookup key) (without-other key row rows n) ∙ lookup-other key row (without key rows) n ∙ lookup-without (row.0 + 1) high key rows h.1
]

-- and the others stay
pub lookup-without_other : (key q : ℕ) (rows : List Row) → (q ≡ key → ⊥) → lookup q (without key rows) ≡ lookup q rows
lookup-without_other key q [] h = refl
lookup-without_other key q (row ∷ rows) h = elim (same_or row.0 key) [
  | inl e ↦ ap (lookup q) (without-same key row rows e) ∙ sym (lookup-other q row rows (λ k. h (sym k ∙ e)))
  | inr n ↦ ap (lookup q) (without-other key row rows n) ∙ elim (row.0 == q) as (λ b. (if b then Some row.1 else lookup q (without key rows)) ≡ (if b then Some row.1 else lookup q rows)) [
    | true ↦ refl
    | false ↦ lookup-without_other key q rows h
  ]
]

-- where no row is the first from a key, there is none from there on
pub first-none : (low high key q : ℕ) (rows : List Row) → IsWithin low high rows → first_from key rows ≡ None → key ≤ q → lookup q rows ≡ None
first-none low high key q [] h e l = refl
first-none low high key q (row ∷ rows) h e l = elim (under_or row.0 key) [
  | inl k ↦ lookup-other q row rows (λ s. omega arith) ∙ first-none (row.0 + 1) high key q rows h.1 (sym (first-less key row rows k) ∙ e) l
  | inr k ↦ let s : Some row ≡ None = sym (first-here key row rows k) ∙ e in cc
]

-- what is said of the first row from a key
pub record IsFirst (key : ℕ) (row : Row) (rows : List Row) : Type 0 where
  pub on : key ≤ row.0
  pub is : lookup row.0 rows ≡ Some row.1
  pub none : (q : ℕ) → key ≤ q → q < row.0 → lookup q rows ≡ None

-- the first row from a key on is so
pub first-some : (low high key : ℕ) (first : Row) (rows : List Row) → IsWithin low high rows → first_from key rows ≡ Some first → IsFirst key first rows
first-some low high key first [] h e = cc
first-some low high key first (row ∷ rows) h e = elim (under_or row.0 key) [
  | inl k ↦ let r = first-some (row.0 + 1) high key first rows h.1 (sym (first-less key row rows k) ∙ e) in
      let on = r.on in
      record {
        on = r.on;
        is = lookup-other first.0 row rows (λ s. omega arith) ∙ r.is;
        none = λ q a b. lookup-other q row rows (λ s. omega arith) ∙ r.none q a b;
      }
  | inr k ↦ let s : Some row ≡ Some first = sym (first-here key row rows k) ∙ e in
      let t : row ≡ first = cc in
      subst (λ (r : Row). IsFirst key r (row ∷ rows)) t (record {
        on = k;
        is = lookup-here row.0 row rows refl;
        none = λ q a b. lookup-other q row rows (λ s. omega arith) ∙ lookup-below (row.0 + 1) high q rows h.1 (omega arith);
      })
]
