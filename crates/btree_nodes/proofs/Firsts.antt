-- The first row whose key isn't less.
use Rattle.std.proofs.Common.{◌≡◌, ℕ, zero, suc, ◌+◌, ◌<◌, ◌≤◌, List, [], ◌∷◌, ◌++◌, length, get_or, arith, refl, ◌∙◌, Some, None, Bool, true, false, nat_lt, if◌then◌else◌}
use Rattle.std.proofs.lemmas.Bool.Decides.{nat_tests}
use Rattle.btree_nodes.specs.Rows.{Row, IsWithin, first_from}
use Rattle.btree_nodes.proofs.Spans.{no_row, within-le, within-row}

pub first_from-less : (key : ℕ) (row : Row) (rows : List Row) → row.0 < key → first_from key (row ∷ rows) ≡ first_from key rows
first_from-less key row rows h = let t : nat_lt row.0 key ≡ true = grind (arith, nat_tests) in rw t refl

pub first_from-here : (key : ℕ) (row : Row) (rows : List Row) → key ≤ row.0 → first_from key (row ∷ rows) ≡ Some row
first_from-here key row rows h = let t : nat_lt row.0 key ≡ false = grind (arith, nat_tests) in rw t refl

-- all rows are below the key
pub first_from-below : (low high key : ℕ) (rows : List Row) → IsWithin low high rows → high ≤ key → first_from key rows ≡ None
first_from-below low high key [] h l = refl
first_from-below low high key (row ∷ rows) h l =
    let m = within-le (row.0 + 1) high rows h.1 in
    first_from-less key row rows (omega arith) ∙ first_from-below (row.0 + 1) high key rows h.1 l

-- those before a place are below the key
pub first_from-last : (low high key : ℕ) (rows : List Row) → IsWithin low high rows → ((i : ℕ) → suc i ≡ length rows → (get_or rows i no_row).0 < key) → first_from key rows ≡ None
first_from-last low high key [] h last = refl
first_from-last low high key (row ∷ []) h last = first_from-less key row [] (last 0 refl)
first_from-last low high key (row ∷ (next ∷ rows)) h last =
    let l = last (suc (length rows)) refl in
    let w = within-row (row.0 + 1) high (next ∷ rows) (length rows) h.1 (omega arith) in
    first_from-less key row (next ∷ rows) (omega arith) ∙ first_from-last (row.0 + 1) high key (next ∷ rows) h.1 (λ i e. last (suc i) (omega arith))

-- the row at a place is the first that isn't below the key
pub first_from-at : (low high key : ℕ) (rows : List Row) (at : ℕ) → IsWithin low high rows → at < length rows → ((i : ℕ) → suc i ≡ at → (get_or rows i no_row).0 < key) → key ≤ (get_or rows at no_row).0
    → first_from key rows ≡ Some (get_or rows at no_row)
first_from-at low high key [] at h l before after = absurd (omega arith)
first_from-at low high key (row ∷ rows) zero h l before after = first_from-here key row rows after
first_from-at low high key (row ∷ rows) (suc zero) h l before after = first_from-less key row rows (before 0 refl) ∙ first_from-at (row.0 + 1) high key rows 0 h.1 (omega arith) (λ i e. absurd (omega arith)) after
first_from-at low high key (row ∷ rows) (suc (suc at)) h l before after =
    let b = before (suc at) refl in
    let w = within-row (row.0 + 1) high rows at h.1 (omega arith) in
    first_from-less key row rows (omega arith) ∙ first_from-at (row.0 + 1) high key rows (suc at) h.1 (omega arith) (λ i e. let same : i ≡ at = omega arith in rw same b) after

-- the first of two lists has one
pub first_from-left : (key : ℕ) (row : Row) (xs ys : List Row) → first_from key xs ≡ Some row → first_from key (xs ++ ys) ≡ Some row
first_from-left key row [] ys h = cc
first_from-left key row (x ∷ xs) ys h = left-case (nat_lt x.0 key) key row x xs ys h (first_from-left key row xs ys)
  where
    left-case : (b : Bool) (key : ℕ) (row x : Row) (xs ys : List Row) → (if b then first_from key xs else Some x) ≡ Some row → (first_from key xs ≡ Some row → first_from key (xs ++ ys) ≡ Some row)
        → (if b then first_from key (xs ++ ys) else Some x) ≡ Some row
    left-case true key row x xs ys h k = k h
    left-case false key row x xs ys h k = h

-- the first of two lists has none
pub first_from-right : (key : ℕ) (xs ys : List Row) → first_from key xs ≡ None → first_from key (xs ++ ys) ≡ first_from key ys
first_from-right key [] ys h = refl
first_from-right key (x ∷ xs) ys h = right-case (nat_lt x.0 key) key x xs ys h (first_from-right key xs ys)
  where
    right-case : (b : Bool) (key : ℕ) (x : Row) (xs ys : List Row) → (if b then first_from key xs else Some x) ≡ None → (first_from key xs ≡ None → first_from key (xs ++ ys) ≡ first_from key ys)
        → (if b then first_from key (xs ++ ys) else Some x) ≡ first_from key ys
    right-case true key x xs ys h k = k h
    right-case false key x xs ys h k = cc
