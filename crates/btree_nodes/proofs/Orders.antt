-- The order of keys, place by place.
use Rattle.std.proofs.Common.{◌≡◌, ℕ, zero, suc, ◌+◌, ◌<◌, ◌≤◌, List, [], ◌∷◌, length, get_or, arith, refl}
use Rattle.btree_nodes.specs.Rows.{Row, IsWithin}
use Rattle.btree_nodes.specs.Nodes.{Entry}
use Rattle.btree_nodes.specs.Tree.{IsFan, next_key}
use Rattle.btree_nodes.specs.Damages.{AnyChild}
use Rattle.btree_nodes.proofs.Spans.{no_row, within-le, within-row}
use Rattle.btree_nodes.proofs.Fans.{no_entry}

-- rows that ascend strictly between the bounds
pub within-of : (low high : ℕ) (rows : List Row) → 0 < length rows → low ≤ (get_or rows 0 no_row).0
    → ((i : ℕ) → suc i < length rows → (get_or rows i no_row).0 < (get_or rows (suc i) no_row).0)
    → ((i : ℕ) → suc i ≡ length rows → (get_or rows i no_row).0 < high) → IsWithin low high rows
within-of low high [] some first step last = absurd (omega arith)
within-of low high (row ∷ []) some first step last = let l = last 0 refl in (first, omega arith)
within-of low high (row ∷ (next ∷ rows)) some first step last =
    let s = step 0 (omega arith) in
    (first, within-of (row.0 + 1) high (next ∷ rows) (omega arith) (omega arith) (λ i h. step (suc i) (omega arith)) (λ i h. last (suc i) (omega arith)))

pub within-step : (low high : ℕ) (rows : List Row) (i : ℕ) → IsWithin low high rows → suc i < length rows → (get_or rows i no_row).0 < (get_or rows (suc i) no_row).0
within-step low high [] i h l = absurd (omega arith)
within-step low high (row ∷ rows) zero h l = let r = within-row (row.0 + 1) high rows 0 h.1 (omega arith) in omega arith
within-step low high (row ∷ rows) (suc i) h l = within-step (row.0 + 1) high rows i h.1 (omega arith)

pub within-last : (low high : ℕ) (rows : List Row) (i : ℕ) → IsWithin low high rows → i < length rows → (get_or rows i no_row).0 < high
within-last low high [] i h l = absurd (omega arith)
within-last low high (row ∷ rows) zero h l = let m = within-le (row.0 + 1) high rows h.1 in omega arith
within-last low high (row ∷ rows) (suc i) h l = within-last (row.0 + 1) high rows i h.1 (omega arith)

-- entries that ascend strictly up to the bound
pub fan-of : (high : ℕ) (es : List Entry) → 0 < length es
    → ((i : ℕ) → suc i < length es → (get_or es i no_entry).0 < (get_or es (suc i) no_entry).0)
    → ((i : ℕ) → suc i ≡ length es → (get_or es i no_entry).0 < high) → IsFan AnyChild (next_key high es) high es
fan-of high [] some step last = absurd (omega arith)
fan-of high (e ∷ []) some step last = (refl, last 0 refl, tt, refl)
fan-of high (e ∷ (f ∷ es)) some step last =
    (refl, step 0 (omega arith), tt, fan-of high (f ∷ es) (omega arith) (λ i h. step (suc i) (omega arith)) (λ i h. last (suc i) (omega arith)))

pub fan-step : (P : ℕ → ℕ → ℕ → Type 0) (low high : ℕ) (es : List Entry) (i : ℕ) → IsFan P low high es → suc i < length es → (get_or es i no_entry).0 < (get_or es (suc i) no_entry).0
fan-step P low high [] i h l = absurd (omega arith)
fan-step P low high (e ∷ []) i h l = absurd (omega arith)
fan-step P low high (e ∷ (f ∷ es)) zero h l = let a = h.0 in let b = h.1 in omega arith
fan-step P low high (e ∷ (f ∷ es)) (suc i) h l = fan-step P f.0 high (f ∷ es) i h.3 (omega arith)

pub fan-last : (P : ℕ → ℕ → ℕ → Type 0) (low high : ℕ) (es : List Entry) (i : ℕ) → IsFan P low high es → suc i ≡ length es → (get_or es i no_entry).0 < high
fan-last P low high [] i h l = absurd (omega arith)
fan-last P low high (e ∷ []) zero h l = let a = h.0 in let b = h.1 in omega arith
fan-last P low high (e ∷ []) (suc i) h l = absurd (omega arith)
fan-last P low high (e ∷ (f ∷ es)) zero h l = absurd (omega arith)
fan-last P low high (e ∷ (f ∷ es)) (suc i) h l = fan-last P f.0 high (f ∷ es) i h.3 (omega arith)

-- a fan without what is asked of the children
pub fan-any : (P : ℕ → ℕ → ℕ → Type 0) (low high : ℕ) (es : List Entry) → IsFan P low high es → IsFan AnyChild low high es
fan-any P low high [] h = h
fan-any P low high (e ∷ es) h = (h.0, h.1, tt, fan-any P (next_key high es) high es h.3)
