-- Rows within bounds, taken apart and joined.
use Rattle.std.proofs.Common.{◌≡◌, ℕ, zero, suc, ◌+◌, ◌<◌, ◌≤◌, List, [], ◌∷◌, ◌++◌, length, get_or, take, drop, arith, refl, ap, Option, Some, None, Bool, true, false, ◌==◌, if◌then◌else◌}
use Rattle.std.proofs.lemmas.Bool.Decides.{nat_tests}
use Rattle.btree_nodes.specs.Rows.{Row, IsWithin, lookup}

-- a row in place of none
abbrev pub no_row : Row
no_row = (0, [])

-- the bounds of rows do not cross
pub within-le : (low high : ℕ) (rows : List Row) → IsWithin low high rows → low ≤ high
within-le low high [] h = h
within-le low high (row ∷ rows) h = let i = within-le (row.0 + 1) high rows h.1 in let g = h.0 in omega arith

-- rows between bounds leave room between them
pub within-lt : (low high : ℕ) (rows : List Row) → 0 < length rows → IsWithin low high rows → low < high
within-lt low high [] k h = absurd (omega arith)
within-lt low high (row ∷ rows) k h = let m = within-le (row.0 + 1) high rows h.1 in let g = h.0 in omega arith

-- rows that come apart at a row's key
pub within-split : (low high : ℕ) (xs : List Row) (y : Row) (ys : List Row) → IsWithin low high (xs ++ (y ∷ ys)) → IsWithin low y.0 xs × IsWithin y.0 high (y ∷ ys)
within-split low high [] y ys h = (h.0, (omega arith, h.1))
within-split low high (x ∷ xs) y ys h = let r = within-split (x.0 + 1) high xs y ys h.1 in ((h.0, r.0), r.1)

pub within-wider : (low lower high : ℕ) (rows : List Row) → lower ≤ low → IsWithin low high rows → IsWithin lower high rows
within-wider low lower high [] l h = omega arith
within-wider low lower high (row ∷ rows) l h = let g = h.0 in (omega arith, h.1)

pub within-append : (low middle high : ℕ) (xs ys : List Row) → IsWithin low middle xs → IsWithin middle high ys → IsWithin low high (xs ++ ys)
within-append low middle high [] ys h k = within-wider middle low high ys h k
within-append low middle high (x ∷ xs) ys h k = (h.0, within-append (x.0 + 1) middle high xs ys h.1 k)

-- no row at a key outside
pub lookup-above : (low high key : ℕ) (rows : List Row) → IsWithin low high rows → high ≤ key → lookup key rows ≡ None
lookup-above low high key [] h l = refl
lookup-above low high key (row ∷ rows) h l =
    let i = lookup-above (row.0 + 1) high key rows h.1 l in
    let m = within-le (row.0 + 1) high rows h.1 in
    grind (arith, nat_tests, i, m)

pub lookup-below : (low high key : ℕ) (rows : List Row) → IsWithin low high rows → key < low → lookup key rows ≡ None
lookup-below low high key [] h l = refl
lookup-below low high key (row ∷ rows) h l =
    let g = h.0 in
    let i = lookup-below (row.0 + 1) high key rows h.1 (omega arith) in
    grind (arith, nat_tests, i, g)

none-split : (b : Bool) (v : List ℕ) (r : Option (List ℕ)) → (if b then Some v else r) ≡ None → (b ≡ false) × (r ≡ None)
none-split true v r h = cc
none-split false v r h = (refl, h)

pub lookup-append_left : (key : ℕ) (xs ys : List Row) → lookup key ys ≡ None → lookup key (xs ++ ys) ≡ lookup key xs
lookup-append_left key [] ys h = h
lookup-append_left key (x ∷ xs) ys h = ap (λ r. if x.0 == key then Some x.1 else r) (lookup-append_left key xs ys h)

pub lookup-append_right : (key : ℕ) (xs ys : List Row) → lookup key xs ≡ None → lookup key (xs ++ ys) ≡ lookup key ys
lookup-append_right key [] ys h = refl
lookup-append_right key (x ∷ xs) ys h =
    let n = none-split (x.0 == key) x.1 (lookup key xs) h in
    rw n.0 (lookup-append_right key xs ys n.1)

-- the keys of a row and of those before it
pub within-row : (low high : ℕ) (rows : List Row) (i : ℕ) → IsWithin low high rows → i < length rows → low ≤ (get_or rows i no_row).0
within-row low high [] i h l = absurd (omega arith)
within-row low high (row ∷ rows) zero h l = h.0
within-row low high (row ∷ rows) (suc i) h l = let g = h.0 in let k = within-row (row.0 + 1) high rows i h.1 (omega arith) in omega arith

-- the rows before a place whose keys are all below, and those from it on
pub within-take : (low high key : ℕ) (rows : List Row) (at : ℕ) → IsWithin low high rows → at ≤ length rows → low ≤ key
    → ((i : ℕ) → suc i ≡ at → (get_or rows i no_row).0 < key) → IsWithin low key (take at rows)
within-take low high key rows zero h l b before = b
within-take low high key [] (suc at) h l b before = absurd (omega arith)
within-take low high key (row ∷ rows) (suc zero) h l b before = let k = before 0 refl in (h.0, omega arith)
within-take low high key (row ∷ rows) (suc (suc at)) h l b before =
    let k : (get_or rows at no_row).0 < key = before (suc at) refl in
    let m = within-row (row.0 + 1) high rows at h.1 (omega arith) in
    (h.0, within-take (row.0 + 1) high key rows (suc at) h.1 (omega arith) (omega arith) (λ i e. let same : i ≡ at = omega arith in rw same k))

pub within-drop : (low high key : ℕ) (rows : List Row) (at : ℕ) → IsWithin low high rows → at ≤ length rows → key ≤ high
    → (at < length rows → key ≤ (get_or rows at no_row).0) → IsWithin key high (drop at rows)
within-drop low high key [] zero h l b after = b
within-drop low high key (row ∷ rows) zero h l b after = (after (omega arith), h.1)
within-drop low high key [] (suc at) h l b after = absurd (omega arith)
within-drop low high key (row ∷ rows) (suc at) h l b after = within-drop (row.0 + 1) high key rows at h.1 (omega arith) b (λ m. after (omega arith))
