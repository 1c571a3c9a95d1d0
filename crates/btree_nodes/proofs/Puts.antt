-- A row that is put among others.
use Rattle.std.proofs.Common.{◌≡◌, ℕ, ◌+◌, ◌<◌, ◌≤◌, List, [], ◌∷◌, ◌++◌, arith, refl, ap, ◌∙◌, nat_lt, ◌==◌, if◌then◌else◌, Bool, true, false}
use Rattle.std.proofs.lemmas.Bool.Decides.{nat_tests}
use Rattle.btree_nodes.specs.Rows.{Row, IsWithin, put, without, IsEdit}
use Rattle.btree_nodes.proofs.Spans.{within-le}

-- the key is before a row, its own, or behind it
pub put-before : (key : ℕ) (value : List ℕ) (row : Row) (rows : List Row) → key < row.0 → put key value (row ∷ rows) ≡ (key, value) ∷ (row ∷ rows)
put-before key value row rows h = let t : nat_lt key row.0 ≡ true = grind (arith, nat_tests) in rw t refl

pub put-here : (key : ℕ) (value : List ℕ) (row : Row) (rows : List Row) → row.0 ≡ key → put key value (row ∷ rows) ≡ (key, value) ∷ rows
put-here key value row rows h =
    let t : nat_lt key row.0 ≡ false = grind (arith, nat_tests) in
    let u : (row.0 == key) ≡ true = grind (arith, nat_tests) in rw (t, u) refl

pub put-behind : (key : ℕ) (value : List ℕ) (row : Row) (rows : List Row) → row.0 < key → put key value (row ∷ rows) ≡ row ∷ put key value rows
put-behind key value row rows h =
    let t : nat_lt key row.0 ≡ false = grind (arith, nat_tests) in
    let u : (row.0 == key) ≡ false = grind (arith, nat_tests) in rw (t, u) refl

-- the key is before all rows
pub put-first : (low high key : ℕ) (value : List ℕ) (rows : List Row) → IsWithin low high rows → key < low → put key value rows ≡ (key, value) ∷ rows
put-first low high key value [] h l = refl
put-first low high key value (row ∷ rows) h l = let g = h.0 in put-before key value row rows (omega arith)

-- the key is behind the front
pub put-append_right : (low high key : ℕ) (value : List ℕ) (xs ys : List Row) → IsWithin low high xs → high ≤ key → put key value (xs ++ ys) ≡ xs ++ put key value ys
put-append_right low high key value [] ys h l = refl
put-append_right low high key value (x ∷ xs) ys h l =
    let m = within-le (x.0 + 1) high xs h.1 in
    put-behind key value x (xs ++ ys) (omega arith) ∙ ap (λ (r : List Row). x ∷ r) (put-append_right (x.0 + 1) high key value xs ys h.1 l)

choose : (a b : Bool) (w x : Row) (xs ys zs : List Row) → (if a then w ∷ (x ∷ (xs ++ ys)) else if b then w ∷ (xs ++ ys) else x ∷ (zs ++ ys))
    ≡ (if a then w ∷ (x ∷ xs) else if b then w ∷ xs else x ∷ zs) ++ ys
choose true b w x xs ys zs = refl
choose false true w x xs ys zs = refl
choose false false w x xs ys zs = refl

-- the key is before the back
pub put-append_left : (low high key : ℕ) (value : List ℕ) (xs ys : List Row) → IsWithin low high ys → key < low → put key value (xs ++ ys) ≡ put key value xs ++ ys
put-append_left low high key value [] ys h l = put-first low high key value ys h l
put-append_left low high key value (x ∷ xs) ys h l =
    ap (λ (r : List Row). if nat_lt key x.0 then (key, value) ∷ (x ∷ (xs ++ ys)) else if x.0 == key then (key, value) ∷ (xs ++ ys) else x ∷ r) (put-append_left low high key value xs ys h l)
    ∙ choose (nat_lt key x.0) (x.0 == key) (key, value) x xs ys (put key value xs)

-- to put a row is an edit at its key
pub put-edit : (key : ℕ) (value : List ℕ) → IsEdit key (put key value)
put-edit key value = record {
  left = λ low high xs ys h l. put-append_left low high key value xs ys h l;
  right = λ low high xs ys h l. put-append_right low high key value xs ys h l;
}

-- to take out a row: the key is this row's, or behind it
pub without-here : (key : ℕ) (row : Row) (rows : List Row) → row.0 ≡ key → without key (row ∷ rows) ≡ rows
without-here key row rows h = let u : (row.0 == key) ≡ true = grind (arith, nat_tests) in rw u refl

pub without-other : (key : ℕ) (row : Row) (rows : List Row) → (row.0 ≡ key → ⊥) → without key (row ∷ rows) ≡ row ∷ without key rows
without-other key row rows h = let u : (row.0 == key) ≡ false = grind (arith, nat_tests) in rw u refl

-- there is no row to take out
pub without-above : (low high key : ℕ) (rows : List Row) → IsWithin low high rows → key < low → without key rows ≡ rows
without-above low high key [] h l = refl
without-above low high key (row ∷ rows) h l =
    let g = h.0 in
    without-other key row rows (λ e. absurd (omega arith)) ∙ ap (λ (r : List Row). row ∷ r) (without-above (row.0 + 1) high key rows h.1 (omega arith))

without-append_right : (low high key : ℕ) (xs ys : List Row) → IsWithin low high xs → high ≤ key → without key (xs ++ ys) ≡ xs ++ without key ys
without-append_right low high key [] ys h l = refl
without-append_right low high key (x ∷ xs) ys h l =
    let m = within-le (x.0 + 1) high xs h.1 in
    without-other key x (xs ++ ys) (λ e. absurd (omega arith)) ∙ ap (λ (r : List Row). x ∷ r) (without-append_right (x.0 + 1) high key xs ys h.1 l)

choose-without : (a : Bool) (x : Row) (xs ys zs : List Row) → (if a then xs ++ ys else x ∷ (zs ++ ys)) ≡ (if a then xs else x ∷ zs) ++ ys
choose-without true x xs ys zs = refl
choose-without false x xs ys zs = refl

without-append_left : (low high key : ℕ) (xs ys : List Row) → IsWithin low high ys → key < low → without key (xs ++ ys) ≡ without key xs ++ ys
without-append_left low high key [] ys h l = without-above low high key ys h l
without-append_left low high key (x ∷ xs) ys h l =
    ap (λ (r : List Row). if x.0 == key then xs ++ ys else x ∷ r) (without-append_left low high key xs ys h l)
    ∙ choose-without (x.0 == key) x xs ys (without key xs)

-- to take out a row is an edit at its key
pub without-edit : (key : ℕ) → IsEdit key (without key)
without-edit key = record {
  left = λ low high xs ys h l. without-append_left low high key xs ys h l;
  right = λ low high xs ys h l. without-append_right low high key xs ys h l;
}
