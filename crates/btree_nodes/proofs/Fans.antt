-- The children of an inner page.
use Rattle.std.proofs.Common.{◌≡◌, ℕ, zero, suc, ◌<◌, ◌≤◌, List, [], ◌∷◌, ◌++◌, length, get_or, drop, arith, refl, sym, ap, ◌∙◌, subst}
use Rattle.std.specs.List.{flat_map}
use Rattle.btree_nodes.specs.Rows.{Row, IsWithin, lookup}
use Rattle.btree_nodes.specs.Nodes.{Entry}
use Rattle.btree_nodes.specs.Tree.{next_key, IsFan, with_low}
use Rattle.btree_nodes.proofs.Spans.{within-append, lookup-below, lookup-above, lookup-append_left, lookup-append_right}

-- an entry in place of none
abbrev pub no_entry : Entry
no_entry = (0, 0)

-- the rows below keep to the bounds
pub fan-within : (P : ℕ → ℕ → ℕ → Type 0) (R : ℕ → List Row) (low high : ℕ) (es : List Entry)
    → ((c a b : ℕ) → P c a b → IsWithin a b (R c)) → IsFan P low high es → IsWithin low high (flat_map (λ (e : Entry). R e.1) es)
fan-within P R low high [] each h = omega (arith, h)
fan-within P R low high (e ∷ es) each h =
    within-append low (next_key high es) high (R e.1) (flat_map (λ (f : Entry). R f.1) es) (each e.1 low (next_key high es) h.2)
    (fan-within P R (next_key high es) high es each h.3)

-- the keys are not below the lower bound
pub fan-key : (P : ℕ → ℕ → ℕ → Type 0) (low high : ℕ) (es : List Entry) (i : ℕ) → IsFan P low high es → i < length es → low ≤ (get_or es i no_entry).0
fan-key P low high [] i h l = absurd (omega arith)
fan-key P low high (e ∷ es) zero h l = omega (arith, h.0)
fan-key P low high (e ∷ es) (suc i) h l = let k = fan-key P (next_key high es) high es i h.3 (omega arith) in let m = h.1 in omega arith

-- the rows at a key are those of the child whose bounds it keeps
pub fan-lookup : (P : ℕ → ℕ → ℕ → Type 0) (R : ℕ → List Row) (low high key : ℕ) (es : List Entry) (i : ℕ)
    → ((c a b : ℕ) → P c a b → IsWithin a b (R c)) → IsFan P low high es → i < length es
    → (get_or es i no_entry).0 ≤ key → key < high → (suc i < length es → key < (get_or es (suc i) no_entry).0)
    → lookup key (flat_map (λ (e : Entry). R e.1) es) ≡ lookup key (R (get_or es i no_entry).1)
fan-lookup P R low high key [] i each h l from to next = absurd (omega arith)
fan-lookup P R low high key (e ∷ []) zero each h l from to next = lookup-append_left key (R e.1) [] refl
fan-lookup P R low high key (e ∷ (f ∷ es)) zero each h l from to next =
    lookup-append_left key (R e.1) (flat_map (λ (g : Entry). R g.1) (f ∷ es))
    (lookup-below f.0 high key _ (fan-within P R f.0 high (f ∷ es) each h.3) (next (omega arith)))
fan-lookup P R low high key (e ∷ es) (suc i) each h l from to next =
    let k = fan-key P (next_key high es) high es i h.3 (omega arith) in
    lookup-append_right key (R e.1) (flat_map (λ (g : Entry). R g.1) es) (lookup-above low (next_key high es) key (R e.1) (each e.1 low (next_key high es) h.2) (omega arith))
    ∙ fan-lookup P R (next_key high es) high key es i each h.3 (omega arith) from to (λ m. next (omega arith))

-- the bounds of the child at a place
pub fan-child : (P : ℕ → ℕ → ℕ → Type 0) (low high : ℕ) (es : List Entry) (i : ℕ) → IsFan P low high es → i < length es
    → P (get_or es i no_entry).1 (get_or es i no_entry).0 (next_key high (drop (suc i) es))
fan-child P low high [] i h l = absurd (omega arith)
fan-child P low high (e ∷ es) zero h l = subst (λ (a : ℕ). P e.1 a (next_key high es)) (sym h.0) h.2
fan-child P low high (e ∷ es) (suc i) h l = fan-child P (next_key high es) high es i h.3 (omega arith)

-- the first key aside, the entries are the same
pub with_low-child : (low : ℕ) (es : List Entry) (i : ℕ) → (get_or (with_low low es) i no_entry).1 ≡ (get_or es i no_entry).1
with_low-child low [] i = refl
with_low-child low (e ∷ es) zero = refl
with_low-child low (e ∷ es) (suc i) = refl

pub with_low-key : (low : ℕ) (es : List Entry) (i : ℕ) → 0 < i → (get_or (with_low low es) i no_entry).0 ≡ (get_or es i no_entry).0
with_low-key low [] i h = refl
with_low-key low (e ∷ es) zero h = absurd (omega arith)
with_low-key low (e ∷ es) (suc i) h = refl

pub with_low-rows : (R : ℕ → List Row) (low : ℕ) (es : List Entry) → flat_map (λ (e : Entry). R e.1) (with_low low es) ≡ flat_map (λ (e : Entry). R e.1) es
with_low-rows R low [] = refl
with_low-rows R low (e ∷ es) = refl

pub length-with_low : (low : ℕ) (es : List Entry) → length (with_low low es) ≡ length es
length-with_low low [] = refl
length-with_low low (e ∷ es) = refl

pub next_key-drop : (high key : ℕ) (es : List Entry) (i : ℕ) → key < high → (i < length es → key < (get_or es i no_entry).0) → key < next_key high (drop i es)
next_key-drop high key [] zero h k = h
next_key-drop high key [] (suc i) h k = h
next_key-drop high key (e ∷ es) zero h k = k (omega arith)
next_key-drop high key (e ∷ es) (suc i) h k = next_key-drop high key es i h (λ l. k (omega arith))

pub with_low-from : (low key : ℕ) (es : List Entry) (i : ℕ) → low ≤ key → (get_or es i no_entry).0 ≤ key → (get_or (with_low low es) i no_entry).0 ≤ key
with_low-from low key [] i h k = k
with_low-from low key (e ∷ es) zero h k = h
with_low-from low key (e ∷ es) (suc i) h k = k

pub with_low-append : (low : ℕ) (xs ys : List Entry) → 0 < length xs → with_low low (xs ++ ys) ≡ with_low low xs ++ ys
with_low-append low [] ys h = absurd (omega arith)
with_low-append low (x ∷ xs) ys h = refl

pub with_low-own : (low : ℕ) (es : List Entry) (high : ℕ) → 0 < length es → next_key high es ≡ low → with_low low es ≡ es
with_low-own low [] high s h = refl
with_low-own low (e ∷ es) high s h = ap (λ (k : ℕ). (k, e.1) ∷ es) (sym h)

pub with_low-twice : (low more : ℕ) (es : List Entry) → with_low low (with_low more es) ≡ with_low low es
with_low-twice low more [] = refl
with_low-twice low more (e ∷ es) = refl

-- what is behind a place doesn't depend on the first key
pub drop-with_low : (low : ℕ) (es : List Entry) (at : ℕ) → drop (suc at) (with_low low es) ≡ drop (suc at) es
drop-with_low low [] at = refl
drop-with_low low (e ∷ es) at = refl

-- the key behind a place
pub next_key-at : (high : ℕ) (es : List Entry) (at : ℕ) → at < length es → next_key high (drop at es) ≡ (get_or es at no_entry).0
next_key-at high [] at l = absurd (omega arith)
next_key-at high (e ∷ es) zero l = refl
next_key-at high (e ∷ es) (suc at) l = next_key-at high es at (omega arith)

-- there is none behind the last place
pub next_key-end : (high : ℕ) (es : List Entry) (at : ℕ) → at ≡ length es → next_key high (drop at es) ≡ high
next_key-end high [] zero l = refl
next_key-end high [] (suc at) l = refl
next_key-end high (e ∷ es) zero l = absurd (omega arith)
next_key-end high (e ∷ es) (suc at) l = next_key-end high es at (omega arith)

-- the first key is the lower bound
pub with_low-first : (low : ℕ) (es : List Entry) (at : ℕ) → at < length es → at ≡ 0 → (get_or (with_low low es) at no_entry).0 ≡ low
with_low-first low [] at l z = absurd (omega arith)
with_low-first low (e ∷ es) zero l z = refl
with_low-first low (e ∷ es) (suc at) l z = absurd (omega arith)
