-- The pages of a map's entries that may lack one.
use Rattle.std.proofs.Common.{◌≡◌, ◌≢◌, ⊎_elim, ℕ, zero, suc, ◌+◌, ◌*◌, ◌/◌, ◌<◌, ◌≤◌, true, false, List, [], ◌∷◌, length, slice_index, get_or, Option, Some, None, Box, sym, ◌∙◌, ap, subst, arith}
use Rattle.std.specs.Map.{keys_of, lookup}
use Rattle.std.specs.BTreeMap.{is_at}
use Rattle.std.specs.Ordering.{nat_cmp, is_eq}
use Rattle.std.specs.declared.cmp.Ordering.TheVariants.{Less, Equal, Greater}
use Rattle.std.specs.Cmp.{nat_cmp_is}
use Rattle.std.specs.declared.alloc.Global.{Global}
use Rattle.std.proofs.lemmas.Bool.{cases_lt, cases_eq, cond-true, cond-false}
use Rattle.page_journal.specs.Record.{batch_of, kept, written_up_to, with_batch}
use Rattle.page_journal.proofs.Batches.{page_here, page_elsewhere, with_first, with_empty, untouched}

-- each key is above those before it
abbrev pub KeysAscend : List (ℕ × Option (Box (List ℕ) Global)) → Type 0
KeysAscend entries = (k m : ℕ) → k < m → m < length entries → get_or (keys_of entries) k 0 < get_or (keys_of entries) m 0

tail_ascends : (e : ℕ × Option (Box (List ℕ) Global)) (entries : List (ℕ × Option (Box (List ℕ) Global))) → KeysAscend (e ∷ entries) → KeysAscend entries
tail_ascends e entries keys k m lt within = keys (suc k) (suc m) (omega arith) (omega arith)

-- the pages are numbered above what all keys are above
kept_above : (entries : List (ℕ × Option (Box (List ℕ) Global))) (n : ℕ) → ((k : ℕ) → k < length entries → n < get_or (keys_of entries) k 0) → (k : ℕ) → k < length (kept entries) → n < (batch_of (kept entries)).number k
kept_above [] n above k lt = absurd (omega arith)
kept_above ((m, Some page) ∷ entries) n above zero lt = above 0 (omega arith)
kept_above ((m, Some page) ∷ entries) n above (suc k) lt = kept_above entries n (λ j l. above (suc j) (omega arith)) k (omega arith)
kept_above ((m, None) ∷ entries) n above k lt = kept_above entries n (λ j l. above (suc j) (omega arith)) k lt

-- the first key is below all others
head_below : (m : ℕ) (o : Option (Box (List ℕ) Global)) (entries : List (ℕ × Option (Box (List ℕ) Global))) → KeysAscend ((m, o) ∷ entries) → (k : ℕ) → k < length entries → m < get_or (keys_of entries) k 0
head_below m o entries keys k lt = keys 0 (suc k) (omega arith) (omega arith)

ascends : (entries : List (ℕ × Option (Box (List ℕ) Global))) → KeysAscend entries → (k : ℕ) → suc k < length (kept entries) → (batch_of (kept entries)).number k < (batch_of (kept entries)).number (suc k)
ascends [] keys k lt = absurd (omega arith)
ascends ((m, Some page) ∷ entries) keys zero lt = kept_above entries m (head_below m (Some page) entries keys) 0 (omega arith)
ascends ((m, Some page) ∷ entries) keys (suc k) lt = ascends entries (tail_ascends (m, Some page) entries keys) k (omega arith)
ascends ((m, None) ∷ entries) keys k lt = ascends entries (tail_ascends (m, None) entries keys) k lt

same_key : (n k : ℕ) → n ≡ k → is_at (nat_cmp n) k ≡ true
same_key n k e = ap is_eq (sym (nat_cmp_is n k Equal e))

other_key : (n k : ℕ) → (n ≡ k → ⊥) → is_at (nat_cmp n) k ≡ false
other_key n k ne = ⊎_elim
    (λ (l : n < k). ap is_eq (sym (nat_cmp_is n k Less l)))
    (λ (g : k ≤ n). let above : k < n = omega arith in ap is_eq (sym (nat_cmp_is n k Greater above)))
    (cases_lt n k)

-- the byte of the page that a look-up found, and else the one below it
abbrev pub byte_found : Option (Option (Box (List ℕ) Global)) → ℕ → ℕ → ℕ
byte_found (Some (Some page)) j below = slice_index page.value j
byte_found (Some None) j below = below
byte_found None j below = below

-- a page that no entry but an earlier one has
elsewhere : (entries : List (ℕ × Option (Box (List ℕ) Global))) (n j : ℕ) (p : ℕ → ℕ) → ((k : ℕ) → k < length entries → n < get_or (keys_of entries) k 0) → j < 4096
    → with_batch (batch_of (kept entries)) p (4096 * n + j) ≡ p (4096 * n + j)
elsewhere entries n j p above fits = page_elsewhere (batch_of (kept entries)) n j p (λ k lt e. let a = kept_above entries n above k lt in omega arith) fits

-- with the pages that are there written, a page is the map's, and else the one below
pub page_kept : (entries : List (ℕ × Option (Box (List ℕ) Global))) (n j : ℕ) (p : ℕ → ℕ) → KeysAscend entries → j < 4096
    → with_batch (batch_of (kept entries)) p (4096 * n + j) ≡ byte_found (lookup (is_at (nat_cmp n)) entries) j (p (4096 * n + j))
page_kept [] n j p keys fits = ap (λ (f : ℕ → ℕ). f (4096 * n + j)) (with_empty p)
page_kept ((m, Some page) ∷ entries) n j p keys fits =
    let e : ℕ × List ℕ = (m, page.value) in
    let b = batch_of (e ∷ kept entries) in
    let q = written_up_to b 1 p in
    let at = 4096 * n + j in
    ⊎_elim
    (λ (same : n ≡ m).
    subst (λ (x : ℕ). with_batch b p (4096 * x + j) ≡ slice_index page.value j) (sym same)
    (page_here b (length (e ∷ kept entries)) 0 j p (omega arith) (later (kept entries) e (kept_above entries m (head_below m (Some page) entries keys))) fits)
    ∙ ap (λ (o : Option (Option (Box (List ℕ) Global))). byte_found o j (p at)) (sym (cond-true (is_at (nat_cmp n) m) (Some (Some page)) (lookup (is_at (nat_cmp n)) entries) (same_key n m same))))
    (λ (ne : n ≡ m → ⊥).
    ap (λ (f : ℕ → ℕ). f at) (with_first e (kept entries) p)
    ∙ page_kept entries n j q (tail_ascends (m, Some page) entries keys) fits
    ∙ ap (λ (x : ℕ). byte_found (lookup (is_at (nat_cmp n)) entries) j x) (untouched b 1 at p (first_apart e (kept entries) n j ne fits))
    ∙ ap (λ (o : Option (Option (Box (List ℕ) Global))). byte_found o j (p at)) (sym (cond-false (is_at (nat_cmp n) m) (Some (Some page)) (lookup (is_at (nat_cmp n)) entries) (other_key n m ne))))
    (cases_eq n m)
  where
    later : (rest : List (ℕ × List ℕ)) (e : ℕ × List ℕ) → ((k : ℕ) → k < length rest → e.0 < (batch_of rest).number k) → (k : ℕ) → 0 < k → k < length (e ∷ rest) → (batch_of (e ∷ rest)).number k ≢ e.0
    later rest e above zero low high is = absurd (omega arith)
    later rest e above (suc k) low high is = let a = above k (omega arith) in omega (arith, a, is)

    first_apart : (e : ℕ × List ℕ) (rest : List (ℕ × List ℕ)) (n j : ℕ) → (n ≡ e.0 → ⊥) → j < 4096 → (k : ℕ) → k < 1 → (4096 * n + j) / 4096 ≢ (batch_of (e ∷ rest)).number k
    first_apart e rest n j ne fits zero lt is = ne (omega (arith, is))
    first_apart e rest n j ne fits (suc k) lt is = absurd (omega arith)
page_kept ((m, None) ∷ entries) n j p keys fits =
    let at = 4096 * n + j in
    ⊎_elim
    (λ (same : n ≡ m).
    elsewhere entries n j p (λ k lt. let a = head_below m None entries keys k lt in omega arith) fits
    ∙ ap (λ (o : Option (Option (Box (List ℕ) Global))). byte_found o j (p at)) (sym (cond-true (is_at (nat_cmp n) m) (Some None) (lookup (is_at (nat_cmp n)) entries) (same_key n m same))))
    (λ (ne : n ≡ m → ⊥).
    page_kept entries n j p (tail_ascends (m, None) entries keys) fits
    ∙ ap (λ (o : Option (Option (Box (List ℕ) Global))). byte_found o j (p at)) (sym (cond-false (is_at (nat_cmp n) m) (Some None) (lookup (is_at (nat_cmp n)) entries) (other_key n m ne))))
    (cases_eq n m)
