-- The order of a page's keys, as a check looks at it.
use Rattle.std.proofs.Common.{◌≡◌, ℕ, zero, suc, ◌+◌, ◌-◌, ◌^◌, ◌<◌, ◌≤◌, ⊎_elim, List, [], ◌∷◌, length, get_or, arith, refl, sym, ◌∙◌, subst, Bool, true, false, ◌==◌, ◌&&◌, lit<}
use Rattle.std.proofs.Math.Nat.{mul-le-mul_right, pow-suc, zero-mul}
use Rattle.std.proofs.lemmas.Bool.{cases_lt}
use Rattle.std.proofs.lemmas.Bool.Decides.{nat_tests}
use Rattle.std.specs.Ordering.{nat_cmp}
use Rattle.std.specs.Cmp.{nat_cmp_is}
use Rattle.std.specs.declared.cmp.Ordering.{Ordering}
use Rattle.std.specs.declared.cmp.Ordering.TheVariants.{Less}
use Rattle.page_face.specs.FreeList.{are_zero}
use Rattle.page_face.specs.Number.{number}
use Rattle.page_face.specs.Cells.{key_at, IsAscending}
use Rattle.btree_nodes.proofs.Numbers.{AreBytes, number_below}
use Rattle.btree_nodes.specs.declared.form.Form.{Form}
use Rattle.btree_nodes.specs.Rows.{IsWithin}
use Rattle.page_face.specs.Nodes.{count_of}
use Rattle.btree_nodes.specs.Nodes.{Entry, rows_in, entries_in, width_of, least_of_root}
use Rattle.btree_nodes.specs.Tree.{IsFan, next_key, with_low}
use Rattle.btree_nodes.specs.Bounds.{upper_of}
use Rattle.btree_nodes.specs.Damages.{AnyChild, IsOrdered}
use Rattle.btree_nodes.proofs.Spans.{no_row, within-row}
use Rattle.btree_nodes.proofs.Fans.{no_entry, with_low-key, length-with_low}
use Rattle.btree_nodes.proofs.Spots.{length-rows_in, row-key, length-entries_in, entry-key}
use Rattle.btree_nodes.proofs.Orders.{within-of, within-step, within-last, fan-of, fan-step, fan-last}

pub and-true : (a b : Bool) → (a && b) ≡ true → (a ≡ true) × (b ≡ true)
and-true true b h = (refl, h)
and-true false b h = cc

pow-some : (n : ℕ) → 0 < 256 ^ n
pow-some zero = lit< tt
pow-some (suc n) = let h = pow-some n in rw (pow-suc 256 n) (omega arith)

-- zeros are the least key
pub clear-number : (xs : List ℕ) → are_zero xs ≡ true → number xs ≡ 0
clear-number [] h = refl
clear-number (x ∷ xs) h =
    let t = and-true (x == 0) (are_zero xs) h in
    let z : x ≡ 0 = grind (arith, nat_tests, t.0) in
    let i = clear-number xs t.1 in
    rw z (omega (arith, zero-mul (256 ^ length xs), i))

pub number-clear : (xs : List ℕ) → number xs ≡ 0 → are_zero xs ≡ true
number-clear [] h = refl
number-clear (x ∷ xs) h =
    let p = pow-some (length xs) in
    let z : x ≡ 0 = ⊎_elim (λ (l : x < 1). omega arith) (λ (g : 1 ≤ x). absurd (omega (arith, mul-le-mul_right {m = 1} {n = x} (256 ^ length xs) g))) (cases_lt x 1) in
    let i = number-clear xs (omega arith) in
    let t : (x == 0) ≡ true = grind (arith, nat_tests) in
    rw (t, i) refl

-- a key that isn't less
pub not-less : (x y : ℕ) (order : Ordering) → order ≡ nat_cmp x y → (order ≡ Less → ⊥) → y ≤ x
not-less x y order e h = ⊎_elim (λ (l : x < y). absurd (h (e ∙ sym (nat_cmp_is x y Less l)))) (λ g. g) (cases_lt x y)

-- every key of this length is below an empty bound
pub below-none : (key high : List ℕ) → AreBytes key → length high ≡ 0 → number key < upper_of (length key) high
below-none key [] h e = number_below key h
below-none key (x ∷ xs) h e = absurd (omega arith)

-- a bound that isn't empty is a key
pub upper-some : (key : ℕ) (high : List ℕ) → 0 < length high → upper_of key high ≡ number high
upper-some key [] h = absurd (omega arith)
upper-some key (x ∷ xs) h = refl

module _ (form : Form) (page : List ℕ) (low high count : ℕ) (is : count ≡ count_of page) (some : 0 < count) where
  first-key : (get_or (rows_in form page) 0 no_row).0 ≡ key_at form.key (form.key + form.value) page 0
  first-key = row-key form page 0 (omega arith)

  last-key : (get_or (rows_in form page) (count - 1) no_row).0 ≡ key_at form.key (form.key + form.value) page (count - 1)
  last-key = row-key form page (count - 1) (omega arith)

  pub rows-low : IsWithin low high (rows_in form page) → low ≤ key_at form.key (form.key + form.value) page 0
  rows-low h = let r = within-row low high (rows_in form page) 0 h (omega (arith, length-rows_in form page)) in omega (arith, first-key)

  pub rows-high : IsWithin low high (rows_in form page) → key_at form.key (form.key + form.value) page (count - 1) < high
  rows-high h = let r = within-last low high (rows_in form page) (count - 1) h (omega (arith, length-rows_in form page)) in omega (arith, last-key)

  pub rows-ascend : IsWithin low high (rows_in form page) → IsAscending form.key (form.key + form.value) page 0 count
  rows-ascend h = λ i f l.
      let r = within-step low high (rows_in form page) i h (omega (arith, length-rows_in form page)) in
      let a = row-key form page i (omega arith) in
      let b = row-key form page (suc i) (omega arith) in
      let up : suc i ≡ i + 1 = omega arith in
      let c : key_at form.key (form.key + form.value) page i < key_at form.key (form.key + form.value) page (suc i) = omega arith in
      subst (λ (k : ℕ). key_at form.key (form.key + form.value) page i < key_at form.key (form.key + form.value) page k) up c

  pub rows-ordered : low ≤ key_at form.key (form.key + form.value) page 0 → key_at form.key (form.key + form.value) page (count - 1) < high
      → IsAscending form.key (form.key + form.value) page 0 count → IsWithin low high (rows_in form page)
  rows-ordered from to step =
      within-of low high (rows_in form page) (omega (arith, length-rows_in form page)) (omega (arith, first-key))
      (λ i l. let s = step i (omega arith) (omega (arith, length-rows_in form page)) in
      let a = row-key form page i (omega (arith, length-rows_in form page)) in
      let b = row-key form page (suc i) (omega (arith, length-rows_in form page)) in
      let up : i + 1 ≡ suc i = omega arith in
      let c : key_at form.key (form.key + form.value) page i < key_at form.key (form.key + form.value) page (suc i) =
      subst (λ (k : ℕ). key_at form.key (form.key + form.value) page i < key_at form.key (form.key + form.value) page k) up s in
      omega arith)
      (λ i l. let n = length-rows_in form page in
      let same : count - 1 ≡ i = omega arith in
      let b : (get_or (rows_in form page) (count - 1) no_row).0 < high = omega (arith, last-key) in
      subst (λ (k : ℕ). (get_or (rows_in form page) k no_row).0 < high) same b)

module _ (form : Form) (page : List ℕ) (low high count : ℕ) (is : count ≡ count_of page) (some : 1 < count) where
  long : length (with_low low (entries_in form page)) ≡ count
  long = length-with_low low (entries_in form page) ∙ length-entries_in form page ∙ sym is

  key-of : (i : ℕ) → 0 < i → i < count → (get_or (with_low low (entries_in form page)) i no_entry).0 ≡ key_at form.key (form.key + 4) page i
  key-of i h l = with_low-key low (entries_in form page) i h ∙ entry-key form page i (omega arith)

  low-of : (es : List Entry) → 0 < length es → (get_or (with_low low es) 0 no_entry).0 ≡ low
  low-of [] h = absurd (omega arith)
  low-of (e ∷ es) h = refl

  low-here : (get_or (with_low low (entries_in form page)) 0 no_entry).0 ≡ low
  low-here = low-of (entries_in form page) (omega (arith, length-entries_in form page))

  pub entries-low : IsOrdered form low high page → low < key_at form.key (form.key + 4) page 1
  entries-low h =
      let s = fan-step AnyChild low high (with_low low (entries_in form page)) 0 h.1 (omega (arith, long)) in
      let k = key-of 1 (omega arith) (omega arith) in
      omega (arith, low-here)

  pub entries-high : IsOrdered form low high page → key_at form.key (form.key + 4) page (count - 1) < high
  entries-high h =
      let s = fan-last AnyChild low high (with_low low (entries_in form page)) (count - 1) h.1 (omega (arith, long)) in
      let k = key-of (count - 1) (omega arith) (omega arith) in
      omega arith

  pub entries-ascend : IsOrdered form low high page → IsAscending form.key (form.key + 4) page 1 count
  entries-ascend h = λ i f l.
      let s = fan-step AnyChild low high (with_low low (entries_in form page)) i h.1 (omega (arith, long)) in
      let a = key-of i (omega arith) (omega arith) in
      let b = key-of (suc i) (omega arith) (omega arith) in
      let up : suc i ≡ i + 1 = omega arith in
      let c : key_at form.key (form.key + 4) page i < key_at form.key (form.key + 4) page (suc i) = omega arith in
      subst (λ (k : ℕ). key_at form.key (form.key + 4) page i < key_at form.key (form.key + 4) page k) up c

  step-at : (i : ℕ) → low < key_at form.key (form.key + 4) page 1 → IsAscending form.key (form.key + 4) page 1 count → suc i < count
      → (get_or (with_low low (entries_in form page)) i no_entry).0 < (get_or (with_low low (entries_in form page)) (suc i) no_entry).0
  step-at zero from step l = let k = key-of 1 (omega arith) (omega arith) in omega (arith, low-here)
  step-at (suc i) from step l =
      let s = step (suc i) (omega arith) (omega arith) in
      let a = key-of (suc i) (omega arith) (omega arith) in
      let b = key-of (suc (suc i)) (omega arith) (omega arith) in
      let up : suc i + 1 ≡ suc (suc i) = omega arith in
      let c : key_at form.key (form.key + 4) page (suc i) < key_at form.key (form.key + 4) page (suc (suc i)) =
      subst (λ (k : ℕ). key_at form.key (form.key + 4) page (suc i) < key_at form.key (form.key + 4) page k) up s in
      omega arith

  low-fan : (es : List Entry) → 0 < length es → IsFan AnyChild (next_key high (with_low low es)) high (with_low low es) → IsFan AnyChild low high (with_low low es)
  low-fan [] l h = absurd (omega arith)
  low-fan (e ∷ es) l h = h

  pub entries-ordered : key_at form.key (form.key + 4) page 0 ≡ 0 → low < key_at form.key (form.key + 4) page 1 → key_at form.key (form.key + 4) page (count - 1) < high
      → IsAscending form.key (form.key + 4) page 1 count → IsOrdered form low high page
  entries-ordered zero_key from to step = (
    zero_key,
    low-fan (entries_in form page) (omega (arith, length-entries_in form page))
        (fan-of high (with_low low (entries_in form page)) (omega (arith, long)) (λ i l. step-at i from step (omega (arith, long)))
        (λ i l. let same : count - 1 ≡ i = omega (arith, long) in
        let k = key-of (count - 1) (omega arith) (omega arith) in
        let b : (get_or (with_low low (entries_in form page)) (count - 1) no_entry).0 < high = omega arith in
        subst (λ (k : ℕ). (get_or (with_low low (entries_in form page)) k no_entry).0 < high) same b)),
  )

-- a leaf's cell
pub width-leaf : (form : Form) (level : ℕ) → level ≡ 0 → width_of form level ≡ form.key + form.value
width-leaf form zero h = refl
width-leaf form (suc level) h = absurd (omega arith)

pub least-some : (level : ℕ) → 1 ≤ least_of_root level
least-some zero = omega arith
least-some (suc level) = omega arith

pub least-few : (level : ℕ) → least_of_root level ≤ 2
least-few zero = omega arith
least-few (suc level) = omega arith
