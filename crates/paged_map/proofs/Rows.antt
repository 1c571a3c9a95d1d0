-- The first row whose key isn't less, in a leaf.
use Rattle.std.proofs.Common.{◌≤◌, ◌≡◌, ℕ, zero, suc, ◌+◌, ◌-◌, ◌*◌, ◌<◌, List, [], ◌∷◌, length, get_or, take, drop, arith, refl, sym, ap, ◌∙◌, subst, Some, None}
use Rattle.std.proofs.lemmas.Bool.Decides.{nat_tests}
use Rattle.page_face.specs.Number.{number}
use Rattle.page_face.specs.Cells.{key_at, IsPlace}
use Rattle.btree_nodes.specs.declared.form.Form.{Form}
use Rattle.btree_nodes.specs.Rows.{Row, IsWithin, lookup, first_from}
use Rattle.page_face.specs.Nodes.{count_of}
use Rattle.btree_nodes.specs.Nodes.{rows_in}
use Rattle.btree_nodes.proofs.Spans.{no_row, within-row}
use Rattle.btree_nodes.proofs.Spots.{length-rows_in, get_or-rows_in, row-key}
use Rattle.btree_nodes.proofs.Firsts.{first_from-last, first_from-at}
use Rattle.btree_nodes.proofs.Finds.{lookup-here}

lookup-other : (key : ℕ) (row : Row) (rows : List Row) → row.0 < key → lookup key (row ∷ rows) ≡ lookup key rows
lookup-other key row rows h = grind (arith, nat_tests)

-- the row at a place is the one at its key
pub lookup-at : (low high : ℕ) (rows : List Row) (at : ℕ) → IsWithin low high rows → at < length rows → lookup (get_or rows at no_row).0 rows ≡ Some (get_or rows at no_row).1
lookup-at low high [] at h l = absurd (omega arith)
lookup-at low high (row ∷ rows) zero h l = lookup-here row.0 row rows refl
lookup-at low high (row ∷ rows) (suc at) h l =
    let w = within-row (row.0 + 1) high rows at h.1 (omega arith) in
    lookup-other (get_or rows at no_row).0 row rows (omega arith) ∙ lookup-at (row.0 + 1) high rows at h.1 (omega arith)

module _ (form : Form) (page : List ℕ) (low high key at : ℕ) (place : IsPlace form.key (form.key + form.value) (count_of page) page key at) (within : IsWithin low high (rows_in form page)) where
  before : (i : ℕ) → suc i ≡ at → (get_or (rows_in form page) i no_row).0 < key
  before i e =
      let w = place.within in
      let b : key_at form.key (form.key + form.value) page (at - 1) < key = place.before (omega arith) in
      let j : at - 1 ≡ i = omega arith in
      let r = row-key form page i (omega arith) in
      let c : key_at form.key (form.key + form.value) page i < key = subst (λ (n : ℕ). key_at form.key (form.key + form.value) page n < key) j b in
      omega arith

  -- no row's key is as great
  pub first-missed : at ≡ count_of page → first_from key (rows_in form page) ≡ None
  first-missed e = first_from-last low high key (rows_in form page) within (λ i s. before i (omega (arith, length-rows_in form page)))

  module _ (small : at < count_of page) (found value : List ℕ) (key_is : found ≡ take form.key (drop (16 + (form.key + form.value) * at) page))
      (value_is : value ≡ drop form.key (take (form.key + form.value) (drop (16 + (form.key + form.value) * at) page))) where
    key-same : number found ≡ (get_or (rows_in form page) at no_row).0
    key-same = ap number key_is ∙ sym (row-key form page at small)

    value-same : value ≡ (get_or (rows_in form page) at no_row).1
    value-same = value_is ∙ ap (λ (r : Row). r.1) (sym (get_or-rows_in form page at small))

    row-same : get_or (rows_in form page) at no_row ≡ (number found, value)
    row-same = ap (λ (k : ℕ). (k, (get_or (rows_in form page) at no_row).1)) (sym key-same) ∙ ap (λ (v : List ℕ). (number found, v)) (sym value-same)

    -- the row at the place is the first
    pub first-found : first_from key (rows_in form page) ≡ Some (number found, value)
    first-found =
        let a = place.after small in
        let r = row-key form page at small in
        first_from-at low high key (rows_in form page) at within (omega (arith, length-rows_in form page)) before (omega arith) ∙ ap (λ (r : Row). Some r) row-same

    -- and is found at its key
    pub first-holds : lookup (number found) (rows_in form page) ≡ Some value
    first-holds =
        ap (λ (k : ℕ). lookup k (rows_in form page)) key-same ∙ lookup-at low high (rows_in form page) at within (omega (arith, length-rows_in form page))
        ∙ ap (λ (v : List ℕ). Some v) (sym value-same)

    -- its key isn't less
    pub first-on : key ≤ number found
    first-on =
        let a = place.after small in
        let r = row-key form page at small in
        let k = key-same in
        omega arith
