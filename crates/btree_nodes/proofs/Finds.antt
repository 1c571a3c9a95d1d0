-- The row at a key, in a page.
use Rattle.std.proofs.Common.{◌≡◌, ℕ, suc, ◌+◌, ◌-◌, ◌<◌, ◌≤◌, List, ◌∷◌, get_or, take, drop, arith, sym, ap, ◌∙◌, subst, Some, None}
use Rattle.std.proofs.lemmas.Bool.Decides.{nat_tests}
use Rattle.std.proofs.lemmas.List.{take-append-drop, drop_more}
use Rattle.page_face.specs.Cells.{key_at, IsPlace}
use Rattle.btree_nodes.specs.declared.form.Form.{Form}
use Rattle.btree_nodes.specs.Rows.{Row, IsWithin, lookup}
use Rattle.page_face.specs.Nodes.{count_of}
use Rattle.btree_nodes.specs.Nodes.{rows_in, entries_in}
use Rattle.btree_nodes.specs.Tree.{IsPlaceFor}
use Rattle.btree_nodes.proofs.Spans.{no_row, within-take, within-drop, lookup-above, lookup-below, lookup-append_right}
use Rattle.btree_nodes.proofs.Spots.{cell_at, length-rows_in, get_or-rows_in, row-key, length-entries_in, entry-key}

-- a place, said otherwise
pub place_as : {k k' w n n' g g' at : ℕ} {page : List ℕ} → k ≡ k' → n ≡ n' → g ≡ g' → IsPlace k w n page g at → IsPlace k' w n' page g' at
place_as {k = k} {k' = k'} {w = w} {n = n} {n' = n'} {g = g} {g' = g'} {at = at} {page = page} e f h p =
    subst (λ (x : ℕ). IsPlace x w n' page g' at) e (subst (λ (x : ℕ). IsPlace k w x page g' at) f (subst (λ (x : ℕ). IsPlace k w n page x at) h p))

pub lookup-here : (key : ℕ) (row : Row) (rows : List Row) → row.0 ≡ key → lookup key (row ∷ rows) ≡ Some row.1
lookup-here key row rows h = grind (arith, nat_tests)

module _ (form : Form) (page : List ℕ) (low high key at : ℕ) (place : IsPlace form.key (form.key + form.value) (count_of page) page key at) (within : IsWithin low high (rows_in form page)) (from : low ≤ key) (to : key < high) where
  pub front : IsWithin low key (take at (rows_in form page))
  front =
      let w = place.within in
      within-take low high key (rows_in form page) at within (omega (arith, length-rows_in form page)) from
      (λ i e. let b : key_at form.key (form.key + form.value) page (at - 1) < key = place.before (omega arith) in
      let j : at - 1 ≡ i = omega arith in
      let r = row-key form page i (omega arith) in
      let c : key_at form.key (form.key + form.value) page i < key = subst (λ (n : ℕ). key_at form.key (form.key + form.value) page n < key) j b in
      omega (arith, r))

  pub back : IsWithin key high (drop at (rows_in form page))
  back =
      let w = place.within in
      within-drop low high key (rows_in form page) at within (omega (arith, length-rows_in form page)) (omega arith)
      (λ l. let small : at < count_of page = omega (arith, length-rows_in form page) in
      let a = place.after small in
      let r = row-key form page at small in
      omega (arith, r))

  pub lookup-back : lookup key (rows_in form page) ≡ lookup key (drop at (rows_in form page))
  lookup-back =
      ap (lookup key) (sym (take-append-drop at (rows_in form page)))
      ∙ lookup-append_right key (take at (rows_in form page)) (drop at (rows_in form page)) (lookup-above low key key (take at (rows_in form page)) front (omega arith))

  pub found : at < count_of page → key_at form.key (form.key + form.value) page at ≡ key → lookup key (rows_in form page) ≡ Some (drop form.key (cell_at (form.key + form.value) page at))
  found small same =
      lookup-back
      ∙ ap (lookup key) (drop_more (rows_in form page) at no_row (omega (arith, length-rows_in form page)))
      ∙ lookup-here key (get_or (rows_in form page) at no_row) (drop (at + 1) (rows_in form page)) (row-key form page at small ∙ same)
      ∙ ap (λ (r : Row). Some r.1) (get_or-rows_in form page at small)

  pub beyond : (at < count_of page → key_at form.key (form.key + form.value) page at ≡ key → ⊥) → IsWithin (key + 1) high (drop at (rows_in form page))
  beyond other =
      let w = place.within in
      within-drop low high (key + 1) (rows_in form page) at within (omega (arith, length-rows_in form page)) (omega arith)
      (λ l. let small : at < count_of page = omega (arith, length-rows_in form page) in
      let a = place.after small in
      let r = row-key form page at small in
      let n = other small in
      omega arith)

  pub missed : (at < count_of page → key_at form.key (form.key + form.value) page at ≡ key → ⊥) → lookup key (rows_in form page) ≡ None
  missed other = lookup-back ∙ lookup-below (key + 1) high key (drop at (rows_in form page)) (beyond other) (omega arith)

-- the place of the last entry whose key is at most this one, found as that of the first one above it
pub place-found : (form : Form) (page : List ℕ) (key at : ℕ) → 0 < at → IsPlace form.key (form.key + 4) (count_of page) page (key + 1) at → IsPlaceFor (entries_in form page) key (at - 1)
place-found form page key at some place =
    let w = place.within in
    let n = length-entries_in form page in
    let b = place.before some in
    let e = entry-key form page (at - 1) (omega arith) in
    let same : suc (at - 1) ≡ at = omega arith in
    record {
      within = omega arith;
      from = omega arith;
      next = λ h. let small : at < count_of page = omega arith in let a = place.after small in let f = entry-key form page at small in rw same (omega arith);
    }
