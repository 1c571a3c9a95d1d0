-- A row that is out of a leaf.
use Rattle.std.proofs.Common.{◌≡◌, ℕ, suc, ◌+◌, ◌-◌, ◌*◌, ◌<◌, ◌≤◌, List, [], ◌∷◌, ◌++◌, length, get_or, take, drop, arith, refl, sym, ap, ◌∙◌, subst, None}
use Rattle.std.proofs.lemmas.List.{take-append-drop, drop_more, length-append, length-take-le, length-drop}
use Rattle.std.proofs.Math.Nat.{mul-le-mul_left}
use Rattle.page_face.specs.FreeList.{PageMap, with_page, IsFreePage, next_free}
use Rattle.page_face.specs.Cells.{IsPlace, key_at}
use Rattle.btree_nodes.specs.Build.{image}
use Rattle.btree_nodes.specs.declared.form.Form.{Form}
use Rattle.btree_nodes.specs.Supply.{view, IsSupplied, spare, one_at}
use Rattle.btree_nodes.specs.Rows.{Row, IsWithin, lookup, without}
use Rattle.page_face.specs.Nodes.{count_of}
use Rattle.btree_nodes.specs.Nodes.{rows_in, rows_of}
use Rattle.btree_nodes.proofs.Spans.{no_row, within-append, within-wider}
use Rattle.btree_nodes.proofs.Spots.{length-rows_in, row-key}
use Rattle.btree_nodes.proofs.Finds.{front, back, found}
use Rattle.btree_nodes.proofs.Puts.{without-edit, without-here}
use Rattle.btree_nodes.proofs.Supplies.{moves-as, one_at-same, with-same}
use Rattle.btree_delete.specs.Body.{cells_in, without_cell}
use Rattle.btree_delete.specs.Removal.{IsOut}
use Rattle.btree_nodes.proofs.Gives.{moves-give}
use Rattle.btree_delete.proofs.Joins.{few, width-some}
use Rattle.btree_delete.proofs.Holds.{cells-rows, becomes-as}
use Rattle.btree_delete.proofs.Changes.{rows-without, length-without}
use Rattle.btree_delete.proofs.Among.{written-becomes}

empty : (rows : List Row) → length rows ≡ 0 → rows ≡ []
empty [] h = refl
empty (row ∷ rows) h = absurd (omega arith)

module _ (form : Form) (bytes : List ℕ) (low high key at : ℕ) (place : IsPlace form.key (form.key + form.value) (count_of bytes) bytes key at) (same : key_at form.key (form.key + form.value) bytes at ≡ key)
    (within : IsWithin low high (rows_in form bytes)) (from : low ≤ key) (to : key < high) (small : at < count_of bytes) where
  rows : List Row
  rows = rows_in form bytes

  parts : drop at rows ≡ get_or rows at no_row ∷ drop (at + 1) rows
  unfolding rows
  parts = drop_more (rows_in form bytes) at no_row (omega (arith, length-rows_in form bytes))

  its-key : (get_or rows at no_row).0 ≡ key
  unfolding rows
  its-key = row-key form bytes at small ∙ same

  -- what is left
  pub without-at : without key (rows_in form bytes) ≡ take at (rows_in form bytes) ++ drop (suc at) (rows_in form bytes)
  unfolding rows
  without-at =
      let up : at + 1 ≡ suc at = omega arith in
      ap (without key) (sym (take-append-drop at rows))
      ∙ (without-edit key).right low key (take at rows) (drop at rows) (front form bytes low high key at place within from to) (omega arith)
      ∙ ap (λ (x : List Row). take at rows ++ without key x) parts
      ∙ ap (λ (x : List Row). take at rows ++ x) (without-here key (get_or rows at no_row) (drop (at + 1) rows) its-key)
      ∙ ap (λ (k : ℕ). take at rows ++ drop k rows) up

  pub without-within : IsWithin low high (take at (rows_in form bytes) ++ drop (suc at) (rows_in form bytes))
  unfolding rows
  without-within =
      let up : at + 1 ≡ suc at = omega arith in
      let b : IsWithin key high (get_or rows at no_row ∷ drop (at + 1) rows) = subst (λ (x : List Row). IsWithin key high x) parts (back form bytes low high key at place within from to) in
      let k = b.0 in
      let rest : IsWithin key high (drop (suc at) rows) = subst (λ (n : ℕ). IsWithin key high (drop n rows)) up (within-wider ((get_or rows at no_row).0 + 1) key high (drop (at + 1) rows) (omega arith) b.1) in
      within-append low key high (take at rows) (drop (suc at) rows) (front form bytes low high key at place within from to) rest

  pub was-there : lookup key (rows_in form bytes) ≡ None → ⊥
  was-there e = let f = found form bytes low high key at place within from to small same in cc

  -- it was the only row
  pub none-left : count_of bytes ≡ 1 → without key (rows_in form bytes) ≡ []
  none-left one =
      let n = length-rows_in form bytes in
      let l = ap length without-at ∙ length-append (take at (rows_in form bytes)) (drop (suc at) (rows_in form bytes)) in
      empty (without key (rows_in form bytes)) (omega (arith, length-take-le at (rows_in form bytes) (omega arith), length-drop (suc at) (rows_in form bytes)))

  pub emptied : (old new : PageMap) (count first count' first' page : ℕ) (free bytes' : List ℕ) → count_of bytes ≡ 1 → IsSupplied (view old count first free) → ((k : ℕ) → one_at page k + spare free count k ≤ 1)
      → 0 < page → page < count → IsFreePage (new page) → next_free (new page) ≡ first → ((n : ℕ) → (n ≡ page → ⊥) → new n ≡ old n) → count' ≡ count → first' ≡ page
      → IsOut form (view old count first free) (one_at page) new count' first' 0 page low high key (rows_in form bytes) bytes' 0
  emptied old new count first count' first' page free bytes' one supplied once some counted free_form next others e f =
      let s = one_at-same page in
      let o = once page in
      let m = moves-give old new count first page free supplied (omega arith) some counted free_form next others in
      record {
        there = was-there;
        some = λ l. absurd (omega arith);
        bytes_are = λ l. absurd (omega arith);
        none = λ z. record { free = page ∷ free; moves = rw (e, f) (moves-as (λ n. refl) (λ n. refl) m); gives = none-left one };
      }

  pub written-out : (old new : PageMap) (count first count' first' page n : ℕ) (free made : List ℕ) → n ≡ count_of bytes → 1 < n → 16 + (form.key + form.value) * n ≤ 4096 → length bytes ≡ 4096
      → new ≡ with_page page made old → made ≡ image form.map 1 0 (n - 1) (without_cell (form.key + form.value) at (cells_in (form.key + form.value) n bytes))
      → IsSupplied (view old count first free) → ((k : ℕ) → one_at page k + spare free count k ≤ 1) → count' ≡ count → first' ≡ first
      → IsOut form (view old count first free) (one_at page) new count' first' 0 page low high key (rows_in form bytes) made (n - 1)
  written-out old new count first count' first' page n free made n-is more fits size written made-is supplied once e f =
      let w : ℕ = form.key + form.value in
      let b : List ℕ = cells_in w n bytes in
      let rest : ℕ = n - at - 1 in
      let sum : at + suc rest ≡ n = omega arith in
      let less : n - 1 ≡ at + rest = omega arith in
      let ws = width-some form 0 in
      let fw = few w n (omega arith) (omega arith) in
      let fits' : 16 + w * count_of bytes ≤ 4096 = subst (λ (k : ℕ). 16 + w * k ≤ 4096) n-is fits in
      let lb : length b ≡ w * n = length-take-le (w * n) (drop 16 bytes) (omega (arith, length-drop 16 bytes)) in
      let l : length b ≡ w * (at + suc rest) = lb ∙ ap (λ (k : ℕ). w * k) (sym sum) in
      let len : length (without_cell w at b) ≡ w * (n - 1) = length-without w at rest b l ∙ ap (λ (k : ℕ). w * k) (sym less) in
      let fewer = mul-le-mul_left {m = n - 1} {n = n} w (omega arith) in
      let whole : rows_of form n b ≡ rows_in form bytes = subst (λ (k : ℕ). rows_of form k (cells_in w k bytes) ≡ rows_in form bytes) (sym n-is) (cells-rows form bytes (omega arith)) in
      let are : rows_of form (n - 1) (without_cell w at b) ≡ take at (rows_in form bytes) ++ drop (suc at) (rows_in form bytes) =
      ap (λ (k : ℕ). rows_of form k (without_cell w at b)) less ∙ rows-without form at rest b l
      ∙ ap (λ (k : ℕ). take at (rows_of form k b) ++ drop (suc at) (rows_of form k b)) sum
      ∙ ap (λ (x : List Row). take at x ++ drop (suc at) x) whole in
      let made' : new ≡ with_page page (image form.map 1 0 (n - 1) (without_cell w at b)) old = written ∙ ap (λ (x : List ℕ). with_page page x old) made-is in
      let became = written-becomes form (n - 1) old new count first count' first' 0 page low high (n - 1) free (without_cell w at b) made' e f (omega arith) (omega arith) (omega arith) len (omega arith)
      (subst (λ (x : List Row). IsWithin low high x) (sym are) without-within) supplied (λ k. let o = once k in omega arith) in
      record {
        there = was-there;
        some = λ _. becomes-as (λ k. omega arith) (are ∙ sym without-at) became;
        bytes_are = λ _. sym (ap (λ (p : PageMap). p page) written ∙ with-same old made page);
        none = λ z. absurd (omega arith);
      }
