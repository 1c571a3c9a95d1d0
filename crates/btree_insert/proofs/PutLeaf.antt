-- A row that is put into a leaf's cells.
use Rattle.std.proofs.Common.{◌≡◌, ℕ, ◌+◌, ◌-◌, ◌*◌, ◌<◌, ◌≤◌, ◌⊎◌, inl, inr, List, ◌∷◌, ◌++◌, length, get_or, take, drop, map, arith, sym, ap, ◌∙◌, subst, ⊎_elim, true, false, nat_eq}
use Rattle.std.proofs.Math.Nat.{mul-suc}
use Rattle.std.specs.Option.{is_some}
use Rattle.std.proofs.lemmas.Bool.Decides.{nat_tests}
use Rattle.std.proofs.lemmas.Bool.{cases_eq}
use Rattle.std.specs.List.{take-map, drop-map}
use Rattle.std.proofs.lemmas.List.{take-append-drop, drop_more, length-take-le, length-append, length-drop, map-append, take_all, take_at, drop_at}
use Rattle.page_face.specs.Number.{number}
use Rattle.page_face.specs.Cells.{chop, cells, IsPlace, key_at}
use Rattle.btree_nodes.proofs.Chops.{chop-splice, chop-front, length-chop}
use Rattle.btree_nodes.specs.declared.form.Form.{Form}
use Rattle.btree_nodes.specs.Rows.{Row, IsWithin, IsMade, lookup, put}
use Rattle.page_face.specs.Nodes.{count_of}
use Rattle.btree_nodes.specs.Nodes.{row_of, rows_in, rows_of}
use Rattle.btree_nodes.proofs.Spans.{no_row, within-append}
use Rattle.btree_nodes.proofs.Puts.{put-append_right, put-first, put-here}
use Rattle.btree_nodes.proofs.Finds.{front, back, beyond, found, missed}
use Rattle.btree_nodes.proofs.Spots.{length-rows_in, row-key}
use Rattle.btree_insert.proofs.Climbs.{up-one}

put-at : (low high key : ℕ) (value : List ℕ) (rows : List Row) (at gone : ℕ) → IsWithin low key (take at rows)
    → ((gone ≡ 0) × IsWithin (key + 1) high (drop at rows)) ⊎ ((gone ≡ 1) × (at < length rows) × ((get_or rows at no_row).0 ≡ key) × IsWithin key high (drop at rows))
    → IsMade low high (put key value) rows (take at rows ++ ((key, value) ∷ drop (at + gone) rows))
put-at low high key value rows at gone f (inl c) =
    let none : at + gone ≡ at = omega (arith, c.0) in
    let joined : put key value rows ≡ take at rows ++ put key value (drop at rows) =
    ap (put key value) (sym (take-append-drop at rows)) ∙ put-append_right low key key value (take at rows) (drop at rows) f (omega arith) in
    record {
      within = rw none (within-append low key high (take at rows) ((key, value) ∷ drop at rows) f (omega arith, c.1));
      is = rw none (sym (joined ∙ ap (λ (x : List Row). take at rows ++ x) (put-first (key + 1) high key value (drop at rows) c.1 (omega arith))));
    }
put-at low high key value rows at gone f (inr c) =
    let one : at + gone ≡ at + 1 = omega (arith, c.0) in
    let joined : put key value rows ≡ take at rows ++ put key value (drop at rows) =
    ap (put key value) (sym (take-append-drop at rows)) ∙ put-append_right low key key value (take at rows) (drop at rows) f (omega arith) in
    let more : drop at rows ≡ get_or rows at no_row ∷ drop (at + 1) rows = drop_more rows at no_row c.1 in
    let tail = subst (λ (x : List Row). IsWithin key high x) more c.3 in
    let rest : IsWithin (key + 1) high (drop (at + 1) rows) = subst (λ (k : ℕ). IsWithin (k + 1) high (drop (at + 1) rows)) c.2 tail.1 in
    record {
      within = rw one (within-append low key high (take at rows) ((key, value) ∷ drop (at + 1) rows) f (omega arith, rest));
      is = rw one (sym (joined ∙ ap (λ (x : List Row). take at rows ++ x) (ap (put key value) more ∙ put-here key value (get_or rows at no_row) (drop (at + 1) rows) c.2)));
    }

-- the cells have room for the new one
pub room-splice : (width count at gone out body both : ℕ) → gone ≤ 1 → at + gone ≤ count → out ≡ width * (count + 1 - gone) → body ≡ width * count → both ≡ width
    → out + (width * (at + gone) - width * at) ≡ body + both
room-splice width count at gone out body both small inside o b w =
    let more : width * (count + 1) ≡ width * count + width = ap (λ (n : ℕ). width * n) (up-one count) ∙ mul-suc width count in
    let next : width * (at + 1) ≡ width * at + width = ap (λ (n : ℕ). width * n) (up-one at) ∙ mul-suc width at in
    ⊎_elim
    (λ (e : gone ≡ 1).
    let f : width * (count + 1 - gone) ≡ width * count = ap (λ (n : ℕ). width * n) (omega arith) in
    let h : width * (at + gone) ≡ width * (at + 1) = ap (λ (n : ℕ). width * (at + n)) e in
    omega arith)
    (λ (n : gone ≡ 1 → ⊥).
    let f : width * (count + 1 - gone) ≡ width * (count + 1) = ap (λ (k : ℕ). width * k) (omega arith) in
    let h : width * (at + gone) ≡ width * at = ap (λ (k : ℕ). width * k) (omega arith) in
    omega arith)
    (cases_eq gone 1)

-- the cells of a page alone
pub chop-body : (width count : ℕ) (page : List ℕ) → 16 + width * count ≤ length page → chop width count (take (width * count) (drop 16 page)) ≡ cells width count page
chop-body width count page h =
    sym (chop-front width count 0 (drop 16 page) (omega (arith, length-drop 16 page)))
    ∙ ap (λ (n : ℕ). take count (chop width n (drop 16 page))) (omega arith)
    ∙ take_all count (chop width count (drop 16 page)) (omega (arith, length-chop width count (drop 16 page)))

rows_split : (form : Form) (page key value : List ℕ) (at until : ℕ) → length key ≡ form.key
    → map (row_of form.key) (take at (cells (form.key + form.value) (count_of page) page) ++ ((key ++ value) ∷ drop until (cells (form.key + form.value) (count_of page) page)))
    ≡ take at (rows_in form page) ++ ((number key, value) ∷ drop until (rows_in form page))
unfolding rows_in
rows_split form page key value at until lk =
    let all : List (List ℕ) = cells (form.key + form.value) (count_of page) page in
    let row : row_of form.key (key ++ value) ≡ (number key, value) =
    ap (λ (k : List ℕ). (number k, drop form.key (key ++ value))) (take_at key value form.key lk) ∙ ap (λ (v : List ℕ). (number key, v)) (drop_at key value form.key lk) in
    map-append (row_of form.key) (take at all) ((key ++ value) ∷ drop until all)
    ∙ ap (λ (x : List Row). x ++ map (row_of form.key) ((key ++ value) ∷ drop until all)) (sym (take-map (row_of form.key) at all))
    ∙ ap (λ (x : List Row). take at (map (row_of form.key) all) ++ (row_of form.key (key ++ value) ∷ x)) (sym (drop-map (row_of form.key) until all))
    ∙ ap (λ (x : Row). take at (map (row_of form.key) all) ++ (x ∷ drop until (map (row_of form.key) all))) row

pub put_cells : (form : Form) (page key value : List ℕ) (low high at gone total : ℕ) → length page ≡ 4096 → 16 + (form.key + form.value) * count_of page ≤ 4096
    → length key ≡ form.key → length value ≡ form.value → IsPlace form.key (form.key + form.value) (count_of page) page (number key) at
    → IsWithin low high (rows_in form page) → low ≤ number key → number key < high
    → (gone ≡ 1 → (at < count_of page) × (key_at form.key (form.key + form.value) page at ≡ number key))
    → ((gone ≡ 1 → ⊥) → at < count_of page → key_at form.key (form.key + form.value) page at ≡ number key → ⊥) → gone ≤ 1 → total ≡ count_of page + 1 - gone
    → IsMade low high (put (number key) value) (rows_in form page)
    (rows_of form total (take ((form.key + form.value) * at) (take ((form.key + form.value) * count_of page) (drop 16 page)) ++ ((key ++ value) ++ drop ((form.key + form.value) * (at + gone)) (take ((form.key + form.value) * count_of page) (drop 16 page)))))
put_cells form page key value low high at gone total size fits lk lv place within from to some none small is =
    let w : ℕ = form.key + form.value in
    let body : List ℕ = take (w * count_of page) (drop 16 page) in
    let made : List ℕ = take (w * at) body ++ ((key ++ value) ++ drop (w * (at + gone)) body) in
    let inside : at + gone ≤ count_of page = ⊎_elim (λ e. let s = some e in let b = s.0 in omega arith) (λ n. let p = place.within in omega arith) (cases_eq gone 1) in
    let rest : ℕ = count_of page - at - gone in
    let sum : at + gone + rest ≡ count_of page = omega arith in
    let new : at + (1 + rest) ≡ total = omega arith in
    let long : length body ≡ w * count_of page = length-take-le (w * count_of page) (drop 16 page) (omega (arith, length-drop 16 page)) in
    let spliced : chop w total made ≡ take at (cells w (count_of page) page) ++ ((key ++ value) ∷ drop (at + gone) (cells w (count_of page) page)) =
    ap (λ (n : ℕ). chop w n made) (sym new)
    ∙ chop-splice w at gone rest body (key ++ value) (long ∙ ap (λ (n : ℕ). w * n) (sym sum)) (omega (arith, length-append key value))
    ∙ ap (λ (n : ℕ). take at (chop w n body) ++ ((key ++ value) ∷ drop (at + gone) (chop w n body))) sum
    ∙ ap (λ (x : List (List ℕ)). take at x ++ ((key ++ value) ∷ drop (at + gone) x)) (chop-body w (count_of page) page (omega arith)) in
    let rows : rows_of form total made ≡ take at (rows_in form page) ++ ((number key, value) ∷ drop (at + gone) (rows_in form page)) =
    ap (map (row_of form.key)) spliced ∙ rows_split form page key value at (at + gone) lk in
    let whole = put-at low high (number key) value (rows_in form page) at gone (front form page low high (number key) at place within from to)
    (⊎_elim (λ e. let s = some e in inr (e, omega (arith, length-rows_in form page, s.0), row-key form page at s.0 ∙ s.1, back form page low high (number key) at place within from to))
    (λ n. inl (omega arith, beyond form page low high (number key) at place within from to (none n))) (cases_eq gone 1)) in
    subst (λ (x : List Row). IsMade low high (put (number key) value) (rows_in form page) x) (sym rows) whole

-- whether the key was there
pub put-had : (form : Form) (page : List ℕ) (low high key at gone : ℕ) → IsPlace form.key (form.key + form.value) (count_of page) page key at → IsWithin low high (rows_in form page) → low ≤ key → key < high
    → (gone ≡ 1 → (at < count_of page) × (key_at form.key (form.key + form.value) page at ≡ key))
    → ((gone ≡ 1 → ⊥) → at < count_of page → key_at form.key (form.key + form.value) page at ≡ key → ⊥) → nat_eq gone 1 ≡ is_some (lookup key (rows_in form page))
put-had form page low high key at gone place within from to some none =
    ⊎_elim
    (λ (e : gone ≡ 1). let s = some e in
    let t : nat_eq gone 1 ≡ true = grind (arith, nat_tests) in
    t ∙ ap is_some (sym (found form page low high key at place within from to s.0 s.1)))
    (λ (n : gone ≡ 1 → ⊥).
    let t : nat_eq gone 1 ≡ false = grind (arith, nat_tests) in
    t ∙ ap is_some (sym (missed form page low high key at place within from to (none n))))
    (cases_eq gone 1)
