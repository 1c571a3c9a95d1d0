-- Cells without one of them, and with another key at one.
use Rattle.std.proofs.Common.{◌≡◌, ℕ, zero, suc, ◌+◌, ◌*◌, ◌<◌, ◌≤◌, List, [], ◌∷◌, ◌++◌, length, take, drop, map, arith, refl, sym, ap, ◌∙◌}
use Rattle.std.specs.List.{take-map, drop-map}
use Rattle.std.proofs.lemmas.List.{map-append, drop-drop, take-take, take-append-le, length-take-le, length-append, length-drop}
use Rattle.std.proofs.Math.Nat.{mul-le-mul_left, mul-suc}
use Rattle.page_face.specs.Number.{number}
use Rattle.page_face.specs.Cells.{chop}
use Rattle.btree_nodes.proofs.Chops.{chop-append, chop-front, chop-back}
use Rattle.btree_nodes.proofs.Cells.{anew-entries}
use Rattle.btree_nodes.specs.declared.form.Form.{Form}
use Rattle.btree_nodes.specs.Rows.{Row}
use Rattle.btree_nodes.specs.Nodes.{Entry, row_of, entry_of, rows_of, entries_of}
use Rattle.btree_nodes.specs.Tree.{with_low}
use Rattle.btree_delete.specs.Body.{without_cell, with_key}

-- the cells without one
pub chop-without : (width at rest : ℕ) (bytes : List ℕ) → length bytes ≡ width * (at + suc rest)
    → chop width (at + rest) (without_cell width at bytes) ≡ take at (chop width (at + suc rest) bytes) ++ drop (suc at) (chop width (at + suc rest) bytes)
chop-without width at rest bytes whole =
    let m = mul-le-mul_left {m = at} {n = at + suc rest} width (omega arith) in
    let p = mul-le-mul_left {m = suc at} {n = at + suc rest} width (omega arith) in
    let l = length-take-le (width * at) bytes (omega arith) in
    let sum : suc at + rest ≡ at + suc rest = omega arith in
    let up : width * at + width ≡ width * suc at = omega (arith, mul-suc width at) in
    chop-append width at rest (take (width * at) bytes) (drop (width * at + width) bytes) l
    ∙ ap (λ (x : List (List ℕ)). x ++ chop width rest (drop (width * at + width) bytes)) (sym (chop-front width at (suc rest) bytes (omega arith)))
    ∙ ap (λ (k : ℕ). take at (chop width (at + suc rest) bytes) ++ chop width rest (drop k bytes)) up
    ∙ ap (λ (x : List (List ℕ)). take at (chop width (at + suc rest) bytes) ++ x) (sym (chop-back width (suc at) rest bytes (omega arith)) ∙ ap (λ (n : ℕ). drop (suc at) (chop width n bytes)) sum)

pub length-without : (width at rest : ℕ) (bytes : List ℕ) → length bytes ≡ width * (at + suc rest) → length (without_cell width at bytes) ≡ width * (at + rest)
length-without width at rest bytes whole =
    let m = mul-le-mul_left {m = at} {n = at + suc rest} width (omega arith) in
    let s = mul-suc width at in
    let t = mul-suc width rest in
    omega (arith, length-append (take (width * at) bytes) (drop (width * at + width) bytes), length-take-le (width * at) bytes (omega arith), length-drop (width * at + width) bytes)

pub rows-without : (form : Form) (at rest : ℕ) (bytes : List ℕ) → length bytes ≡ (form.key + form.value) * (at + suc rest)
    → rows_of form (at + rest) (without_cell (form.key + form.value) at bytes) ≡ take at (rows_of form (at + suc rest) bytes) ++ drop (suc at) (rows_of form (at + suc rest) bytes)
rows-without form at rest bytes whole =
    let all : List (List ℕ) = chop (form.key + form.value) (at + suc rest) bytes in
    ap (map (row_of form.key)) (chop-without (form.key + form.value) at rest bytes whole)
    ∙ map-append (row_of form.key) (take at all) (drop (suc at) all)
    ∙ ap (λ (x : List Row). x ++ map (row_of form.key) (drop (suc at) all)) (sym (take-map (row_of form.key) at all))
    ∙ ap (λ (x : List Row). take at (rows_of form (at + suc rest) bytes) ++ x) (sym (drop-map (row_of form.key) (suc at) all))

pub entries-without : (form : Form) (at rest : ℕ) (bytes : List ℕ) → length bytes ≡ (form.key + 4) * (at + suc rest)
    → entries_of form (at + rest) (without_cell (form.key + 4) at bytes) ≡ take at (entries_of form (at + suc rest) bytes) ++ drop (suc at) (entries_of form (at + suc rest) bytes)
entries-without form at rest bytes whole =
    let all : List (List ℕ) = chop (form.key + 4) (at + suc rest) bytes in
    ap (map (entry_of form.key)) (chop-without (form.key + 4) at rest bytes whole)
    ∙ map-append (entry_of form.key) (take at all) (drop (suc at) all)
    ∙ ap (λ (x : List Entry). x ++ map (entry_of form.key) (drop (suc at) all)) (sym (take-map (entry_of form.key) at all))
    ∙ ap (λ (x : List Entry). take at (entries_of form (at + suc rest) bytes) ++ x) (sym (drop-map (entry_of form.key) (suc at) all))

pub length-with : (width at rest : ℕ) (key bytes : List ℕ) → length bytes ≡ width * (at + suc rest) → length key ≤ width → length (with_key width at key bytes) ≡ width * (at + suc rest)
length-with width at rest key bytes whole short =
    let m = mul-le-mul_left {m = suc at} {n = at + suc rest} width (omega arith) in
    let s = mul-suc width at in
    omega (arith, length-append (take (width * at) bytes) (key ++ drop (width * at + length key) bytes), length-append key (drop (width * at + length key) bytes), length-take-le (width * at) bytes (omega arith), length-drop (width * at + length key) bytes)

-- the entries with another key at one
pub entries-with : (form : Form) (at rest : ℕ) (key bytes : List ℕ) → length bytes ≡ (form.key + 4) * (at + suc rest) → length key ≡ form.key
    → entries_of form (at + suc rest) (with_key (form.key + 4) at key bytes) ≡ take at (entries_of form (at + suc rest) bytes) ++ with_low (number key) (drop at (entries_of form (at + suc rest) bytes))
entries-with form at rest key bytes whole lk =
    let w : ℕ = form.key + 4 in
    let all : List (List ℕ) = chop w (at + suc rest) bytes in
    let a : List ℕ = take (w * at) bytes in
    let b : List ℕ = drop (w * at) bytes in
    let m = mul-le-mul_left {m = at} {n = at + suc rest} w (omega arith) in
    let la : length a ≡ w * at = length-take-le (w * at) bytes (omega arith) in
    let lb : length b ≡ w * suc rest = omega (arith, length-drop (w * at) bytes) in
    let same : with_key w at key bytes ≡ a ++ (key ++ drop form.key b) = ap (λ (n : ℕ). a ++ (key ++ drop (w * at + n) bytes)) lk ∙ ap (λ (x : List ℕ). a ++ (key ++ x)) (sym (drop-drop form.key (w * at) bytes)) in
    let front : entries_of form at a ≡ take at (entries_of form (at + suc rest) bytes) =
    ap (map (entry_of form.key)) (sym (chop-front w at (suc rest) bytes (omega arith))) ∙ sym (take-map (entry_of form.key) at all) in
    let back : entries_of form (suc rest) b ≡ drop at (entries_of form (at + suc rest) bytes) =
    ap (map (entry_of form.key)) (sym (chop-back w at (suc rest) bytes (omega arith))) ∙ sym (drop-map (entry_of form.key) at all) in
    ap (entries_of form (at + suc rest)) same
    ∙ ap (map (entry_of form.key)) (chop-append w at (suc rest) a (key ++ drop form.key b) la)
    ∙ map-append (entry_of form.key) (chop w at a) (chop w (suc rest) (key ++ drop form.key b))
    ∙ ap (λ (x : List Entry). x ++ entries_of form (suc rest) (key ++ drop form.key b)) front
    ∙ ap (λ (x : List Entry). take at (entries_of form (at + suc rest) bytes) ++ x) (anew-entries form rest key b (omega arith) lk ∙ ap (with_low (number key)) back)

-- the first key stays where a later cell changes
pub first-stays : (form : Form) (at : ℕ) (bytes more : List ℕ) → 0 < at → (form.key + 4) * at ≤ length bytes → number (take form.key bytes) ≡ 0 → number (take form.key (take ((form.key + 4) * at) bytes ++ more)) ≡ 0
first-stays form at bytes more some long first =
    let a = mul-le-mul_left {m = 1} {n = at} (form.key + 4) some in
    let l = length-take-le ((form.key + 4) * at) bytes long in
    ap number (take-append-le form.key (take ((form.key + 4) * at) bytes) more (omega arith) ∙ take-take form.key ((form.key + 4) * at) bytes (omega arith)) ∙ first

-- the bound for the first key, where a later entry changes
pub with_low-take : (low : ℕ) (es ys : List Entry) (at : ℕ) → 0 < at → at ≤ length es → with_low low (take at es ++ ys) ≡ take at (with_low low es) ++ ys
with_low-take low [] ys at some l = absurd (omega arith)
with_low-take low (e ∷ es) ys zero some l = absurd (omega arith)
with_low-take low (e ∷ es) ys (suc at) some l = refl

pub drop-low : (low : ℕ) (es : List Entry) (at : ℕ) → 0 < at → drop at (with_low low es) ≡ drop at es
drop-low low es zero some = absurd (omega arith)
drop-low low [] (suc at) some = refl
drop-low low (e ∷ es) (suc at) some = refl
