-- An entry that is put into an inner page's cells.
use Rattle.std.proofs.Common.{◌≡◌, ℕ, suc, ◌+◌, ◌-◌, ◌*◌, ◌^◌, ◌<◌, ◌≤◌, List, [], ◌∷◌, ◌++◌, length, take, drop, map, arith, refl, sym, ap, ◌∙◌}
use Rattle.std.specs.List.{take-map, drop-map}
use Rattle.std.specs.Int.{from_be_bytes, to_be_bytes, w32}
use Rattle.std.proofs.lemmas.List.{map-append, take_at, drop_at, take-take, take-append-le, length-take-le, length-append, length-map}
use Rattle.std.proofs.lemmas.Nat.{from_be_bytes-to_be_bytes_4}
use Rattle.std.proofs.Math.Nat.{mul-le-mul_left, mul-zero}
use Rattle.page_face.specs.Number.{number}
use Rattle.page_face.specs.Cells.{chop, cells, key_at}
use Rattle.btree_nodes.proofs.Chops.{chop-splice, length-chop}
use Rattle.btree_nodes.specs.declared.form.Form.{Form}
use Rattle.page_face.specs.Nodes.{count_of}
use Rattle.btree_nodes.specs.Nodes.{Entry, entries_in, entry_of, entries_of}
use Rattle.btree_nodes.specs.Tree.{with_low}
use Rattle.btree_nodes.specs.Store.{linked}
use Rattle.btree_insert.proofs.PutLeaf.{chop-body}

with_low-put : (low : ℕ) (es : List Entry) (at : ℕ) (x : Entry) → at < length es → with_low low (take (suc at) es ++ (x ∷ drop (suc at) es)) ≡ take (suc at) (with_low low es) ++ (x ∷ drop (suc at) (with_low low es))
with_low-put low [] at x h = absurd (omega arith)
with_low-put low (e ∷ es) at x h = refl

pub linked-cells : (form : Form) (old middle be : List ℕ) (low count at right : ℕ) (es : List Entry) → length old ≡ (form.key + 4) * count → length middle ≡ form.key → be ≡ to_be_bytes w32 right → right < 2 ^ 32 → at < count
    → entries_of form count old ≡ es
    → with_low low (entries_of form (count + 1) (take ((form.key + 4) * (at + 1)) old ++ ((middle ++ be) ++ drop ((form.key + 4) * (at + 1)) old))) ≡ linked low es at right (number middle)
linked-cells form old middle be low count at right es whole lm eb small within is =
    let w : ℕ = form.key + 4 in
    let made : List ℕ = take (w * (at + 1)) old ++ ((middle ++ be) ++ drop (w * (at + 1)) old) in
    let rest : ℕ = count - at - 1 in
    let sum : at + 1 + 0 + rest ≡ count = omega arith in
    let new : at + 1 + (1 + rest) ≡ count + 1 = omega arith in
    let none : at + 1 + 0 ≡ suc at = omega arith in
    let up : at + 1 ≡ suc at = omega arith in
    let plus : at + 1 ≡ at + 1 + 0 = omega arith in
    let all : List (List ℕ) = chop w count old in
    let lb : length be ≡ 4 = ap length eb in
    let spliced : chop w (count + 1) made ≡ take (suc at) all ++ ((middle ++ be) ∷ drop (suc at) all) =
    ap (λ (n : ℕ). chop w n made) (sym new)
    ∙ ap (λ (n : ℕ). chop w (at + 1 + (1 + rest)) (take (w * (at + 1)) old ++ ((middle ++ be) ++ drop (w * n) old))) plus
    ∙ chop-splice w (at + 1) 0 rest old (middle ++ be) (whole ∙ ap (λ (n : ℕ). w * n) (sym sum)) (omega (arith, length-append middle be))
    ∙ ap (λ (n : ℕ). take (at + 1) (chop w n old) ++ ((middle ++ be) ∷ drop (at + 1 + 0) (chop w n old))) sum
    ∙ ap (λ (n : ℕ). take n all ++ ((middle ++ be) ∷ drop (at + 1 + 0) all)) up
    ∙ ap (λ (n : ℕ). take (suc at) all ++ ((middle ++ be) ∷ drop n all)) none in
    let entry : entry_of form.key (middle ++ be) ≡ (number middle, right) =
    ap (λ (k : List ℕ). (number k, from_be_bytes w32 (drop form.key (middle ++ be)))) (take_at middle be form.key lm)
    ∙ ap (λ (v : List ℕ). (number middle, from_be_bytes w32 v)) (drop_at middle be form.key lm ∙ eb)
    ∙ ap (λ (r : ℕ). (number middle, r)) (from_be_bytes-to_be_bytes_4 right small) in
    let long : length es ≡ count = ap length (sym is) ∙ length-map all (entry_of form.key) ∙ length-chop w count old in
    let whole_list : entries_of form (count + 1) made ≡ take (suc at) es ++ ((number middle, right) ∷ drop (suc at) es) =
    ap (map (entry_of form.key)) spliced
    ∙ map-append (entry_of form.key) (take (suc at) all) ((middle ++ be) ∷ drop (suc at) all)
    ∙ ap (λ (x : List Entry). x ++ map (entry_of form.key) ((middle ++ be) ∷ drop (suc at) all)) (sym (take-map (entry_of form.key) (suc at) all))
    ∙ ap (λ (x : List Entry). take (suc at) (map (entry_of form.key) all) ++ (entry_of form.key (middle ++ be) ∷ x)) (sym (drop-map (entry_of form.key) (suc at) all))
    ∙ ap (λ (x : Entry). take (suc at) (map (entry_of form.key) all) ++ (x ∷ drop (suc at) (map (entry_of form.key) all))) entry
    ∙ ap (λ (x : List Entry). take (suc at) x ++ ((number middle, right) ∷ drop (suc at) x)) is in
    ap (with_low low) whole_list ∙ with_low-put low es at (number middle, right) (omega arith)

pub linked-first : (form : Form) (old more : List ℕ) (count at : ℕ) → length old ≡ (form.key + 4) * count → at < count → number (take form.key old) ≡ 0
    → number (take form.key (take ((form.key + 4) * (at + 1)) old ++ more)) ≡ 0
linked-first form old more count at whole within first =
    let w : ℕ = form.key + 4 in
    let a = mul-le-mul_left {m = 1} {n = at + 1} w (omega arith) in
    let b = mul-le-mul_left {m = at + 1} {n = count} w (omega arith) in
    let l = length-take-le (w * (at + 1)) old (omega arith) in
    ap number (take-append-le form.key (take (w * (at + 1)) old) more (omega arith) ∙ take-take form.key (w * (at + 1)) old (omega arith)) ∙ first

pub body-entries : (form : Form) (page : List ℕ) (count : ℕ) → count ≡ count_of page → 16 + (form.key + 4) * count ≤ length page → entries_of form count (take ((form.key + 4) * count) (drop 16 page)) ≡ entries_in form page
unfolding entries_in
body-entries form page count e fits = ap (map (entry_of form.key)) (chop-body (form.key + 4) count page fits) ∙ ap (λ (n : ℕ). map (entry_of form.key) (cells (form.key + 4) n page)) e

pub body-first : (form : Form) (page : List ℕ) (count : ℕ) → 0 < count → key_at form.key (form.key + 4) page 0 ≡ 0 → number (take form.key (take ((form.key + 4) * count) (drop 16 page))) ≡ 0
body-first form page count some first =
    let a = mul-le-mul_left {m = 1} {n = count} (form.key + 4) some in
    let from : 16 ≡ 16 + (form.key + 4) * 0 = omega (arith, mul-zero (form.key + 4)) in
    ap number (take-take form.key ((form.key + 4) * count) (drop 16 page) (omega arith)) ∙ ap (λ (k : ℕ). number (take form.key (drop k page))) from ∙ first
