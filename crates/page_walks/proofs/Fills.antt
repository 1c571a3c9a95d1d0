-- Pages that are half full.
use Rattle.std.proofs.Common.{◌≡◌, ℕ, zero, suc, ◌+◌, ◌*◌, ◌/◌, ◌^◌, ◌≤◌, List, [], ◌∷◌, length, arith, ap, ◌∙◌}
use Rattle.std.proofs.Math.Nat.{mul-le-mul_left, mul-add, mul-suc, mul-one, mul-zero}
use Rattle.std.proofs.lemmas.Nat.{le-div}
use Rattle.std.proofs.lemmas.List.{length-append}
use Rattle.std.specs.List.{flat_map}
use Rattle.page_face.specs.FreeList.{PageMap}
use Rattle.page_face.specs.Nodes.{count_of}
use Rattle.btree_nodes.specs.declared.form.Form.{Form}
use Rattle.btree_nodes.specs.Rows.{Row}
use Rattle.btree_nodes.specs.Nodes.{Entry, entries_in, half_of, half_of_width, least_of_root}
use Rattle.btree_nodes.specs.Tree.{total, rows_at, with_low, next_key, IsFan, IsTree, IsMap, map_rows, level_of}
use Rattle.btree_nodes.proofs.Fans.{with_low-rows, length-with_low}
use Rattle.btree_nodes.proofs.Frames.{with_low-total}
use Rattle.btree_nodes.proofs.Spots.{length-rows_in, length-entries_in}
use Rattle.page_walks.specs.Sizes.{tree_size, map_size}

-- half of a leaf is at least two rows
pub leaf-half : (form : Form) → 2 ≤ half_of form 0
unfolding half_of_width
leaf-half form =
    let a = form.some in
    let b = form.fits in
    let q : 4 ≤ 4080 / (form.key + form.value) = le-div 4 4080 (form.key + form.value) (omega arith) (omega arith) in
    omega arith

-- half of an inner page is at least seven entries
pub inner-half : (form : Form) (level : ℕ) → 7 ≤ half_of form (suc level)
unfolding half_of_width
inner-half form level =
    let b = form.short in
    let q : 15 ≤ 4080 / (form.key + 4) = le-div 15 4080 (form.key + 4) (omega arith) (omega arith) in
    omega arith

-- the rows below entries, each child's at least so many
fan-fill : (h : ℕ) (S : ℕ → ℕ) (R : ℕ → List Row) (P : ℕ → ℕ → ℕ → Type 0) (low high : ℕ) (es : List Entry) → ((c a b : ℕ) → P c a b → 6 * (h * S c) + h ≤ 7 * length (R c)) → IsFan P low high es
    → 6 * (h * total S es) + h * length es ≤ 7 * length (flat_map (λ (e : Entry). R e.1) es)
fan-fill h S R P low high [] each fan = let z = mul-zero h in omega arith
fan-fill h S R P low high (e ∷ es) each fan =
    let i = fan-fill h S R P (next_key high es) high es each fan.3 in
    let one = each e.1 low (next_key high es) fan.2 in
    let l = length-append (R e.1) (flat_map (λ (f : Entry). R f.1) es) in
    let m = mul-add h (S e.1) (total S es) in
    let k = mul-suc h (length es) in
    omega arith

module _ (h : ℕ) (form : Form) (pages : PageMap) where
  -- what a tree's rows are at least, for its pages
  abbrev pub IsFilled : ℕ → ℕ → Type 0
  IsFilled level page = 6 * (h * tree_size form pages level page) + h ≤ 7 * length (rows_at form pages level page)

  -- a tree over filled ones, with so many entries at its top
  pub top-fill : (least level page low high : ℕ) → ((c a b : ℕ) → IsTree form (half_of form level) pages level c a b → IsFilled level c) → IsTree form least pages (suc level) page low high
      → 6 * (h * tree_size form pages (suc level) page) + h * least ≤ 7 * length (rows_at form pages (suc level) page) + 6 * h
  top-fill least level page low high each tree =
      let es : List Entry = entries_in form (pages page) in
      let S : ℕ → ℕ = tree_size form pages level in
      let f = fan-fill h S (rows_at form pages level) (IsTree form (half_of form level) pages level) low high (with_low low es) each tree.1 in
      let t : total S (with_low low es) ≡ total S es = with_low-total S low es in
      let r : length (flat_map (λ (e : Entry). rows_at form pages level e.1) (with_low low es)) ≡ length (flat_map (λ (e : Entry). rows_at form pages level e.1) es) = ap length (with_low-rows (rows_at form pages level) low es) in
      let l : length (with_low low es) ≡ count_of (pages page) = length-with_low low es ∙ length-entries_in form (pages page) in
      let ht = ap (λ (k : ℕ). h * k) t in
      let hl = ap (λ (k : ℕ). h * k) l in
      let c = tree.0.node.fill in
      let m = mul-le-mul_left {m = least} {n = count_of (pages page)} h c in
      let a = mul-suc h (total S es) in
      omega arith

  -- the pages of a tree whose top has as many cells as a page that isn't a root
  pub tree-fill : h ≤ half_of form 0 → (least level page low high : ℕ) → half_of form level ≤ least → IsTree form least pages level page low high → IsFilled level page
  tree-fill small least zero page low high full tree = let o = mul-one h in let l = length-rows_in form (pages page) in let f = tree.0.fill in omega arith
  tree-fill small least (suc level) page low high full tree =
      let t = top-fill least level page low high (λ c a b s. tree-fill small (half_of form level) level c a b (omega arith) s) tree in
      let s = inner-half form level in
      let m = mul-le-mul_left {m = 7} {n = least} h (omega arith) in
      omega arith

-- the pages of a tree with a root's cells at its top
root-fill : (h : ℕ) (form : Form) (pages : PageMap) (level page low high : ℕ) → h ≤ half_of form 0 → IsTree form (least_of_root level) pages level page low high
    → 6 * (h * tree_size form pages level page) ≤ 7 * length (rows_at form pages level page) + 6 * h
root-fill h form pages zero page low high small tree = let o = mul-one h in omega arith
root-fill h form pages (suc level) page low high small tree =
    let t = top-fill h form pages 2 level page low high (λ c a b s. tree-fill h form pages small (half_of form level) level c a b (omega arith) s) tree in
    omega arith

-- they are at most as many as its rows
root-few : (form : Form) (pages : PageMap) (level page low high : ℕ) → IsTree form (least_of_root level) pages level page low high → tree_size form pages level page ≤ length (rows_at form pages level page)
root-few form pages zero page low high tree = let l = length-rows_in form (pages page) in let f = tree.0.fill in omega arith
root-few form pages (suc level) page low high tree =
    let t = top-fill 2 form pages 2 level page low high (λ c a b s. tree-fill 2 form pages (leaf-half form) (half_of form level) level c a b (omega arith) s) tree in
    omega arith

-- so are those of a map
pub map-few : (form : Form) (pages : PageMap) (root : ℕ) → IsMap form pages root → map_size form pages root ≤ length (map_rows form pages root)
map-few form pages zero map = omega arith
map-few form pages (suc n) map = root-few form pages (level_of (pages (suc n))) (suc n) 0 (256 ^ form.key) map

-- and they are half full
pub map-full : (form : Form) (pages : PageMap) (root : ℕ) → IsMap form pages root → 6 * (half_of form 0 * map_size form pages root) ≤ 7 * length (map_rows form pages root) + 6 * half_of form 0
map-full form pages zero map = let z = mul-zero (half_of form 0) in omega arith
map-full form pages (suc n) map = root-fill (half_of form 0) form pages (level_of (pages (suc n))) (suc n) 0 (256 ^ form.key) (omega arith) map
