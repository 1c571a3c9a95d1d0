-- How high a tree is for its rows.
use Rattle.std.proofs.Common.{◌≡◌, ℕ, zero, suc, ◌*◌, ◌^◌, ◌<◌, ◌≤◌, List, [], ◌∷◌, length, arith, ap, ◌∙◌}
use Rattle.std.proofs.Math.Nat.{mul-le-mul_left, mul-suc, mul-zero, mul_assoc, pow-suc, pow-zero}
use Rattle.std.proofs.lemmas.List.{length-append}
use Rattle.std.specs.List.{flat_map}
use Rattle.page_face.specs.FreeList.{PageMap}
use Rattle.page_face.specs.Nodes.{count_of}
use Rattle.btree_nodes.specs.declared.form.Form.{Form}
use Rattle.btree_nodes.specs.Rows.{Row}
use Rattle.btree_nodes.specs.Nodes.{Entry, entries_in, half_of, least_of_root}
use Rattle.btree_nodes.specs.Tree.{rows_at, with_low, next_key, IsFan, IsTree, IsMap, map_rows, level_of}
use Rattle.btree_nodes.proofs.Fans.{with_low-rows, length-with_low}
use Rattle.btree_nodes.proofs.Spots.{length-rows_in, length-entries_in}
use Rattle.page_walks.proofs.Fills.{leaf-half, inner-half}

-- the rows below entries, each child's at least so many
fan-rows : (m : ℕ) (R : ℕ → List Row) (P : ℕ → ℕ → ℕ → Type 0) (low high : ℕ) (es : List Entry) → ((c a b : ℕ) → P c a b → m ≤ length (R c)) → IsFan P low high es
    → m * length es ≤ length (flat_map (λ (e : Entry). R e.1) es)
fan-rows m R P low high [] each fan = let z = mul-zero m in omega arith
fan-rows m R P low high (e ∷ es) each fan =
    let i = fan-rows m R P (next_key high es) high es each fan.3 in
    let one = each e.1 low (next_key high es) fan.2 in
    let l = length-append (R e.1) (flat_map (λ (f : Entry). R f.1) es) in
    let k = mul-suc m (length es) in
    omega arith

module _ (form : Form) (pages : PageMap) where
  -- those of a tree with so many entries at its top
  pub top-rows : (m least level page low high : ℕ) → ((c a b : ℕ) → IsTree form (half_of form level) pages level c a b → m ≤ length (rows_at form pages level c)) → IsTree form least pages (suc level) page low high
      → m * least ≤ length (rows_at form pages (suc level) page)
  top-rows m least level page low high each tree =
      let es : List Entry = entries_in form (pages page) in
      let f = fan-rows m (rows_at form pages level) (IsTree form (half_of form level) pages level) low high (with_low low es) each tree.1 in
      let r : length (flat_map (λ (e : Entry). rows_at form pages level e.1) (with_low low es)) ≡ length (flat_map (λ (e : Entry). rows_at form pages level e.1) es) = ap length (with_low-rows (rows_at form pages level) low es) in
      let l : length (with_low low es) ≡ count_of (pages page) = length-with_low low es ∙ length-entries_in form (pages page) in
      let hl = ap (λ (k : ℕ). m * k) l in
      let c = tree.0.node.fill in
      let a = mul-le-mul_left {m = least} {n = count_of (pages page)} m c in
      omega arith

  -- those of a tree whose top has as many cells as a page that isn't a root
  pub tree-rows : (b : ℕ) → b ≤ 7 → (level page low high : ℕ) → IsTree form (half_of form level) pages level page low high → 2 * b ^ level ≤ length (rows_at form pages level page)
  tree-rows b few zero page low high tree = let o = pow-zero b in let l = length-rows_in form (pages page) in let f = tree.0.fill in let s = leaf-half form in omega arith
  tree-rows b few (suc level) page low high tree =
      let t = top-rows (2 * b ^ level) (half_of form (suc level)) level page low high (tree-rows b few level) tree in
      let s = inner-half form level in
      let m = mul-le-mul_left {m = b} {n = half_of form (suc level)} (2 * b ^ level) (omega arith) in
      let a = mul_assoc 2 (b ^ level) b in
      let p = pow-suc b level in
      let q = ap (λ (k : ℕ). 2 * k) p in
      omega arith

-- those of a map
pub map-two : (form : Form) (pages : PageMap) (root : ℕ) → IsMap form pages root → 0 < root → 2 ^ level_of (pages root) ≤ length (map_rows form pages root)
map-two form pages zero map some = absurd (omega arith)
map-two form pages (suc n) map some = by (level_of (pages (suc n))) map
  where
    by : (level : ℕ) → IsTree form (least_of_root level) pages level (suc n) 0 (256 ^ form.key) → 2 ^ level ≤ length (rows_at form pages level (suc n))
    by zero tree = let l = length-rows_in form (pages (suc n)) in let f = tree.0.fill in omega arith
    by (suc level) tree =
        let t = top-rows form pages (2 * 2 ^ level) 2 level (suc n) 0 (256 ^ form.key) (tree-rows form pages 2 (omega arith) level) tree in
        let p = pow-suc 2 level in
        omega arith

pub map-seven : (form : Form) (pages : PageMap) (root : ℕ) → IsMap form pages root → 0 < root → 7 ^ level_of (pages root) ≤ 2 * length (map_rows form pages root)
map-seven form pages zero map some = absurd (omega arith)
map-seven form pages (suc n) map some = by (level_of (pages (suc n))) map
  where
    by : (level : ℕ) → IsTree form (least_of_root level) pages level (suc n) 0 (256 ^ form.key) → 7 ^ level ≤ 2 * length (rows_at form pages level (suc n))
    by zero tree = let l = length-rows_in form (pages (suc n)) in let f = tree.0.fill in omega arith
    by (suc level) tree =
        let t = top-rows form pages (2 * 7 ^ level) 2 level (suc n) 0 (256 ^ form.key) (tree-rows form pages 7 (omega arith) level) tree in
        let p = pow-suc 7 level in
        omega arith
