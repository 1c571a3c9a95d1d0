-- The root of a map: it is counted, and it is 0 where the map has no row.
use Rattle.std.proofs.Common.{◌≡◌, ℕ, zero, suc, ◌+◌, ◌<◌, ◌≤◌, ◌^◌, List, [], ◌∷◌, length, refl, arith}
use Rattle.std.proofs.lemmas.List.{length-append}
use Rattle.std.specs.List.{flat_map}
use Rattle.page_face.specs.FreeList.{PageMap}
use Rattle.btree_nodes.specs.declared.form.Form.{Form}
use Rattle.btree_nodes.specs.Nodes.{Entry, entries_in, half_of, least_of_root}
use Rattle.btree_nodes.specs.Rows.{IsWithin, Row}
use Rattle.btree_nodes.specs.Supply.{spare}
use Rattle.btree_nodes.specs.Tree.{IsFan, IsMap, IsTree, level_of, map_rows, map_uses, next_key, rows_at, with_low}
use Rattle.btree_nodes.proofs.Spots.{length-entries_in, length-rows_in}
use Rattle.btree_nodes.proofs.Trees.{tree-within}
use Rattle.store_model.proofs.Trees.{counted-from, root-used}

-- below the first entry of a fan there are rows, where there are below each entry
rows-fan : (P : ℕ → ℕ → ℕ → Type 0) (rows : ℕ → List Row) → ((child low high : ℕ) → P child low high → 0 < length (rows child)) → (low high : ℕ) (entries : List Entry) → 0 < length entries
    → IsFan P low high (with_low low entries) → 0 < length (flat_map (λ (e : Entry). rows e.1) entries)
rows-fan P rows some low high [] there fan = absurd (omega arith)
rows-fan P rows some low high (e ∷ entries) there fan =
    let here = some e.1 low (next_key high entries) fan.2 in
    omega (arith, here, length-append (rows e.1) (flat_map (λ (d : Entry). rows d.1) entries))

-- a tree has rows
rows-some : (form : Form) (least : ℕ) (pages : PageMap) (level page low high : ℕ) → IsTree form least pages level page low high → 0 < length (rows_at form pages level page)
rows-some form least pages zero page low high tree = let some = tree.0.some in omega (arith, some, length-rows_in form (pages page))
rows-some form least pages (suc level) page low high tree =
    let some = tree.0.node.some in
    rows-fan (IsTree form (half_of form level) pages level) (rows_at form pages level) (rows-some form (half_of form level) pages level) low high (entries_in form (pages page))
    (omega (arith, some, length-entries_in form (pages page))) tree.1

-- a map without rows has no page
pub root-none : (form : Form) (pages : PageMap) (root : ℕ) → IsMap form pages root → length (map_rows form pages root) ≡ 0 → root ≡ 0
root-none form pages zero tree none = refl
root-none form pages (suc n) tree none =
    let some = rows-some form (least_of_root (level_of (pages (suc n)))) pages (level_of (pages (suc n))) (suc n) 0 (256 ^ form.key) tree in
    absurd (omega (arith, some, none))

-- the root of a map whose pages can't be taken is counted
pub root-counted : (form : Form) (pages : PageMap) (root count : ℕ) (free : List ℕ) → 0 < count → map_uses form pages root root + spare free count root ≤ 1 → root < count
root-counted form pages zero count free some once = some
root-counted form pages (suc n) count free some once =
    let used = root-used form pages (suc n) (omega arith) in
    counted-from (suc n) count (omega (arith, used, once))

-- the rows of a map are within bounds
pub rows-within : (form : Form) (pages : PageMap) (root : ℕ) → IsMap form pages root → (high : ℕ) × IsWithin 0 high (map_rows form pages root)
rows-within form pages zero tree = (0, omega arith)
rows-within form pages (suc n) tree = (256 ^ form.key, tree-within form (least_of_root (level_of (pages (suc n)))) pages (level_of (pages (suc n))) (suc n) 0 (256 ^ form.key) tree)
