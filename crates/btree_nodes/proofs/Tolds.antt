-- Counted pages that stay told where pages are written, taken or given back.
use Rattle.std.proofs.Common.{◌≡◌, ℕ, zero, suc, ◌+◌, ◌<◌, ◌≤◌, ◌^◌, ⊎_elim, List, [], ◌∷◌, length, arith, sym, ap, ◌∙◌, subst, inl, inr}
use Rattle.std.proofs.lemmas.Bool.{cases_eq, cases_lt}
use Rattle.page_face.specs.FreeList.{PageMap, with_page, IsFreeList, IsFreePage, next_free}
use Rattle.btree_nodes.specs.Build.{image}
use Rattle.btree_nodes.specs.Damages.{AreReadable}
use Rattle.btree_nodes.specs.declared.form.Form.{Form}
use Rattle.btree_nodes.specs.Nodes.{Entry, entries_in, half_of, least_of_root}
use Rattle.btree_nodes.specs.Supply.{View, Moves, one_at, spare_in, times, uncounted}
use Rattle.btree_nodes.specs.Tree.{IsFan, IsMap, IsTree, level_of, map_uses, next_key, total, uses, with_low}
use Rattle.btree_nodes.proofs.Frames.{with_low-total}
use Rattle.btree_nodes.proofs.Supplies.{with-same, with-other, free-told, counted-none, one_at-is, uncounted-past}

-- a page that was made has bytes
pub image_told : (number kind level count : ℕ) (cells : List ℕ) → 0 < length (image number kind level count cells)
unfolding image
image_told number kind level count cells = omega arith

-- a page is written
pub told_written : (old new : PageMap) (bytes : List ℕ) (page count count' : ℕ) → new ≡ with_page page bytes old → count' ≡ count → 0 < length bytes → AreReadable old count → AreReadable new count'
told_written old new bytes page count count' e same long told n some few = elim (cases_eq n page) [
  | inl k ↦ let a : length (new n) ≡ length bytes = ap (λ (p : PageMap). length (p n)) e ∙ ap (λ (m : ℕ). length (with_page page bytes old m)) k ∙ ap length (with-same old bytes page) in omega arith
  | inr k ↦ let a : length (new n) ≡ length (old n) = ap (λ (p : PageMap). length (p n)) e ∙ ap length (with-other old bytes page n k) in let b = told n some (omega arith) in omega arith
]

-- a page is given back
pub told_given : (old new : PageMap) (page count count' : ℕ) → IsFreePage (new page) → ((n : ℕ) → (n ≡ page → ⊥) → new n ≡ old n) → count' ≡ count → AreReadable old count → AreReadable new count'
told_given old new page count count' free others same told n some few = elim (cases_eq n page) [
  | inl k ↦ let a : length (new n) ≡ length (new page) = ap (λ (m : ℕ). length (new m)) k in let b = free-told (new page) free in omega arith
  | inr k ↦ let a : length (new n) ≡ length (old n) = ap length (others n k) in let b = told n some (omega arith) in omega arith
]

fan-told : (P : ℕ → ℕ → ℕ → Type 0) (U : ℕ → ℕ → ℕ) (pages : PageMap) (each : (c a b : ℕ) → P c a b → (n : ℕ) → 0 < U c n → 0 < length (pages n))
    → (low high : ℕ) (es : List Entry) → IsFan P low high es → (n : ℕ) → 0 < total (λ (c : ℕ). U c n) es → 0 < length (pages n)
fan-told P U pages each low high [] h n used = absurd (omega arith)
fan-told P U pages each low high (e ∷ es) h n used =
    ⊎_elim (λ (none : U e.1 n < 1). fan-told P U pages each (next_key high es) high es h.3 n (omega arith)) (λ (some : 1 ≤ U e.1 n). each e.1 low (next_key high es) h.2 n (omega arith)) (cases_lt (U e.1 n) 1)

itself : (pages : PageMap) (page n : ℕ) → length (pages page) ≡ 4096 → 0 < one_at page n → 0 < length (pages n)
itself pages page n size at = subst (λ (k : ℕ). 0 < length (pages k)) (sym (one_at-is page n at)) (omega arith)

tree-told : (form : Form) (least : ℕ) (pages : PageMap) (level page low high : ℕ) → IsTree form least pages level page low high → (n : ℕ) → 0 < uses form pages level page n → 0 < length (pages n)
tree-told form least pages zero page low high h n used = itself pages page n h.0.size used
tree-told form least pages (suc level) page low high h n used =
    let es : List Entry = entries_in form (pages page) in
    let below = with_low-total (λ (c : ℕ). uses form pages level c n) low es in
    ⊎_elim
    (λ (none : one_at page n < 1). fan-told (IsTree form (half_of form level) pages level) (uses form pages level) pages (λ c a b t. tree-told form (half_of form level) pages level c a b t) low high (with_low low es) h.1 n (omega arith))
    (λ (some : 1 ≤ one_at page n). itself pages page n h.0.node.size (omega arith))
    (cases_lt (one_at page n) 1)

-- each page of a map is told
pub map-told : (form : Form) (pages : PageMap) (root : ℕ) → IsMap form pages root → (n : ℕ) → 0 < map_uses form pages root n → 0 < length (pages n)
map-told form pages zero h n used = absurd (omega arith)
map-told form pages (suc m) h n used = tree-told form (least_of_root (level_of (pages (suc m)))) pages (level_of (pages (suc m))) (suc m) 0 (256 ^ form.key) h n used

-- each free page is told
pub list-told : (pages : PageMap) (count first : ℕ) (free : List ℕ) → IsFreeList pages count first free → (n : ℕ) → 0 < times free n → 0 < length (pages n)
list-told pages count first [] h n at = absurd (omega arith)
list-told pages count first (page ∷ free) h n at =
    ⊎_elim
    (λ (none : one_at page n < 1). list-told pages count (next_free (pages page)) free h.4 n (omega arith))
    (λ (some : 1 ≤ one_at page n). subst (λ (k : ℕ). 0 < length (pages k)) (sym (one_at-is page n (omega arith))) (free-told (pages page) h.3))
    (cases_lt (one_at page n) 1)

counted_from : (count n : ℕ) → uncounted count n ≡ 0 → n < count
counted_from count n none = ⊎_elim (λ (lt : n < count). lt) (λ (le : count ≤ n). let past = uncounted-past count n le in absurd (omega arith)) (cases_lt n count)

-- Pages that became others leave the counted pages told, if those that they became are told.
pub told-moved : {before after : View} {mine ours : ℕ → ℕ} → Moves before after mine ours → ((n : ℕ) → 0 < n → 0 < ours n → 0 < length (after.pages n)) → AreReadable before.pages before.count → AreReadable after.pages after.count
told-moved {before = before} {after = after} {mine = mine} {ours = ours} moves made told n some few =
    let kept = moves.kept n in
    let counted = counted-none after.count n few in
    ⊎_elim
    (λ (untouched : mine n + spare_in before n < 1).
    subst (λ (bytes : List ℕ). 0 < length bytes) (sym (moves.others n (omega arith) (omega arith))) (told n some (counted_from before.count n (omega arith))))
    (λ (taken : 1 ≤ mine n + spare_in before n). ⊎_elim
    (λ (unused : ours n < 1). list-told after.pages after.count after.first after.free moves.supplied n (omega arith))
    (λ (used : 1 ≤ ours n). made n some used)
    (cases_lt (ours n) 1))
    (cases_lt (mine n + spare_in before n) 1)
