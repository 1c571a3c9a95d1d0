-- The cells that a tree's page holds.
use Rattle.std.proofs.Common.{◌≡◌, ℕ, zero, suc, ◌+◌, ◌*◌, ◌<◌, ◌≤◌, List, ◌++◌, length, take, drop, map, arith, refl, sym, ap, ◌∙◌, subst}
use Rattle.std.proofs.lemmas.List.{length-drop, take-take, take_all}
use Rattle.std.proofs.Math.Nat.{mul-le-mul_left, mul-zero}
use Rattle.page_face.specs.FreeList.{PageMap}
use Rattle.page_face.specs.Number.{number}
use Rattle.page_face.specs.Cells.{chop, cells, key_at}
use Rattle.btree_nodes.proofs.Chops.{chop-front, length-chop}
use Rattle.btree_nodes.specs.declared.form.Form.{Form}
use Rattle.btree_nodes.specs.Supply.{View, one_at}
use Rattle.btree_nodes.specs.Rows.{Row, IsWithin}
use Rattle.page_face.specs.Nodes.{count_of}
use Rattle.btree_nodes.specs.Nodes.{Entry, rows_in, row_of, entries_in, entry_of, width_of, half_of, rows_of, entries_of}
use Rattle.btree_nodes.specs.Tree.{IsTree, IsFan, rows_at, uses, total, with_low}
use Rattle.btree_nodes.specs.Store.{below_rows}
use Rattle.btree_nodes.proofs.Supplies.{moves-as}
use Rattle.btree_delete.specs.Body.{IsBody, body_rows, body_uses, cells_in, headed}
use Rattle.btree_delete.specs.Mended.{Becomes}
use Rattle.btree_delete.proofs.Bodies.{IsSum, body-sum}

-- the same, said otherwise
pub becomes-as : {form : Form} {least : ℕ} {before : View} {f g : ℕ → ℕ} {pages : PageMap} {count first level low high : ℕ} {rows rows' : List Row} {entries : List Entry}
    → ((n : ℕ) → g n ≡ f n) → rows ≡ rows' → Becomes form least before f pages count first level low high rows entries → Becomes form least before g pages count first level low high rows' entries
becomes-as e r b = record { free = b.free; moves = moves-as e (λ n. refl) b.moves; fan = b.fan; gives = b.gives ∙ r }

chop-body : (width count : ℕ) (page : List ℕ) → 16 + width * count ≤ length page → chop width count (cells_in width count page) ≡ cells width count page
chop-body width count page h =
    sym (chop-front width count 0 (drop 16 page) (omega (arith, length-drop 16 page)))
    ∙ ap (λ (n : ℕ). take count (chop width n (drop 16 page))) (omega arith)
    ∙ take_all count (chop width count (drop 16 page)) (omega (arith, length-chop width count (drop 16 page)))

pub cells-rows : (form : Form) (page : List ℕ) → 16 + (form.key + form.value) * count_of page ≤ length page → rows_of form (count_of page) (cells_in (form.key + form.value) (count_of page) page) ≡ rows_in form page
unfolding rows_in
cells-rows form page h = ap (map (row_of form.key)) (chop-body (form.key + form.value) (count_of page) page h)

pub cells-entries : (form : Form) (page : List ℕ) → 16 + (form.key + 4) * count_of page ≤ length page → entries_of form (count_of page) (cells_in (form.key + 4) (count_of page) page) ≡ entries_in form page
unfolding entries_in
cells-entries form page h = ap (map (entry_of form.key)) (chop-body (form.key + 4) (count_of page) page h)

pub cells-first : (form : Form) (page : List ℕ) (count : ℕ) → 0 < count → key_at form.key (form.key + 4) page 0 ≡ 0 → number (take form.key (cells_in (form.key + 4) count page)) ≡ 0
cells-first form page count some first =
    let a = mul-le-mul_left {m = 1} {n = count} (form.key + 4) some in
    let from : 16 ≡ 16 + (form.key + 4) * 0 = omega (arith, mul-zero (form.key + 4)) in
    ap number (take-take form.key ((form.key + 4) * count) (drop 16 page) (omega arith)) ∙ ap (λ (k : ℕ). number (take form.key (drop k page))) from ∙ first

-- what the cells of a tree's page say
pub record HoldsTree (form : Form) (pages : PageMap) (level page low high : ℕ) : Type 0 where
  pub body : IsBody form pages level low high (count_of (pages page)) (cells_in (width_of form level) (count_of (pages page)) (pages page))
  pub rows : body_rows form pages level (count_of (pages page)) (cells_in (width_of form level) (count_of (pages page)) (pages page)) ≡ rows_at form pages level page
  pub used : (n : ℕ) → one_at page n + body_uses form pages level (count_of (pages page)) (cells_in (width_of form level) (count_of (pages page)) (pages page)) n ≡ uses form pages level page n

pub holds-tree : (form : Form) (least : ℕ) (pages : PageMap) (level page low high : ℕ) → IsTree form least pages level page low high → HoldsTree form pages level page low high
holds-tree form least pages zero page low high t =
    let node = t.0 in
    let s = node.size in
    let f = node.fits in
    let r = cells-rows form (pages page) (omega arith) in
    record { body = subst (λ (x : List Row). IsWithin low high x) (sym r) t.1; rows = r; used = λ n. omega arith }
holds-tree form least pages (suc level) page low high t =
    let s = t.0.node.size in
    let f = t.0.node.fits in
    let r = cells-entries form (pages page) (omega arith) in
    record {
      body = (cells-first form (pages page) (count_of (pages page)) t.0.node.some t.0.first, subst (λ (x : List Entry). IsFan (IsTree form (half_of form level) pages level) low high (with_low low x)) (sym r) t.1);
      rows = ap (below_rows form pages level) r;
      used = λ n. let e : total (λ (c : ℕ). uses form pages level c n) (entries_of form (count_of (pages page)) (cells_in (form.key + 4) (count_of (pages page)) (pages page))) ≡ total (λ (c : ℕ). uses form pages level c n) (entries_in form (pages page)) =
          ap (total (λ (c : ℕ). uses form pages level c n)) r in omega arith;
    }

-- the same of bytes that were read and counted
pub record HoldsBytes (form : Form) (pages : PageMap) (level page low high count : ℕ) (bytes : List ℕ) : Type 0 where
  pub body : IsBody form pages level low high count bytes
  pub rows : body_rows form pages level count bytes ≡ rows_at form pages level page
  pub used : (n : ℕ) → one_at page n + body_uses form pages level count bytes n ≡ uses form pages level page n

pub holds-bytes : (form : Form) (least : ℕ) (pages : PageMap) (level page low high count width : ℕ) (bytes cells : List ℕ) → bytes ≡ pages page → count ≡ count_of bytes → width ≡ width_of form level
    → cells ≡ cells_in width count bytes → IsTree form least pages level page low high → HoldsBytes form pages level page low high count cells
holds-bytes form least pages level page low high count width bytes cells b n w c t =
    let h = holds-tree form least pages level page low high t in
    let e : count ≡ count_of (pages page) = n ∙ ap count_of b in
    let same : cells ≡ cells_in (width_of form level) count (pages page) = c ∙ ap (λ (k : ℕ). cells_in k count bytes) w ∙ ap (cells_in (width_of form level) count) b in
    rw (same, e) (record { body = h.body; rows = h.rows; used = h.used })

-- the cells of two neighbours, where the right one has some
pub body-both : (form : Form) (pages : PageMap) (level low high m n : ℕ) (parting a b : List ℕ) → length a ≡ width_of form level * m → length b ≡ width_of form level * n → 0 < m → 0 < n → length parting ≡ form.key
    → IsBody form pages level low (number parting) m a → IsBody form pages level (number parting) high n b
    → IsSum form pages level low high m n a b (a ++ headed level form.key parting b)
body-both form pages level low high m zero parting a b la lb some more lp first second = absurd (omega arith)
body-both form pages level low high m (suc rest) parting a b la lb some more lp first second = body-sum form pages level low high m rest parting a b la lb some lp first second
