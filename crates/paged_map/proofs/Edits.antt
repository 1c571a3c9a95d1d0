-- A leaf that was written in its place, with its rows edited at one key.
use Rattle.std.proofs.Common.{◌≡◌, ℕ, suc, ◌+◌, ◌-◌, ◌*◌, ◌^◌, ◌<◌, ◌≤◌, List, [], ◌∷◌, ◌++◌, length, get_or, take, drop, replicate, arith, sym, ap, ◌∙◌, subst}
use Rattle.std.proofs.Math.Nat.{mul-add, mul-suc, mul-zero, mul-le-mul_left}
use Rattle.std.proofs.lemmas.List.{length-append, length-take-le, length-drop, drop-drop}
use borrow.Rule.Slice.PartMut.{put_mid}
use Rattle.std.specs.Int.{to_be_bytes, w16}
use Rattle.page_face.specs.FreeList.{PageMap, with_page}
use Rattle.page_face.specs.Number.{number}
use Rattle.page_face.specs.Cells.{IsPlace, key_at}
use Rattle.page_face.specs.Nodes.{count_of}
use Rattle.page_face.specs.Sound.{IsSound}
use Rattle.btree_nodes.specs.declared.form.Form.{Form}
use Rattle.btree_nodes.specs.Build.{image}
use Rattle.btree_nodes.specs.Rows.{Row, IsWithin, IsEdit, IsMade, put, without}
use Rattle.btree_nodes.specs.Nodes.{IsLeaf, rows_in, rows_of}
use Rattle.btree_nodes.specs.Supply.{view, one_at, Moves}
use Rattle.btree_nodes.specs.Tree.{map_rows, map_uses}
use Rattle.btree_nodes.proofs.Images.{image-node, image-rows}
use Rattle.btree_nodes.proofs.Supplies.{moves-write, with-other}
use Rattle.btree_nodes.proofs.Writes.{built}
use Rattle.btree_nodes.specs.Leaves.{IsLeafOf, HoldsInstead}
use Rattle.btree_nodes.proofs.Soundness.{leaf-sound}
use Rattle.btree_insert.proofs.PutLeaf.{put_cells}
use Rattle.btree_delete.specs.Body.{cells_in, without_cell}
use Rattle.btree_delete.proofs.Joins.{few, width-some}
use Rattle.btree_delete.proofs.Holds.{cells-rows}
use Rattle.btree_delete.proofs.Changes.{rows-without, length-without}
use Rattle.btree_delete.proofs.Outs.{without-at, without-within}
use Rattle.paged_map.specs.Edits.{edited}
use Rattle.paged_map.specs.Maps.{IsKept, HasBecome}

-- a leaf whose rows are those of another one, edited
pub record IsEdited (form : Form) (least low high : ℕ) (edit : List Row → List Row) (page bytes : List ℕ) : Type 0 where
  pub leaf : IsLeaf form least bytes
  pub made : IsMade low high edit (rows_in form page) (rows_in form bytes)

-- Such a leaf is sound.
pub edited-sound : (form : Form) (least low high : ℕ) (edit : List Row → List Row) (page bytes : List ℕ) → IsEdited form least low high edit page bytes
    → IsSound (record { map = form.map; key = form.key; value = form.value; level = 0 }) bytes
edited-sound form least low high edit page bytes made = leaf-sound form least low high bytes made.leaf made.made.within

-- Such a leaf in the place of that one makes the map the one of the edited rows.
pub edit-leaf : (form : Form) (pages : PageMap) (root least page low high key : ℕ) (edit : List Row → List Row) (old bytes free : List ℕ) (count first : ℕ) (new : PageMap) (count' first' : ℕ)
    → IsLeafOf form pages root least page low high → low ≤ key → key < high → IsEdit key edit → old ≡ pages page → IsEdited form least low high edit old bytes → IsKept form (view pages count first free) root
    → new ≡ with_page page bytes pages → count' ≡ count → first' ≡ first → HasBecome form (view pages count first free) new count' first' root root (edit (map_rows form pages root))
edit-leaf form pages root least page low high key edit old bytes free count first new count' first' leaf from to is_edit same is kept written e f =
    let rows : List Row = rows_in form (pages page) in
    let once : (n : ℕ) → map_uses form pages root n ≤ 1 = λ n. let o = kept.once n in omega arith in
    let h : HoldsInstead form pages (with_page page bytes pages) root (leaf.front ++ (rows_in form bytes ++ leaf.back)) = leaf.edit bytes is.leaf is.made.within once in
    let made : rows_in form bytes ≡ edit rows = is.made.is ∙ ap (λ (x : List ℕ). edit (rows_in form x)) same in
    let has : leaf.front ++ (rows_in form bytes ++ leaf.back) ≡ edit (map_rows form pages root) =
    ap (λ (x : List Row). leaf.front ++ (x ++ leaf.back)) made
    ∙ ap (λ (x : List Row). leaf.front ++ x) (sym (is_edit.left high (256 ^ form.key) rows leaf.back leaf.behind to))
    ∙ sym (is_edit.right 0 low leaf.front (rows ++ leaf.back) leaf.before from)
    ∙ ap edit (sym leaf.rows) in
    let used = leaf.used in
    let here = kept.once page in
    let moved : Moves (view pages count first free) (view (with_page page bytes pages) count first free) (one_at page) (one_at page) = moves-write pages bytes count first page free kept.supplied (omega arith) in
    rw (written, e, f) record {
      free = free;
      kept = record {
        map = h.map;
        supplied = moved.supplied;
        once = λ n. let u = h.uses n in let o = kept.once n in omega arith;
        away = let u = h.uses 0 in let a = kept.away in omega arith;
        some = kept.some;
      };
      has = h.has ∙ has;
      moves = record {
        supplied = moved.supplied;
        kept = λ n. let u = h.uses n in omega arith;
        others = λ n z k. with-other pages bytes page n (λ (at : n ≡ page). let u : map_uses form pages root n ≡ map_uses form pages root page = ap (map_uses form pages root) at in absurd (omega arith));
      };
    }

-- a leaf that was made of cells
made-leaf : (form : Form) (least low high n : ℕ) (edit : List Row → List Row) (page cells : List ℕ) → 0 < n → least ≤ n → length cells ≡ (form.key + form.value) * n → 16 + (form.key + form.value) * n ≤ 4096
    → IsMade low high edit (rows_in form page) (rows_of form n cells) → IsEdited form least low high edit page (image form.map 1 0 n cells)
made-leaf form least low high n edit page cells some enough whole fits made =
    let w = width-some form 0 in
    let f = few (form.key + form.value) n w.0 (omega arith) in
    record {
      leaf = image-node form.map 1 0 (form.key + form.value) least n cells (omega arith) whole (omega arith) some enough;
      made = subst (λ (x : List Row). IsMade low high edit (rows_in form page) x) (sym (image-rows form n cells (omega arith) whole (omega arith))) made;
    }

module _ (form : Form) (page : List ℕ) (low high least count at : ℕ) (leaf : IsLeaf form least page) (within : IsWithin low high (rows_in form page)) (is : count ≡ count_of page) where
  width : ℕ
  width = form.key + form.value

  -- the cells are as long as they say
  long : length (cells_in (form.key + form.value) count page) ≡ (form.key + form.value) * count
  long =
      let s = leaf.size in
      let f : 16 + (form.key + form.value) * count ≤ 4096 = subst (λ (n : ℕ). 16 + (form.key + form.value) * n ≤ 4096) (sym is) leaf.fits in
      length-take-le ((form.key + form.value) * count) (drop 16 page) (omega (arith, length-drop 16 page))

  -- with a row in place of as many as are gone
  pub put-leaf : (key value : List ℕ) (gone : ℕ) → length key ≡ form.key → length value ≡ form.value → low ≤ number key → number key < high
      → IsPlace form.key (form.key + form.value) count page (number key) at
      → (gone ≡ 1 → (at < count) × (key_at form.key (form.key + form.value) page at ≡ number key))
      → ((gone ≡ 1 → ⊥) → at < count → key_at form.key (form.key + form.value) page at ≡ number key → ⊥) → gone ≤ 1 → at + gone ≤ count → 16 + (form.key + form.value) * (count + 1 - gone) ≤ 4096
      → IsEdited form least low high (put (number key) value) page
      (image form.map 1 0 (count + 1 - gone) (edited ((form.key + form.value) * count) ((form.key + form.value) * at) ((form.key + form.value) * (at + gone)) key value page))
  put-leaf key value gone lk lv from to place some none small inside fits =
      let w : ℕ = form.key + form.value in
      let n : ℕ = count + 1 - gone in
      let b : List ℕ = cells_in w count page in
      let rest : ℕ = count - at - gone in
      let sum : (at + gone) + rest ≡ count = omega arith in
      let new : at + (1 + rest) ≡ n = omega arith in
      let l = long in
      let a1 : w * count ≡ w * (at + gone) + w * rest = ap (λ (k : ℕ). w * k) (sym sum) ∙ mul-add w (at + gone) rest in
      let a2 : w * n ≡ w * at + w * (1 + rest) = ap (λ (k : ℕ). w * k) (sym new) ∙ mul-add w at (1 + rest) in
      let a3 : w * (1 + rest) ≡ w * 1 + w * rest = mul-add w 1 rest in
      let a4 : w * 1 ≡ w = omega (arith, mul-suc w 0, mul-zero w) in
      let a5 : w * (at + gone) ≡ w * at + w * gone = mul-add w at gone in
      let cells : List ℕ = take (w * at) b ++ ((key ++ value) ++ drop (w * (at + gone)) b) in
      let whole : length cells ≡ w * n =
      omega (arith, length-append (take (w * at) b) ((key ++ value) ++ drop (w * (at + gone)) b), length-append (key ++ value) (drop (w * (at + gone)) b), length-append key value, length-take-le (w * at) b (omega arith), length-drop (w * (at + gone)) b) in
      let old : 16 + w * count_of page ≤ 4096 = leaf.fits in
      let enough = leaf.fill in
      let place' = subst (λ (k : ℕ). IsPlace form.key w k page (number key) at) is place in
      let made : IsMade low high (put (number key) value) (rows_in form page) (rows_of form n cells) =
      subst (λ (k : ℕ). IsMade low high (put (number key) value) (rows_in form page) (rows_of form n (take (w * at) (take (w * k) (drop 16 page)) ++ ((key ++ value) ++ drop (w * (at + gone)) (take (w * k) (drop 16 page)))))) (sym is)
      (put_cells form page key value low high at gone n leaf.size leaf.fits lk lv place' within from to (λ h. let s = some h in (omega (arith, s.0), s.1)) (λ h l. none h (omega arith)) small (omega arith)) in
      made-leaf form least low high n (put (number key) value) page cells (omega arith) (omega arith) whole fits made

  -- without the row at its place
  pub without-leaf : (key : ℕ) → low ≤ key → key < high → IsPlace form.key (form.key + form.value) count page key at → at < count → key_at form.key (form.key + form.value) page at ≡ key → least < count → 1 ≤ least
      → IsEdited form least low high (without key) page
      (image form.map 1 0 (count - 1) (edited ((form.key + form.value) * count) ((form.key + form.value) * at) ((form.key + form.value) * at + (form.key + form.value)) [] [] page))
  without-leaf key from to place small same more some =
      let w : ℕ = form.key + form.value in
      let b : List ℕ = cells_in w count page in
      let rest : ℕ = count - at - 1 in
      let sum : at + suc rest ≡ count = omega arith in
      let less : count - 1 ≡ at + rest = omega arith in
      let l : length b ≡ w * (at + suc rest) = long ∙ ap (λ (k : ℕ). w * k) (sym sum) in
      let whole : length (without_cell w at b) ≡ w * (count - 1) = length-without w at rest b l ∙ ap (λ (k : ℕ). w * k) (sym less) in
      let fewer = mul-le-mul_left {m = count - 1} {n = count} w (omega arith) in
      let old : 16 + w * count ≤ 4096 = subst (λ (k : ℕ). 16 + w * k ≤ 4096) (sym is) leaf.fits in
      let size = leaf.size in
      let place' = subst (λ (k : ℕ). IsPlace form.key w k page key at) is place in
      let all : rows_of form count b ≡ rows_in form page = subst (λ (k : ℕ). rows_of form k (cells_in w k page) ≡ rows_in form page) (sym is) (cells-rows form page (omega (arith, leaf.fits))) in
      let are : rows_of form (count - 1) (without_cell w at b) ≡ take at (rows_in form page) ++ drop (suc at) (rows_in form page) =
      ap (λ (k : ℕ). rows_of form k (without_cell w at b)) less ∙ rows-without form at rest b l
      ∙ ap (λ (k : ℕ). take at (rows_of form k b) ++ drop (suc at) (rows_of form k b)) sum
      ∙ ap (λ (x : List Row). take at x ++ drop (suc at) x) all in
      let in_page : at < count_of page = omega arith in
      let made : IsMade low high (without key) (rows_in form page) (rows_of form (count - 1) (without_cell w at b)) =
      rw are record {
        within = without-within form page low high key at place' same within from to in_page;
        is = sym (without-at form page low high key at place' same within from to in_page);
      } in
      made-leaf form least low high (count - 1) (without key) page (without_cell w at b) (omega arith) (omega arith) whole (omega arith) made

-- the cells with one row more fit where so many rows do
pub room-fits : (width count at gone : ℕ) → at + gone ≤ count → 16 + width * (count + 1 - gone) ≤ 4096 → 16 + width * count + width ≤ 4096 + (width * (at + gone) - width * at)
room-fits width count at gone inside fits =
    let sum : (count + 1 - gone) + gone ≡ suc count = omega arith in
    let a : width * suc count ≡ width * (count + 1 - gone) + width * gone = ap (λ (k : ℕ). width * k) (sym sum) ∙ mul-add width (count + 1 - gone) gone in
    omega (arith, mul-add width at gone, mul-suc width count)

-- a page of zeros over which a leaf's head and cells were written
pub filled : (number count k : ℕ) (be zeros cells head out : List ℕ) → be ≡ to_be_bytes w16 count → zeros ≡ replicate 4096 0
    → head ≡ take 0 zeros ++ ((1 ∷ (number ∷ (get_or be 0 0 ∷ (get_or be 1 0 ∷ (0 ∷ []))))) ++ drop 5 zeros) → out ≡ cells → length cells ≡ k → put_mid 16 k head out ≡ image number 1 0 count cells
filled number count k be zeros cells head out b z h o l =
    built number 1 0 count be cells head (put_mid 16 k head out) b
    (h ∙ ap (λ (x : List ℕ). take 0 x ++ ((1 ∷ (number ∷ (get_or be 0 0 ∷ (get_or be 1 0 ∷ (0 ∷ []))))) ++ drop 5 x)) z)
    (ap (λ (x : List ℕ). take 16 head ++ (x ++ drop k (drop 16 head))) o
    ∙ ap (λ (x : List ℕ). take 16 head ++ (cells ++ x)) (drop-drop k 16 head ∙ ap (λ (n : ℕ). drop (16 + n) head) (sym l)))

-- the cells that were edited are as long as their pieces
pub length-edited : (size from until : ℕ) (first second page : List ℕ) → from ≤ until → until ≤ size → 16 + size ≤ length page
    → length (edited size from until first second page) + (until - from) ≡ size + (length first + length second)
length-edited size from until first second page order end fits =
    let cells : List ℕ = take size (drop 16 page) in
    omega (
      arith,
      length-append (take from cells) ((first ++ second) ++ drop until cells),
      length-append (first ++ second) (drop until cells),
      length-append first second,
      length-take-le from cells (omega (arith, length-take-le size (drop 16 page) (omega (arith, length-drop 16 page)))),
      length-drop until cells,
      length-take-le size (drop 16 page) (omega (arith, length-drop 16 page)),
    )

-- the place of a key in a page, said of the page that it was lent from
module _ (form : Form) (looked page : List ℕ) (same : page ≡ looked) (key count at gone : ℕ) (place : IsPlace form.key (form.key + form.value) count page key at)
    (some : gone ≡ 1 → (at < count) × (key_at form.key (form.key + form.value) page at ≡ key))
    (none : (gone ≡ 1 → ⊥) → at < count → key_at form.key (form.key + form.value) page at ≡ key → ⊥) where
  pub place-looked : IsPlace form.key (form.key + form.value) count looked key at
  place-looked = subst (λ (x : List ℕ). IsPlace form.key (form.key + form.value) count x key at) same place

  pub some-looked : gone ≡ 1 → (at < count) × (key_at form.key (form.key + form.value) looked at ≡ key)
  some-looked = subst (λ (x : List ℕ). gone ≡ 1 → (at < count) × (key_at form.key (form.key + form.value) x at ≡ key)) same some

  pub none-looked : (gone ≡ 1 → ⊥) → at < count → key_at form.key (form.key + form.value) looked at ≡ key → ⊥
  none-looked = subst (λ (x : List ℕ). (gone ≡ 1 → ⊥) → at < count → key_at form.key (form.key + form.value) x at ≡ key → ⊥) same none
