-- Rows that were found, and are written where they stand.
use Rattle.std.proofs.Common.{◌≡◌, ◌≢◌, ◌==◌, false, OnErr, ℕ, ◌+◌, ◌-◌, ◌*◌, ◌<◌, ◌≤◌, List, length, arith, refl, sym, ap, ◌∙◌, subst, Option, Some, None, Result, Ok, Err, OnOk, is_some}
use Rattle.std.proofs.lemmas.Bool.Decides.{nat_tests}
use Rattle.std.specs.Bool.{then_some}
use Rattle.std.specs.Prelude.{IfSome}
use Rattle.page_face.specs.FreeList.{PageMap, with_page}
use Rattle.page_face.specs.Number.{number}
use Rattle.page_face.specs.Sound.{IsSound}
use Rattle.btree_nodes.specs.declared.form.Form.{Form}
use Rattle.btree_nodes.specs.Build.{image}
use Rattle.btree_nodes.specs.Rows.{IsWithin, put}
use Rattle.btree_nodes.specs.Nodes.{IsLeaf, rows_in}
use Rattle.btree_nodes.specs.Supply.{view}
use Rattle.btree_nodes.specs.Tree.{IsMap, map_rows}
use Rattle.btree_nodes.proofs.Puts.{put-edit}
use Rattle.btree_nodes.specs.Leaves.{IsLeafOf}
use Rattle.paged_map.specs.Edits.{edited}
use Rattle.paged_map.specs.Maps.{HasBecome, IsKept}
use Rattle.paged_map.specs.Spots.{IsInLeaf, IsRowAt, IsSpot, leaf_of}
use Rattle.paged_map.specs.declared.replacing.RowSpot.{RowSpot}
use Rattle.paged_map.proofs.Edits.{IsEdited, edit-leaf, edited-sound, put-leaf}

-- the leaf of a row that was found, if one was
pub leaf-found : (found : Option RowSpot) (page : ℕ) → IfSome found (λ (spot : RowSpot). spot.page ≡ page) → leaf_of found ≡ then_some (is_some found) page
leaf-found None page h = refl
leaf-found (Some spot) page h = ap Some h

-- what a call that succeeds says, by another of its clauses
pub on_ok : {T E : Type 0} {A B : Type 0} (result : Result T E) → OnOk result A → (A → B) → OnOk result B
on_ok (Ok x) a f = f a
on_ok (Err e) a f = tt

-- a page that was written, or not: all others stay
pub others-stay : {T E : Type 0} (result : Result T E) (old new : PageMap) (page : ℕ) (bytes : List ℕ) → OnOk result (new ≡ with_page page bytes old) → OnErr result (new ≡ old) → (n : ℕ) → n ≢ page → new n ≡ old n
others-stay (Ok x) old new page bytes written kept n other =
    let test : (n == page) ≡ false = grind (arith, nat_tests) in
    ap (λ (p : PageMap). p n) written ∙ rw test refl
others-stay (Err e) old new page bytes written kept n other = ap (λ (p : PageMap). p n) kept

-- a row that was found in a leaf that a map was searched for
pub in-leaf : (form : Form) (p p' : PageMap) (root least page low high key : ℕ) (bytes : List ℕ) (spot : RowSpot) → p' ≡ p → spot.page ≡ page
    → (IsMap form p root → (bytes ≡ p page) × IsLeafOf form p root least page low high) → low ≤ key → key < high → IsMap form p' root → IsInLeaf form p' root bytes key spot
in-leaf form p p' root least page low high key bytes spot e at located from to map =
    let l = located (subst (λ (x : PageMap). IsMap form x root) e map) in
    subst (λ (x : PageMap). IsInLeaf form x root bytes key spot) (sym e)
    record {
      least = least;
      low = low;
      high = high;
      is = l.0 ∙ ap p (sym at);
      leaf = subst (λ (n : ℕ). IsLeafOf form p root least n low high) (sym at) l.1;
      from = from;
      to = to;
    }

-- and ties it to that page
pub spots : (form : Form) (p p' : PageMap) (count root least page low high key : ℕ) (bytes : List ℕ) (found : Option RowSpot) → p' ≡ p → IfSome found (λ (spot : RowSpot). spot.page ≡ page)
    → (IsMap form p root → (bytes ≡ p page) × IsLeafOf form p root least page low high) → low ≤ key → key < high → IfSome found (IsRowAt form count bytes key) → IfSome found (IsSpot form p' count root bytes key)
spots form p p' count root least page low high key bytes None e at located from to row = tt
spots form p p' count root least page low high key bytes (Some spot) e at located from to row =
    record { row = row; leaf = in-leaf form p p' root least page low high key bytes spot e at located from to }

-- A leaf with another value at the key of a row is sound.
pub replaced-sound : (form : Form) (count : ℕ) (bytes key value : List ℕ) (spot : RowSpot) → length key ≡ form.key → length value ≡ form.value → IsRowAt form count bytes (number key) spot
    → IsSound (record { map = form.map; key = form.key; value = form.value; level = 0 })
    (image form.map 1 0 spot.count (edited ((form.key + form.value) * spot.count) ((form.key + form.value) * spot.at) ((form.key + form.value) * (spot.at + 1)) key value bytes))
replaced-sound form count bytes key value spot lk lv row =
    let w : ℕ = form.key + form.value in
    let n : ℕ = spot.count in
    let at : ℕ = spot.at in
    let small = row.small in
    let stays : n + 1 - 1 ≡ n = omega arith in
    let cells : List ℕ = edited (w * n) (w * at) (w * (at + 1)) key value bytes in
    let fits : 16 + w * (n + 1 - 1) ≤ 4096 = subst (λ (k : ℕ). 16 + w * k ≤ 4096) (sym stays) row.fits in
    let made : IsEdited form row.least row.low row.high (put (number key) value) bytes (image form.map 1 0 n cells) =
    subst (λ (k : ℕ). IsEdited form row.least row.low row.high (put (number key) value) bytes (image form.map 1 0 k cells)) stays
    (put-leaf form bytes row.low row.high row.least n at row.sound row.within row.is key value 1 lk lv row.from row.to row.place (λ one. (small, row.same)) (λ other. absurd (other refl)) (omega arith) (omega arith) fits) in
    edited-sound form row.least row.low row.high (put (number key) value) bytes (image form.map 1 0 n cells) made

-- A leaf with another value at the key of a row makes the map the one where that value was put.
pub replaced : (form : Form) (pages : PageMap) (root count first : ℕ) (bytes key value free : List ℕ) (spot : RowSpot) (new : PageMap) (count' first' : ℕ)
    → length key ≡ form.key → length value ≡ form.value → IsRowAt form count bytes (number key) spot → IsInLeaf form pages root bytes (number key) spot → IsKept form (view pages count first free) root
    → new ≡ with_page spot.page (image form.map 1 0 spot.count (edited ((form.key + form.value) * spot.count) ((form.key + form.value) * spot.at) ((form.key + form.value) * (spot.at + 1)) key value bytes)) pages
    → count' ≡ count → first' ≡ first → HasBecome form (view pages count first free) new count' first' root root (put (number key) value (map_rows form pages root))
replaced form pages root count first bytes key value free spot new count' first' lk lv row leaf kept written same_count same_first =
    let w : ℕ = form.key + form.value in
    let n : ℕ = spot.count in
    let at : ℕ = spot.at in
    let small = row.small in
    let stays : n + 1 - 1 ≡ n = omega arith in
    let sound : IsLeaf form leaf.least bytes = subst (IsLeaf form leaf.least) (sym leaf.is) leaf.leaf.leaf in
    let within : IsWithin leaf.low leaf.high (rows_in form bytes) = subst (λ (x : List ℕ). IsWithin leaf.low leaf.high (rows_in form x)) (sym leaf.is) leaf.leaf.within in
    let cells : List ℕ = edited (w * n) (w * at) (w * (at + 1)) key value bytes in
    let fits : 16 + w * (n + 1 - 1) ≤ 4096 = subst (λ (k : ℕ). 16 + w * k ≤ 4096) (sym stays) row.fits in
    let made : IsEdited form leaf.least leaf.low leaf.high (put (number key) value) bytes (image form.map 1 0 n cells) =
    subst (λ (k : ℕ). IsEdited form leaf.least leaf.low leaf.high (put (number key) value) bytes (image form.map 1 0 k cells)) stays
    (put-leaf form bytes leaf.low leaf.high leaf.least n at sound within row.is key value 1 lk lv leaf.from leaf.to row.place (λ one. (small, row.same)) (λ other. absurd (other refl)) (omega arith) (omega arith) fits) in
    edit-leaf form pages root leaf.least spot.page leaf.low leaf.high (number key) (put (number key) value) bytes (image form.map 1 0 n cells) free count first new count' first' leaf.leaf leaf.from leaf.to (put-edit (number key) value) leaf.is made kept written same_count same_first
