-- Leaves that were made.
use Rattle.std.proofs.Common.{◌≡◌, ℕ, suc, ◌+◌, ◌-◌, ◌*◌, ◌/◌, ◌^◌, ◌<◌, ◌≤◌, List, [], ◌∷◌, ◌++◌, length, take, drop, map, arith, refl, sym, ap, ◌∙◌, subst, false, ◌==◌, append-nil}
use Rattle.std.proofs.lemmas.List.{length-drop, map-append, take-take, take-append-drop, length-take-le}
use Rattle.std.proofs.lemmas.Bool.Decides.{nat_tests}
use Rattle.std.proofs.lemmas.Bool.{cases_lt}
use Rattle.std.proofs.Common.{⊎_elim}
use Rattle.std.proofs.Math.Nat.{div-lt_iff_lt-mul, mul-le-mul, mul-le-mul_left, mul-le-mul_right}
use Rattle.page_face.specs.FreeList.{PageMap, with_page}
use Rattle.btree_nodes.specs.Supply.{one_at, spare}
use Rattle.btree_nodes.specs.Supply.{View, view, IsSupplied, Moves}
use Rattle.btree_nodes.proofs.Supplies.{moves-write, moves-as, one_at-same, with-same}
use Rattle.page_face.specs.Number.{number}
use Rattle.page_face.specs.Cells.{chop}
use Rattle.btree_nodes.specs.Build.{image}
use Rattle.btree_nodes.proofs.Chops.{chop-append}
use Rattle.btree_nodes.specs.declared.form.Form.{Form}
use Rattle.btree_nodes.specs.Rows.{Row, IsWithin}
use Rattle.btree_nodes.specs.Nodes.{IsLeaf, rows_in, row_of, half_of, half_of_width, rows_of}
use Rattle.btree_nodes.specs.Tree.{IsTree, IsFan, rows_at}
use Rattle.btree_nodes.specs.Store.{IsSplit, IsGrown, grown, least_after}
use Rattle.btree_nodes.proofs.Spans.{within-lt, within-split}
use Rattle.btree_nodes.proofs.Images.{image-node, image-rows}
use Rattle.btree_nodes.proofs.Cells.{length-rows_of}

-- a leaf that was made, with these rows
pub record IsLeafOf (form : Form) (least : ℕ) (pages : PageMap) (page low high : ℕ) (rows : List Row) : Type 0 where
  pub tree : IsTree form least pages 0 page low high
  pub gives : rows_at form pages 0 page ≡ rows

pub leaf-of : (form : Form) (least : ℕ) (pages : PageMap) (page low high count : ℕ) (bytes : List ℕ) → pages page ≡ image form.map 1 0 count bytes → 0 < count → least ≤ count → count < 2 ^ 16
    → length bytes ≡ (form.key + form.value) * count → 16 + length bytes ≤ 4096 → IsWithin low high (rows_of form count bytes) → IsLeafOf form least pages page low high (rows_of form count bytes)
leaf-of form least pages page low high count bytes is some enough small whole fits within =
    let r = image-rows form count bytes small whole fits in
    let n = image-node form.map 1 0 (form.key + form.value) least count bytes small whole fits some enough in
    record {
      tree = (subst (λ (b : List ℕ). IsLeaf form least b) (sym is) n, subst (λ (b : List ℕ). IsWithin low high (rows_in form b)) (sym is) (subst (λ (x : List Row). IsWithin low high x) (sym r) within));
      gives = ap (rows_in form) is ∙ r;
    }

-- a leaf that was written over
pub one_leaf : (form : Form) (least : ℕ) (old new : PageMap) (count first count' first' page low high n middle : ℕ) (bytes free : List ℕ) → new ≡ with_page page (image form.map 1 0 n bytes) old → count' ≡ count → first' ≡ first
    → 0 < n → least ≤ n → n < 2 ^ 16 → length bytes ≡ (form.key + form.value) * n → 16 + length bytes ≤ 4096 → IsWithin low high (rows_of form n bytes)
    → IsSupplied (view old count first free) → ((k : ℕ) → one_at page k + spare free count k ≤ 1)
    → IsGrown form least (view old count first free) (one_at page) new count' first' 0 page low high (rows_of form n bytes) 0 middle
one_leaf form least old new count first count' first' page low high n middle bytes free written e f some enough small whole fits within supplied once =
    let here : new page ≡ image form.map 1 0 n bytes = ap (λ (p : PageMap). p page) written ∙ with-same old (image form.map 1 0 n bytes) page in
    let leaf = leaf-of form least new page low high n bytes here some enough small whole fits within in
    let o = once page in
    let s = one_at-same page in
    let moved : Moves (view old count first free) (view (with_page page (image form.map 1 0 n bytes) old) count first free) (one_at page) (one_at page) =
    moves-write old (image form.map 1 0 n bytes) count first page free supplied (omega arith) in
    record {
      free = free;
      entries = (low, page) ∷ [];
      is = refl;
      moves = rw (written, e, f) (moves-as (λ k. refl) (λ k. omega arith) moved);
      fan = (refl, within-lt low high (rows_of form n bytes) (omega (arith, length-rows_of form n bytes)) within, leaf.tree, refl);
      gives = append-nil (rows_at form new 0 page) ∙ leaf.gives;
    }

-- a split page's entries
pub grown-two : (low page right middle : ℕ) → 0 < right → (low, page) ∷ ((middle, right) ∷ []) ≡ grown low page right middle
grown-two low page right middle h = let t : (right == 0) ≡ false = grind (arith, nat_tests) in rw t refl

-- after a split each page has half of what it can have
pub after-split : (least half right : ℕ) → 0 < right → least_after least half right ≡ half
after-split least half right h = let t : (right == 0) ≡ false = grind (arith, nat_tests) in rw t refl

pub half-split : (width n : ℕ) → 1 ≤ width → 4096 < 16 + width * n → half_of_width width ≤ n / 2
unfolding half_of_width
half-split width n some big =
    let q : 4080 / width < n = (div-lt_iff_lt-mul some).1 (omega arith) in
    omega arith

-- a leaf that became two
pub two_leaves : (form : Form) (least : ℕ) (before : View) (new : PageMap) (count' first' page right low high half rest : ℕ) (bytes : List ℕ)
    → IsSplit before new count' first' page right (image form.map 1 0 half (take ((form.key + form.value) * half) bytes)) (image form.map 1 0 (suc rest) (drop ((form.key + form.value) * half) bytes))
    → 0 < right → 0 < half → half_of form 0 ≤ half → half_of form 0 ≤ suc rest → half < 2 ^ 16 → suc rest < 2 ^ 16 → length bytes ≡ (form.key + form.value) * (half + suc rest)
    → 16 + (form.key + form.value) * half ≤ 4096 → 16 + (form.key + form.value) * suc rest ≤ 4096
    → IsWithin low high (rows_of form (half + suc rest) bytes)
    → IsGrown form least before (one_at page) new count' first' 0 page low high (rows_of form (half + suc rest) bytes) right (number (take form.key (drop ((form.key + form.value) * half) bytes)))
two_leaves form least before new count' first' page right low high half rest bytes split some left enough enough' small small' whole fits fits' within =
    let w : ℕ = form.key + form.value in
    let a : List ℕ = take (w * half) bytes in
    let b : List ℕ = drop (w * half) bytes in
    let m : ℕ = number (take form.key b) in
    let order = mul-le-mul_left {m = half} {n = half + suc rest} w (omega arith) in
    let la : length a ≡ w * half = length-take-le (w * half) bytes (omega arith) in
    let lb : length b ≡ w * suc rest = omega (arith, length-drop (w * half) bytes) in
    let rows : rows_of form (half + suc rest) bytes ≡ rows_of form half a ++ rows_of form (suc rest) b =
    ap (λ (x : List ℕ). rows_of form (half + suc rest) x) (sym (take-append-drop (w * half) bytes))
    ∙ ap (map (row_of form.key)) (chop-append w half (suc rest) a b la)
    ∙ map-append (row_of form.key) (chop w half a) (chop w (suc rest) b) in
    let key : (row_of form.key (take w b)).0 ≡ m = ap number (take-take form.key w b (omega arith)) in
    let parts = within-split low high (rows_of form half a) (row_of form.key (take w b)) (rows_of form rest (drop w b)) (subst (λ (x : List Row). IsWithin low high x) rows within) in
    let before_it : IsWithin low m (rows_of form half a) = subst (λ (k : ℕ). IsWithin low k (rows_of form half a)) key parts.0 in
    let behind : IsWithin m high (rows_of form (suc rest) b) = subst (λ (k : ℕ). IsWithin k high (rows_of form (suc rest) b)) key parts.1 in
    let first = leaf-of form (half_of form 0) new page low m half a split.here left enough small la (omega arith) before_it in
    let second = leaf-of form (half_of form 0) new right m high (suc rest) b split.there (omega arith) enough' small' lb (omega arith) behind in
    record {
      free = split.free;
      entries = (low, page) ∷ ((m, right) ∷ []);
      is = grown-two low page right m some;
      moves = moves-as (λ k. refl) (λ k. omega arith) split.moves;
      fan = subst (λ (k : ℕ). IsFan (IsTree form k new 0) low high ((low, page) ∷ ((m, right) ∷ []))) (sym (after-split least (half_of form 0) right some)) (
        refl,
        within-lt low m (rows_of form half a) (omega (arith, length-rows_of form half a)) before_it,
        first.tree,
        (refl, within-lt m high (rows_of form (suc rest) b) (omega (arith, length-rows_of form (suc rest) b)) behind, second.tree, refl),
      );
      gives = ap (λ (x : List Row). rows_at form new 0 page ++ x) (append-nil (rows_at form new 0 right) ∙ second.gives) ∙ ap (λ (x : List Row). x ++ rows_of form (suc rest) b) first.gives ∙ sym rows;
    }

-- there are few rows, and where they don't fit at least four
pub few : (width count : ℕ) → 1 ≤ width → 0 < count → 16 + width * (count - 1) ≤ 4096 → count < 4096
few width count one some fits =
    let m = mul-le-mul_right {m = 1} {n = width} (count - 1) one in omega arith

pub many : (width count : ℕ) → width ≤ 1020 → 4096 < 16 + width * count → 4 ≤ count
many width count short big =
    ⊎_elim (λ l. let m = mul-le-mul {n₁ = width} {m₁ = count} {n₂ = 1020} {m₂ = 3} short (omega arith) in absurd (omega arith)) (λ g. g) (cases_lt count 4)

pub back_fits : (width j half n : ℕ) → n ≡ width * suc j → 16 + width * j ≤ 4096 → 0 < half → 16 + (n - width * half) ≤ 4096
back_fits width j half n e few some = let m = mul-le-mul_left {m = 1} {n = half} width some in omega arith

-- the same, as the code says it
pub two_leaves_as : (form : Form) (least : ℕ) (before : View) (new : PageMap) (count' first' page right low high half count j : ℕ) (bytes front back mid : List ℕ)
    → IsSplit before new count' first' page right (image form.map 1 0 half front) (image form.map 1 0 (count - half) back)
    → front ≡ take ((form.key + form.value) * half) bytes → back ≡ drop ((form.key + form.value) * half) bytes → mid ≡ take form.key (drop ((form.key + form.value) * half) bytes)
    → half ≡ count / 2 → count ≡ suc j → 4 ≤ count → 4096 < 16 + (form.key + form.value) * count → count < 4096 → 0 < right → length bytes ≡ (form.key + form.value) * count → 16 + (form.key + form.value) * j ≤ 4096
    → IsWithin low high (rows_of form count bytes) → IsGrown form least before (one_at page) new count' first' 0 page low high (rows_of form count bytes) right (number mid)
two_leaves_as form least before new count' first' page right low high half count j bytes front back mid split e f g is last four big small some whole few within =
    let w : ℕ = form.key + form.value in
    let rest : ℕ = count - half - 1 in
    let sum : half + suc rest ≡ count = omega arith in
    let r : count - half ≡ suc rest = omega arith in
    let m = mul-le-mul_left {m = half} {n = j} w (omega arith) in
    let n = mul-le-mul_left {m = suc rest} {n = j} w (omega arith) in
    let enough : half_of form 0 ≤ count / 2 = half-split w count (omega arith) big in
    let split' : IsSplit before new count' first' page right (image form.map 1 0 half (take (w * half) bytes)) (image form.map 1 0 (suc rest) (drop (w * half) bytes)) =
    subst (λ (k : ℕ). IsSplit before new count' first' page right (image form.map 1 0 half (take (w * half) bytes)) (image form.map 1 0 k (drop (w * half) bytes))) r
    (subst (λ (x : List ℕ). IsSplit before new count' first' page right (image form.map 1 0 half x) (image form.map 1 0 (count - half) (drop (w * half) bytes))) e
    (subst (λ (x : List ℕ). IsSplit before new count' first' page right (image form.map 1 0 half front) (image form.map 1 0 (count - half) x)) f split)) in
    let made : IsGrown form least before (one_at page) new count' first' 0 page low high (rows_of form (half + suc rest) bytes) right (number (take form.key (drop (w * half) bytes))) =
    two_leaves form least before new count' first' page right low high half rest bytes split' some (omega arith) (omega arith) (omega arith) (omega arith) (omega arith)
    (whole ∙ ap (λ (k : ℕ). w * k) (sym sum)) (omega arith) (omega arith)
    (subst (λ (k : ℕ). IsWithin low high (rows_of form k bytes)) (sym sum) within) in
    subst (λ (x : List ℕ). IsGrown form least before (one_at page) new count' first' 0 page low high (rows_of form count bytes) right (number x)) (sym g)
    (subst (λ (k : ℕ). IsGrown form least before (one_at page) new count' first' 0 page low high (rows_of form k bytes) right (number (take form.key (drop (w * half) bytes)))) sum made)

pub room : (width count gone : ℕ) → width ≤ 1020 → 16 + width * count ≤ 4096 → width * (count + 1 - gone) ≤ 5120
room width count gone short fits = let m = mul-le-mul_left {m = count + 1 - gone} {n = count + 1} width (omega arith) in omega arith
