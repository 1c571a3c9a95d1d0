-- Inner pages that were made.
use Rattle.std.proofs.Common.{◌≡◌, ℕ, suc, ◌+◌, ◌-◌, ◌*◌, ◌/◌, ◌^◌, ◌<◌, ◌≤◌, List, [], ◌∷◌, ◌++◌, length, take, drop, map, replicate, arith, refl, sym, ap, ◌∙◌, subst, append-nil}
use Rattle.std.proofs.lemmas.List.{length-drop, length-append, length-replicate, map-append, take-take, take-append-drop, take_at, length-take-le}
use Rattle.std.proofs.Math.Nat.{mul-le-mul_left}
use Rattle.page_face.specs.FreeList.{PageMap, with_page}
use Rattle.btree_nodes.specs.Supply.{one_at, spare}
use Rattle.btree_nodes.specs.Supply.{View, view, IsSupplied, spare_in, Moves}
use Rattle.btree_nodes.proofs.Supplies.{moves-write, moves-as, moves-beside, one_at-same, with-same, with-other}
use Rattle.page_face.specs.Number.{number}
use Rattle.page_face.specs.Cells.{chop}
use Rattle.btree_nodes.specs.Build.{image}
use Rattle.btree_nodes.proofs.Chops.{chop-append}
use Rattle.btree_nodes.specs.declared.form.Form.{Form}
use Rattle.btree_nodes.specs.Rows.{Row}
use Rattle.btree_nodes.specs.Nodes.{Entry, IsInner, entries_in, entry_of, half_of, entries_of}
use Rattle.btree_nodes.specs.Tree.{next_key, IsTree, IsFan, rows_at, uses, total, with_low}
use Rattle.btree_nodes.specs.Store.{IsSplit, IsGrown, below_rows}
use Rattle.btree_nodes.proofs.Fans.{with_low-rows, length-with_low, with_low-append}
use Rattle.btree_nodes.proofs.Frames.{SameFan, fan-frame, tree-frame, flat_map-append, total-append, with_low-total, fan-lt, fan-split}
use Rattle.btree_nodes.proofs.Images.{image-node, image-entries, image-first}
use Rattle.btree_nodes.proofs.Numbers.{number-zeros}
use Rattle.btree_nodes.proofs.Cells.{length-entries_of, key-first, zeroed-entries}
use Rattle.btree_insert.proofs.Leaves.{grown-two, after-split, half-split}

-- an inner page that was made, with these entries
pub record IsInnerOf (form : Form) (least : ℕ) (pages : PageMap) (level page low high : ℕ) (es : List Entry) : Type 0 where
  pub tree : IsTree form least pages (suc level) page low high
  pub gives : rows_at form pages (suc level) page ≡ below_rows form pages level es
  pub used : (n : ℕ) → uses form pages (suc level) page n ≡ one_at page n + total (λ (c : ℕ). uses form pages level c n) es

pub inner-of : (form : Form) (least : ℕ) (pages : PageMap) (level page low high count : ℕ) (bytes : List ℕ) (es : List Entry) → pages page ≡ image form.map 2 (suc level) count bytes → 0 < count → least ≤ count → count < 2 ^ 16
    → length bytes ≡ (form.key + 4) * count → 16 + length bytes ≤ 4096 → number (take form.key bytes) ≡ 0 → es ≡ with_low low (entries_of form count bytes)
    → IsFan (IsTree form (half_of form level) pages level) low high es → IsInnerOf form least pages level page low high es
inner-of form least pages level page low high count bytes es is some enough small whole fits first e fan =
    let n = image-node form.map 2 (suc level) (form.key + 4) least count bytes small whole fits some enough in
    let m = mul-le-mul_left {m = 1} {n = count} (form.key + 4) some in
    let f = image-first form (suc level) count bytes (omega arith) ∙ first in
    let inner : IsInner form least (suc level) (image form.map 2 (suc level) count bytes) = record { node = n; first = f } in
    let have : entries_in form (pages page) ≡ entries_of form count bytes = ap (entries_in form) is ∙ image-entries form (suc level) count bytes small whole fits in
    let same : with_low low (entries_in form (pages page)) ≡ es = ap (with_low low) have ∙ sym e in
    record {
      tree = (subst (λ (b : List ℕ). IsInner form least (suc level) b) (sym is) inner, subst (λ (x : List Entry). IsFan (IsTree form (half_of form level) pages level) low high x) (sym same) fan);
      gives = sym (with_low-rows (rows_at form pages level) low (entries_in form (pages page))) ∙ ap (below_rows form pages level) same;
      used = λ k. let a : total (λ (c : ℕ). uses form pages level c k) (with_low low (entries_in form (pages page))) ≡ total (λ (c : ℕ). uses form pages level c k) es = ap (total (λ (c : ℕ). uses form pages level c k)) same in
          let b = with_low-total (λ (c : ℕ). uses form pages level c k) low (entries_in form (pages page)) in omega arith;
    }

-- the children stay where only the page, and one that was taken, are written
pub kept-fan : (form : Form) (before : View) (new : PageMap) (level page low high : ℕ) (es : List Entry)
    → ((n : ℕ) → one_at page n ≡ 0 → spare_in before n ≡ 0 → new n ≡ before.pages n)
    → ((n : ℕ) → one_at page n + total (λ (c : ℕ). uses form before.pages level c n) es + spare_in before n ≤ 1)
    → IsFan (IsTree form (half_of form level) before.pages level) low high es
    → SameFan (IsTree form (half_of form level) before.pages level) (IsTree form (half_of form level) new level) (rows_at form before.pages level) (rows_at form new level) (uses form before.pages level) (uses form new level) low high es
kept-fan form before new level page low high es others once fan =
    fan-frame (IsTree form (half_of form level) before.pages level) (IsTree form (half_of form level) new level) (rows_at form before.pages level) (rows_at form new level) (uses form before.pages level) (uses form new level) (λ n. new n ≡ before.pages n)
    (λ c a b t s. tree-frame form (half_of form level) before.pages new level c a b t s) low high es fan
    (λ n k. let o = once n in
    let a : one_at page n ≡ 0 = omega arith in
    let b : spare_in before n ≡ 0 = omega arith in others n a b)

length-es : (form : Form) (n : ℕ) (bytes : List ℕ) (low : ℕ) → length (with_low low (entries_of form n bytes)) ≡ n
length-es form n bytes low = length-with_low low (entries_of form n bytes) ∙ length-entries_of form n bytes

-- an inner page that was written over
pub one_inner : (form : Form) (least : ℕ) (old new : PageMap) (count first count' first' level page low high n middle : ℕ) (bytes free : List ℕ) → new ≡ with_page page (image form.map 2 (suc level) n bytes) old → count' ≡ count → first' ≡ first
    → 0 < n → least ≤ n → n < 2 ^ 16 → length bytes ≡ (form.key + 4) * n → 16 + length bytes ≤ 4096 → number (take form.key bytes) ≡ 0
    → IsFan (IsTree form (half_of form level) old level) low high (with_low low (entries_of form n bytes))
    → IsSupplied (view old count first free) → ((k : ℕ) → one_at page k + total (λ (c : ℕ). uses form old level c k) (with_low low (entries_of form n bytes)) + spare free count k ≤ 1)
    → IsGrown form least (view old count first free) (λ k. one_at page k + total (λ (c : ℕ). uses form old level c k) (with_low low (entries_of form n bytes))) new count' first' (suc level) page low high
    (below_rows form old level (with_low low (entries_of form n bytes))) 0 middle
one_inner form least old new count first count' first' level page low high n middle bytes free written e f some enough small whole fits zero_key fan supplied once =
    let es : List Entry = with_low low (entries_of form n bytes) in
    let made : List ℕ = image form.map 2 (suc level) n bytes in
    let here : new page ≡ made = ap (λ (p : PageMap). p page) written ∙ with-same old made page in
    let one = one_at-same page in
    let o = once page in
    let moved : Moves (view old count first free) (view (with_page page made old) count first free) (one_at page) (one_at page) = moves-write old made count first page free supplied (omega arith) in
    let kept = kept-fan form (view old count first free) new level page low high es
    (λ k a b. ap (λ (p : PageMap). p k) written ∙ with-other old made page k (λ s. let c : one_at page k ≡ one_at page page = ap (one_at page) s in omega arith)) once fan in
    let inner = inner-of form least new level page low high n bytes es here some enough small whole fits zero_key refl kept.fan in
    let there : Moves (view old count first free) (view new count' first' free) (one_at page) (one_at page) = rw (written, e, f) moved in
    record {
      free = free;
      entries = (low, page) ∷ [];
      is = refl;
      moves = moves-as (λ k. refl) (λ k. let a = inner.used k in let b = kept.uses k in omega arith) (moves-beside (λ k. total (λ (c : ℕ). uses form old level c k) es) there);
      fan = (refl, fan-lt (IsTree form (half_of form level) old level) low high es (omega (arith, length-es form n bytes low)) fan, inner.tree, refl);
      gives = append-nil (rows_at form new (suc level) page) ∙ inner.gives ∙ kept.rows;
    }

-- an inner page that became two
pub two_inner : (form : Form) (least : ℕ) (before : View) (new : PageMap) (count' first' level page right low high half rest : ℕ) (bytes : List ℕ)
    → IsSplit before new count' first' page right (image form.map 2 (suc level) half (take ((form.key + 4) * half) bytes))
    (image form.map 2 (suc level) (suc rest) (replicate form.key 0 ++ drop form.key (drop ((form.key + 4) * half) bytes)))
    → 0 < right → 0 < half → half_of form (suc level) ≤ half → half_of form (suc level) ≤ suc rest → half < 2 ^ 16 → suc rest < 2 ^ 16 → length bytes ≡ (form.key + 4) * (half + suc rest)
    → 16 + (form.key + 4) * half ≤ 4096 → 16 + (form.key + 4) * suc rest ≤ 4096 → number (take form.key bytes) ≡ 0
    → IsFan (IsTree form (half_of form level) before.pages level) low high (with_low low (entries_of form (half + suc rest) bytes))
    → ((k : ℕ) → one_at page k + total (λ (c : ℕ). uses form before.pages level c k) (with_low low (entries_of form (half + suc rest) bytes)) + spare_in before k ≤ 1)
    → IsGrown form least before (λ k. one_at page k + total (λ (c : ℕ). uses form before.pages level c k) (with_low low (entries_of form (half + suc rest) bytes))) new count' first' (suc level) page low high
    (below_rows form before.pages level (with_low low (entries_of form (half + suc rest) bytes))) right (number (take form.key (drop ((form.key + 4) * half) bytes)))
two_inner form least before new count' first' level page right low high half rest bytes split some left enough enough' small small' whole fits fits' zero_key fan once =
    let w : ℕ = form.key + 4 in
    let a : List ℕ = take (w * half) bytes in
    let b : List ℕ = drop (w * half) bytes in
    let m : ℕ = number (take form.key b) in
    let es : List Entry = with_low low (entries_of form (half + suc rest) bytes) in
    let xs : List Entry = with_low low (entries_of form half a) in
    let ys : List Entry = entries_of form (suc rest) b in
    let order = mul-le-mul_left {m = half} {n = half + suc rest} w (omega arith) in
    let one_wide = mul-le-mul_left {m = 1} {n = half} w left in
    let la : length a ≡ w * half = length-take-le (w * half) bytes (omega arith) in
    let lb : length b ≡ w * suc rest = omega (arith, length-drop (w * half) bytes) in
    let ls : length (entries_of form half a) ≡ half = length-entries_of form half a in
    let pieces : entries_of form (half + suc rest) bytes ≡ entries_of form half a ++ ys =
    ap (λ (x : List ℕ). entries_of form (half + suc rest) x) (sym (take-append-drop (w * half) bytes))
    ∙ ap (map (entry_of form.key)) (chop-append w half (suc rest) a b la)
    ∙ map-append (entry_of form.key) (chop w half a) (chop w (suc rest) b) in
    let joined : es ≡ xs ++ ys = ap (with_low low) pieces ∙ with_low-append low (entries_of form half a) ys (omega arith) in
    let kept = kept-fan form before new level page low high es split.moves.others once fan in
    let parts = fan-split (IsTree form (half_of form level) new level) low high xs ys (subst (λ (x : List Entry). IsFan (IsTree form (half_of form level) new level) low high x) joined kept.fan) in
    let nk : next_key high ys ≡ m = key-first form rest b high in
    let fan_left : IsFan (IsTree form (half_of form level) new level) low m xs = subst (λ (k : ℕ). IsFan (IsTree form (half_of form level) new level) low k xs) nk parts.0 in
    let fan_right : IsFan (IsTree form (half_of form level) new level) m high ys = subst (λ (k : ℕ). IsFan (IsTree form (half_of form level) new level) k high ys) nk parts.1 in
    let first_left : number (take form.key a) ≡ 0 = ap number (take-take form.key (w * half) bytes (omega arith)) ∙ zero_key in
    let zb : List ℕ = replicate form.key 0 ++ drop form.key b in
    let lz : length zb ≡ w * suc rest = let wide = mul-le-mul_left {m = 1} {n = suc rest} w (omega arith) in
    omega (arith, length-append (replicate form.key 0) (drop form.key b), length-replicate {A = ℕ} form.key 0, length-drop form.key b) in
    let first_right : number (take form.key zb) ≡ 0 = ap number (take_at (replicate form.key 0) (drop form.key b) form.key (length-replicate form.key 0)) ∙ number-zeros form.key in
    let inner_left = inner-of form (half_of form (suc level)) new level page low m half a xs split.here left enough small la (omega arith) first_left refl fan_left in
    let inner_right = inner-of form (half_of form (suc level)) new level right m high (suc rest) zb ys split.there (omega arith) enough' small' lz (omega arith) first_right (zeroed-entries form rest b (omega arith)) fan_right in
    record {
      free = split.free;
      entries = (low, page) ∷ ((m, right) ∷ []);
      is = grown-two low page right m some;
      moves = moves-as (λ k. refl)
          (λ k. let c = inner_left.used k in let d = inner_right.used k in let e = kept.uses k in
          let f = total-append (λ (c : ℕ). uses form new level c k) xs ys in
          let g : total (λ (c : ℕ). uses form new level c k) es ≡ total (λ (c : ℕ). uses form new level c k) (xs ++ ys) = ap (total (λ (c : ℕ). uses form new level c k)) joined in
          omega arith)
          (moves-beside (λ k. total (λ (c : ℕ). uses form before.pages level c k) es) split.moves);
      fan = subst (λ (k : ℕ). IsFan (IsTree form k new (suc level)) low high ((low, page) ∷ ((m, right) ∷ []))) (sym (after-split least (half_of form (suc level)) right some)) (
        refl,
        fan-lt (IsTree form (half_of form level) new level) low m xs (omega (arith, length-with_low low (entries_of form half a))) fan_left,
        inner_left.tree,
        (refl, fan-lt (IsTree form (half_of form level) new level) m high ys (omega arith) fan_right, inner_right.tree, refl),
      );
      gives = ap (λ (x : List Row). rows_at form new (suc level) page ++ x) (append-nil (rows_at form new (suc level) right) ∙ inner_right.gives)
          ∙ ap (λ (x : List Row). x ++ below_rows form new level ys) inner_left.gives
          ∙ sym (flat_map-append (rows_at form new level) xs ys) ∙ ap (below_rows form new level) (sym joined) ∙ kept.rows;
    }

-- the same, as the code says it
pub two_inner_as : (form : Form) (least : ℕ) (before : View) (new : PageMap) (count' first' level level' page right low high half count j : ℕ) (bytes front back mid : List ℕ)
    → IsSplit before new count' first' page right (image form.map 2 level' half front) (image form.map 2 level' (count - half) back) → level' ≡ suc level
    → front ≡ take ((form.key + 4) * half) bytes → back ≡ replicate form.key 0 ++ drop form.key (drop ((form.key + 4) * half) bytes) → mid ≡ take form.key (drop ((form.key + 4) * half) bytes)
    → half ≡ count / 2 → count ≡ suc j → 4 ≤ count → 4096 < 16 + (form.key + 4) * count → count < 4096 → 0 < right → length bytes ≡ (form.key + 4) * count → 16 + (form.key + 4) * j ≤ 4096 → number (take form.key bytes) ≡ 0
    → IsFan (IsTree form (half_of form level) before.pages level) low high (with_low low (entries_of form count bytes))
    → ((k : ℕ) → one_at page k + total (λ (c : ℕ). uses form before.pages level c k) (with_low low (entries_of form count bytes)) + spare_in before k ≤ 1)
    → IsGrown form least before (λ k. one_at page k + total (λ (c : ℕ). uses form before.pages level c k) (with_low low (entries_of form count bytes))) new count' first' (suc level) page low high
    (below_rows form before.pages level (with_low low (entries_of form count bytes))) right (number mid)
two_inner_as form least before new count' first' level level' page right low high half count j bytes front back mid split lv e f g is last four big small some whole few zero_key fan once =
    let w : ℕ = form.key + 4 in
    let rest : ℕ = count - half - 1 in
    let sum : half + suc rest ≡ count = omega arith in
    let r : count - half ≡ suc rest = omega arith in
    let m = mul-le-mul_left {m = half} {n = j} w (omega arith) in
    let n = mul-le-mul_left {m = suc rest} {n = j} w (omega arith) in
    let z : List ℕ = replicate form.key 0 ++ drop form.key (drop (w * half) bytes) in
    let enough : half_of form (suc level) ≤ count / 2 = half-split w count (omega arith) big in
    let split' : IsSplit before new count' first' page right (image form.map 2 (suc level) half (take (w * half) bytes)) (image form.map 2 (suc level) (suc rest) z) =
    subst (λ (k : ℕ). IsSplit before new count' first' page right (image form.map 2 k half (take (w * half) bytes)) (image form.map 2 k (suc rest) z)) lv
    (subst (λ (k : ℕ). IsSplit before new count' first' page right (image form.map 2 level' half (take (w * half) bytes)) (image form.map 2 level' k z)) r
    (subst (λ (x : List ℕ). IsSplit before new count' first' page right (image form.map 2 level' half x) (image form.map 2 level' (count - half) z)) e
    (subst (λ (x : List ℕ). IsSplit before new count' first' page right (image form.map 2 level' half front) (image form.map 2 level' (count - half) x)) f split))) in
    let made = two_inner form least before new count' first' level page right low high half rest bytes split' some (omega arith) (omega arith) (omega arith) (omega arith) (omega arith)
    (whole ∙ ap (λ (k : ℕ). w * k) (sym sum)) (omega arith) (omega arith) zero_key
    (subst (λ (k : ℕ). IsFan (IsTree form (half_of form level) before.pages level) low high (with_low low (entries_of form k bytes))) (sym sum) fan)
    (subst (λ (x : ℕ). (k : ℕ) → one_at page k + total (λ (c : ℕ). uses form before.pages level c k) (with_low low (entries_of form x bytes)) + spare_in before k ≤ 1) (sym sum) once) in
    subst (λ (x : List ℕ). IsGrown form least before (λ k. one_at page k + total (λ (c : ℕ). uses form before.pages level c k) (with_low low (entries_of form count bytes))) new count' first' (suc level) page low high
    (below_rows form before.pages level (with_low low (entries_of form count bytes))) right (number x)) (sym g)
    (subst (λ (x : ℕ). IsGrown form least before (λ k. one_at page k + total (λ (c : ℕ). uses form before.pages level c k) (with_low low (entries_of form x bytes))) new count' first' (suc level) page low high
    (below_rows form before.pages level (with_low low (entries_of form x bytes))) right (number (take form.key (drop (w * half) bytes)))) sum made)
