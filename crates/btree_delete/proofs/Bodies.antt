-- The cells of a node: cut in two, joined, and written into a page.
use Rattle.std.proofs.Common.{◌≡◌, ℕ, zero, suc, ◌+◌, ◌-◌, ◌*◌, ◌^◌, ◌<◌, ◌≤◌, List, ◌++◌, length, take, drop, map, replicate, arith, refl, sym, ap, ◌∙◌, subst}
use Rattle.std.proofs.lemmas.List.{length-drop, length-replicate, map-append, take-take, take-append-drop, take-append-le, take_at, length-take-le}
use Rattle.std.proofs.Math.Nat.{mul-le-mul_left}
use Rattle.page_face.specs.FreeList.{PageMap}
use Rattle.page_face.specs.Number.{number}
use Rattle.page_face.specs.Cells.{chop}
use Rattle.btree_nodes.specs.Build.{image}
use Rattle.btree_nodes.proofs.Chops.{chop-append}
use Rattle.btree_nodes.specs.declared.form.Form.{Form}
use Rattle.btree_nodes.specs.Supply.{one_at}
use Rattle.btree_nodes.specs.Rows.{Row, IsWithin}
use Rattle.btree_nodes.specs.Nodes.{Entry, rows_in, row_of, entries_in, entry_of, width_of, half_of, IsLeaf, IsInner, rows_of, entries_of}
use Rattle.btree_nodes.specs.Tree.{next_key, IsTree, IsFan, rows_at, uses, total, with_low}
use Rattle.btree_nodes.specs.Store.{below_rows}
use Rattle.btree_nodes.proofs.Spans.{within-append, within-lt, within-split}
use Rattle.btree_nodes.proofs.Fans.{with_low-rows, length-with_low, with_low-append}
use Rattle.btree_nodes.proofs.Frames.{fan-frame, fan-head, fan-append, tree-frame, flat_map-append, total-append, with_low-total, fan-lt, fan-split}
use Rattle.btree_nodes.proofs.Images.{image-node, image-rows, image-entries, image-first}
use Rattle.btree_nodes.proofs.Numbers.{number-zeros}
use Rattle.btree_nodes.proofs.Cells.{length-rows_of, length-entries_of, anew-entries, key-first, entries-zeroed, zeroed-entries}
use Rattle.btree_delete.specs.Body.{kind_of, IsBody, body_rows, body_uses, cleared, headed}

-- a page that holds these cells heads a tree
pub record IsTreeOf (form : Form) (least : ℕ) (pages : PageMap) (level page low high count : ℕ) (bytes : List ℕ) : Type 0 where
  pub tree : IsTree form least pages level page low high
  pub gives : rows_at form pages level page ≡ body_rows form pages level count bytes
  pub used : (n : ℕ) → uses form pages level page n ≡ one_at page n + body_uses form pages level count bytes n

pub tree-of : (form : Form) (least : ℕ) (pages : PageMap) (level page low high count : ℕ) (bytes : List ℕ) → pages page ≡ image form.map (kind_of level) level count bytes
    → 0 < count → least ≤ count → count < 2 ^ 16 → length bytes ≡ width_of form level * count → 16 + length bytes ≤ 4096 → IsBody form pages level low high count bytes
    → IsTreeOf form least pages level page low high count bytes
tree-of form least pages zero page low high count bytes is some enough small whole fits body =
    let r = image-rows form count bytes small whole fits in
    let n = image-node form.map 1 0 (form.key + form.value) least count bytes small whole fits some enough in
    record {
      tree = (subst (λ (b : List ℕ). IsLeaf form least b) (sym is) n, subst (λ (b : List ℕ). IsWithin low high (rows_in form b)) (sym is) (subst (λ (x : List Row). IsWithin low high x) (sym r) body));
      gives = ap (rows_in form) is ∙ r;
      used = λ n. omega arith;
    }
tree-of form least pages (suc level) page low high count bytes is some enough small whole fits body =
    let n = image-node form.map 2 (suc level) (form.key + 4) least count bytes small whole fits some enough in
    let m = mul-le-mul_left {m = 1} {n = count} (form.key + 4) some in
    let f = image-first form (suc level) count bytes (omega arith) ∙ body.0 in
    let inner : IsInner form least (suc level) (image form.map 2 (suc level) count bytes) = record { node = n; first = f } in
    let have : entries_in form (pages page) ≡ entries_of form count bytes = ap (entries_in form) is ∙ image-entries form (suc level) count bytes small whole fits in
    record {
      tree = (subst (λ (b : List ℕ). IsInner form least (suc level) b) (sym is) inner, subst (λ (x : List Entry). IsFan (IsTree form (half_of form level) pages level) low high (with_low low x)) (sym have) body.1);
      gives = ap (below_rows form pages level) have;
      used = λ k. let a : total (λ (c : ℕ). uses form pages level c k) (entries_in form (pages page)) ≡ total (λ (c : ℕ). uses form pages level c k) (entries_of form count bytes) = ap (total (λ (c : ℕ). uses form pages level c k)) have in omega arith;
    }

-- cells stay those of a node where the pages below them stay
pub record SameBody (form : Form) (old new : PageMap) (level low high count : ℕ) (bytes : List ℕ) : Type 0 where
  pub body : IsBody form new level low high count bytes
  pub rows : body_rows form new level count bytes ≡ body_rows form old level count bytes
  pub used : (n : ℕ) → body_uses form new level count bytes n ≡ body_uses form old level count bytes n

pub body-frame : (form : Form) (old new : PageMap) (level low high count : ℕ) (bytes : List ℕ) → IsBody form old level low high count bytes
    → ((n : ℕ) → 0 < body_uses form old level count bytes n → new n ≡ old n) → SameBody form old new level low high count bytes
body-frame form old new zero low high count bytes body still = record { body = body; rows = refl; used = λ n. refl }
body-frame form old new (suc level) low high count bytes body still =
    let es : List Entry = entries_of form count bytes in
    let r = fan-frame (IsTree form (half_of form level) old level) (IsTree form (half_of form level) new level) (rows_at form old level) (rows_at form new level) (uses form old level) (uses form new level) (λ n. new n ≡ old n)
    (λ c a b t s. tree-frame form (half_of form level) old new level c a b t s) low high (with_low low es) body.1
    (λ n l. let e = with_low-total (λ (c : ℕ). uses form old level c n) low es in still n (omega arith)) in
    record {
      body = (body.0, r.fan);
      rows = sym (with_low-rows (rows_at form new level) low es) ∙ r.rows ∙ with_low-rows (rows_at form old level) low es;
      used = λ n. let a = r.uses n in
          let b = with_low-total (λ (c : ℕ). uses form old level c n) low es in
          let d = with_low-total (λ (c : ℕ). uses form new level c n) low es in omega arith;
    }

-- there is room between the bounds of cells
pub body-lt : (form : Form) (pages : PageMap) (level low high count : ℕ) (bytes : List ℕ) → 0 < count → IsBody form pages level low high count bytes → low < high
body-lt form pages zero low high count bytes some h = within-lt low high (rows_of form count bytes) (omega (arith, length-rows_of form count bytes)) h
body-lt form pages (suc level) low high count bytes some h =
    fan-lt (IsTree form (half_of form level) pages level) low high (with_low low (entries_of form count bytes))
    (omega (arith, length-with_low low (entries_of form count bytes), length-entries_of form count bytes)) h.1

-- cells cut in two, the second ones as the first of a page
pub record IsCut (form : Form) (pages : PageMap) (level low high half rest middle : ℕ) (bytes front back : List ℕ) : Type 0 where
  pub front_body : IsBody form pages level low middle half front
  pub back_body : IsBody form pages level middle high rest back
  pub rows : body_rows form pages level (half + rest) bytes ≡ body_rows form pages level half front ++ body_rows form pages level rest back
  pub used : (n : ℕ) → body_uses form pages level (half + rest) bytes n ≡ body_uses form pages level half front n + body_uses form pages level rest back n

pub body-cut : (form : Form) (pages : PageMap) (level low high half rest : ℕ) (bytes : List ℕ) → length bytes ≡ width_of form level * (half + suc rest) → 0 < half → IsBody form pages level low high (half + suc rest) bytes
    → IsCut form pages level low high half (suc rest) (number (take form.key (drop (width_of form level * half) bytes))) bytes (take (width_of form level * half) bytes) (cleared level form.key (drop (width_of form level * half) bytes))
body-cut form pages zero low high half rest bytes whole left body =
    let w : ℕ = form.key + form.value in
    let a : List ℕ = take (w * half) bytes in
    let b : List ℕ = drop (w * half) bytes in
    let m : ℕ = number (take form.key b) in
    let order = mul-le-mul_left {m = half} {n = half + suc rest} w (omega arith) in
    let la : length a ≡ w * half = length-take-le (w * half) bytes (omega arith) in
    let rows : rows_of form (half + suc rest) bytes ≡ rows_of form half a ++ rows_of form (suc rest) b =
    ap (λ (x : List ℕ). rows_of form (half + suc rest) x) (sym (take-append-drop (w * half) bytes))
    ∙ ap (map (row_of form.key)) (chop-append w half (suc rest) a b la)
    ∙ map-append (row_of form.key) (chop w half a) (chop w (suc rest) b) in
    let key : (row_of form.key (take w b)).0 ≡ m = ap number (take-take form.key w b (omega arith)) in
    let parts = within-split low high (rows_of form half a) (row_of form.key (take w b)) (rows_of form rest (drop w b)) (subst (λ (x : List Row). IsWithin low high x) rows body) in
    record {
      front_body = subst (λ (k : ℕ). IsWithin low k (rows_of form half a)) key parts.0;
      back_body = subst (λ (k : ℕ). IsWithin k high (rows_of form (suc rest) b)) key parts.1;
      rows = rows;
      used = λ n. refl;
    }
body-cut form pages (suc level) low high half rest bytes whole left body =
    let w : ℕ = form.key + 4 in
    let P : ℕ → ℕ → ℕ → Type 0 = IsTree form (half_of form level) pages level in
    let a : List ℕ = take (w * half) bytes in
    let b : List ℕ = drop (w * half) bytes in
    let m : ℕ = number (take form.key b) in
    let zb : List ℕ = replicate form.key 0 ++ drop form.key b in
    let xs : List Entry = entries_of form half a in
    let ys : List Entry = entries_of form (suc rest) b in
    let order = mul-le-mul_left {m = half} {n = half + suc rest} w (omega arith) in
    let one_wide = mul-le-mul_left {m = 1} {n = half} w left in
    let la : length a ≡ w * half = length-take-le (w * half) bytes (omega arith) in
    let lb : length b ≡ w * suc rest = omega (arith, length-drop (w * half) bytes) in
    let pieces : entries_of form (half + suc rest) bytes ≡ xs ++ ys =
    ap (λ (x : List ℕ). entries_of form (half + suc rest) x) (sym (take-append-drop (w * half) bytes))
    ∙ ap (map (entry_of form.key)) (chop-append w half (suc rest) a b la)
    ∙ map-append (entry_of form.key) (chop w half a) (chop w (suc rest) b) in
    let together : with_low low (entries_of form (half + suc rest) bytes) ≡ with_low low xs ++ ys = ap (with_low low) pieces ∙ with_low-append low xs ys (omega (arith, length-entries_of form half a)) in
    let parts = fan-split P low high (with_low low xs) ys (subst (λ (x : List Entry). IsFan P low high x) together body.1) in
    let nk : next_key high ys ≡ m = key-first form rest b high in
    let zeroed : entries_of form (suc rest) zb ≡ with_low 0 ys = entries-zeroed form rest b (omega arith) in
    let same : with_low m (entries_of form (suc rest) zb) ≡ ys = sym (zeroed-entries form rest b (omega arith)) in
    record {
      front_body = (ap number (take-take form.key (w * half) bytes (omega arith)) ∙ body.0, subst (λ (k : ℕ). IsFan P low k (with_low low xs)) nk parts.0);
      back_body = (
        ap number (take_at (replicate form.key 0) (drop form.key b) form.key (length-replicate form.key 0)) ∙ number-zeros form.key,
        subst (λ (x : List Entry). IsFan P m high x) (sym same) (subst (λ (k : ℕ). IsFan P k high ys) nk parts.1),
      );
      rows = ap (below_rows form pages level) pieces ∙ flat_map-append (rows_at form pages level) xs ys
          ∙ ap (λ (x : List Row). below_rows form pages level xs ++ x) (sym (with_low-rows (rows_at form pages level) 0 ys) ∙ ap (below_rows form pages level) (sym zeroed));
      used = λ n. let U : ℕ → ℕ = λ (c : ℕ). uses form pages level c n in
          let e : total U (entries_of form (half + suc rest) bytes) ≡ total U (xs ++ ys) = ap (total U) pieces in
          let f = total-append U xs ys in
          let g = with_low-total U 0 ys in
          let h : total U (entries_of form (suc rest) zb) ≡ total U (with_low 0 ys) = ap (total U) zeroed in omega arith;
    }

-- the cells of two neighbours, one behind the other
pub record IsSum (form : Form) (pages : PageMap) (level low high m n : ℕ) (a b both : List ℕ) : Type 0 where
  pub body : IsBody form pages level low high (m + n) both
  pub rows : body_rows form pages level (m + n) both ≡ body_rows form pages level m a ++ body_rows form pages level n b
  pub used : (k : ℕ) → body_uses form pages level (m + n) both k ≡ body_uses form pages level m a k + body_uses form pages level n b k

pub body-sum : (form : Form) (pages : PageMap) (level low high m rest : ℕ) (parting a b : List ℕ) → length a ≡ width_of form level * m → length b ≡ width_of form level * suc rest → 0 < m → length parting ≡ form.key
    → IsBody form pages level low (number parting) m a → IsBody form pages level (number parting) high (suc rest) b
    → IsSum form pages level low high m (suc rest) a b (a ++ headed level form.key parting b)
body-sum form pages zero low high m rest parting a b la lb some lp first second =
    let w : ℕ = form.key + form.value in
    let rows : rows_of form (m + suc rest) (a ++ b) ≡ rows_of form m a ++ rows_of form (suc rest) b = ap (map (row_of form.key)) (chop-append w m (suc rest) a b la) ∙ map-append (row_of form.key) (chop w m a) (chop w (suc rest) b) in
    record {
      body = subst (λ (x : List Row). IsWithin low high x) (sym rows) (within-append low (number parting) high (rows_of form m a) (rows_of form (suc rest) b) first second);
      rows = rows;
      used = λ k. refl;
    }
body-sum form pages (suc level) low high m rest parting a b la lb some lp first second =
    let w : ℕ = form.key + 4 in
    let P : ℕ → ℕ → ℕ → Type 0 = IsTree form (half_of form level) pages level in
    let s : ℕ = number parting in
    let nb : List ℕ = parting ++ drop form.key b in
    let xs : List Entry = entries_of form m a in
    let ys : List Entry = entries_of form (suc rest) b in
    let one_wide = mul-le-mul_left {m = 1} {n = m} w some in
    let behind : entries_of form (suc rest) nb ≡ with_low s ys = anew-entries form rest parting b (omega arith) lp in
    let pieces : entries_of form (m + suc rest) (a ++ nb) ≡ xs ++ with_low s ys =
    ap (map (entry_of form.key)) (chop-append w m (suc rest) a nb la) ∙ map-append (entry_of form.key) (chop w m a) (chop w (suc rest) nb) ∙ ap (λ (x : List Entry). xs ++ x) behind in
    let together : with_low low (entries_of form (m + suc rest) (a ++ nb)) ≡ with_low low xs ++ with_low s ys = ap (with_low low) pieces ∙ with_low-append low xs (with_low s ys) (omega (arith, length-entries_of form m a)) in
    let head : next_key high (with_low s ys) ≡ s = fan-head P s high (with_low s ys) second.1 in
    let fan : IsFan P low high (with_low low xs ++ with_low s ys) = fan-append P low high (with_low low xs) (with_low s ys)
    (subst (λ (k : ℕ). IsFan P low k (with_low low xs)) (sym head) first.1) (subst (λ (k : ℕ). IsFan P k high (with_low s ys)) (sym head) second.1) in
    record {
      body = (ap number (take-append-le form.key a nb (omega arith)) ∙ first.0, subst (λ (x : List Entry). IsFan P low high x) (sym together) fan);
      rows = ap (below_rows form pages level) pieces ∙ flat_map-append (rows_at form pages level) xs (with_low s ys)
          ∙ ap (λ (x : List Row). below_rows form pages level xs ++ x) (with_low-rows (rows_at form pages level) s ys);
      used = λ k. let U : ℕ → ℕ = λ (c : ℕ). uses form pages level c k in
          let e : total U (entries_of form (m + suc rest) (a ++ nb)) ≡ total U (xs ++ with_low s ys) = ap (total U) pieces in
          let f = total-append U xs (with_low s ys) in
          let g = with_low-total U s ys in omega arith;
    }
