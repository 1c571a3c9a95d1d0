-- Trees that stay as they are, and trees in which one child has changed.
use Rattle.std.proofs.Common.{◌≡◌, ℕ, zero, suc, ◌+◌, ◌<◌, ◌≤◌, List, [], ◌∷◌, ◌++◌, length, get_or, take, drop, arith, refl, sym, ap, ◌∙◌, subst, append_assoc}
use Rattle.std.specs.List.{flat_map}
use Rattle.page_face.specs.FreeList.{PageMap}
use Rattle.btree_nodes.proofs.Supplies.{one_at-same}
use Rattle.btree_nodes.specs.declared.form.Form.{Form}
use Rattle.btree_nodes.specs.Rows.{Row, IsWithin, IsEdit}
use Rattle.btree_nodes.specs.Nodes.{Entry, entries_in, rows_in, half_of}
use Rattle.btree_nodes.specs.Tree.{next_key, IsFan, IsTree, rows_at, uses, total, with_low}
use Rattle.btree_nodes.proofs.Fans.{no_entry, fan-within, with_low-rows, fan-key}

-- the first entry's key is the lower bound
pub fan-head : (P : ℕ → ℕ → ℕ → Type 0) (low high : ℕ) (es : List Entry) → IsFan P low high es → next_key high es ≡ low
fan-head P low high [] h = sym h
fan-head P low high (e ∷ es) h = h.0

next_key-append : (high : ℕ) (xs ys : List Entry) → next_key (next_key high ys) xs ≡ next_key high (xs ++ ys)
next_key-append high [] ys = refl
next_key-append high (x ∷ xs) ys = refl

-- two fans that meet
pub fan-append : (P : ℕ → ℕ → ℕ → Type 0) (low high : ℕ) (xs ys : List Entry) → IsFan P low (next_key high ys) xs → IsFan P (next_key high ys) high ys → IsFan P low high (xs ++ ys)
fan-append P low high [] ys h k = subst (λ (a : ℕ). IsFan P a high ys) (sym h) k
fan-append P low high (x ∷ xs) ys h k =
    let e = next_key-append high xs ys in (
      h.0,
      subst (λ (b : ℕ). low < b) e h.1,
      subst (λ (b : ℕ). P x.1 low b) e h.2,
      subst (λ (b : ℕ). IsFan P b high (xs ++ ys)) e (fan-append P (next_key (next_key high ys) xs) high xs ys h.3 k),
    )

-- entries between bounds leave room between them
pub fan-lt : (P : ℕ → ℕ → ℕ → Type 0) (low high : ℕ) (es : List Entry) → 0 < length es → IsFan P low high es → low < high
fan-lt P low high [] k h = absurd (omega arith)
fan-lt P low high (e ∷ []) k h = h.1
fan-lt P low high (e ∷ (f ∷ es)) k h = let r = fan-lt P f.0 high (f ∷ es) (omega arith) h.3 in let l = h.1 in omega arith

-- entries that come apart at a key
pub fan-split : (P : ℕ → ℕ → ℕ → Type 0) (low high : ℕ) (xs ys : List Entry) → IsFan P low high (xs ++ ys) → IsFan P low (next_key high ys) xs × IsFan P (next_key high ys) high ys
fan-split P low high [] ys h = let e = fan-head P low high ys h in (sym e, subst (λ (k : ℕ). IsFan P k high ys) (sym e) h)
fan-split P low high (x ∷ []) ys h = ((h.0, h.1, h.2, refl), h.3)
fan-split P low high (x ∷ (z ∷ xs)) ys h = let r = fan-split P z.0 high (z ∷ xs) ys h.3 in ((h.0, h.1, h.2, r.0), r.1)

-- the rows below two lists of entries
pub flat_map-append : (R : ℕ → List Row) (xs ys : List Entry) → flat_map (λ (e : Entry). R e.1) (xs ++ ys) ≡ flat_map (λ (e : Entry). R e.1) xs ++ flat_map (λ (e : Entry). R e.1) ys
flat_map-append R [] ys = refl
flat_map-append R (x ∷ xs) ys = ap (λ (r : List Row). R x.1 ++ r) (flat_map-append R xs ys) ∙ sym (append_assoc (R x.1) (flat_map (λ (e : Entry). R e.1) xs) (flat_map (λ (e : Entry). R e.1) ys))

-- the sum over two lists of entries
pub total-append : (f : ℕ → ℕ) (xs ys : List Entry) → total f (xs ++ ys) ≡ total f xs + total f ys
total-append f [] ys = omega arith
total-append f (x ∷ xs) ys = let h = total-append f xs ys in omega arith

-- what a page below says of itself in one map of pages, and in another in which its pages are the same
pub record Same (P P' : ℕ → ℕ → ℕ → Type 0) (R R' : ℕ → List Row) (U U' : ℕ → ℕ → ℕ) (c a b : ℕ) : Type 0 where
  pub tree : P' c a b
  pub rows : R' c ≡ R c
  pub uses : (n : ℕ) → U' c n ≡ U c n

pub record SameFan (P P' : ℕ → ℕ → ℕ → Type 0) (R R' : ℕ → List Row) (U U' : ℕ → ℕ → ℕ) (low high : ℕ) (es : List Entry) : Type 0 where
  pub fan : IsFan P' low high es
  pub rows : flat_map (λ (e : Entry). R' e.1) es ≡ flat_map (λ (e : Entry). R e.1) es
  pub uses : (n : ℕ) → total (λ (c : ℕ). U' c n) es ≡ total (λ (c : ℕ). U c n) es

module _ (P P' : ℕ → ℕ → ℕ → Type 0) (R R' : ℕ → List Row) (U U' : ℕ → ℕ → ℕ) (Still : ℕ → Type 0)
    (each : (c a b : ℕ) → P c a b → ((n : ℕ) → 0 < U c n → Still n) → Same P P' R R' U U' c a b) where
  pub fan-frame : (low high : ℕ) (es : List Entry) → IsFan P low high es → ((n : ℕ) → 0 < total (λ (c : ℕ). U c n) es → Still n) → SameFan P P' R R' U U' low high es
  fan-frame low high [] h k = record { fan = h; rows = refl; uses = λ n. refl }
  fan-frame low high (e ∷ es) h k =
      let s = each e.1 low (next_key high es) h.2 (λ n l. k n (omega arith)) in
      let r = fan-frame (next_key high es) high es h.3 (λ n l. k n (omega arith)) in
      record {
        fan = (h.0, h.1, s.tree, r.fan);
        rows = ap (λ (x : List Row). x ++ flat_map (λ (f : Entry). R' f.1) es) s.rows ∙ ap (λ (x : List Row). R e.1 ++ x) r.rows;
        uses = λ n. let a = s.uses n in let b = r.uses n in omega arith;
      }

-- the first key doesn't count
pub with_low-total : (f : ℕ → ℕ) (low : ℕ) (es : List Entry) → total f (with_low low es) ≡ total f es
with_low-total f low [] = refl
with_low-total f low (e ∷ es) = refl

-- a child's pages are among those of all children
pub total-at : (U : ℕ → ℕ → ℕ) (es : List Entry) (at : ℕ) → at < length es → (n : ℕ) → U (get_or es at no_entry).1 n ≤ total (λ (c : ℕ). U c n) es
total-at U [] at l n = absurd (omega arith)
total-at U (e ∷ es) zero l n = omega arith
total-at U (e ∷ es) (suc at) l n = let h = total-at U es at (omega arith) n in omega arith

-- a tree stays where its pages do
pub tree-frame : (form : Form) (least : ℕ) (old new : PageMap) (level page low high : ℕ) → IsTree form least old level page low high → ((n : ℕ) → 0 < uses form old level page n → new n ≡ old n)
    → Same (IsTree form least old level) (IsTree form least new level) (rows_at form old level) (rows_at form new level) (uses form old level) (uses form new level) page low high
tree-frame form least old new zero page low high h k =
    let one = one_at-same page in
    let here : new page ≡ old page = k page (omega arith) in
    record {
      tree = rw here h;
      rows = ap (rows_in form) here;
      uses = λ n. refl;
    }
tree-frame form least old new (suc level) page low high h k =
    let one = one_at-same page in
    let here : new page ≡ old page = k page (omega arith) in
    let es : List Entry = entries_in form (old page) in
    let r = fan-frame (IsTree form (half_of form level) old level) (IsTree form (half_of form level) new level) (rows_at form old level) (rows_at form new level) (uses form old level) (uses form new level) (λ n. new n ≡ old n)
    (λ c a b t s. tree-frame form (half_of form level) old new level c a b t s) low high (with_low low es) h.1
    (λ n l. let e = with_low-total (λ (c : ℕ). uses form old level c n) low es in k n (omega arith)) in
    record {
      tree = rw here (h.0, r.fan);
      rows = rw here (sym (with_low-rows (rows_at form new level) low es) ∙ r.rows ∙ with_low-rows (rows_at form old level) low es);
      uses = λ n. rw here (let a = r.uses n in
          let b = with_low-total (λ (c : ℕ). uses form old level c n) low es in
          let d = with_low-total (λ (c : ℕ). uses form new level c n) low es in omega arith);
    }

-- a child that has become these entries, by an edit at a key that it holds, where the other children's pages stay
pub record EditFan (P' : ℕ → ℕ → ℕ → Type 0) (R R' : ℕ → List Row) (U U' : ℕ → ℕ → ℕ) (low high : ℕ) (edit : List Row → List Row) (es grown : List Entry) (at : ℕ) : Type 0 where
  pub fan : IsFan P' low high (take at es ++ (grown ++ drop (suc at) es))
  pub rows : flat_map (λ (e : Entry). R' e.1) (take at es ++ (grown ++ drop (suc at) es)) ≡ edit (flat_map (λ (e : Entry). R e.1) es)
  pub uses : (n : ℕ) → total (λ (c : ℕ). U' c n) (take at es ++ (grown ++ drop (suc at) es)) + U (get_or es at no_entry).1 n
      ≡ total (λ (c : ℕ). U c n) es + total (λ (c : ℕ). U' c n) grown

module _ (P P' : ℕ → ℕ → ℕ → Type 0) (R R' : ℕ → List Row) (U U' : ℕ → ℕ → ℕ) (Still : ℕ → Type 0)
    (within : (c a b : ℕ) → P c a b → IsWithin a b (R c))
    (each : (c a b : ℕ) → P c a b → ((n : ℕ) → 0 < U c n → Still n) → Same P P' R R' U U' c a b) (key : ℕ) (edit : List Row → List Row) (is_edit : IsEdit key edit) (grown : List Entry) where
  pub fan-edit : (low high : ℕ) (es : List Entry) (at : ℕ) → IsFan P low high es → at < length es → (get_or es at no_entry).0 ≤ key → key < next_key high (drop (suc at) es)
      → ((n : ℕ) → U (get_or es at no_entry).1 n ≡ 0 → 0 < total (λ (c : ℕ). U c n) es → Still n)
      → ((n : ℕ) → total (λ (c : ℕ). U c n) es ≤ 1)
      → IsFan P' (get_or es at no_entry).0 (next_key high (drop (suc at) es)) grown
      → flat_map (λ (e : Entry). R' e.1) grown ≡ edit (R (get_or es at no_entry).1)
      → EditFan P' R R' U U' low high edit es grown at
  fan-edit low high [] at h l from to still once fan rows = absurd (omega arith)
  fan-edit low high (e ∷ es) zero h l from to still once fan rows =
      let r = fan-frame P P' R R' U U' Still each (next_key high es) high es h.3 (λ n k. let o = once n in still n (omega arith) (omega arith)) in
      let w = fan-within P R (next_key high es) high es within h.3 in
      record {
        fan = fan-append P' low high grown es (subst (λ (a : ℕ). IsFan P' a (next_key high es) grown) h.0 fan) r.fan;
        rows = flat_map-append R' grown es ∙ ap (λ (x : List Row). x ++ flat_map (λ (f : Entry). R' f.1) es) rows ∙ ap (λ (x : List Row). edit (R e.1) ++ x) r.rows
            ∙ sym (is_edit.left (next_key high es) high (R e.1) (flat_map (λ (f : Entry). R f.1) es) w to);
        uses = λ n. let a = total-append (λ (c : ℕ). U' c n) grown es in let b = r.uses n in omega arith;
      }
  fan-edit low high (e ∷ es) (suc at) h l from to still once fan rows =
      let i = fan-edit (next_key high es) high es at h.3 (omega arith) from to (λ n a b. still n a (omega arith)) (λ n. let o = once n in omega arith) fan rows in
      let u = total-at (λ (c : ℕ) (n : ℕ). U c n) es at (omega arith) in
      let s = each e.1 low (next_key high es) h.2 (λ n k. let o = once n in let v = u n in still n (omega arith) (omega arith)) in
      let w = within e.1 low (next_key high es) h.2 in
      let m = fan-key P (next_key high es) high es at h.3 (omega arith) in
      let next : List Entry = take at es ++ (grown ++ drop (suc at) es) in
      let k : next_key high next ≡ next_key high es = fan-head P' (next_key high es) high next i.fan in
      record {
        fan = (h.0, subst (λ (b : ℕ). low < b) (sym k) h.1, subst (λ (b : ℕ). P' e.1 low b) (sym k) s.tree, subst (λ (b : ℕ). IsFan P' b high next) (sym k) i.fan);
        rows = ap (λ (x : List Row). x ++ flat_map (λ (f : Entry). R' f.1) next) s.rows ∙ ap (λ (x : List Row). R e.1 ++ x) i.rows
            ∙ sym (is_edit.right low (next_key high es) (R e.1) (flat_map (λ (f : Entry). R f.1) es) w (omega arith));
        uses = λ n. let a = s.uses n in let b = i.uses n in omega arith;
      }
