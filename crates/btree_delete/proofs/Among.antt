-- Trees that change beside others, and pages that are written above them.
use Rattle.std.proofs.Common.{◌≡◌, ℕ, ◌+◌, ◌*◌, ◌^◌, ◌<◌, ◌≤◌, List, [], ◌∷◌, ◌++◌, length, arith, refl, sym, ap, ◌∙◌, subst, append-nil}
use Rattle.page_face.specs.FreeList.{PageMap, with_page}
use Rattle.btree_nodes.specs.Build.{image}
use Rattle.btree_nodes.specs.declared.form.Form.{Form}
use Rattle.btree_nodes.specs.Supply.{View, view, IsSupplied, spare_in, spare, Moves, one_at}
use Rattle.btree_nodes.specs.Rows.{Row}
use Rattle.btree_nodes.specs.Nodes.{Entry, width_of, half_of}
use Rattle.btree_nodes.specs.Tree.{next_key, IsFan, IsTree, rows_at, uses, total}
use Rattle.btree_nodes.specs.Store.{below_rows}
use Rattle.btree_nodes.proofs.Supplies.{moves-write, moves-beside, moves-as, one_at-same, with-same, with-other}
use Rattle.btree_nodes.proofs.Frames.{SameFan, fan-frame, tree-frame, fan-head, fan-append, flat_map-append, total-append}
use Rattle.btree_delete.specs.Body.{kind_of, IsBody, body_rows, body_uses}
use Rattle.btree_delete.specs.Mended.{Becomes}
use Rattle.btree_delete.proofs.Bodies.{body-frame, tree-of, body-lt}

-- a counted page in use is written: its cells are then a tree
pub written-becomes : (form : Form) (least : ℕ) (old new : PageMap) (count first count' first' level page low high n : ℕ) (free bytes : List ℕ)
    → new ≡ with_page page (image form.map (kind_of level) level n bytes) old → count' ≡ count → first' ≡ first
    → 0 < n → least ≤ n → n < 2 ^ 16 → length bytes ≡ width_of form level * n → 16 + length bytes ≤ 4096
    → IsBody form old level low high n bytes → IsSupplied (view old count first free)
    → ((k : ℕ) → one_at page k + body_uses form old level n bytes k + spare free count k ≤ 1)
    → Becomes form least (view old count first free) (λ k. one_at page k + body_uses form old level n bytes k) new count' first' level low high (body_rows form old level n bytes) ((low, page) ∷ [])
written-becomes form least old new count first count' first' level page low high n free bytes written e f some enough small whole fits body supplied once =
    let made : List ℕ = image form.map (kind_of level) level n bytes in
    let here : new page ≡ made = ap (λ (p : PageMap). p page) written ∙ with-same old made page in
    let one = one_at-same page in
    let o = once page in
    let moved : Moves (view old count first free) (view (with_page page made old) count first free) (one_at page) (one_at page) = moves-write old made count first page free supplied (omega arith) in
    let s = body-frame form old new level low high n bytes body (λ k l. let u = once k in
    ap (λ (p : PageMap). p k) written ∙ with-other old made page k (λ same. let c : one_at page k ≡ one_at page page = ap (one_at page) same in omega arith)) in
    let t = tree-of form least new level page low high n bytes here some enough small whole fits s.body in
    let there : Moves (view old count first free) (view new count' first' free) (one_at page) (one_at page) = rw (written, e, f) moved in
    record {
      free = free;
      moves = moves-as (λ k. refl) (λ k. let a = t.used k in let b = s.used k in omega arith) (moves-beside (body_uses form old level n bytes) there);
      fan = (refl, body-lt form old level low high n bytes some body, t.tree, refl);
      gives = append-nil (rows_at form new level page) ∙ t.gives ∙ s.rows;
    }

-- trees that have changed among others
module _ (form : Form) (least : ℕ) (before : View) (new : PageMap) (count' first' level low from to high : ℕ) (xs seg ys entries : List Entry) (rows : List Row)
    (front : IsFan (IsTree form (half_of form level) before.pages level) low from xs)
    (back : IsFan (IsTree form (half_of form level) before.pages level) to high ys)
    (changed : Becomes form least before (λ n. total (λ c. uses form before.pages level c n) seg) new count' first' level from to rows entries)
    (once : (n : ℕ) → total (λ c. uses form before.pages level c n) (xs ++ (seg ++ ys)) + spare_in before n ≤ 1) where
  abbrev U : ℕ → ℕ → ℕ
  U n c = uses form before.pages level c n

  parts : (n : ℕ) → total (U n) (xs ++ (seg ++ ys)) ≡ total (U n) xs + (total (U n) seg + total (U n) ys)
  parts n = total-append (U n) xs (seg ++ ys) ∙ ap (λ (k : ℕ). total (U n) xs + k) (total-append (U n) seg ys)

  frame : (a b : ℕ) (es : List Entry) → IsFan (IsTree form (half_of form level) before.pages level) a b es → ((n : ℕ) → 0 < total (U n) es → (total (U n) seg ≡ 0) × (spare_in before n ≡ 0))
      → SameFan (IsTree form (half_of form level) before.pages level) (IsTree form (half_of form level) new level) (rows_at form before.pages level) (rows_at form new level) (uses form before.pages level) (uses form new level) a b es
  frame a b es fan apart = fan-frame (IsTree form (half_of form level) before.pages level) (IsTree form (half_of form level) new level) (rows_at form before.pages level) (rows_at form new level) (uses form before.pages level) (uses form new level) (λ n. new n ≡ before.pages n)
      (λ c a b t s. tree-frame form (half_of form level) before.pages new level c a b t s) a b es fan
      (λ n l. let z = apart n l in changed.moves.others n z.0 z.1)

  pub front-same : SameFan (IsTree form (half_of form level) before.pages level) (IsTree form (half_of form level) new level) (rows_at form before.pages level) (rows_at form new level) (uses form before.pages level) (uses form new level) low from xs
  front-same = frame low from xs front (λ n l. let o = once n in let p = parts n in (omega arith, omega arith))

  pub back-same : SameFan (IsTree form (half_of form level) before.pages level) (IsTree form (half_of form level) new level) (rows_at form before.pages level) (rows_at form new level) (uses form before.pages level) (uses form new level) to high ys
  back-same = frame to high ys back (λ n l. let o = once n in let p = parts n in (omega arith, omega arith))

  pub among-moves : Moves before (view new count' first' changed.free) (λ n. total (λ c. uses form before.pages level c n) (xs ++ (seg ++ ys))) (λ n. total (λ c. uses form new level c n) (xs ++ (entries ++ ys)))
  among-moves = moves-as
      (λ n. let p = parts n in omega arith)
      (λ n. let p = total-append (λ c. uses form new level c n) xs (entries ++ ys) in let q = total-append (λ c. uses form new level c n) entries ys in
      let a = front-same.uses n in let b = back-same.uses n in omega arith)
      (moves-beside (λ n. total (λ c. uses form before.pages level c n) xs + total (λ c. uses form before.pages level c n) ys) changed.moves)

  pub among-rows : below_rows form new level (xs ++ (entries ++ ys)) ≡ below_rows form before.pages level xs ++ (rows ++ below_rows form before.pages level ys)
  among-rows =
      flat_map-append (rows_at form new level) xs (entries ++ ys)
      ∙ ap (λ (x : List Row). below_rows form new level xs ++ x) (flat_map-append (rows_at form new level) entries ys)
      ∙ ap (λ (x : List Row). x ++ (below_rows form new level entries ++ below_rows form new level ys)) front-same.rows
      ∙ ap (λ (x : List Row). below_rows form before.pages level xs ++ (x ++ below_rows form new level ys)) changed.gives
      ∙ ap (λ (x : List Row). below_rows form before.pages level xs ++ (rows ++ x)) back-same.rows

-- two fans and one between them
pub fan-between : (P : ℕ → ℕ → ℕ → Type 0) (low from to high : ℕ) (xs es ys : List Entry) → IsFan P low from xs → IsFan P from to es → IsFan P to high ys → IsFan P low high (xs ++ (es ++ ys))
fan-between P low from to high xs es ys f g h =
    let b : next_key high ys ≡ to = fan-head P to high ys h in
    let k : IsFan P from high (es ++ ys) = fan-append P from high es ys (subst (λ (n : ℕ). IsFan P from n es) (sym b) g) (subst (λ (n : ℕ). IsFan P n high ys) (sym b) h) in
    let c : next_key high (es ++ ys) ≡ from = fan-head P from high (es ++ ys) k in
    fan-append P low high xs (es ++ ys) (subst (λ (n : ℕ). IsFan P low n xs) (sym c) f) (subst (λ (n : ℕ). IsFan P n high (es ++ ys)) (sym c) k)
