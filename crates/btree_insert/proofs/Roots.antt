-- A root above two pages.
use Rattle.std.proofs.Common.{◌≡◌, ℕ, suc, ◌+◌, ◌*◌, ◌^◌, ◌<◌, ◌≤◌, List, [], ◌∷◌, ◌++◌, length, take, drop, replicate, arith, refl, sym, ap, ◌∙◌, subst, append_assoc}
use Rattle.std.specs.Int.{from_be_bytes, to_be_bytes, w32}
use Rattle.std.proofs.lemmas.List.{take_all, take_at, drop_at, length-append, length-replicate}
use Rattle.std.proofs.lemmas.Nat.{from_be_bytes-to_be_bytes_4}
use Rattle.page_face.specs.FreeList.{PageMap, with_page, next_free}
use Rattle.btree_nodes.specs.Supply.{one_at, spare, tail}
use Rattle.btree_nodes.specs.Supply.{View, view, IsSupplied, Moves}
use Rattle.btree_nodes.proofs.Supplies.{moves-take, moves-as, moves-beside, moves-further, one_at-same, none}
use Rattle.page_face.specs.Number.{number}
use Rattle.btree_nodes.specs.Build.{image}
use Rattle.btree_nodes.specs.declared.form.Form.{Form}
use Rattle.btree_nodes.specs.Rows.{Row, IsWithin}
use Rattle.btree_nodes.specs.Nodes.{Entry, entry_of, row_of, half_of, rows_of, entries_of}
use Rattle.btree_insert.proofs.Leaves.{one_leaf, grown-two, after-split}
use Rattle.btree_nodes.specs.Tree.{IsTree, IsFan, rows_at, uses, total, with_low}
use Rattle.btree_nodes.specs.Store.{IsGrown, below_rows, least_after}
use Rattle.btree_nodes.proofs.Frames.{SameFan, fan-frame, tree-frame}
use Rattle.btree_insert.proofs.Inners.{one_inner}

pub two-joined : (z l m r a b d e : List ℕ) (key : ℕ) → z ≡ replicate key 0 → length m ≡ key → length l ≡ 4 → length r ≡ 4 → length e ≡ (key + 4) + (key + 4)
    → take (0 + length z) a ≡ z → take (key + length l) b ≡ take key a ++ l → take (key + 4 + length m) d ≡ take (key + 4) b ++ m → take (key + 4 + key + length r) e ≡ take (key + 4 + key) d ++ r
    → e ≡ (replicate key 0 ++ l) ++ (m ++ r)
two-joined z l m r a b d e key zz lm ll lr le p q s t =
    let lk : length z ≡ key = ap length zz ∙ length-replicate key 0 in
    let lz : 0 + length z ≡ key = omega arith in
    let p' : take key a ≡ replicate key 0 = ap (λ (n : ℕ). take n a) (sym lz) ∙ p ∙ zz in
    let q' : take (key + 4) b ≡ replicate key 0 ++ l = ap (λ (n : ℕ). take (key + n) b) (sym ll) ∙ q ∙ ap (λ (x : List ℕ). x ++ l) p' in
    let s' : take (key + 4 + key) d ≡ (replicate key 0 ++ l) ++ m = ap (λ (n : ℕ). take (key + 4 + n) d) (sym lm) ∙ s ∙ ap (λ (x : List ℕ). x ++ m) q' in
    sym (take_all (key + 4 + key + length r) e (omega arith)) ∙ t ∙ ap (λ (x : List ℕ). x ++ r) s' ∙ append_assoc (replicate key 0 ++ l) m r

cells-two : (form : Form) (z l m r : List ℕ) → length z ≡ form.key → length l ≡ 4 → length m ≡ form.key → length r ≡ 4 → entries_of form 2 ((z ++ l) ++ (m ++ r)) ≡ entry_of form.key (z ++ l) ∷ (entry_of form.key (m ++ r) ∷ [])
cells-two form z l m r lz ll lm lr =
    let a : length (z ++ l) ≡ form.key + 4 = omega (arith, length-append z l) in
    let b : length (m ++ r) ≡ form.key + 4 = omega (arith, length-append m r) in
    ap (λ (x : List ℕ). entry_of form.key x ∷ (entry_of form.key (take (form.key + 4) (drop (form.key + 4) ((z ++ l) ++ (m ++ r)))) ∷ [])) (take_at (z ++ l) (m ++ r) (form.key + 4) a)
    ∙ ap (λ (x : List ℕ). entry_of form.key (z ++ l) ∷ (entry_of form.key (take (form.key + 4) x) ∷ [])) (drop_at (z ++ l) (m ++ r) (form.key + 4) a)
    ∙ ap (λ (x : List ℕ). entry_of form.key (z ++ l) ∷ (entry_of form.key x ∷ [])) (take_all (form.key + 4) (m ++ r) (omega arith))

entry-is : (key : ℕ) (m : List ℕ) (page : ℕ) → length m ≡ key → page < 2 ^ 32 → entry_of key (m ++ to_be_bytes w32 page) ≡ (number m, page)
entry-is key m page lm small =
    ap (λ (k : List ℕ). (number k, from_be_bytes w32 (drop key (m ++ to_be_bytes w32 page)))) (take_at m (to_be_bytes w32 page) key lm)
    ∙ ap (λ (v : List ℕ). (number m, from_be_bytes w32 v)) (drop_at m (to_be_bytes w32 page) key lm)
    ∙ ap (λ (r : ℕ). (number m, r)) (from_be_bytes-to_be_bytes_4 page small)

pub root-entries : (form : Form) (middle : List ℕ) (left right : ℕ) → length middle ≡ form.key → left < 2 ^ 32 → right < 2 ^ 32
    → with_low 0 (entries_of form 2 ((replicate form.key 0 ++ to_be_bytes w32 left) ++ (middle ++ to_be_bytes w32 right))) ≡ (0, left) ∷ ((number middle, right) ∷ [])
root-entries form middle left right lm sl sr =
    ap (with_low 0) (cells-two form (replicate form.key 0) (to_be_bytes w32 left) middle (to_be_bytes w32 right) (length-replicate form.key 0) refl lm refl)
    ∙ ap (λ (x : Entry). (0, x.1) ∷ (entry_of form.key (middle ++ to_be_bytes w32 right) ∷ [])) (entry-is form.key (replicate form.key 0) left (length-replicate form.key 0) sl)
    ∙ ap (λ (x : Entry). (0, left) ∷ (x ∷ [])) (entry-is form.key middle right lm sr)

module _ (form : Form) (old taken new : PageMap) (count more first next count' first' level root high : ℕ) (free bytes : List ℕ) (es : List Entry)
    (fan : IsFan (IsTree form (half_of form level) old level) 0 high es)
    (supplied : IsSupplied (view old count first free))
    (once : (n : ℕ) → total (λ (c : ℕ). uses form old level c n) es + spare free count n ≤ 1)
    (isnew : first ≡ 0 → (root ≡ count) × (more ≡ count + 1) × (next ≡ 0))
    (isfree : 0 < first → (root ≡ first) × (more ≡ count) × (0 < length (old root) → next ≡ next_free (old root)))
    (others : (n : ℕ) → (n ≡ root → ⊥) → taken n ≡ old n)
    (written : new ≡ with_page root (image form.map 2 (suc level) 2 bytes) taken) (same_count : count' ≡ more) (same_first : first' ≡ next)
    (whole : length bytes ≡ (form.key + 4) * 2) (zero_key : number (take form.key bytes) ≡ 0) (are : with_low 0 (entries_of form 2 bytes) ≡ es) where
  took : Moves (view old count first free) (view taken more next (tail free)) none (one_at root)
  took = moves-take old taken count more first next root free supplied (λ n. let o = once n in omega arith) isnew isfree others

  kept : SameFan (IsTree form (half_of form level) old level) (IsTree form (half_of form level) taken level) (rows_at form old level) (rows_at form taken level) (uses form old level) (uses form taken level) 0 high es
  kept = fan-frame (IsTree form (half_of form level) old level) (IsTree form (half_of form level) taken level) (rows_at form old level) (rows_at form taken level) (uses form old level) (uses form taken level) (λ n. taken n ≡ old n)
      (λ c a b t s. tree-frame form (half_of form level) old taken level c a b t s) 0 high es fan
      (λ n k. others n (λ e. let o = once n in let t = took.kept n in let s = one_at-same root in
      let a : one_at root n ≡ one_at root root = ap (one_at root) e in omega arith))

  pub root_of : IsGrown form 2 (view old count first free) (λ n. total (λ (c : ℕ). uses form old level c n) es) new count' first' (suc level) root 0 high (below_rows form old level es) 0 0
  root_of =
      let made = one_inner form 2 taken new more next count' first' level root 0 high 2 0 bytes (tail free) written same_count same_first (omega arith) (omega arith) (omega arith) whole (omega arith) zero_key
      (subst (λ (x : List Entry). IsFan (IsTree form (half_of form level) taken level) 0 high x) (sym are) kept.fan) took.supplied
      (subst (λ (x : List Entry). (k : ℕ) → one_at root k + total (λ (c : ℕ). uses form taken level c k) x + spare (tail free) more k ≤ 1) (sym are)
      (λ k. let o = once k in let t = took.kept k in let u = kept.uses k in omega arith)) in
      let made' : IsGrown form 2 (view taken more next (tail free)) (λ k. one_at root k + total (λ (c : ℕ). uses form taken level c k) es) new count' first' (suc level) root 0 high (below_rows form taken level es) 0 0 =
      subst (λ (x : List Entry). IsGrown form 2 (view taken more next (tail free)) (λ k. one_at root k + total (λ (c : ℕ). uses form taken level c k) x) new count' first' (suc level) root 0 high (below_rows form taken level x) 0 0) are made in
      record {
        free = made'.free;
        entries = made'.entries;
        is = made'.is;
        moves = moves-further (moves-as (λ n. omega arith) (λ n. let u = kept.uses n in omega arith) (moves-beside (λ n. total (λ (c : ℕ). uses form old level c n) es) took)) made'.moves;
        fan = made'.fan;
        gives = made'.gives ∙ kept.rows;
      }

-- the first leaf of a map
module _ (form : Form) (old taken new : PageMap) (count more first next count' first' root : ℕ) (free key value : List ℕ)
    (supplied : IsSupplied (view old count first free))
    (once : (n : ℕ) → spare free count n ≤ 1)
    (isnew : first ≡ 0 → (root ≡ count) × (more ≡ count + 1) × (next ≡ 0))
    (isfree : 0 < first → (root ≡ first) × (more ≡ count) × (0 < length (old root) → next ≡ next_free (old root)))
    (others : (n : ℕ) → (n ≡ root → ⊥) → taken n ≡ old n)
    (written : new ≡ with_page root (image form.map 1 0 1 (key ++ value)) taken) (same_count : count' ≡ more) (same_first : first' ≡ next)
    (long : length key ≡ form.key) (wide : length value ≡ form.value) (small : number key < 256 ^ form.key) where
  took_leaf : Moves (view old count first free) (view taken more next (tail free)) none (one_at root)
  took_leaf = moves-take old taken count more first next root free supplied once isnew isfree others

  one_row : rows_of form 1 (key ++ value) ≡ (number key, value) ∷ []
  one_row =
      let all : take (form.key + form.value) (key ++ value) ≡ key ++ value = take_all (form.key + form.value) (key ++ value) (omega (arith, length-append key value)) in
      ap (λ (c : List ℕ). row_of form.key c ∷ []) all
      ∙ ap (λ (k : List ℕ). (number k, drop form.key (key ++ value)) ∷ []) (take_at key value form.key long)
      ∙ ap (λ (v : List ℕ). (number key, v) ∷ []) (drop_at key value form.key long)

  pub planted : IsGrown form 1 (view old count first free) none new count' first' 0 root 0 (256 ^ form.key) ((number key, value) ∷ []) 0 0
  planted =
      let within : IsWithin 0 (256 ^ form.key) (rows_of form 1 (key ++ value)) = subst (λ (x : List Row). IsWithin 0 (256 ^ form.key) x) (sym one_row) (omega arith, omega arith) in
      let made = one_leaf form 1 taken new more next count' first' root 0 (256 ^ form.key) 1 0 (key ++ value) (tail free) written same_count same_first (omega arith) (omega arith) (omega arith)
      (omega (arith, length-append key value)) (omega (arith, length-append key value)) within took_leaf.supplied
      (λ k. let t = took_leaf.kept k in let o = once k in omega arith) in
      record {
        free = made.free;
        entries = made.entries;
        is = made.is;
        moves = moves-further took_leaf made.moves;
        fan = made.fan;
        gives = made.gives ∙ one_row;
      }

-- the entries of a page that was split, for a root above them
pub record IsRooted (form : Form) (before mid : View) (level page high right middle : ℕ) (mine : ℕ → ℕ) (rows : List Row) : Type 0 where
  pub fan : IsFan (IsTree form (half_of form level) mid.pages level) 0 high ((0, page) ∷ ((middle, right) ∷ []))
  pub moves : Moves before mid mine (λ n. total (λ (c : ℕ). uses form mid.pages level c n) ((0, page) ∷ ((middle, right) ∷ [])))
  pub gives : below_rows form mid.pages level ((0, page) ∷ ((middle, right) ∷ [])) ≡ rows

pub to-root : (form : Form) (least : ℕ) (before : View) (mine : ℕ → ℕ) (pages : PageMap) (count first level page high right middle : ℕ) (rows : List Row) → 0 < right
    → (grew : IsGrown form least before mine pages count first level page 0 high rows right middle) → IsRooted form before (view pages count first grew.free) level page high right middle mine rows
to-root form least before mine pages count first level page high right middle rows some grew =
    let e : grew.entries ≡ (0, page) ∷ ((middle, right) ∷ []) = grew.is ∙ sym (grown-two 0 page right middle some) in
    record {
      fan = subst (λ (k : ℕ). IsFan (IsTree form k pages level) 0 high ((0, page) ∷ ((middle, right) ∷ []))) (after-split least (half_of form level) right some)
          (subst (λ (es : List Entry). IsFan (IsTree form (least_after least (half_of form level) right) pages level) 0 high es) e grew.fan);
      moves = moves-as (λ n. refl) (λ n. ap (total (λ (c : ℕ). uses form pages level c n)) (sym e)) grew.moves;
      gives = ap (below_rows form pages level) (sym e) ∙ grew.gives;
    }

-- a root above what a page has become is one tree of it
pub rooted : (form : Form) (before : View) (mine : ℕ → ℕ) (mid : PageMap) (count first level page high right middle : ℕ) (rows : List Row) (free : List ℕ) (new : PageMap) (count' first' root : ℕ)
    → IsRooted form before (view mid count first free) level page high right middle mine rows
    → IsGrown form 2 (view mid count first free) (λ n. total (λ (c : ℕ). uses form mid level c n) ((0, page) ∷ ((middle, right) ∷ []))) new count' first' (suc level) root 0 high (below_rows form mid level ((0, page) ∷ ((middle, right) ∷ []))) 0 0
    → IsGrown form 2 before mine new count' first' (suc level) root 0 high rows 0 0
rooted form before mine mid count first level page high right middle rows free new count' first' root up made = record {
  free = made.free;
  entries = made.entries;
  is = made.is;
  moves = moves-further up.moves made.moves;
  fan = made.fan;
  gives = made.gives ∙ up.gives;
}
