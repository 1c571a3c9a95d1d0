-- A child in its place: the rows in front of it and behind it, and its page's tree where only that child has changed.
use Rattle.std.proofs.Common.{◌≡◌, ℕ, zero, suc, ◌<◌, ◌≤◌, List, [], ◌∷◌, ◌++◌, length, get_or, take, drop, arith, refl, sym, ap, ◌∙◌, subst, append_assoc, append-nil}
use Rattle.std.specs.List.{flat_map}
use Rattle.page_face.specs.FreeList.{PageMap}
use Rattle.page_face.specs.Nodes.{count_of}
use Rattle.btree_nodes.specs.declared.form.Form.{Form}
use Rattle.btree_nodes.specs.Rows.{Row, IsWithin}
use Rattle.btree_nodes.specs.Nodes.{Entry, entries_in, IsInner, half_of}
use Rattle.btree_nodes.specs.Tree.{next_key, IsFan, IsTree, rows_at, uses, total, with_low}
use Rattle.btree_nodes.specs.Bounds.{low_at, high_at, child_of}
use Rattle.btree_nodes.proofs.Supplies.{one_at-same}
use Rattle.btree_nodes.proofs.Spans.{within-append}
use Rattle.btree_nodes.proofs.Fans.{no_entry, fan-within, with_low-rows, with_low-child, length-with_low, drop-with_low}
use Rattle.btree_nodes.proofs.Trees.{tree-within, tree-child, child-uses}
use Rattle.btree_nodes.proofs.Frames.{Same, fan-frame, tree-frame, total-at, with_low-total}
use Rattle.btree_nodes.proofs.Walks.{inside}
use Rattle.btree_nodes.specs.Below.{HeadsInstead, LiesBelow}

-- the rows below some entries
abbrev pub rows_of : (ℕ → List Row) → List Entry → List Row
rows_of R es = flat_map (λ (e : Entry). R e.1) es

-- the child at a place among its neighbours
pub record IsAmong (R : ℕ → List Row) (low high : ℕ) (es : List Entry) (at : ℕ) : Type 0 where
  pub rows : rows_of R es ≡ rows_of R (take at es) ++ (R (get_or es at no_entry).1 ++ rows_of R (drop (suc at) es))
  pub before : IsWithin low (get_or es at no_entry).0 (rows_of R (take at es))
  pub behind : IsWithin (next_key high (drop (suc at) es)) high (rows_of R (drop (suc at) es))

pub fan-among : (P : ℕ → ℕ → ℕ → Type 0) (R : ℕ → List Row) (low high : ℕ) (es : List Entry) (at : ℕ)
    → ((c a b : ℕ) → P c a b → IsWithin a b (R c)) → IsFan P low high es → at < length es → IsAmong R low high es at
fan-among P R low high [] at within h l = absurd (omega arith)
fan-among P R low high (e ∷ es) zero within h l = record {
  rows = refl;
  before = let k = h.0 in omega arith;
  behind = fan-within P R (next_key high es) high es within h.3;
}
fan-among P R low high (e ∷ es) (suc at) within h l =
    let r = fan-among P R (next_key high es) high es at within h.3 (omega arith) in
    record {
      rows = ap (λ (x : List Row). R e.1 ++ x) r.rows
          ∙ sym (append_assoc (R e.1) (rows_of R (take at es)) (R (get_or es at no_entry).1 ++ rows_of R (drop (suc at) es)));
      before = within-append low (next_key high es) (get_or es at no_entry).0 (R e.1) (rows_of R (take at es)) (within e.1 low (next_key high es) h.2) r.before;
      behind = r.behind;
    }

-- the same entries, where the child at a place has changed
pub record IsChangedAt (P' : ℕ → ℕ → ℕ → Type 0) (R R' : ℕ → List Row) (U U' : ℕ → ℕ → ℕ) (low high : ℕ) (es : List Entry) (at : ℕ) : Type 0 where
  pub fan : IsFan P' low high es
  pub rows : rows_of R' es ≡ rows_of R (take at es) ++ (R' (get_or es at no_entry).1 ++ rows_of R (drop (suc at) es))
  pub uses : (n : ℕ) → total (λ (c : ℕ). U' c n) es ≡ total (λ (c : ℕ). U c n) es

module _ (P P' : ℕ → ℕ → ℕ → Type 0) (R R' : ℕ → List Row) (U U' : ℕ → ℕ → ℕ) (Still : ℕ → Type 0)
    (each : (c a b : ℕ) → P c a b → ((n : ℕ) → 0 < U c n → Still n) → Same P P' R R' U U' c a b) where
  pub fan-changed : (low high : ℕ) (es : List Entry) (at : ℕ) → IsFan P low high es → at < length es
      → ((n : ℕ) → U (get_or es at no_entry).1 n ≡ 0 → 0 < total (λ (c : ℕ). U c n) es → Still n)
      → ((n : ℕ) → total (λ (c : ℕ). U c n) es ≤ 1)
      → P' (get_or es at no_entry).1 (get_or es at no_entry).0 (next_key high (drop (suc at) es))
      → ((n : ℕ) → U' (get_or es at no_entry).1 n ≡ U (get_or es at no_entry).1 n)
      → IsChangedAt P' R R' U U' low high es at
  fan-changed low high [] at h l still once tree uses = absurd (omega arith)
  fan-changed low high (e ∷ es) zero h l still once tree uses =
      let r = fan-frame P P' R R' U U' Still each (next_key high es) high es h.3 (λ n k. let o = once n in still n (omega arith) (omega arith)) in
      record {
        fan = (h.0, h.1, subst (λ (a : ℕ). P' e.1 a (next_key high es)) h.0 tree, r.fan);
        rows = ap (λ (x : List Row). R' e.1 ++ x) r.rows;
        uses = λ n. let a = uses n in let b = r.uses n in omega arith;
      }
  fan-changed low high (e ∷ es) (suc at) h l still once tree uses =
      let i = fan-changed (next_key high es) high es at h.3 (omega arith) (λ n a b. still n a (omega arith)) (λ n. let o = once n in omega arith) tree uses in
      let u = total-at (λ (c : ℕ) (n : ℕ). U c n) es at (omega arith) in
      let s = each e.1 low (next_key high es) h.2 (λ n k. let o = once n in let v = u n in still n (omega arith) (omega arith)) in
      record {
        fan = (h.0, h.1, s.tree, i.fan);
        rows = ap (λ (x : List Row). x ++ rows_of R' es) s.rows ∙ ap (λ (x : List Row). R e.1 ++ x) i.rows
            ∙ sym (append_assoc (R e.1) (rows_of R (take at es)) (R' (get_or es at no_entry).1 ++ rows_of R (drop (suc at) es)));
        uses = λ n. let a = s.uses n in let b = i.uses n in omega arith;
      }

-- the child at a place of an inner page lies below it
module _ (form : Form) (pages : PageMap) (level page at : ℕ) (inside_it : at < length (entries_in form (pages page))) (least low high : ℕ) (top : IsTree form least pages (suc level) page low high) where
  ws : List Entry
  ws = with_low low (entries_in form (pages page))

  child : ℕ
  child = child_of form (pages page) at

  lo : ℕ
  lo = low_at form (pages page) low at

  hi : ℕ
  hi = high_at form (pages page) high at

  here : at < length ws
  unfolding ws
  here = rw (length-with_low low (entries_in form (pages page))) inside_it

  named : (get_or ws at no_entry).1 ≡ child
  unfolding ws child
  named = with_low-child low (entries_in form (pages page)) at

  next : next_key high (drop (suc at) ws) ≡ hi
  unfolding ws hi
  next = ap (next_key high) (drop-with_low low (entries_in form (pages page)) at)

  among : IsAmong (rows_at form pages level) low high ws at
  unfolding ws
  among = fan-among (IsTree form (half_of form level) pages level) (rows_at form pages level) low high ws at (λ c a b t. tree-within form (half_of form level) pages level c a b t) top.1 here

  front : List Row
  front = rows_of (rows_at form pages level) (take at ws)

  back : List Row
  back = rows_of (rows_at form pages level) (drop (suc at) ws)

  module _ (pages' : PageMap) (once : (n : ℕ) → uses form pages (suc level) page n ≤ 1)
      (agree : (n : ℕ) → uses form pages level child n ≡ 0 → 0 < uses form pages (suc level) page n → pages' n ≡ pages n)
      (tree : IsTree form (half_of form level) pages' level child lo hi) (same : (n : ℕ) → uses form pages' level child n ≡ uses form pages level child n) where
    -- the page itself stays
    stays : pages' page ≡ pages page
    unfolding child
    stays =
        let o = once page in
        let s = one_at-same page in
        let u = child-uses form pages level page at inside_it page in
        let t = total-at (uses form pages level) (entries_in form (pages page)) at inside_it page in
        agree page (omega arith) (omega arith)

    changed : IsChangedAt (IsTree form (half_of form level) pages' level) (rows_at form pages level) (rows_at form pages' level) (uses form pages level) (uses form pages' level) low high ws at
    unfolding ws child lo hi
    changed = fan-changed (IsTree form (half_of form level) pages level) (IsTree form (half_of form level) pages' level) (rows_at form pages level) (rows_at form pages' level) (uses form pages level) (uses form pages' level) (λ n. pages' n ≡ pages n)
        (λ c a b t s. tree-frame form (half_of form level) pages pages' level c a b t s) low high ws at top.1 here
        (λ n z some.
        let e : uses form pages level (get_or ws at no_entry).1 n ≡ uses form pages level child n = ap (λ (c : ℕ). uses form pages level c n) named in
        let t = with_low-total (λ (c : ℕ). uses form pages level c n) low (entries_in form (pages page)) in
        agree n (omega arith) (omega arith))
        (λ n. let o = once n in let t = with_low-total (λ (c : ℕ). uses form pages level c n) low (entries_in form (pages page)) in omega arith)
        (subst (λ (c : ℕ). IsTree form (half_of form level) pages' level c (get_or ws at no_entry).0 (next_key high (drop (suc at) ws))) (sym named)
        (subst (λ (b : ℕ). IsTree form (half_of form level) pages' level child lo b) (sym next) tree))
        (λ n. ap (λ (c : ℕ). uses form pages' level c n) named ∙ same n ∙ ap (λ (c : ℕ). uses form pages level c n) (sym named))

    instead : HeadsInstead form least pages pages' (suc level) page low high (front ++ (rows_at form pages' level child ++ back))
    unfolding ws child front back
    instead = record {
      tree = (
        subst (λ (b : List ℕ). IsInner form least (suc level) b) (sym stays) top.0,
        subst (λ (b : List ℕ). IsFan (IsTree form (half_of form level) pages' level) low high (with_low low (entries_in form b))) (sym stays) changed.fan,
      );
      has = ap (λ (b : List ℕ). rows_of (rows_at form pages' level) (entries_in form b)) stays
          ∙ sym (with_low-rows (rows_at form pages' level) low (entries_in form (pages page)))
          ∙ changed.rows
          ∙ ap (λ (c : ℕ). front ++ (rows_at form pages' level c ++ back)) named;
      uses = λ n.
          let a = changed.uses n in
          let b = with_low-total (λ (c : ℕ). uses form pages level c n) low (entries_in form (pages page)) in
          let d = with_low-total (λ (c : ℕ). uses form pages' level c n) low (entries_in form (pages page)) in
          let e : total (λ (c : ℕ). uses form pages' level c n) (entries_in form (pages' page)) ≡ total (λ (c : ℕ). uses form pages' level c n) (entries_in form (pages page)) =
          ap (λ (x : List ℕ). total (λ (c : ℕ). uses form pages' level c n) (entries_in form x)) stays in
          omega arith;
    }

  pub child-lies : LiesBelow form pages least (suc level) page low high (half_of form level) level (child_of form (pages page) at) (low_at form (pages page) low at) (high_at form (pages page) high at)
  unfolding ws child lo hi front back
  child-lies = record {
    tree = tree-child form pages level page at inside_it least low high top;
    fewer = child-uses form pages level page at inside_it;
    front = front;
    back = back;
    rows = sym (with_low-rows (rows_at form pages level) low (entries_in form (pages page))) ∙ among.rows
        ∙ ap (λ (c : ℕ). front ++ (rows_at form pages level c ++ back)) named;
    before = among.before;
    behind = subst (λ (b : ℕ). IsWithin b high back) next among.behind;
    edit = λ pages' once agree tree same. instead pages' once agree tree same;
  }

-- the child that a step leads to lies below the page
pub lies-below : (form : Form) (pages : PageMap) (bytes : List ℕ) (level l page at : ℕ) → level ≡ suc l → bytes ≡ pages page → at < count_of bytes → (least least' low high lo hi child : ℕ)
    → least' ≡ half_of form l → lo ≡ low_at form bytes low at → hi ≡ high_at form bytes high at → child ≡ child_of form bytes at
    → IsTree form least pages level page low high → LiesBelow form pages least level page low high least' l child lo hi
lies-below form pages bytes level l page at up is within least least' low high lo hi child e f g h tree =
    let first = child-lies form pages l page at (inside form pages bytes level l page at up is within) least low high (subst (λ (k : ℕ). IsTree form least pages k page low high) up tree) in
    let second : LiesBelow form pages least (suc l) page low high (half_of form l) l (child_of form bytes at) (low_at form bytes low at) (high_at form bytes high at) =
    subst (λ (b : List ℕ). LiesBelow form pages least (suc l) page low high (half_of form l) l (child_of form b at) (low_at form b low at) (high_at form b high at)) (sym is) first in
    subst (λ (k : ℕ). LiesBelow form pages least k page low high least' l child lo hi) (sym up)
    (subst (λ (k : ℕ). LiesBelow form pages least (suc l) page low high k l child lo hi) (sym e)
    (subst (λ (k : ℕ). LiesBelow form pages least (suc l) page low high (half_of form l) l child k hi) (sym f)
    (subst (λ (k : ℕ). LiesBelow form pages least (suc l) page low high (half_of form l) l child (low_at form bytes low at) k) (sym g)
    (subst (λ (k : ℕ). LiesBelow form pages least (suc l) page low high (half_of form l) l k (low_at form bytes low at) (high_at form bytes high at)) (sym h) second))))

-- a page lies below itself
pub lies-itself : (form : Form) (pages : PageMap) (least level page low high : ℕ) → low ≤ high → IsTree form least pages level page low high → LiesBelow form pages least level page low high least level page low high
lies-itself form pages least level page low high order tree = record {
  tree = tree;
  fewer = λ n. omega arith;
  front = [];
  back = [];
  rows = sym (append-nil (rows_at form pages level page));
  before = omega arith;
  behind = omega arith;
  edit = λ pages' once agree tree' same. record { tree = tree'; has = sym (append-nil (rows_at form pages' level page)); uses = same };
}

-- what lies below a page that lies below another one
pub lies-further : {form : Form} {pages : PageMap} {least level page low high fill height here lo hi fill' height' here' lo' hi' : ℕ}
    → LiesBelow form pages least level page low high fill height here lo hi → LiesBelow form pages fill height here lo hi fill' height' here' lo' hi'
    → LiesBelow form pages least level page low high fill' height' here' lo' hi'
lies-further {form = form} {pages = pages} {level = level} {page = page} {low = low} {high = high} {height = height} {here = here} {lo = lo} {hi = hi} {height' = height'} {here' = here'} {lo' = lo'} {hi' = hi'} p q =
    let joined : (x : List Row) → p.front ++ ((q.front ++ (x ++ q.back)) ++ p.back) ≡ (p.front ++ q.front) ++ (x ++ (q.back ++ p.back)) =
    λ x. ap (λ (y : List Row). p.front ++ y) (append_assoc q.front (x ++ q.back) p.back ∙ ap (λ (y : List Row). q.front ++ y) (append_assoc x q.back p.back))
    ∙ sym (append_assoc p.front q.front (x ++ (q.back ++ p.back))) in
    record {
      tree = q.tree;
      fewer = λ n. let a = p.fewer n in let b = q.fewer n in omega arith;
      front = p.front ++ q.front;
      back = q.back ++ p.back;
      rows = p.rows ∙ ap (λ (x : List Row). p.front ++ (x ++ p.back)) q.rows ∙ joined (rows_at form pages height' here');
      before = within-append low lo lo' p.front q.front p.before q.before;
      behind = within-append hi' hi high q.back p.back q.behind p.behind;
      edit = λ pages' once agree tree same.
          let inner = q.edit pages' (λ n. let a = p.fewer n in let o = once n in omega arith) (λ n z some. let a = p.fewer n in agree n z (omega arith)) tree same in
          let outer = p.edit pages' once (λ n z some. let b = q.fewer n in agree n (omega arith) some) inner.tree inner.uses in
          record {
            tree = outer.tree;
            has = outer.has ∙ ap (λ (x : List Row). p.front ++ (x ++ p.back)) inner.has ∙ joined (rows_at form pages' height' here');
            uses = outer.uses;
          };
    }
