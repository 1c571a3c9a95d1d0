-- A child with few cells, and its neighbour.
use Rattle.std.proofs.Common.{◌≡◌, ℕ, zero, suc, ◌+◌, ◌*◌, ◌/◌, ◌<◌, ◌≤◌, List, [], ◌∷◌, ◌++◌, length, arith, refl, sym, ap, ◌∙◌, subst, append-nil, append_assoc, ◌⊎◌, ⊎_elim}
use Rattle.std.proofs.lemmas.List.{length-append}
use Rattle.std.proofs.lemmas.Nat.{le-div}
use Rattle.page_face.specs.FreeList.{PageMap}
use Rattle.btree_nodes.specs.declared.form.Form.{Form}
use Rattle.btree_nodes.specs.Supply.{view, IsSupplied, Moves, one_at}
use Rattle.page_face.specs.Nodes.{count_of}
use Rattle.btree_nodes.specs.Nodes.{Entry, entries_in, IsInner, width_of, half_of, half_of_width}
use Rattle.btree_nodes.specs.Tree.{next_key, IsFan, IsTree, rows_at, uses, total, with_low}
use Rattle.btree_nodes.specs.Store.{below_rows}
use Rattle.btree_nodes.proofs.Fans.{length-with_low}
use Rattle.btree_nodes.proofs.Spots.{length-entries_in}
use Rattle.btree_delete.specs.Body.{cells_in}
use Rattle.btree_delete.specs.Mended.{Becomes, HasPair, HasLow}
use Rattle.btree_delete.proofs.Bodies.{body-lt}
use Rattle.btree_delete.proofs.Joins.{width-some}
use Rattle.btree_delete.proofs.Holds.{holds-tree}
use Rattle.btree_delete.proofs.Among.{fan-between}
use Rattle.btree_nodes.proofs.Frames.{fan-split, fan-lt}
use Rattle.btree_nodes.proofs.Trees.{node-fewer}

-- a tree whose top has as many cells as it has
pub tree-as : (form : Form) (most least : ℕ) (pages : PageMap) (level page low high : ℕ) → least ≤ count_of (pages page) → IsTree form most pages level page low high → IsTree form least pages level page low high
tree-as form most least pages zero page low high h t = (node-fewer form.map 1 0 (form.key + form.value) most least (pages page) h t.0, t.1)
tree-as form most least pages (suc level) page low high h t = (record { node = node-fewer form.map 2 (suc level) (form.key + 4) most least (pages page) h t.0.node; first = t.0.first }, t.1)

pub tree-count : (form : Form) (least : ℕ) (pages : PageMap) (level page low high : ℕ) → IsTree form least pages level page low high → (least ≤ count_of (pages page)) × (0 < count_of (pages page))
tree-count form least pages zero page low high t = (t.0.fill, t.0.some)
tree-count form least pages (suc level) page low high t = (t.0.node.fill, t.0.node.some)

-- with fewer cells at least
pub tree-fewer : (form : Form) (most least : ℕ) (pages : PageMap) (level page low high : ℕ) → least ≤ most → IsTree form most pages level page low high → IsTree form least pages level page low high
tree-fewer form most least pages level page low high h t = let c = tree-count form most pages level page low high t in let d = c.0 in tree-as form most least pages level page low high (omega arith) t

-- with one cell at least
pub tree-one : (form : Form) (most : ℕ) (pages : PageMap) (level page low high : ℕ) → IsTree form most pages level page low high → IsTree form 1 pages level page low high
tree-one form most pages level page low high t = let c = tree-count form most pages level page low high t in let d = c.1 in tree-as form most 1 pages level page low high (omega arith) t

-- there is room between a tree's bounds
pub tree-lt : (form : Form) (least : ℕ) (pages : PageMap) (level page low high : ℕ) → IsTree form least pages level page low high → low < high
tree-lt form least pages level page low high t =
    let h = holds-tree form least pages level page low high t in
    let c = tree-count form least pages level page low high t in
    body-lt form pages level low high (count_of (pages page)) (cells_in (width_of form level) (count_of (pages page)) (pages page)) c.1 h.body

-- half of a page is at least two cells
pub half_some : (form : Form) (level : ℕ) → 2 ≤ half_of form level
unfolding half_of_width
half_some form level =
    let w = width-some form level in
    let four : 4 * width_of form level ≤ 4080 = omega arith in
    let q : 4 ≤ 4080 / width_of form level = le-div 4 4080 (width_of form level) (omega arith) four in
    omega arith

-- a list with a last item
pub record IsSnoc (xs : List Entry) (n : ℕ) : Type 0 where
  pub front : List Entry
  pub last : Entry
  pub is : xs ≡ front ++ (last ∷ [])
  pub long : length front ≡ n

pub snoc : (xs : List Entry) (n : ℕ) → length xs ≡ suc n → IsSnoc xs n
snoc [] n h = absurd (omega arith)
snoc (x ∷ []) n h = record { front = []; last = x; is = refl; long = omega arith }
snoc (x ∷ (y ∷ xs)) zero h = absurd (omega arith)
snoc (x ∷ (y ∷ xs)) (suc n) h = let r = snoc (y ∷ xs) n (omega arith) in record { front = x ∷ r.front; last = r.last; is = ap (λ (z : List Entry). x ∷ z) r.is; long = ap suc r.long }

pub record IsCons (xs : List Entry) : Type 0 where
  pub first : Entry
  pub rest : List Entry
  pub is : xs ≡ first ∷ rest

pub cons-of : (xs : List Entry) → 0 < length xs → IsCons xs
cons-of [] h = absurd (omega arith)
cons-of (x ∷ xs) h = record { first = x; rest = xs; is = refl }

module _ (form : Form) (pages : PageMap) (level low high at left : ℕ) (entries : List Entry) (l : HasLow form pages level low high at left entries) where
  long : length entries ≡ at + suc (length l.ys)
  long = let p = l.place in ap length l.is ∙ length-append l.xs (l.child ∷ l.ys) ∙ omega arith

  -- a child and the next one
  pub pair-next : at + 1 < length entries → HasPair form pages level low high at entries
  pair-next h =
      let n = long in
      let c = cons-of l.ys (omega arith) in
      let P : ℕ → ℕ → ℕ → Type 0 = IsTree form (half_of form level) pages level in
      let b : IsFan P (next_key high (c.first ∷ c.rest)) high (c.first ∷ c.rest) = subst (λ (x : List Entry). IsFan P (next_key high x) high x) c.is l.back in
      let t : IsTree form left pages level l.child.1 l.child.0 c.first.0 = subst (λ (x : List Entry). IsTree form left pages level l.child.1 l.child.0 (next_key high x)) c.is l.tree in
      record {
        xs = l.xs;
        ys = c.rest;
        left = l.child;
        right = c.first;
        is = l.is ∙ ap (λ (x : List Entry). l.xs ++ (l.child ∷ x)) c.is;
        place = l.place;
        front = l.front;
        first = tree-one form left pages level l.child.1 l.child.0 c.first.0 t;
        second = tree-one form (half_of form level) pages level c.first.1 c.first.0 (next_key high c.rest) b.2;
        back = b.3;
      }

  -- a child and the one before it
  pub pair-before : (near : ℕ) → near + 1 ≡ at → HasPair form pages level low high near entries
  pair-before near h =
      let p = l.place in
      let s = snoc l.xs near (omega arith) in
      let P : ℕ → ℕ → ℕ → Type 0 = IsTree form (half_of form level) pages level in
      let parts = fan-split P low l.child.0 s.front (s.last ∷ []) (subst (λ (x : List Entry). IsFan P low l.child.0 x) s.is l.front) in
      record {
        xs = s.front;
        ys = l.ys;
        left = s.last;
        right = l.child;
        is = l.is ∙ ap (λ (x : List Entry). x ++ (l.child ∷ l.ys)) s.is ∙ append_assoc s.front (s.last ∷ []) (l.child ∷ l.ys);
        place = s.long;
        front = parts.0;
        first = tree-one form (half_of form level) pages level s.last.1 s.last.0 l.child.0 parts.1.2;
        second = tree-one form left pages level l.child.1 l.child.0 (next_key high l.ys) l.tree;
        back = l.back;
      }

  -- where the child is half full too, all are
  pub fan-whole : half_of form level ≤ left → IsFan (IsTree form (half_of form level) pages level) low high entries
  fan-whole h =
      let P : ℕ → ℕ → ℕ → Type 0 = IsTree form (half_of form level) pages level in
      let t : IsTree form (half_of form level) pages level l.child.1 l.child.0 (next_key high l.ys) = tree-fewer form left (half_of form level) pages level l.child.1 l.child.0 (next_key high l.ys) h l.tree in
      subst (λ (x : List Entry). IsFan P low high x) (sym l.is)
      (fan-between P low l.child.0 (next_key high l.ys) high l.xs (l.child ∷ []) l.ys l.front (refl, tree-lt form (half_of form level) pages level l.child.1 l.child.0 (next_key high l.ys) t, t, refl) l.back)

-- a page that stays, above children that are half full
pub kept-becomes : (form : Form) (pages : PageMap) (count first count' first' below page low high n : ℕ) (free bytes : List ℕ) (new : PageMap) → new ≡ pages → count' ≡ count → first' ≡ first
    → IsInner form 2 (suc below) bytes → bytes ≡ pages page → n ≡ count_of bytes → IsFan (IsTree form (half_of form below) pages below) low high (with_low low (entries_in form bytes))
    → IsSupplied (view pages count first free)
    → Becomes form n (view pages count first free) (λ k. one_at page k + total (λ c. uses form pages below c k) (entries_in form bytes)) new count' first' (suc below) low high
    (below_rows form pages below (entries_in form bytes)) ((low, page) ∷ [])
kept-becomes form pages count first count' first' below page low high n free bytes new same e f inner is n-is fan supplied =
    let some = inner.node.some in
    let long = length-with_low low (entries_in form bytes) ∙ length-entries_in form bytes in
    let inner' : IsInner form n (suc below) bytes = record { node = node-fewer form.map 2 (suc below) (form.key + 4) 2 n bytes (omega arith) inner.node; first = inner.first } in
    let tree : IsTree form n pages (suc below) page low high = subst (λ (b : List ℕ). IsInner form n (suc below) b × IsFan (IsTree form (half_of form below) pages below) low high (with_low low (entries_in form b))) is (inner', fan) in
    let lt : low < high = fan-lt (IsTree form (half_of form below) pages below) low high (with_low low (entries_in form bytes)) (omega arith) fan in
    let m : Moves (view pages count first free) (view pages count first free) (λ k. one_at page k + total (λ c. uses form pages below c k) (entries_in form bytes)) (λ k. total (λ c. uses form pages (suc below) c k) ((low, page) ∷ [])) = record {
      supplied = supplied;
      kept = λ k. let u : total (λ c. uses form pages below c k) (entries_in form bytes) ≡ total (λ c. uses form pages below c k) (entries_in form (pages page)) = ap (λ (b : List ℕ). total (λ c. uses form pages below c k) (entries_in form b)) is in omega arith;
      others = λ k z s. refl;
    } in
    rw (same, e, f) (record {
      free = free;
      moves = m;
      fan = (refl, lt, tree, refl);
      gives = append-nil (rows_at form pages (suc below) page) ∙ ap (λ (b : List ℕ). below_rows form pages below (entries_in form b)) (sym is);
    })

pub near-next : (at near : ℕ) → at < near → (near ≡ at + 1) ⊎ (near + 1 ≡ at) → near ≡ at + 1
near-next at near h n = ⊎_elim (λ e. e) (λ e. absurd (omega arith)) n

pub near-before : (at near : ℕ) → near ≤ at → (near ≡ at + 1) ⊎ (near + 1 ≡ at) → near + 1 ≡ at
near-before at near h n = ⊎_elim (λ e. absurd (omega arith)) (λ e. e) n
