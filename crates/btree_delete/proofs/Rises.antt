-- A page whose child has lost a row.
use Rattle.std.proofs.Common.{◌≡◌, ℕ, zero, suc, ◌+◌, ◌<◌, ◌≤◌, List, [], ◌∷◌, ◌++◌, length, get_or, take, drop, arith, refl, sym, ap, ◌∙◌, subst, Option, None, ⊎_elim}
use Rattle.std.proofs.lemmas.List.{take-append-drop, length-take-le}
use Rattle.std.proofs.Math.Seq.{drop-cons}
use Rattle.page_face.specs.FreeList.{PageMap}
use Rattle.btree_nodes.specs.declared.form.Form.{Form}
use Rattle.btree_nodes.specs.Supply.{View, view, IsSupplied, spare, Moves, one_at}
use Rattle.btree_nodes.specs.Rows.{Row, lookup, without}
use Rattle.page_face.specs.Nodes.{count_of}
use Rattle.btree_nodes.specs.Nodes.{Entry, entries_in, half_of, IsInner}
use Rattle.btree_nodes.specs.Tree.{next_key, IsFan, IsTree, IsPlaceFor, rows_at, uses, total, with_low}
use Rattle.btree_nodes.specs.Bounds.{low_at, high_at, child_of}
use Rattle.btree_nodes.specs.Store.{below_rows}
use Rattle.btree_nodes.proofs.Fans.{no_entry, with_low-child, with_low-rows, length-with_low, drop-with_low, fan-within}
use Rattle.btree_nodes.proofs.Frames.{flat_map-append, total-append, with_low-total, total-at, fan-split}
use Rattle.btree_nodes.proofs.Trees.{tree-within, place-from, place-to, node-fewer}
use Rattle.btree_nodes.proofs.Puts.{without-edit}
use Rattle.btree_nodes.proofs.Spots.{length-entries_in}
use Rattle.btree_nodes.proofs.Supplies.{moves-beside, moves-as, moves-further, one_at-same}
use Rattle.btree_delete.specs.Mended.{Becomes, HasLow, IsBeside}
use Rattle.btree_delete.specs.Removal.{IsOut, HasRemoved}
use Rattle.btree_delete.proofs.Holds.{becomes-as}
use Rattle.btree_nodes.proofs.Walks.{uses-self}
use Rattle.btree_delete.proofs.Among.{front-same, back-same, among-moves, among-rows}

-- two places' pages are used beside each other
two-uses : (U : ℕ → ℕ → ℕ) (es : List Entry) (i j : ℕ) → i < j → j < length es → (n : ℕ) → U (get_or es i no_entry).1 n + U (get_or es j no_entry).1 n ≤ total (λ (c : ℕ). U c n) es
two-uses U [] i j h l n = absurd (omega arith)
two-uses U (e ∷ es) i zero h l n = absurd (omega arith)
two-uses U (e ∷ es) zero (suc j) h l n = let t = total-at U es j (omega arith) n in omega arith
two-uses U (e ∷ es) (suc i) (suc j) h l n = let t = two-uses U es i j (omega arith) (omega arith) n in omega arith

-- what a page and its children are after one of them has lost a row
pub record IsRisen (form : Form) (old : PageMap) (count first : ℕ) (free : List ℕ) (mid : PageMap) (count' first' l page low high key at left : ℕ) (bytes : List ℕ) : Type 0 where
  pub inner : IsInner form 2 (suc l) bytes
  pub free' : List ℕ
  pub here : bytes ≡ mid page
  pub low_child : HasLow form mid l low high at left (with_low low (entries_in form bytes))
  pub supplied : IsSupplied (view mid count' first' free')
  pub once : (n : ℕ) → one_at page n + total (λ c. uses form mid l c n) (entries_in form bytes) + spare free' count' n ≤ 1
  pub beside : (near : ℕ) → IsBeside at (count_of bytes) near → mid (child_of form bytes near) ≡ old (child_of form bytes near)
  pub then_out : (new : PageMap) (count'' first'' n : ℕ) (bytes' : List ℕ) → 0 < n
      → Becomes form n (view mid count' first' free') (λ k. one_at page k + total (λ c. uses form mid l c k) (entries_in form bytes)) new count'' first'' (suc l) low high
      (below_rows form mid l (entries_in form bytes)) ((low, page) ∷ []) → bytes' ≡ new page
      → IsOut form (view old count first free) (uses form old (suc l) page) new count'' first'' (suc l) page low high key (rows_at form old (suc l) page) bytes' n

module _ (form : Form) (old : PageMap) (count first least l page low high key at : ℕ) (free bytes : List ℕ)
    (is : bytes ≡ old page) (enough : 2 ≤ least) (tree : IsTree form least old (suc l) page low high) (place : IsPlaceFor (entries_in form bytes) key at) (from : low ≤ key) (to : key < high)
    (supplied : IsSupplied (view old count first free)) (once : (n : ℕ) → uses form old (suc l) page n + spare free count n ≤ 1) where
  abbrev ws : List Entry
  ws = with_low low (entries_in form bytes)

  abbrev child : Entry
  child = get_or ws at no_entry

  abbrev xs : List Entry
  xs = take at ws

  abbrev ys : List Entry
  ys = drop (suc at) ws

  inside : at < length ws
  inside = let p = place.within in let n = length-with_low low (entries_in form bytes) in omega arith

  parts : ws ≡ xs ++ (child ∷ ys)
  parts = sym (take-append-drop at ws) ∙ ap (λ (x : List Entry). xs ++ x) (drop-cons ws at no_entry inside)

  long : length xs ≡ at
  long = let i = inside in length-take-le at ws (omega arith)

  abbrev P : ℕ → ℕ → ℕ → Type 0
  P = IsTree form (half_of form l) old l

  tree-here : IsInner form least (suc l) bytes × IsFan P low high ws
  tree-here = subst (λ (b : List ℕ). IsInner form least (suc l) b × IsFan P low high (with_low low (entries_in form b))) (sym is) tree

  fans : IsFan P low child.0 xs × IsFan P child.0 high (child ∷ ys)
  fans = fan-split P low high xs (child ∷ ys) (subst (λ (x : List Entry). IsFan P low high x) parts tree-here.1)

  used : (n : ℕ) → uses form old (suc l) page n ≡ one_at page n + total (λ c. uses form old l c n) (xs ++ (child ∷ ys))
  used n =
      let a : total (λ c. uses form old l c n) (entries_in form (old page)) ≡ total (λ c. uses form old l c n) (entries_in form bytes) = ap (λ (b : List ℕ). total (λ c. uses form old l c n) (entries_in form b)) (sym is) in
      let b = with_low-total (λ c. uses form old l c n) low (entries_in form bytes) in
      let d : total (λ c. uses form old l c n) ws ≡ total (λ c. uses form old l c n) (xs ++ (child ∷ ys)) = ap (total (λ c. uses form old l c n)) parts in
      omega arith

  -- the child's bounds hold the key
  key-from : child.0 ≤ key
  key-from = place-from form bytes low key at place from

  ys-same : next_key high ys ≡ high_at form bytes high at
  ys-same = ap (next_key high) (drop-with_low low (entries_in form bytes) at)

  key-to : key < next_key high ys
  key-to = let e = ys-same in let t = place-to form bytes high key at place to in omega arith

  rows-parts : rows_at form old (suc l) page ≡ below_rows form old l xs ++ (rows_at form old l child.1 ++ below_rows form old l ys)
  rows-parts =
      ap (λ (b : List ℕ). below_rows form old l (entries_in form b)) (sym is)
      ∙ sym (with_low-rows (rows_at form old l) low (entries_in form bytes)) ∙ ap (below_rows form old l) parts ∙ flat_map-append (rows_at form old l) xs (child ∷ ys)

  -- the row is out of the child's rows
  without-parts : without key (rows_at form old (suc l) page) ≡ below_rows form old l xs ++ (without key (rows_at form old l child.1) ++ below_rows form old l ys)
  without-parts =
      let edit = without-edit key in
      let wx = fan-within P (rows_at form old l) low child.0 xs (λ c a b t. tree-within form (half_of form l) old l c a b t) fans.0 in
      let wy = fan-within P (rows_at form old l) (next_key high ys) high ys (λ c a b t. tree-within form (half_of form l) old l c a b t) fans.1.3 in
      ap (without key) rows-parts
      ∙ edit.right low child.0 (below_rows form old l xs) (rows_at form old l child.1 ++ below_rows form old l ys) wx key-from
      ∙ ap (λ (x : List Row). below_rows form old l xs ++ x) (edit.left (next_key high ys) high (rows_at form old l child.1) (below_rows form old l ys) wy key-to)

  module _ (mid : PageMap) (count' first' left : ℕ)
      (there : lookup key (rows_at form old (suc l) page) ≡ None → ⊥)
      (changed : Becomes form left (view old count first free) (uses form old l child.1) mid count' first' l child.0 (next_key high ys) (without key (rows_at form old l child.1)) ((child.0, child.1) ∷ [])) where
    abbrev before : View
    before = view old count first free

    changed' : Becomes form left before (λ n. total (λ c. uses form old l c n) (child ∷ [])) mid count' first' l child.0 (next_key high ys) (without key (rows_at form old l child.1)) (child ∷ [])
    changed' = becomes-as (λ n. omega arith) refl changed

    once' : (n : ℕ) → total (λ c. uses form old l c n) (xs ++ ((child ∷ []) ++ ys)) + spare free count n ≤ 1
    once' n = let o = once n in let u = used n in omega arith

    moved : Moves before (view mid count' first' changed'.free) (λ n. total (λ c. uses form old l c n) (xs ++ (child ∷ ys))) (λ n. total (λ c. uses form mid l c n) (xs ++ (child ∷ ys)))
    moved = among-moves form left before mid count' first' l low child.0 (next_key high ys) high xs (child ∷ []) ys (child ∷ []) (without key (rows_at form old l child.1)) fans.0 fans.1.3 changed' once'

    es-same : (n : ℕ) → total (λ c. uses form mid l c n) (entries_in form bytes) ≡ total (λ c. uses form mid l c n) (xs ++ (child ∷ ys))
    es-same n = sym (with_low-total (λ c. uses form mid l c n) low (entries_in form bytes)) ∙ ap (total (λ c. uses form mid l c n)) parts

    page-same : mid page ≡ old page
    page-same = let o = once page in let u = used page in let s = one_at-same page in
        let t = total-append (λ c. uses form old l c page) xs (child ∷ ys) in
        changed.moves.others page (omega arith) (omega arith)

    rows-now : below_rows form mid l (entries_in form bytes) ≡ without key (rows_at form old (suc l) page)
    rows-now =
        sym (with_low-rows (rows_at form mid l) low (entries_in form bytes)) ∙ ap (below_rows form mid l) parts
        ∙ among-rows form left before mid count' first' l low child.0 (next_key high ys) high xs (child ∷ []) ys (child ∷ []) (without key (rows_at form old l child.1)) fans.0 fans.1.3 changed' once'
        ∙ sym without-parts

    child-now : (get_or (entries_in form bytes) at no_entry).1 ≡ child.1
    child-now = sym (with_low-child low (entries_in form bytes) at)

    es-old : (n : ℕ) → total (λ c. uses form old l c n) (entries_in form bytes) ≡ total (λ c. uses form old l c n) (xs ++ (child ∷ ys))
    es-old n = sym (with_low-total (λ c. uses form old l c n) low (entries_in form bytes)) ∙ ap (total (λ c. uses form old l c n)) parts

    -- a page that a neighbour uses isn't the child's
    apart : (near n : ℕ) → IsBeside at (count_of bytes) near → 0 < uses form old l (child_of form bytes near) n → uses form old l child.1 n + spare free count n ≡ 0
    apart near n b some =
        let e : uses form old l (get_or (entries_in form bytes) at no_entry).1 n ≡ uses form old l child.1 n = ap (λ (c : ℕ). uses form old l c n) child-now in
        let o = once n in let u = used n in let w = es-old n in
        let len = length-entries_in form bytes in
        let p = place.within in
        let near-in = b.0 in
        ⊎_elim
        (λ (h : near ≡ at + 1). let t = two-uses (uses form old l) (entries_in form bytes) at near (omega arith) (omega arith) n in omega arith)
        (λ (h : near + 1 ≡ at). let t = two-uses (uses form old l) (entries_in form bytes) near at (omega arith) (omega arith) n in omega arith)
        b.1

    pub risen : IsRisen form old count first free mid count' first' l page low high key at left bytes
    risen = record {
      inner = (let f = tree-here.0.node.fill in record { node = node-fewer form.map 2 (suc l) (form.key + 4) least 2 bytes (omega arith) tree-here.0.node; first = tree-here.0.first });
      free' = changed'.free;
      here = is ∙ sym page-same;
      low_child = record {
        xs = xs;
        ys = ys;
        child = child;
        is = parts;
        place = long;
        front = (front-same form left before mid count' first' l low child.0 (next_key high ys) high xs (child ∷ []) ys (child ∷ []) (without key (rows_at form old l child.1)) fans.0 fans.1.3 changed' once').fan;
        tree = changed.fan.2;
        back = (back-same form left before mid count' first' l low child.0 (next_key high ys) high xs (child ∷ []) ys (child ∷ []) (without key (rows_at form old l child.1)) fans.0 fans.1.3 changed' once').fan;
      };
      supplied = moved.supplied;
      once = λ n. let o = once n in let u = used n in let k = moved.kept n in let e = es-same n in omega arith;
      beside = λ near b. let s = uses-self form old l (child_of form bytes near) in let a = apart near (child_of form bytes near) b s in
          changed.moves.others (child_of form bytes near) (omega arith) (omega arith);
      then_out = λ new count'' first'' n bytes' some became same. record {
        there = there;
        some = λ _. record {
          free = became.free;
          moves = moves-further (moves-as (λ k. let u = used k in omega arith) (λ k. let e = es-same k in omega arith) (moves-beside (one_at page) moved)) became.moves;
          fan = became.fan;
          gives = became.gives ∙ rows-now;
        };
        bytes_are = λ _. same;
        none = λ z. absurd (omega arith);
      };
    }

  pub rise : (mid : PageMap) (count' first' left child' lo hi : ℕ) (bytes' : List ℕ) → child' ≡ child_of form bytes at → lo ≡ low_at form bytes low at → hi ≡ high_at form bytes high at → 0 < left
      → lookup key (rows_at form old (suc l) page) ≡ lookup key (rows_at form old l child')
      → IsOut form (view old count first free) (uses form old l child') mid count' first' l child' lo hi key (rows_at form old l child') bytes' left
      → IsRisen form old count first free mid count' first' l page low high key at left bytes
  rise mid count' first' left child' lo hi bytes' e f h some row out =
      let a : child' ≡ child.1 = e ∙ sym (with_low-child low (entries_in form bytes) at) in
      let b : lo ≡ child.0 = f in
      let d : hi ≡ next_key high ys = h ∙ sym ys-same in
      let became = out.some some in
      let same : Becomes form left (view old count first free) (uses form old l child.1) mid count' first' l child.0 (next_key high ys) (without key (rows_at form old l child.1)) ((child.0, child.1) ∷ []) =
      subst (λ (x : ℕ). Becomes form left (view old count first free) (uses form old l x) mid count' first' l child.0 (next_key high ys) (without key (rows_at form old l x)) ((child.0, x) ∷ [])) a
      (subst (λ (x : ℕ). Becomes form left (view old count first free) (uses form old l child') mid count' first' l x (next_key high ys) (without key (rows_at form old l child')) ((x, child') ∷ [])) b
      (subst (λ (x : ℕ). Becomes form left (view old count first free) (uses form old l child') mid count' first' l lo x (without key (rows_at form old l child')) ((lo, child') ∷ [])) d became)) in
      risen mid count' first' left (λ n. out.there (sym row ∙ n)) same

-- what taking a row out below a child says
abbrev pub ChildClaim : Form → PageMap → ℕ → ℕ → List ℕ → PageMap → ℕ → ℕ → ℕ → ℕ → ℕ → ℕ → ℕ → ℕ → List ℕ → List ℕ → Option ℕ → Type 0
ChildClaim form old count first free mid count' first' l child low high key least bytes bytes' o =
    bytes ≡ old child → IsTree form least old l child low high → IsSupplied (view old count first free) → ((n : ℕ) → uses form old l child n + spare free count n ≤ 1)
    → HasRemoved form (view old count first free) (uses form old l child) mid count' first' l child low high key (rows_at form old l child) bytes' o

pub child-claim : (form : Form) (old old' : PageMap) (count count' first first' : ℕ) (free : List ℕ) (mid : PageMap) (more next l child low high key least : ℕ) (bytes bytes' : List ℕ) (o : Option ℕ) → old' ≡ old → count' ≡ count → first' ≡ first
    → ChildClaim form old' count' first' free mid more next l child low high key least bytes bytes' o → ChildClaim form old count first free mid more next l child low high key least bytes bytes' o
child-claim form old old' count count' first first' free mid more next l child low high key least bytes bytes' o e f h c =
    subst (λ (k : ℕ). ChildClaim form old count k free mid more next l child low high key least bytes bytes' o) h
    (subst (λ (k : ℕ). ChildClaim form old k first' free mid more next l child low high key least bytes bytes' o) f
    (subst (λ (p : PageMap). ChildClaim form p count' first' free mid more next l child low high key least bytes bytes' o) e c))
