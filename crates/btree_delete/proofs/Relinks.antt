-- An inner page whose entries change with its children.
use Rattle.std.proofs.Common.{◌≡◌, ℕ, suc, ◌+◌, ◌-◌, ◌*◌, ◌^◌, ◌<◌, ◌≤◌, List, [], ◌∷◌, ◌++◌, length, get_or, take, drop, arith, refl, sym, ap, ◌∙◌, subst, append_assoc, Bool, true, false}
use Rattle.std.proofs.lemmas.Nat.{from_be_bytes-to_be_bytes_2}
use Rattle.std.proofs.lemmas.List.{length-take-le, length-drop}
use Rattle.std.proofs.Math.Nat.{mul-le-mul_left}
use Rattle.page_face.specs.FreeList.{PageMap, with_page}
use Rattle.page_face.specs.Number.{number}
use Rattle.page_face.specs.Cells.{key_at}
use Rattle.btree_nodes.specs.Build.{image}
use Rattle.btree_nodes.specs.declared.form.Form.{Form}
use Rattle.btree_nodes.specs.Supply.{View, view, spare_in, spare, one_at}
use Rattle.btree_nodes.specs.Rows.{Row}
use Rattle.page_face.specs.Nodes.{count_of}
use Rattle.btree_nodes.specs.Nodes.{Entry, entries_in, half_of, entries_of}
use Rattle.btree_nodes.specs.Tree.{next_key, IsFan, IsTree, rows_at, uses, total, with_low}
use Rattle.btree_nodes.specs.Bounds.{child_of}
use Rattle.btree_nodes.specs.Store.{below_rows}
use Rattle.btree_nodes.proofs.Fans.{no_entry, with_low-child, with_low-key, with_low-rows}
use Rattle.btree_nodes.proofs.Frames.{flat_map-append, total-append, with_low-total}
use Rattle.btree_nodes.proofs.Spots.{entry-key, length-entries_in}
use Rattle.btree_nodes.proofs.Supplies.{moves-beside, moves-as, moves-further}
use Rattle.btree_delete.specs.Body.{IsBody, cells_in, without_cell, with_key}
use Rattle.btree_delete.specs.Mended.{Becomes, HasPair, joined}
use Rattle.btree_delete.proofs.Holds.{becomes-as, cells-entries, cells-first}
use Rattle.btree_delete.proofs.Joins.{few}
use Rattle.btree_delete.proofs.Changes.{entries-without, length-without, entries-with, length-with, first-stays, with_low-take, drop-low}
use Rattle.btree_delete.proofs.Among.{written-becomes, front-same, back-same, among-moves, among-rows, fan-between}

-- the count of a page that was made
pub made-count : (number kind level count : ℕ) (bytes : List ℕ) → count < 2 ^ 16 → count_of (image number kind level count bytes) ≡ count
unfolding count_of image
made-count number kind level count bytes small = from_be_bytes-to_be_bytes_2 count small

pub take-past : (xs : List Entry) (e : Entry) (zs : List Entry) → take (suc (length xs)) (xs ++ (e ∷ zs)) ≡ xs ++ (e ∷ [])
take-past [] e zs = refl
take-past (x ∷ xs) e zs = ap (λ (r : List Entry). x ∷ r) (take-past xs e zs)

pub drop-past : (xs : List Entry) (e : Entry) (zs : List Entry) → drop (suc (length xs)) (xs ++ (e ∷ zs)) ≡ zs
drop-past [] e zs = refl
drop-past (x ∷ xs) e zs = drop-past xs e zs

pub drop-past2 : (xs : List Entry) (e f : Entry) (zs : List Entry) → drop (suc (suc (length xs))) (xs ++ (e ∷ (f ∷ zs))) ≡ zs
drop-past2 [] e f zs = refl
drop-past2 (x ∷ xs) e f zs = drop-past2 xs e f zs

pub get-past : (xs : List Entry) (e : Entry) (zs : List Entry) → get_or (xs ++ (e ∷ zs)) (length xs) no_entry ≡ e
get-past [] e zs = refl
get-past (x ∷ xs) e zs = get-past xs e zs

pub get-past2 : (xs : List Entry) (e f : Entry) (zs : List Entry) → get_or (xs ++ (e ∷ (f ∷ zs))) (suc (length xs)) no_entry ≡ f
get-past2 [] e f zs = refl
get-past2 (x ∷ xs) e f zs = get-past2 xs e f zs

-- the page is written with the entries that it has now
pub relinked : (form : Form) (old mid new : PageMap) (count first count' first' count'' first'' below page low from to high n : ℕ) (free cells : List ℕ) (xs seg ys entries : List Entry) (rows : List Row)
    → IsFan (IsTree form (half_of form below) old below) low from xs → IsFan (IsTree form (half_of form below) old below) to high ys
    → Becomes form (half_of form below) (view old count first free) (λ k. total (λ c. uses form old below c k) seg) mid count' first' below from to rows entries
    → ((k : ℕ) → one_at page k + total (λ c. uses form old below c k) (xs ++ (seg ++ ys)) + spare free count k ≤ 1)
    → new ≡ with_page page (image form.map 2 (suc below) n cells) mid → count'' ≡ count' → first'' ≡ first'
    → 0 < n → n < 2 ^ 16 → length cells ≡ (form.key + 4) * n → 16 + length cells ≤ 4096
    → number (take form.key cells) ≡ 0 → with_low low (entries_of form n cells) ≡ xs ++ (entries ++ ys)
    → Becomes form n (view old count first free) (λ k. one_at page k + total (λ c. uses form old below c k) (xs ++ (seg ++ ys))) new count'' first'' (suc below) low high
    (below_rows form old below xs ++ (rows ++ below_rows form old below ys)) ((low, page) ∷ [])
relinked form old mid new count first count' first' count'' first'' below page low from to high n free cells xs seg ys entries rows front back changed once written e f some small whole fits zero_key are =
    let before : View = view old count first free in
    let once' : (k : ℕ) → total (λ c. uses form old below c k) (xs ++ (seg ++ ys)) + spare_in before k ≤ 1 = λ k. (let o = once k in omega arith) in
    let fs = front-same form (half_of form below) before mid count' first' below low from to high xs seg ys entries rows front back changed once' in
    let bs = back-same form (half_of form below) before mid count' first' below low from to high xs seg ys entries rows front back changed once' in
    let am = among-moves form (half_of form below) before mid count' first' below low from to high xs seg ys entries rows front back changed once' in
    let ar = among-rows form (half_of form below) before mid count' first' below low from to high xs seg ys entries rows front back changed once' in
    let fan : IsFan (IsTree form (half_of form below) mid below) low high (xs ++ (entries ++ ys)) = fan-between (IsTree form (half_of form below) mid below) low from to high xs entries ys fs.fan changed.fan bs.fan in
    let body : IsBody form mid (suc below) low high n cells = (zero_key, subst (λ (x : List Entry). IsFan (IsTree form (half_of form below) mid below) low high x) (sym are) fan) in
    let same : (k : ℕ) → total (λ c. uses form mid below c k) (entries_of form n cells) ≡ total (λ c. uses form mid below c k) (xs ++ (entries ++ ys)) =
    λ k. sym (with_low-total (λ c. uses form mid below c k) low (entries_of form n cells)) ∙ ap (total (λ c. uses form mid below c k)) are in
    let w = written-becomes form n mid new count' first' count'' first'' (suc below) page low high n changed.free cells written e f some (omega arith) small whole fits body am.supplied
    (λ k. let o = once k in let m = am.kept k in let s = same k in omega arith) in
    record {
      free = w.free;
      moves = moves-further (moves-as (λ k. omega arith) (λ k. let s = same k in omega arith) (moves-beside (one_at page) am)) w.moves;
      fan = w.fan;
      gives = w.gives ∙ sym (with_low-rows (rows_at form mid below) low (entries_of form n cells)) ∙ ap (below_rows form mid below) are ∙ ar;
    }

module _ (form : Form) (old : PageMap) (below low high n at : ℕ) (bytes : List ℕ) (size : length bytes ≡ 4096) (n-is : n ≡ count_of bytes) (fits : 16 + (form.key + 4) * n ≤ 4096)
    (lt : at + 1 < n) (pair : HasPair form old below low high at (with_low low (entries_in form bytes))) where
  es : List Entry
  es = entries_in form bytes

  cs : List ℕ
  cs = cells_in (form.key + 4) n bytes

  are-entries : entries_of form n cs ≡ es
  unfolding es cs
  are-entries = subst (λ (k : ℕ). entries_of form k (cells_in (form.key + 4) k bytes) ≡ entries_in form bytes) (sym n-is)
      (cells-entries form bytes (let m : (form.key + 4) * n ≡ (form.key + 4) * count_of bytes = ap (λ (k : ℕ). (form.key + 4) * k) n-is in omega arith))

  long : length es ≡ n
  unfolding es
  long = length-entries_in form bytes ∙ sym n-is

  pub cells-long : length (cells_in (form.key + 4) n bytes) ≡ (form.key + 4) * n
  cells-long = length-take-le ((form.key + 4) * n) (drop 16 bytes) (omega (arith, length-drop 16 bytes))

  past : suc (length pair.xs) ≡ at + 1
  past = let p = pair.place in omega arith

  ws-is : with_low low es ≡ pair.xs ++ (pair.left ∷ (pair.right ∷ pair.ys))
  unfolding es
  ws-is = pair.is

  -- the two children, and the key between them
  pub left-child : child_of form bytes at ≡ pair.left.1
  left-child =
      sym (with_low-child low (entries_in form bytes) at)
      ∙ ap (λ (x : List Entry). (get_or x at no_entry).1) pair.is
      ∙ ap (λ (k : ℕ). (get_or (pair.xs ++ (pair.left ∷ (pair.right ∷ pair.ys))) k no_entry).1) (sym pair.place)
      ∙ ap (λ (e : Entry). e.1) (get-past pair.xs pair.left (pair.right ∷ pair.ys))

  pub right-child : child_of form bytes (at + 1) ≡ pair.right.1
  right-child =
      sym (with_low-child low (entries_in form bytes) (at + 1))
      ∙ ap (λ (x : List Entry). (get_or x (at + 1) no_entry).1) pair.is
      ∙ ap (λ (k : ℕ). (get_or (pair.xs ++ (pair.left ∷ (pair.right ∷ pair.ys))) k no_entry).1) (sym past)
      ∙ ap (λ (e : Entry). e.1) (get-past2 pair.xs pair.left pair.right pair.ys)

  pub right-key : key_at form.key (form.key + 4) bytes (at + 1) ≡ pair.right.0
  right-key =
      sym (entry-key form bytes (at + 1) (omega arith))
      ∙ sym (with_low-key low (entries_in form bytes) (at + 1) (omega arith))
      ∙ ap (λ (x : List Entry). (get_or x (at + 1) no_entry).0) pair.is
      ∙ ap (λ (k : ℕ). (get_or (pair.xs ++ (pair.left ∷ (pair.right ∷ pair.ys))) k no_entry).0) (sym past)
      ∙ ap (λ (e : Entry). e.0) (get-past2 pair.xs pair.left pair.right pair.ys)

  -- the entries without the right one
  pub merged-entries : with_low low (entries_of form (n - 1) (without_cell (form.key + 4) (at + 1) (cells_in (form.key + 4) n bytes))) ≡ pair.xs ++ (pair.left ∷ pair.ys)
  unfolding es cs
  merged-entries =
      let rest : ℕ = n - at - 2 in
      let sum : at + 1 + suc rest ≡ n = omega arith in
      let less : n - 1 ≡ at + 1 + rest = omega arith in
      let l : length cs ≡ (form.key + 4) * (at + 1 + suc rest) = cells-long ∙ ap (λ (k : ℕ). (form.key + 4) * k) (sym sum) in
      let s : suc (at + 1) ≡ suc (suc (length pair.xs)) = ap suc (sym past) in
      ap (λ (k : ℕ). with_low low (entries_of form k (without_cell (form.key + 4) (at + 1) cs))) less
      ∙ ap (with_low low) (entries-without form (at + 1) rest cs l)
      ∙ ap (λ (k : ℕ). with_low low (take (at + 1) (entries_of form k cs) ++ drop (suc (at + 1)) (entries_of form k cs))) sum
      ∙ ap (λ (x : List Entry). with_low low (take (at + 1) x ++ drop (suc (at + 1)) x)) are-entries
      ∙ with_low-take low es (drop (suc (at + 1)) es) (at + 1) (omega arith) (omega (arith, long))
      ∙ ap (λ (x : List Entry). take (at + 1) (with_low low es) ++ x) (sym (drop-low low es (suc (at + 1)) (omega arith)))
      ∙ ap (λ (x : List Entry). take (at + 1) x ++ drop (suc (at + 1)) x) ws-is
      ∙ ap (λ (k : ℕ). take k (pair.xs ++ (pair.left ∷ (pair.right ∷ pair.ys))) ++ drop (suc k) (pair.xs ++ (pair.left ∷ (pair.right ∷ pair.ys)))) (sym past)
      ∙ ap (λ (x : List Entry). x ++ drop (suc (suc (length pair.xs))) (pair.xs ++ (pair.left ∷ (pair.right ∷ pair.ys)))) (take-past pair.xs pair.left (pair.right ∷ pair.ys))
      ∙ ap (λ (x : List Entry). (pair.xs ++ (pair.left ∷ [])) ++ x) (drop-past2 pair.xs pair.left pair.right pair.ys)
      ∙ append_assoc pair.xs (pair.left ∷ []) pair.ys

  -- the entries with another key for the right one
  pub rekeyed-entries : (key : List ℕ) → length key ≡ form.key
      → with_low low (entries_of form n (with_key (form.key + 4) (at + 1) key (cells_in (form.key + 4) n bytes))) ≡ pair.xs ++ (pair.left ∷ ((number key, pair.right.1) ∷ pair.ys))
  unfolding es cs
  rekeyed-entries key lk =
      let rest : ℕ = n - at - 2 in
      let sum : at + 1 + suc rest ≡ n = omega arith in
      let l : length cs ≡ (form.key + 4) * (at + 1 + suc rest) = cells-long ∙ ap (λ (k : ℕ). (form.key + 4) * k) (sym sum) in
      ap (λ (k : ℕ). with_low low (entries_of form k (with_key (form.key + 4) (at + 1) key cs))) (sym sum)
      ∙ ap (with_low low) (entries-with form (at + 1) rest key cs l lk)
      ∙ ap (λ (k : ℕ). with_low low (take (at + 1) (entries_of form k cs) ++ with_low (number key) (drop (at + 1) (entries_of form k cs)))) sum
      ∙ ap (λ (x : List Entry). with_low low (take (at + 1) x ++ with_low (number key) (drop (at + 1) x))) are-entries
      ∙ with_low-take low es (with_low (number key) (drop (at + 1) es)) (at + 1) (omega arith) (omega (arith, long))
      ∙ ap (λ (x : List Entry). take (at + 1) (with_low low es) ++ with_low (number key) x) (sym (drop-low low es (at + 1) (omega arith)))
      ∙ ap (λ (x : List Entry). take (at + 1) x ++ with_low (number key) (drop (at + 1) x)) ws-is
      ∙ ap (λ (k : ℕ). take k (pair.xs ++ (pair.left ∷ (pair.right ∷ pair.ys))) ++ with_low (number key) (drop k (pair.xs ++ (pair.left ∷ (pair.right ∷ pair.ys))))) (sym past)
      ∙ ap (λ (x : List Entry). x ++ with_low (number key) (drop (suc (length pair.xs)) (pair.xs ++ (pair.left ∷ (pair.right ∷ pair.ys))))) (take-past pair.xs pair.left (pair.right ∷ pair.ys))
      ∙ ap (λ (x : List Entry). (pair.xs ++ (pair.left ∷ [])) ++ with_low (number key) x) (drop-past pair.xs pair.left (pair.right ∷ pair.ys))
      ∙ append_assoc pair.xs (pair.left ∷ []) ((number key, pair.right.1) ∷ pair.ys)

  -- the pair has become these entries, and the page is written with them
  pub mended : (mid new : PageMap) (count first count' first' count'' first'' page m : ℕ) (free cells : List ℕ) (entries : List Entry)
      → Becomes form (half_of form below) (view old count first free) (λ k. uses form old below pair.left.1 k + uses form old below pair.right.1 k) mid count' first' below pair.left.0 (next_key high pair.ys)
      (rows_at form old below pair.left.1 ++ rows_at form old below pair.right.1) entries
      → ((k : ℕ) → one_at page k + total (λ c. uses form old below c k) (entries_in form bytes) + spare free count k ≤ 1)
      → new ≡ with_page page (image form.map 2 (suc below) m cells) mid → count'' ≡ count' → first'' ≡ first'
      → 0 < m → m < 2 ^ 16 → length cells ≡ (form.key + 4) * m → 16 + length cells ≤ 4096
      → number (take form.key cells) ≡ 0 → with_low low (entries_of form m cells) ≡ pair.xs ++ (entries ++ pair.ys)
      → Becomes form m (view old count first free) (λ k. one_at page k + total (λ c. uses form old below c k) (entries_in form bytes)) new count'' first'' (suc below) low high
      (below_rows form old below (entries_in form bytes)) ((low, page) ∷ [])
  mended mid new count first count' first' count'' first'' page m free cells entries changed once written e f some small whole room zero_key are =
      let seg : List Entry = pair.left ∷ (pair.right ∷ []) in
      let all : List Entry = pair.xs ++ (seg ++ pair.ys) in
      let same : (k : ℕ) → total (λ c. uses form old below c k) (entries_in form bytes) ≡ total (λ c. uses form old below c k) all =
      λ k. sym (with_low-total (λ c. uses form old below c k) low (entries_in form bytes)) ∙ ap (total (λ c. uses form old below c k)) pair.is in
      let rows : below_rows form old below (entries_in form bytes) ≡ below_rows form old below pair.xs ++ ((rows_at form old below pair.left.1 ++ rows_at form old below pair.right.1) ++ below_rows form old below pair.ys) =
      sym (with_low-rows (rows_at form old below) low (entries_in form bytes)) ∙ ap (below_rows form old below) pair.is ∙ flat_map-append (rows_at form old below) pair.xs (seg ++ pair.ys)
      ∙ ap (λ (x : List Row). below_rows form old below pair.xs ++ x) (sym (append_assoc (rows_at form old below pair.left.1) (rows_at form old below pair.right.1) (below_rows form old below pair.ys))) in
      becomes-as (λ k. let s = same k in omega arith) (sym rows)
      (relinked form old mid new count first count' first' count'' first'' below page low pair.left.0 (next_key high pair.ys) high m free cells pair.xs seg pair.ys entries
      (rows_at form old below pair.left.1 ++ rows_at form old below pair.right.1)
      pair.front pair.back (becomes-as (λ k. omega arith) refl changed) (λ k. let s = same k in let o = once k in omega arith) written e f some small whole room zero_key are)

  -- where the two were merged
  pub mended-merged : (mid new : PageMap) (count first count' first' count'' first'' page : ℕ) (free : List ℕ) (made : List ℕ) (merged : Bool) (middle : ℕ) → merged ≡ true
      → Becomes form (half_of form below) (view old count first free) (λ k. uses form old below pair.left.1 k + uses form old below pair.right.1 k) mid count' first' below pair.left.0 (next_key high pair.ys)
      (rows_at form old below pair.left.1 ++ rows_at form old below pair.right.1) (joined merged pair.left.0 pair.left.1 pair.right.1 middle)
      → ((k : ℕ) → one_at page k + total (λ c. uses form old below c k) (entries_in form bytes) + spare free count k ≤ 1)
      → new ≡ with_page page made mid → made ≡ image form.map 2 (below + 1) (n - 1) (without_cell (form.key + 4) (at + 1) (cells_in (form.key + 4) n bytes)) → count'' ≡ count' → first'' ≡ first'
      → key_at form.key (form.key + 4) bytes 0 ≡ 0
      → Becomes form (n - 1) (view old count first free) (λ k. one_at page k + total (λ c. uses form old below c k) (entries_in form bytes)) new count'' first'' (suc below) low high
      (below_rows form old below (entries_in form bytes)) ((low, page) ∷ [])
  mended-merged mid new count first count' first' count'' first'' page free made merged middle t changed once written made-is e f zero_key =
      let w : ℕ = form.key + 4 in
      let rest : ℕ = n - at - 2 in
      let sum : at + 1 + suc rest ≡ n = omega arith in
      let less : n - 1 ≡ at + 1 + rest = omega arith in
      let some_width : 1 ≤ w = omega arith in
      let small = few w n some_width (omega arith) in
      let up : below + 1 ≡ suc below = omega arith in
      let b : List ℕ = cells_in w n bytes in
      let l : length b ≡ w * (at + 1 + suc rest) = cells-long ∙ ap (λ (k : ℕ). w * k) (sym sum) in
      let len : length (without_cell w (at + 1) b) ≡ w * (n - 1) = length-without w (at + 1) rest b l ∙ ap (λ (k : ℕ). w * k) (sym less) in
      let fewer = mul-le-mul_left {m = n - 1} {n = n} w (omega arith) in
      let front = mul-le-mul_left {m = at + 1} {n = n} w (omega arith) in
      mended mid new count first count' first' count'' first'' page (n - 1) free (without_cell w (at + 1) b) ((pair.left.0, pair.left.1) ∷ [])
      (subst (λ (x : Bool). Becomes form (half_of form below) (view old count first free) (λ k. uses form old below pair.left.1 k + uses form old below pair.right.1 k) mid count' first' below pair.left.0 (next_key high pair.ys)
      (rows_at form old below pair.left.1 ++ rows_at form old below pair.right.1) (joined x pair.left.0 pair.left.1 pair.right.1 middle)) t changed)
      once (written ∙ ap (λ (x : List ℕ). with_page page x mid) (made-is ∙ ap (λ (k : ℕ). image form.map 2 k (n - 1) (without_cell w (at + 1) b)) up)) e f (omega arith) (omega arith) len (omega arith)
      (first-stays form (at + 1) b (drop (w * (at + 1) + w) b) (omega arith) (omega (arith, cells-long)) (cells-first form bytes n (omega arith) zero_key)) merged-entries

  -- where each has half of the cells
  pub mended-shared : (mid new : PageMap) (count first count' first' count'' first'' page : ℕ) (free : List ℕ) (made key : List ℕ) (merged : Bool) → merged ≡ false → length key ≡ form.key
      → Becomes form (half_of form below) (view old count first free) (λ k. uses form old below pair.left.1 k + uses form old below pair.right.1 k) mid count' first' below pair.left.0 (next_key high pair.ys)
      (rows_at form old below pair.left.1 ++ rows_at form old below pair.right.1) (joined merged pair.left.0 pair.left.1 pair.right.1 (number key))
      → ((k : ℕ) → one_at page k + total (λ c. uses form old below c k) (entries_in form bytes) + spare free count k ≤ 1)
      → new ≡ with_page page made mid → made ≡ image form.map 2 (below + 1) n (with_key (form.key + 4) (at + 1) key (cells_in (form.key + 4) n bytes)) → count'' ≡ count' → first'' ≡ first'
      → key_at form.key (form.key + 4) bytes 0 ≡ 0
      → Becomes form n (view old count first free) (λ k. one_at page k + total (λ c. uses form old below c k) (entries_in form bytes)) new count'' first'' (suc below) low high
      (below_rows form old below (entries_in form bytes)) ((low, page) ∷ [])
  mended-shared mid new count first count' first' count'' first'' page free made key merged t lk changed once written made-is e f zero_key =
      let w : ℕ = form.key + 4 in
      let rest : ℕ = n - at - 2 in
      let sum : at + 1 + suc rest ≡ n = omega arith in
      let some_width : 1 ≤ w = omega arith in
      let small = few w n some_width (omega arith) in
      let up : below + 1 ≡ suc below = omega arith in
      let b : List ℕ = cells_in w n bytes in
      let l : length b ≡ w * (at + 1 + suc rest) = cells-long ∙ ap (λ (k : ℕ). w * k) (sym sum) in
      let len : length (with_key w (at + 1) key b) ≡ w * n = length-with w (at + 1) rest key b l (omega arith) ∙ ap (λ (k : ℕ). w * k) sum in
      let front = mul-le-mul_left {m = at + 1} {n = n} w (omega arith) in
      mended mid new count first count' first' count'' first'' page n free (with_key w (at + 1) key b) ((pair.left.0, pair.left.1) ∷ ((number key, pair.right.1) ∷ []))
      (subst (λ (x : Bool). Becomes form (half_of form below) (view old count first free) (λ k. uses form old below pair.left.1 k + uses form old below pair.right.1 k) mid count' first' below pair.left.0 (next_key high pair.ys)
      (rows_at form old below pair.left.1 ++ rows_at form old below pair.right.1) (joined x pair.left.0 pair.left.1 pair.right.1 (number key))) t changed)
      once (written ∙ ap (λ (x : List ℕ). with_page page x mid) (made-is ∙ ap (λ (k : ℕ). image form.map 2 k n (with_key w (at + 1) key b)) up)) e f (omega arith) (omega arith) len (omega arith)
      (first-stays form (at + 1) b (key ++ drop (w * (at + 1) + length key) b) (omega arith) (omega (arith, cells-long)) (cells-first form bytes n (omega arith) zero_key)) (rekeyed-entries key lk)

  -- their pages are among those of all children
  pub pair-uses : (k : ℕ) → uses form old below pair.left.1 k + uses form old below pair.right.1 k ≤ total (λ c. uses form old below c k) (entries_in form bytes)
  pair-uses k =
      let a = with_low-total (λ c. uses form old below c k) low (entries_in form bytes) in
      let b : total (λ c. uses form old below c k) (with_low low (entries_in form bytes)) ≡ total (λ c. uses form old below c k) (pair.xs ++ (pair.left ∷ (pair.right ∷ pair.ys))) = ap (total (λ c. uses form old below c k)) pair.is in
      let d = total-append (λ c. uses form old below c k) pair.xs (pair.left ∷ (pair.right ∷ pair.ys)) in
      omega arith

  -- what joining them asks, and what it says
  pub record CanJoin (l r parting : ℕ) (count : ℕ) (free : List ℕ) : Type 0 where
    pub first : IsTree form 1 old below l pair.left.0 parting
    pub second : IsTree form 1 old below r parting (next_key high pair.ys)
    pub once : (k : ℕ) → uses form old below l k + uses form old below r k + spare free count k ≤ 1
    pub then_joined : (first' : ℕ) (mid : PageMap) (count' first'' middle : ℕ) (merged : Bool)
        → Becomes form (half_of form below) (view old count first' free) (λ k. uses form old below l k + uses form old below r k) mid count' first'' below pair.left.0 (next_key high pair.ys)
        (rows_at form old below l ++ rows_at form old below r) (joined merged pair.left.0 l r middle)
        → Becomes form (half_of form below) (view old count first' free) (λ k. uses form old below pair.left.1 k + uses form old below pair.right.1 k) mid count' first'' below pair.left.0 (next_key high pair.ys)
        (rows_at form old below pair.left.1 ++ rows_at form old below pair.right.1) (joined merged pair.left.0 pair.left.1 pair.right.1 middle)

  pub can-join : (l r parting count page : ℕ) (free : List ℕ) → l ≡ child_of form bytes at → r ≡ child_of form bytes (at + 1) → parting ≡ key_at form.key (form.key + 4) bytes (at + 1)
      → ((k : ℕ) → one_at page k + total (λ c. uses form old below c k) (entries_in form bytes) + spare free count k ≤ 1) → CanJoin l r parting count free
  can-join l r parting count page free le re pe once =
      let a : l ≡ pair.left.1 = le ∙ left-child in
      let b : r ≡ pair.right.1 = re ∙ right-child in
      let k : parting ≡ pair.right.0 = pe ∙ right-key in
      record {
        first = subst (λ (x : ℕ). IsTree form 1 old below x pair.left.0 parting) (sym a) (subst (λ (x : ℕ). IsTree form 1 old below pair.left.1 pair.left.0 x) (sym k) pair.first);
        second = subst (λ (x : ℕ). IsTree form 1 old below x parting (next_key high pair.ys)) (sym b) (subst (λ (x : ℕ). IsTree form 1 old below pair.right.1 x (next_key high pair.ys)) (sym k) pair.second);
        once = λ n. let o = once n in let u = pair-uses n in
            let c : uses form old below l n ≡ uses form old below pair.left.1 n = ap (λ (x : ℕ). uses form old below x n) a in
            let d : uses form old below r n ≡ uses form old below pair.right.1 n = ap (λ (x : ℕ). uses form old below x n) b in omega arith;
        then_joined = λ first' mid count' first'' middle merged j.
            subst (λ (x : ℕ). Becomes form (half_of form below) (view old count first' free) (λ k. uses form old below pair.left.1 k + uses form old below x k) mid count' first'' below pair.left.0 (next_key high pair.ys)
            (rows_at form old below pair.left.1 ++ rows_at form old below x) (joined merged pair.left.0 pair.left.1 x middle)) b
            (subst (λ (x : ℕ). Becomes form (half_of form below) (view old count first' free) (λ k. uses form old below x k + uses form old below r k) mid count' first'' below pair.left.0 (next_key high pair.ys)
            (rows_at form old below x ++ rows_at form old below r) (joined merged pair.left.0 x r middle)) a j);
      }
