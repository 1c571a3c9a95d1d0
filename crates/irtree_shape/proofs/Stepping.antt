-- Single steps on pages and rows.
use Rattle.std.proofs.Common.{◌≡◌, ℕ, ◌+◌, ◌<◌, ◌⊎◌, inl, inr, max, arith, refl, sym, ap, ◌∙◌, List, length, ◌==◌, Bool, true, false, if◌then◌else◌}
use Rattle.std.proofs.lemmas.Bool.Decides.{nat_tests}
use Rattle.page_face.specs.FreeList.{PageMap, with_page, next_free}
use Rattle.btree_nodes.specs.Supply.{one_at, tail}
use Rattle.btree_nodes.specs.Supply as supply
use Rattle.btree_nodes.proofs.Supplies.{one_at-is, one_at-other, one_at-same, with-other, with-same}
use Rattle.rtree_nodes.specs.Stock.{View, view, plain, spare_in}
use Rattle.node_rows.specs.Rows.{Bytes, bytes_in, only}
use Rattle.node_rows.specs.Turns.{Turns, moved}
use Rattle.node_rows.specs.Impacts.{raised, refreshed}
use Rattle.node_rows.proofs.Moves.{moved-other}
use Rattle.node_rows.proofs.Refreshes.{refreshed-elsewhere}
use Rattle.node_rows.proofs.Turned.{turns-as, turns-further}
use Rattle.irtree_shape.specs.Stock.{IsSupplied}
use Rattle.irtree_shape.specs.Steps.{Steps, Takes, IsPaired}
use Rattle.irtree_shape.proofs.Stocks.{beside-map, bytes-same, moves-as, moves-beside, moves-further, moves-rows, moves-take, moves-write, taken-beside}

-- a page that isn't counted as this one is another one
pub not_one : (page n : ℕ) → one_at page n ≡ 0 → n ≡ page → ⊥
not_one page n z e = let s = one_at-same page in let a : one_at page n ≡ one_at page page = ap (one_at page) e in omega arith

-- rows of pages of the tree have turned into others
pub steps-rows : (v : View) (pages : PageMap) (rows count first : ℕ) (b : Bytes) (mine : ℕ → ℕ) → IsSupplied v → Turns (plain v) v.rows pages count first rows b
    → ((n : ℕ) → 0 < mine n → spare_in v n ≡ 0) → ((n w i : ℕ) → mine n ≡ 0 → b n w i ≡ bytes_in v.pages v.rows n w i) → Steps v pages rows count first mine mine b v.pages
steps-rows v pages rows count first b mine supplied turn apart same = record {
  free = turn.free;
  moves = moves-rows v pages rows count first b mine supplied turn apart same;
  bytes = λ n w i l. turn.is n w i;
  holds = λ n l. let a = apart n l in turn.moves.others n (omega arith) (omega arith);
}

-- a page of the tree is none that is spare
pub one-apart : (v : View) (page : ℕ) → spare_in v page ≡ 0 → (n : ℕ) → 0 < one_at page n → spare_in v n ≡ 0
one-apart v page z n l = ap (spare_in v) (one_at-is page n l) ∙ z

-- a slot that is raised is one of its node
pub raised-elsewhere : (node slot : ℕ) (f : ℕ → ℕ) (b : Bytes) (n w i : ℕ) → (n ≡ node → ⊥) → raised node slot f b n w i ≡ b n w i
raised-elsewhere node slot f b n w i d = let t : (n == node) ≡ false = grind (arith, nat_tests) in rw t (omega arith)

-- a slot was raised
pub steps-raised : (v : View) (pages : PageMap) (rows count first page at : ℕ) (f : ℕ → ℕ) → IsSupplied v → spare_in v page ≡ 0
    → Turns (plain v) v.rows pages count first rows (raised page at f (bytes_in v.pages v.rows))
    → Steps v pages rows count first (one_at page) (one_at page) (raised page at f (bytes_in v.pages v.rows)) v.pages
steps-raised v pages rows count first page at f supplied z turn = steps-rows v pages rows count first (raised page at f (bytes_in v.pages v.rows)) (one_at page) supplied turn (one-apart v page z)
    (λ n w i m. raised-elsewhere page at f (bytes_in v.pages v.rows) n w i (not_one page n m))

-- a slot was refreshed
pub steps-refreshed : (v : View) (pages : PageMap) (rows count first page at child : ℕ) → IsSupplied v → spare_in v page ≡ 0
    → Turns (plain v) v.rows pages count first rows (refreshed page at child (bytes_in v.pages v.rows))
    → Steps v pages rows count first (one_at page) (one_at page) (refreshed page at child (bytes_in v.pages v.rows)) v.pages
steps-refreshed v pages rows count first page at child supplied z turn = steps-rows v pages rows count first (refreshed page at child (bytes_in v.pages v.rows)) (one_at page) supplied turn (one-apart v page z)
    (λ n w i m. refreshed-elsewhere page at child (bytes_in v.pages v.rows) n w i (not_one page n m))

either : (a b : ℕ) → 0 < a + b → (0 < a) ⊎ (0 < b)
either a b l = grind arith

-- neither of two pages of the tree is spare
pub two-apart : (v : View) (page to : ℕ) → spare_in v page ≡ 0 → spare_in v to ≡ 0 → (n : ℕ) → 0 < one_at page n + one_at to n → spare_in v n ≡ 0
two-apart v page to y z n l = elim (either (one_at page n) (one_at to n) l) [ inl a ↦ one-apart v page y n a | inr a ↦ one-apart v to z n a ]

-- bytes of some slots were moved to another node, and then a slot of one of the two was raised
pub steps-parted : (v : View) (mid new : PageMap) (r1 c1 f1 rows count first page mask to at : ℕ) (goes : Bool) (f : ℕ → ℕ) → IsSupplied v → spare_in v page ≡ 0 → spare_in v to ≡ 0
    → (turn : Turns (plain v) v.rows mid c1 f1 r1 (moved page mask to (bytes_in v.pages v.rows)))
    → Turns (supply.view mid c1 f1 turn.free) r1 new count first rows (raised (if goes then to else page) at f (bytes_in mid r1))
    → Steps v new rows count first (λ n. one_at page n + one_at to n) (λ n. one_at page n + one_at to n) (raised (if goes then to else page) at f (moved page mask to (bytes_in v.pages v.rows))) v.pages
steps-parted v mid new r1 c1 f1 rows count first page mask to at goes f supplied y z turn next =
    steps-rows v new rows count first (raised (if goes then to else page) at f (moved page mask to (bytes_in v.pages v.rows))) (λ n. one_at page n + one_at to n) supplied
    (turns-as (plain v) v.rows new count first rows (raised (if goes then to else page) at f (bytes_in mid r1)) (raised (if goes then to else page) at f (moved page mask to (bytes_in v.pages v.rows)))
    (λ n w i. ap (λ (b : ℕ). max b (only (if goes then to else page) at f n w i)) (turn.is n w i))
    (turns-further (plain v) v.rows mid c1 f1 r1 (moved page mask to (bytes_in v.pages v.rows)) turn new count first rows (raised (if goes then to else page) at f (bytes_in mid r1)) next))
    (two-apart v page to y z)
    (λ n w i m. raised-elsewhere (if goes then to else page) at f (moved page mask to (bytes_in v.pages v.rows)) n w i (other n m)
    ∙ moved-other page mask to (bytes_in v.pages v.rows) n w i (not_one page n (omega arith)) (not_one to n (omega arith)))
  where
    other : (n : ℕ) → one_at page n + one_at to n ≡ 0 → n ≡ (if goes then to else page) → ⊥
    other n m = elim goes as (λ b. n ≡ (if b then to else page) → ⊥) [ true ↦ not_one to n (omega arith) | false ↦ not_one page n (omega arith) ]

-- a page in use was written
pub steps-write : (old new : PageMap) (bytes : List ℕ) (rows count first count' first' page : ℕ) (free : List ℕ) → IsSupplied (view old rows count first free) → spare_in (view old rows count first free) page ≡ 0 → 0 < page
    → new ≡ with_page page bytes old → count' ≡ count → first' ≡ first → Steps (view old rows count first free) new rows count' first' (one_at page) (one_at page) (bytes_in old rows) (λ n. bytes)
steps-write old new bytes rows count first count' first' page free supplied z some p q r = rw (p, q, r) (record {
  free = free;
  moves = moves-write old bytes rows count first page free supplied z some;
  bytes = λ n w i l. bytes-same old (with_page page bytes old) rows supplied.rows.kept.map (λ m u. with-other old bytes page m (beside-map old rows page m (omega arith) u)) n w i;
  holds = λ n l. ap (with_page page bytes old) (one_at-is page n l) ∙ with-same old bytes page;
})

-- a page was taken and written
pub steps-take : (old taken new : PageMap) (bytes : List ℕ) (rows count more first next count' first' page : ℕ) (free : List ℕ) → IsSupplied (view old rows count first free)
    → (first ≡ 0 → (page ≡ count) × (more ≡ count + 1) × (next ≡ 0)) → (0 < first → (page ≡ first) × (more ≡ count) × (0 < length (old page) → next ≡ next_free (old page)))
    → ((n : ℕ) → (n ≡ page → ⊥) → taken n ≡ old n) → 0 < page → new ≡ with_page page bytes taken → count' ≡ more → first' ≡ next
    → Takes (view old rows count first free) new rows count' first' page bytes
steps-take old taken new bytes rows count more first next count' first' page free supplied isnew isfree others some p q r =
    let m = moves-take old taken rows count more first next page free supplied isnew isfree others in
    let one = one_at-same page in
    let had : 0 < spare_in (view old rows count first free) page = let k = m.kept page in omega arith in
    let beside = taken-beside old taken rows count more first next page free supplied isnew isfree others in
    let unused : spare_in (view taken rows more next (tail free)) page ≡ 0 = let k = m.kept page in let o = supplied.rows.kept.once page in omega arith in
    let w = steps-write taken new bytes rows more next count' first' page (tail free) m.supplied unused some p q r in
    record {
      free = w.free;
      moves = moves-further m w.moves;
      here = w.holds page (omega arith);
      none = λ word i. w.bytes page word i (omega arith)
          ∙ bytes-same old taken rows supplied.rows.kept.map (λ n u. others n (beside-map old rows page n beside u)) page word i
          ∙ supplied.clear page word i had;
    }

-- a page was taken and written, and then one in use
pub steps-paired : (before : View) (mid new : PageMap) (front back : List ℕ) (c0 f0 count first page right : ℕ) → IsSupplied before → spare_in before page ≡ 0 → 0 < page
    → Takes before mid before.rows c0 f0 right back → new ≡ with_page page front mid → count ≡ c0 → first ≡ f0 → IsPaired before new before.rows count first page right front back
steps-paired before mid new front back c0 f0 count first page right supplied z some take p q r =
    let k = take.moves.kept page in
    let here : one_at right page ≡ 0 = omega arith in
    let apart : page ≡ right → ⊥ = not_one right page here in
    let there : one_at page right ≡ 0 = one_at-other page right (λ e. apart (sym e)) in
    let unused : spare_in (view mid before.rows c0 f0 take.free) page ≡ 0 = omega arith in
    let w = steps-write mid new front before.rows c0 f0 count first page take.free take.moves.supplied unused some p q r in
    let p_one = one_at-same page in
    let r_one = one_at-same right in
    let right_unused : spare_in (view mid before.rows c0 f0 take.free) right ≡ 0 = let m = take.moves.kept right in let o = supplied.rows.kept.once right in omega arith in
    record {
      free = w.free;
      moves = moves-further (moves-as {f' = one_at page} {g' = λ n. one_at page n + one_at right n} (λ n. omega arith) (λ n. omega arith) (moves-beside (one_at page) take.moves))
          (moves-beside (one_at right) w.moves);
      here = w.holds page (omega arith);
      there = (w.moves.others right there right_unused).page ∙ take.here;
      bytes = λ word i. w.bytes page word i (omega arith) ∙ (take.moves.others page refl z).bytes word i;
      none = λ word i. (w.moves.others right there right_unused).bytes word i ∙ take.none word i;
      apart = apart;
    }
