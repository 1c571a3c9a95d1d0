-- What single steps do with the pages in which a tree and its rows stand, and how steps follow each other.
use Rattle.std.proofs.Common.{◌≡◌, ℕ, zero, suc, ◌+◌, ◌<◌, ◌^◌, inl, inr, arith, refl, sym, ap, ◌∙◌, subst, List, ◌∷◌, length}
use Rattle.std.proofs.Math.Path.{fun_ext}
use Rattle.page_face.specs.FreeList.{PageMap, with_page, IsFreePage, next_free}
use Rattle.page_face.specs.declared.fault.Damage.{Damage}
use Rattle.btree_nodes.specs.Damages.{IsRefusedTake}
use Rattle.btree_nodes.specs.Nodes.{least_of_root}
use Rattle.btree_nodes.specs.Rows.{Row}
use Rattle.btree_nodes.specs.Supply.{one_at, tail}
use Rattle.btree_nodes.specs.Tree.{IsMap, level_of, map_rows, map_uses, rows_at}
use Rattle.btree_nodes.proofs.Frames.{tree-frame}
use Rattle.btree_nodes.proofs.Supplies as supplies
use Rattle.btree_nodes.proofs.Supplies.{none, one_at-is, one_at-same, spare-away, with-other}
use Rattle.btree_nodes.proofs.Walks.{uses-self}
use Rattle.rtree_nodes.specs.Stock.{View, view, plain, rows_form, spare_in}
use Rattle.rtree_nodes.specs.Stock as bare
use Rattle.rtree_nodes.specs.Made.{Reads}
use Rattle.rtree_nodes.proofs.Stocks as bares
use Rattle.rtree_nodes.proofs.Heights.{none_or}
use Rattle.node_rows.specs.Rows.{Bytes, AreFilled, bytes_in, bytes_of}
use Rattle.node_rows.specs.Turns.{Turns}
use Rattle.irtree_shape.specs.Words.{joined}
use Rattle.irtree_shape.specs.Stock.{IsSupplied, IsAsBefore, Moves}
use Rattle.irtree_shape.specs.Made.{nodes_in}

-- a node is the same where its page and its rows are
pub still : (reads : Reads) (before after : View) (n : ℕ) → IsAsBefore before after n → nodes_in reads after.pages after.rows n ≡ nodes_in reads before.pages before.rows n
still reads before after n h = ap (λ (p : List ℕ). joined (reads p) (bytes_in after.pages after.rows n)) h.page
    ∙ ap (λ (b : ℕ → ℕ → ℕ). joined (reads (before.pages n)) b) (fun_ext (λ w. fun_ext (λ i. h.bytes w i)))

-- one move after another
pub moves-further : {a b c : View} {f g h : ℕ → ℕ} → Moves a b f g → Moves b c g h → Moves a c f h
moves-further {a = a} {b = b} {f = f} {g = g} p q = record {
  supplied = q.supplied;
  kept = λ n. q.kept n ∙ p.kept n;
  others = λ n j l. let e = p.kept n in
      let none_now : g n ≡ 0 = omega arith in
      let spare_now : spare_in b n ≡ 0 = omega arith in
      let x = q.others n none_now spare_now in
      let y = p.others n j l in
      record { page = x.page ∙ y.page; bytes = λ w i. x.bytes w i ∙ y.bytes w i };
}

-- other pages beside those that moved
pub moves-beside : {a b : View} {f g : ℕ → ℕ} (more : ℕ → ℕ) → Moves a b f g → Moves a b (λ n. f n + more n) (λ n. g n + more n)
moves-beside more p = record {
  supplied = p.supplied;
  kept = λ n. let e = p.kept n in omega arith;
  others = λ n j l. p.others n (omega arith) l;
}

-- the same pages, said otherwise
pub moves-as : {a b : View} {f g f' g' : ℕ → ℕ} → ((n : ℕ) → f' n ≡ f n) → ((n : ℕ) → g' n ≡ g n) → Moves a b f g → Moves a b f' g'
moves-as e h p = record {
  supplied = p.supplied;
  kept = λ n. let m = p.kept n in let i = e n in let j = h n in omega arith;
  others = λ n j l. let i = e n in p.others n (omega arith) l;
}

-- nothing moved
pub moves-none : {a : View} {f : ℕ → ℕ} → IsSupplied a → Moves a a f f
moves-none s = record { supplied = s; kept = λ n. refl; others = λ n j l. record { page = refl; bytes = λ w i. refl } }

-- the supply of the pages alone
pub supplied-plain : (v : View) → IsSupplied v → bare.IsSupplied v
supplied-plain v s = record {
  chain = s.rows.kept.supplied;
  map = s.rows.kept.map;
  once = s.rows.kept.once;
  away = let m = s.rows.kept.away in let f = spare-away (plain v) s.rows.kept.some s.rows.kept.supplied in omega arith;
}

-- no take is refused for the first free page of a free list that ends at 0
pub take-no_false_damage : (v : View) (damage : Damage) → IsSupplied v → IsRefusedTake v.pages v.count v.first damage → ⊥
take-no_false_damage v damage s r = supplies.take-no_false_damage v.pages v.count v.first v.free damage s.rows.kept.supplied r

-- rows of pages of the tree have turned into others
pub moves-rows : (v : View) (pages : PageMap) (rows count first : ℕ) (b : Bytes) (mine : ℕ → ℕ) → IsSupplied v → (turn : Turns (plain v) v.rows pages count first rows b)
    → ((n : ℕ) → 0 < mine n → spare_in v n ≡ 0) → ((n w i : ℕ) → mine n ≡ 0 → b n w i ≡ bytes_in v.pages v.rows n w i) → Moves v (view pages rows count first turn.free) mine mine
moves-rows v pages rows count first b mine supplied turn apart same = record {
  supplied = record {
    rows = turn.rows;
    clear = λ n w i s. let e = turn.moves.kept n in turn.is n w i ∙ same n w i (unmoved n (omega arith)) ∙ supplied.clear n w i (omega arith);
  };
  kept = λ n. let e = turn.moves.kept n in omega arith;
  others = λ n m s. record { page = turn.moves.others n (omega arith) (omega arith); bytes = λ w i. turn.is n w i ∙ same n w i m };
}
  where
    unmoved : (n : ℕ) → 0 < spare_in v n → mine n ≡ 0
    unmoved n s = elim (none_or (mine n)) [ inl e ↦ e | inr l ↦ let a = apart n l in absurd (omega arith) ]

-- a map of rows whose pages stay has the same rows
rows-same : (old new : PageMap) (root : ℕ) → IsMap rows_form old root → ((n : ℕ) → 0 < map_uses rows_form old root n → new n ≡ old n) → map_rows rows_form new root ≡ map_rows rows_form old root
rows-same old new zero tree same = refl
rows-same old new (suc m) tree same =
    let level : ℕ = level_of (old (suc m)) in
    let here : new (suc m) ≡ old (suc m) = same (suc m) (uses-self rows_form old level (suc m)) in
    let level_is : level_of (new (suc m)) ≡ level = ap level_of here in
    ap (λ (l : ℕ). rows_at rows_form new l (suc m)) level_is ∙ (tree-frame rows_form (least_of_root level) old new level (suc m) 0 (256 ^ rows_form.key) tree same).rows

-- and the same bytes
pub bytes-same : (old new : PageMap) (root : ℕ) → IsMap rows_form old root → ((n : ℕ) → 0 < map_uses rows_form old root n → new n ≡ old n) → (n w i : ℕ) → bytes_in new root n w i ≡ bytes_in old root n w i
bytes-same old new root map same n w i = ap (λ (rs : List Row). bytes_of rs n w i) (rows-same old new root map same)

-- What happens to pages beside the map of rows keeps the rows: none may name a page that becomes spare.
moves-lifted : (old new : PageMap) (rows count count' first first' : ℕ) (free free' : List ℕ) (mine ours : ℕ → ℕ) → IsSupplied (view old rows count first free) → 0 < count'
    → ((n : ℕ) → 0 < map_uses rows_form old rows n → new n ≡ old n) → ((n w i : ℕ) → 0 < spare_in (view new rows count' first' free') n → bytes_in old rows n w i ≡ 0)
    → bare.Moves (view old rows count first free) (view new rows count' first' free') mine ours → Moves (view old rows count first free) (view new rows count' first' free') mine ours
moves-lifted old new rows count count' first first' free free' mine ours s some same clear p = record {
  supplied = record {
    rows = record {
      kept = record { map = p.supplied.map; supplied = p.supplied.chain; once = p.supplied.once; away = let a = p.supplied.away in omega arith; some = some };
      filled = subst AreFilled (sym (rows-same old new rows s.rows.kept.map same)) s.rows.filled;
    };
    clear = λ n w i l. bytes-same old new rows s.rows.kept.map same n w i ∙ clear n w i l;
  };
  kept = p.kept;
  others = λ n m l. record { page = p.others n m l; bytes = λ w i. bytes-same old new rows s.rows.kept.map same n w i };
}

-- a page in use is none of the map's
pub beside-map : (old : PageMap) (rows page n : ℕ) → map_uses rows_form old rows page ≡ 0 → 0 < map_uses rows_form old rows n → n ≡ page → ⊥
beside-map old rows page n z u e = let a : map_uses rows_form old rows n ≡ map_uses rows_form old rows page = ap (map_uses rows_form old rows) e in omega arith

-- a page in use is written
pub moves-write : (pages : PageMap) (bytes : List ℕ) (rows count first page : ℕ) (free : List ℕ) → IsSupplied (view pages rows count first free) → spare_in (view pages rows count first free) page ≡ 0 → 0 < page
    → Moves (view pages rows count first free) (view (with_page page bytes pages) rows count first free) (one_at page) (one_at page)
moves-write pages bytes rows count first page free s unused some =
    let p = bares.moves-write pages bytes rows count first page free (supplied-plain (view pages rows count first free) s) unused some in
    moves-lifted pages (with_page page bytes pages) rows count count first first free free (one_at page) (one_at page) s s.rows.kept.some
    (λ n u. with-other pages bytes page n (beside-map pages rows page n (omega arith) u))
    (λ n w i l. let k = p.kept n in s.clear n w i (omega arith)) p

-- a page that is taken is none of the map's
pub taken-beside : (old new : PageMap) (rows count more first next page : ℕ) (free : List ℕ) → IsSupplied (view old rows count first free)
    → (first ≡ 0 → (page ≡ count) × (more ≡ count + 1) × (next ≡ 0)) → (0 < first → (page ≡ first) × (more ≡ count) × (0 < length (old page) → next ≡ next_free (old page)))
    → ((n : ℕ) → (n ≡ page → ⊥) → new n ≡ old n) → map_uses rows_form old rows page ≡ 0
taken-beside old new rows count more first next page free s isnew isfree others =
    let c = supplies.moves-take old new count more first next page free s.rows.kept.supplied (λ n. let o = s.rows.kept.once n in omega arith) isnew isfree others in
    let k = c.kept page in
    let o = s.rows.kept.once page in
    let one = one_at-same page in
    omega arith

-- a page is taken: the first free one, or a new one
pub moves-take : (old new : PageMap) (rows count more first next page : ℕ) (free : List ℕ) → IsSupplied (view old rows count first free)
    → (first ≡ 0 → (page ≡ count) × (more ≡ count + 1) × (next ≡ 0)) → (0 < first → (page ≡ first) × (more ≡ count) × (0 < length (old page) → next ≡ next_free (old page)))
    → ((n : ℕ) → (n ≡ page → ⊥) → new n ≡ old n) → Moves (view old rows count first free) (view new rows more next (tail free)) none (one_at page)
moves-take old new rows count more first next page free s isnew isfree others =
    let p = bares.moves-take old new rows count more first next page free (supplied-plain (view old rows count first free) s) isnew isfree others in
    moves-lifted old new rows count more first next free (tail free) none (one_at page) s some
    (λ n u. others n (beside-map old rows page n (taken-beside old new rows count more first next page free s isnew isfree others) u))
    (λ n w i l. let k = p.kept n in s.clear n w i (omega arith)) p
  where
    some : 0 < more
    some = let c = s.rows.kept.some in elim (none_or first) [ inl e ↦ let h = isnew e in omega arith | inr l ↦ let h = isfree l in omega arith ]

-- a page in use that no row names is given back
pub moves-give : (old new : PageMap) (rows count first page : ℕ) (free : List ℕ) → IsSupplied (view old rows count first free) → spare_in (view old rows count first free) page ≡ 0 → 0 < page → page < count
    → IsFreePage (new page) → next_free (new page) ≡ first → ((n : ℕ) → (n ≡ page → ⊥) → new n ≡ old n) → ((w i : ℕ) → bytes_in old rows page w i ≡ 0)
    → Moves (view old rows count first free) (view new rows count page (page ∷ free)) (one_at page) none
moves-give old new rows count first page free s unused some within form next others clear =
    let p = bares.moves-give old new rows count first page free (supplied-plain (view old rows count first free) s) unused some within form next others in
    moves-lifted old new rows count count first page free (page ∷ free) (one_at page) none s s.rows.kept.some
    (λ n u. others n (beside-map old rows page n (omega arith) u))
    (λ n w i l. elim (none_or (one_at page n)) [
      | inl z ↦ let k = p.kept n in s.clear n w i (omega arith)
      | inr m ↦ ap (λ (k : ℕ). bytes_in old rows k w i) (one_at-is page n m) ∙ clear w i
    ]) p
