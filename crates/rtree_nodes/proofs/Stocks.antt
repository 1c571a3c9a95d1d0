-- What single steps do with the pages in which a tree stands.
use Rattle.std.proofs.Common.{◌≡◌, ℕ, zero, suc, ◌+◌, ◌<◌, ◌≤◌, ◌^◌, List, ◌∷◌, length, refl, sym, ap, subst, ◌∙◌, arith, inl, inr}
use Rattle.std.proofs.lemmas.Bool.Decides.{nat_tests}
use Rattle.page_face.specs.FreeList.{PageMap, with_page, IsFreePage, next_free}
use Rattle.btree_nodes.specs.Nodes.{least_of_root}
use Rattle.btree_nodes.specs.Supply.{one_at, tail}
use Rattle.btree_nodes.specs.Supply as supply
use Rattle.btree_nodes.specs.Tree.{IsMap, IsTree, level_of, map_uses, uses}
use Rattle.btree_nodes.proofs.Frames.{tree-frame}
use Rattle.btree_nodes.proofs.Supplies as supplies
use Rattle.btree_nodes.proofs.Supplies.{one_at-other, none}
use Rattle.btree_nodes.proofs.Gives as gives
use Rattle.btree_nodes.proofs.Walks.{uses-self}
use Rattle.rtree_nodes.proofs.Amounts.{same_or}
use Rattle.rtree_nodes.specs.Stock.{View, view, plain, rows_form, spare_in, IsSupplied, Moves}

-- a map whose pages stayed
record SameRows (old new : PageMap) (root : ℕ) : Type 0 where
  pub map : IsMap rows_form new root
  pub uses_are : (n : ℕ) → map_uses rows_form new root n ≡ map_uses rows_form old root n

rows-frame : (old new : PageMap) (root : ℕ) → IsMap rows_form old root → ((n : ℕ) → 0 < map_uses rows_form old root n → new n ≡ old n) → SameRows old new root
rows-frame old new zero tree same = record { map = tt; uses_are = λ n. refl }
rows-frame old new (suc m) tree same =
    let level : ℕ = level_of (old (suc m)) in
    let here : new (suc m) ≡ old (suc m) = same (suc m) (uses-self rows_form old level (suc m)) in
    let r = tree-frame rows_form (least_of_root level) old new level (suc m) 0 (256 ^ rows_form.key) tree same in
    let level_is : level_of (new (suc m)) ≡ level = ap level_of here in
    record {
      map = subst (λ l. IsTree rows_form (least_of_root l) new l (suc m) 0 (256 ^ rows_form.key)) (sym level_is) r.tree;
      uses_are = λ n. ap (λ l. uses rows_form new l (suc m) n) level_is ∙ r.uses n;
    }

-- what happens to pages that the map of rows doesn't use happens beside it
pub moves-lifted : (before after : View) (mine ours : ℕ → ℕ) → IsSupplied before → after.rows ≡ before.rows → ((n : ℕ) → mine n + spare_in before n ≤ 1) → mine 0 ≡ 0
    → supply.Moves (plain before) (plain after) mine ours → Moves before after mine ours
moves-lifted before after mine ours s rows once away p =
    let same = rows-frame before.pages after.pages before.rows s.map (λ n used. let o = once n in p.others n (omega arith) (omega arith)) in
    let uses_are : (n : ℕ) → map_uses rows_form after.pages after.rows n ≡ map_uses rows_form before.pages before.rows n
    = λ n. ap (λ (r : ℕ). map_uses rows_form after.pages r n) rows ∙ same.uses_are n in
    let kept : (n : ℕ) → ours n + spare_in after n ≡ mine n + spare_in before n = λ n. let k = p.kept n in let u = uses_are n in omega arith in
    record {
      supplied = record {
        chain = p.supplied;
        map = subst (λ (r : ℕ). IsMap rows_form after.pages r) (sym rows) same.map;
        once = λ n. let k = kept n in let o = once n in omega arith;
        away = let k = kept 0 in let a = s.away in omega arith;
      };
      kept = kept;
      others = λ n k l. p.others n k (omega arith);
    }

-- a page in use beside what is spare
once-with : (page : ℕ) (v : View) → IsSupplied v → spare_in v page ≡ 0 → (n : ℕ) → one_at page n + spare_in v n ≤ 1
unfolding one_at
once-with page v s unused n = let o = s.once n in elim (same_or n page) [
  | inl k ↦ let e : spare_in v n ≡ spare_in v page = ap (spare_in v) k in let one : one_at page n ≤ 1 = grind (arith, nat_tests) in omega arith
  | inr k ↦ let z = one_at-other page n k in omega arith
]

one_at-zero : (page : ℕ) → 0 < page → one_at page 0 ≡ 0
one_at-zero page some = one_at-other page 0 (λ e. omega arith)

-- a page in use is written
pub moves-write : (pages : PageMap) (bytes : List ℕ) (rows count first page : ℕ) (free : List ℕ) → IsSupplied (view pages rows count first free) → spare_in (view pages rows count first free) page ≡ 0 → 0 < page
    → Moves (view pages rows count first free) (view (with_page page bytes pages) rows count first free) (one_at page) (one_at page)
moves-write pages bytes rows count first page free s unused some =
    let v = view pages rows count first free in
    moves-lifted v (view (with_page page bytes pages) rows count first free) (one_at page) (one_at page) s refl
    (once-with page v s unused) (one_at-zero page some)
    (supplies.moves-write pages bytes count first page free s.chain (omega arith))

-- a page is taken: the first free one, or a new one
pub moves-take : (old new : PageMap) (rows count more first next page : ℕ) (free : List ℕ) → IsSupplied (view old rows count first free)
    → (first ≡ 0 → (page ≡ count) × (more ≡ count + 1) × (next ≡ 0)) → (0 < first → (page ≡ first) × (more ≡ count) × (0 < length (old page) → next ≡ next_free (old page)))
    → ((n : ℕ) → (n ≡ page → ⊥) → new n ≡ old n) → Moves (view old rows count first free) (view new rows more next (tail free)) none (one_at page)
moves-take old new rows count more first next page free s isnew isfree others =
    moves-lifted (view old rows count first free) (view new rows more next (tail free)) none (one_at page) s refl (λ n. let o = s.once n in omega arith) refl
    (supplies.moves-take old new count more first next page free s.chain (λ n. let o = s.once n in omega arith) isnew isfree others)

-- a page in use is given back
pub moves-give : (old new : PageMap) (rows count first page : ℕ) (free : List ℕ) → IsSupplied (view old rows count first free) → spare_in (view old rows count first free) page ≡ 0 → 0 < page → page < count
    → IsFreePage (new page) → next_free (new page) ≡ first → ((n : ℕ) → (n ≡ page → ⊥) → new n ≡ old n)
    → Moves (view old rows count first free) (view new rows count page (page ∷ free)) (one_at page) none
moves-give old new rows count first page free s unused some within form next others =
    let v = view old rows count first free in
    moves-lifted v (view new rows count page (page ∷ free)) (one_at page) none s refl (once-with page v s unused) (one_at-zero page some)
    (gives.moves-give old new count first page free s.chain (omega arith) some within form next others)
