-- Free pages that are taken.
use Rattle.std.proofs.Common.{◌≡◌, ℕ, ◌+◌, ◌<◌, ◌≤◌, List, [], ◌∷◌, length, arith, refl, sym, ap, ◌∙◌, subst, true, false, ⊎_elim}
use Rattle.std.proofs.lemmas.Bool.Decides.{nat_tests}
use Rattle.page_face.specs.FreeList.{PageMap, with_page, IsFreeList, IsFreePage, next_free, has_clear_spares, BreaksFree}
use Rattle.page_face.specs.declared.fault.Rule.{Rule}
use Rattle.page_face.specs.declared.fault.Rule.TheVariants.{Head, Link, Kind, Fill, Order, Spare, Level, Value, Shared, Rect, Row, Entry, Words, Counts}
use Rattle.page_face.specs.declared.fault.Damage.{Damage}
use Rattle.btree_nodes.specs.Supply.{one_at, times, spare, uncounted, tail, View, view, IsSupplied, spare_in, Moves}
use Rattle.btree_nodes.specs.Damages.{IsRefusedTake}

pub one_at-same : (page : ℕ) → one_at page page ≡ 1
unfolding one_at
one_at-same page = grind (arith, nat_tests)

pub one_at-other : (page n : ℕ) → (n ≡ page → ⊥) → one_at page n ≡ 0
unfolding one_at
one_at-other page n h = grind (arith, nat_tests)

pub one_at-is : (page n : ℕ) → 0 < one_at page n → n ≡ page
unfolding one_at
one_at-is page n h = grind (arith, nat_tests)

-- the free list stays where its pages do
pub chain-frame : (old new : PageMap) (count more from : ℕ) (list : List ℕ) → count ≤ more → ((n : ℕ) → 0 < times list n → new n ≡ old n) → IsFreeList old count from list → IsFreeList new more from list
chain-frame old new count more from [] l h c = c
chain-frame old new count more from (page ∷ rest) l h c =
    let m = c.2 in
    let one = one_at-same page in
    let here : new page ≡ old page = h page (omega arith) in
    let f : IsFreePage (new page) = subst IsFreePage (sym here) c.3 in
    let next : next_free (new page) ≡ next_free (old page) = ap next_free here in (
      c.0,
      c.1,
      omega arith,
      f,
      subst (λ (k : ℕ). IsFreeList new more k rest) (sym next)
          (chain-frame old new count more (next_free (old page)) rest l (λ n k. h n (omega arith)) c.4),
    )

-- a page that wasn't written
pub with-other : (pages : PageMap) (bytes : List ℕ) (page n : ℕ) → (n ≡ page → ⊥) → with_page page bytes pages n ≡ pages n
with-other pages bytes page n h = grind (arith, nat_tests)

-- the page that was written
pub with-same : (pages : PageMap) (bytes : List ℕ) (page : ℕ) → with_page page bytes pages page ≡ bytes
with-same pages bytes page = grind (arith, nat_tests)

-- a new page was one that could be taken
pub spare-new : (count n : ℕ) → uncounted count n ≡ one_at count n + uncounted (count + 1) n
unfolding one_at uncounted
spare-new count n = grind (arith, nat_tests)

-- a counted page isn't a new one
pub counted-none : (count n : ℕ) → n < count → uncounted count n ≡ 0
unfolding uncounted
counted-none count n h = grind (arith, nat_tests)

-- no free page is page 0
free-away : (pages : PageMap) (count first : ℕ) (free : List ℕ) → IsFreeList pages count first free → times free 0 ≡ 0
free-away pages count first [] s = refl
free-away pages count first (page ∷ rest) s =
    let i = free-away pages count (next_free (pages page)) rest s.4 in
    let p = s.1 in
    let o = one_at-other page 0 (λ e. absurd (omega arith)) in
    omega arith

-- nor is one that can be taken
pub spare-away : (v : View) → 0 < v.count → IsSupplied v → spare_in v 0 ≡ 0
spare-away v some s = let f = free-away v.pages v.count v.first v.free s in let c = counted-none v.count 0 some in omega arith

-- a page past the count is a new one
pub uncounted-past : (count n : ℕ) → count ≤ n → uncounted count n ≡ 1
unfolding uncounted
uncounted-past count n h = grind (arith, nat_tests)

-- one move after another
pub moves-further : {a b c : View} {f g h : ℕ → ℕ} → Moves a b f g → Moves b c g h → Moves a c f h
moves-further {a = a} {b = b} {f = f} {g = g} p q = record {
  supplied = q.supplied;
  kept = λ n. q.kept n ∙ p.kept n;
  others = λ n k l. let e = p.kept n in
      let none : g n ≡ 0 = omega arith in
      let spare : spare_in b n ≡ 0 = omega arith in
      q.others n none spare ∙ p.others n k l;
}

-- other pages beside those that moved
pub moves-beside : {a b : View} {f g : ℕ → ℕ} (more : ℕ → ℕ) → Moves a b f g → Moves a b (λ n. f n + more n) (λ n. g n + more n)
moves-beside more p = record {
  supplied = p.supplied;
  kept = λ n. let e = p.kept n in omega arith;
  others = λ n k l. p.others n (omega arith) l;
}

pub uncounted-self : (count : ℕ) → uncounted count count ≡ 1
unfolding uncounted
uncounted-self count = grind (arith, nat_tests)

-- no page
abbrev pub none : ℕ → ℕ
none n = 0

-- a free page's bytes are told
pub free-told : (page : List ℕ) → IsFreePage page → 0 < length page
free-told [] h = absurd (omega (arith, h.kind))
free-told (x ∷ xs) h = omega arith

-- a page is taken: the first free one, or a new one
pub moves-take : (old new : PageMap) (count more first next page : ℕ) (free : List ℕ) → IsSupplied (view old count first free) → ((n : ℕ) → spare free count n ≤ 1)
    → (first ≡ 0 → (page ≡ count) × (more ≡ count + 1) × (next ≡ 0)) → (0 < first → (page ≡ first) × (more ≡ count) × (0 < length (old page) → next ≡ next_free (old page)))
    → ((n : ℕ) → (n ≡ page → ⊥) → new n ≡ old n) → Moves (view old count first free) (view new more next (tail free)) none (one_at page)
moves-take old new count more first next page [] s d isnew isfree others =
    let r = isnew s in
    let e : page ≡ count = r.0 in
    let m : more ≡ count + 1 = r.1 in
    record {
      supplied = r.2;
      kept = λ n. let k = spare-new count n in
          let a : one_at page n ≡ one_at count n = ap (λ (p : ℕ). one_at p n) e in
          let b : uncounted more n ≡ uncounted (count + 1) n = ap (λ (p : ℕ). uncounted p n) m in
          omega arith;
      others = λ n z k. others n (λ same. let u = uncounted-self count in
          let w : uncounted count n ≡ uncounted count count = ap (uncounted count) (same ∙ e) in
          omega arith);
    }
moves-take old new count more first next page (p ∷ rest) s d isnew isfree others =
    let f : first ≡ p = s.0 in
    let big = s.1 in
    let r = isfree (omega arith) in
    let e : page ≡ p = r.0 ∙ f in
    let m : more ≡ count = r.1 in
    let one = one_at-same p in
    let chain : IsFreeList old count (next_free (old p)) rest = s.4 in
    let told : 0 < length (old page) = subst (λ (k : ℕ). 0 < length (old k)) (sym e) (free-told (old p) s.3) in
    let to : next ≡ next_free (old p) = r.2 told ∙ ap (λ (k : ℕ). next_free (old k)) e in
    record {
      supplied = subst (λ (k : ℕ). IsFreeList new more k rest) (sym to) (chain-frame old new count more (next_free (old p)) rest (omega arith)
          (λ n h. others n (λ same. let once : spare (p ∷ rest) count p ≤ 1 = d p in
          let a : times rest n ≡ times rest p = ap (times rest) (same ∙ e) in
          omega arith)) chain);
      kept = λ n. let a : one_at page n ≡ one_at p n = ap (λ (k : ℕ). one_at k n) e in
          let b : uncounted more n ≡ uncounted count n = ap (λ (k : ℕ). uncounted k n) m in
          omega arith;
      others = λ n z k. others n (λ same. let a : one_at p n ≡ one_at p p = ap (one_at p) (same ∙ e) in omega arith);
    }

-- the first of the free pages has a free page's form, whatever it is said to break
breaks-free : (rule : Rule) (page : List ℕ) → IsFreePage page → BreaksFree rule page → ⊥
breaks-free Kind page h b = b h.kind
breaks-free Spare page h b = let t : has_clear_spares page ≡ true = h.spare in let f : has_clear_spares page ≡ false = b.1 in cc
breaks-free Head page h b = b
breaks-free Link page h b = b
breaks-free Fill page h b = b
breaks-free Order page h b = b
breaks-free Level page h b = b
breaks-free Value page h b = b
breaks-free Shared page h b = b
breaks-free Rect page h b = b
breaks-free Row page h b = b
breaks-free Entry page h b = b
breaks-free Words page h b = b
breaks-free Counts page h b = b

next-counted : (pages : PageMap) (count first : ℕ) (rest : List ℕ) → 0 < count → IsFreeList pages count first rest → first < count
next-counted pages count first [] some s = omega (arith, s)
next-counted pages count first (page ∷ rest) some s = let e = s.0 in let l = s.2 in omega arith

-- no take of a free list that ends at 0 is refused for its first page
pub take-no_false_damage : (pages : PageMap) (count first : ℕ) (free : List ℕ) (damage : Damage) → IsSupplied (view pages count first free) → IsRefusedTake pages count first damage → ⊥
take-no_false_damage pages count first [] damage s r = let z : first ≡ 0 = s in let p = r.0 in absurd (omega arith)
take-no_false_damage pages count first (page ∷ rest) damage s r =
    let e : first ≡ page = s.0 in
    let form : IsFreePage (pages first) = subst (λ (k : ℕ). IsFreePage (pages k)) (sym e) s.3 in
    let l = s.2 in
    let n = next-counted pages count (next_free (pages page)) rest (omega arith) s.4 in
    ⊎_elim
    (λ b. breaks-free damage.rule (pages first) form b.1)
    (λ b. let q : damage.page ≡ next_free (pages first) = b.2 in
    let same : next_free (pages first) ≡ next_free (pages page) = ap (λ (k : ℕ). next_free (pages k)) e in
    let past : count ≤ damage.page = b.3 in
    absurd (omega arith))
    (r.1 (free-told (pages first) form))

-- a refused take leaves the pages
pub refused-same : (old new : PageMap) (count count' first first' : ℕ) (damage : Damage) → new ≡ old → count' ≡ count → first' ≡ first → IsRefusedTake old count first damage → IsRefusedTake new count' first' damage
refused-same old new count count' first first' damage p q r h = rw (p, q, r) h

-- a page in use is written
pub moves-write : (pages : PageMap) (bytes : List ℕ) (count first page : ℕ) (free : List ℕ) → IsSupplied (view pages count first free) → spare free count page ≡ 0
    → Moves (view pages count first free) (view (with_page page bytes pages) count first free) (one_at page) (one_at page)
moves-write pages bytes count first page free s unused = record {
  supplied = chain-frame pages (with_page page bytes pages) count count first free (omega arith) (λ n h. with-other pages bytes page n (λ same.
      let a : times free n ≡ times free page = ap (times free) same in omega arith)) s;
  kept = λ n. refl;
  others = λ n z k. with-other pages bytes page n (λ same. let one = one_at-same page in let a : one_at page n ≡ one_at page page = ap (one_at page) same in omega arith);
}

-- the same pages, said otherwise
pub moves-as : {a b : View} {f g f' g' : ℕ → ℕ} → ((n : ℕ) → f' n ≡ f n) → ((n : ℕ) → g' n ≡ g n) → Moves a b f g → Moves a b f' g'
moves-as e h p = record {
  supplied = p.supplied;
  kept = λ n. let k = p.kept n in let i = e n in let j = h n in omega arith;
  others = λ n k l. let i = e n in p.others n (omega arith) l;
}
