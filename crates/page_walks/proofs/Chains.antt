-- A chain of free pages, and the pages that it has gone over.
use Rattle.std.proofs.Common.{◌≡◌, ℕ, zero, suc, ◌+◌, ◌-◌, ◌<◌, ◌≤◌, ◌++◌, List, [], ◌∷◌, true, false, arith, refl, sym, ap, ◌∙◌, subst, inl, inr, ⊎_elim}
use Rattle.std.specs.BTreeSet.{BTreeSet}
use Rattle.std.proofs.lemmas.Bool.{cases_eq, cases_lt}
use Rattle.page_face.specs.Causes.{IsUncounted}
use Rattle.page_face.specs.FreeList.{PageMap, IsFreePage, next_free, BreaksFree, IsFreeList}
use Rattle.page_face.specs.declared.fault.Rule.{Rule}
use Rattle.page_face.specs.declared.fault.Rule.TheVariants.{Head, Link, Kind, Fill, Order, Spare, Level, Value, Shared, Rect, Row, Entry, Words, Counts}
use Rattle.page_face.specs.declared.fault.Damage.{Damage}
use Rattle.btree_nodes.specs.Damages.{AreReadable}
use Rattle.btree_nodes.specs.Supply.{one_at, times}
use Rattle.page_walks.specs.Met.{held}
use Rattle.page_walks.specs.Misuse.{IsMisused}
use Rattle.page_walks.specs.Chains.{IsReached, IsBrokenChain, IsMetChain}
use Rattle.page_walks.proofs.Misuses.{one-cases, misused-up, misused-apart}
use Rattle.page_walks.proofs.Meetings.{held-le, times-push}

-- The chain from a page goes over these, each of which keeps the rules, and then names the next one.
abbrev pub IsSegment : PageMap → ℕ → ℕ → List ℕ → ℕ → Type 0
IsSegment pages count from [] next = from ≡ next
IsSegment pages count from (page ∷ rest) next =
    (from ≡ page) × (0 < page) × (page < count) × IsFreePage (pages page) × IsSegment pages count (next_free (pages page)) rest next

-- the chain from `first` has come to `next`, and each page before it was met once more
pub record IsRun (pages : PageMap) (count first next : ℕ) (before now : ℕ → ℕ) : Type 0 where
  pub front : List ℕ
  pub goes : IsSegment pages count first front next
  pub met : (n : ℕ) → now n ≡ before n + times front n

segment-push : (pages : PageMap) (count from : ℕ) (xs : List ℕ) (page : ℕ) → IsSegment pages count from xs page → 0 < page → page < count → IsFreePage (pages page)
    → IsSegment pages count from (xs ++ page ∷ []) (next_free (pages page))
segment-push pages count from [] page s some small form = (s, some, small, form, refl)
segment-push pages count from (x ∷ xs) page s some small form = (s.0, s.1, s.2, s.3, segment-push pages count (next_free (pages x)) xs page s.4 some small form)

segment-reached : (pages : PageMap) (count from : ℕ) (xs : List ℕ) (next : ℕ) → IsSegment pages count from xs next → IsReached pages from xs next
segment-reached pages count from [] next s = s
segment-reached pages count from (x ∷ xs) next s = (s.0, s.1, segment-reached pages count (next_free (pages x)) xs next s.4)

segment-list : (pages : PageMap) (count from : ℕ) (xs : List ℕ) (next : ℕ) → next ≡ 0 → IsSegment pages count from xs next → IsFreeList pages count from xs
segment-list pages count from [] next z s = s ∙ z
segment-list pages count from (x ∷ xs) next z s = (s.0, s.1, s.2, s.3, segment-list pages count (next_free (pages x)) xs next z s.4)

-- a page that is counted isn't page 0
pub known-some : (count page : ℕ) → (IsUncounted count page → ⊥) → 0 < page
known-some count page known = ⊎_elim (λ e. absurd (known (inl e))) (λ ne. omega arith) (cases_eq page 0)

-- and is below the count
pub known-small : (count page : ℕ) → (IsUncounted count page → ⊥) → page < count
known-small count page known = ⊎_elim (λ lt. lt) (λ le. absurd (known (inr le))) (cases_lt page count)

-- the same pages are readable
pub readable : (pages pages' : PageMap) (count count' : ℕ) → pages' ≡ pages → count' ≡ count → AreReadable pages count → AreReadable pages' count'
readable pages pages' count count' e k told = subst (λ (q : PageMap). AreReadable q count') (sym e) (subst (AreReadable pages) (sym k) told)

-- the chain begins
pub run-none : (pages : PageMap) (count first : ℕ) (before : ℕ → ℕ) → IsRun pages count first first before before
run-none pages count first before = record { front = []; goes = refl; met = λ n. omega arith }

-- the chain goes on by a free page
pub run-more : (pages : PageMap) (count first next : ℕ) (before now : ℕ → ℕ) → IsRun pages count first next before now → (now' : ℕ → ℕ) → (IsUncounted count next → ⊥)
    → ((n : ℕ) → now' n ≡ now n + one_at next n) → IsFreePage (pages next) → IsRun pages count first (next_free (pages next)) before now'
run-more pages count first next before now r now' known enters form = record {
  front = r.front ++ next ∷ [];
  goes = segment-push pages count first r.front next r.goes (known-some count next known) (known-small count next known) form;
  met = λ n. let a = r.met n in let b = enters n in let t = times-push r.front next n in omega arith;
}

-- the chain ends
pub run-all : (pages : PageMap) (count first next : ℕ) (before now : ℕ → ℕ) → next ≡ 0 → IsRun pages count first next before now → IsMetChain pages count before now first
run-all pages count first next before now z r = record { free = r.front; chain = segment-list pages count first r.front next z r.goes; met = r.met }

-- the next page is misused
pub run-enter : (pages : PageMap) (count first next : ℕ) (before now : ℕ → ℕ) → IsRun pages count first next before now → 0 < next → (d : Damage)
    → IsMisused count now (one_at next) d → IsBrokenChain pages count before first d
run-enter pages count first next before now r some d m = record {
  front = r.front;
  next = next;
  some = some;
  reached = segment-reached pages count first r.front next r.goes;
  how = inl (misused-up count now before (one_at next) (times (r.front ++ next ∷ [])) d
      (λ n. let a = r.met n in let t = times-push r.front next n in omega arith) (λ n. let t = times-push r.front next n in omega arith) m);
}

-- the next page hasn't a free page's form
pub run-form : (pages : PageMap) (count first next : ℕ) (before now : ℕ → ℕ) → IsRun pages count first next before now → 0 < next → (rule : Rule) → BreaksFree rule (pages next)
    → (d : Damage) → record { page = next; rule = rule } ≡ d → IsBrokenChain pages count before first d
run-form pages count first next before now r some rule b d e =
    subst (IsBrokenChain pages count before first) e (record {
      front = r.front;
      next = next;
      some = some;
      reached = segment-reached pages count first r.front next r.goes;
      how = inr (refl, b);
    })

-- how many counted pages weren't met
abbrev pub unmet : ℕ → (ℕ → ℕ) → ℕ
unmet zero met = 0
unmet (suc n) met = (1 - met n) + unmet n met

unmet-le : (count : ℕ) (h h' : ℕ → ℕ) → ((n : ℕ) → h n ≤ h' n) → unmet count h' ≤ unmet count h
unmet-le zero h h' le = omega arith
unmet-le (suc n) h h' le = let a = le n in let r = unmet-le n h h' le in omega arith

-- one counted page more was met
unmet-less : (count page : ℕ) (h h' : ℕ → ℕ) → ((n : ℕ) → h' n ≤ 1) → ((n : ℕ) → h' n ≡ h n + one_at page n) → page < count → unmet count h' < unmet count h
unmet-less zero page h h' le enters small = absurd (omega arith)
unmet-less (suc n) page h h' le enters small =
    let a = enters n in
    let b = le n in
    let m = unmet-le n h h' (λ k. let x = enters k in omega arith) in
    ⊎_elim (λ s. let o = s.1 in omega arith) (λ s. let o = s.1 in let ne = s.0 in let r = unmet-less n page h h' le enters (omega arith) in omega arith) (one-cases page n)

-- with each page that is entered fewer are left
pub enter-smaller : (count page : ℕ) (met met' : BTreeSet ℕ) → ((n : ℕ) → held met' n ≡ held met n + one_at page n) → (IsUncounted count page → ⊥) → unmet count (held met') < unmet count (held met)
enter-smaller count page met met' enters known = unmet-less count page (held met) (held met') (held-le met') enters (known-small count page known)

-- two free lists of one chain are one
pub free-unique : (pages : PageMap) (count first : ℕ) (xs ys : List ℕ) → IsFreeList pages count first xs → IsFreeList pages count first ys → xs ≡ ys
free-unique pages count first [] [] a b = refl
free-unique pages count first [] (y ∷ ys) a b = let e = b.0 in let s = b.1 in absurd (omega arith)
free-unique pages count first (x ∷ xs) [] a b = let e = a.0 in let s = a.1 in absurd (omega arith)
free-unique pages count first (x ∷ xs) (y ∷ ys) a b =
    let e : y ≡ x = sym b.0 ∙ a.0 in
    let f : IsFreeList pages count (next_free (pages x)) ys = subst (λ (p : ℕ). IsFreeList pages count (next_free (pages p)) ys) e b.4 in
    ap (λ (zs : List ℕ). x ∷ zs) (free-unique pages count (next_free (pages x)) xs ys a.4 f) ∙ ap (λ (p : ℕ). p ∷ ys) (sym e)

-- a free list has counted pages alone
pub free-known : (pages : PageMap) (count first : ℕ) (xs : List ℕ) → IsFreeList pages count first xs → (n : ℕ) → IsUncounted count n → times xs n ≡ 0
free-known pages count first [] f n u = refl
free-known pages count first (x ∷ xs) f n u =
    let r = free-known pages count (next_free (pages x)) xs f.4 n u in
    let a = f.1 in
    let b = f.2 in
    ⊎_elim (λ s. let e = s.0 in ⊎_elim (λ z. absurd (omega arith)) (λ l. absurd (omega arith)) u) (λ s. let o = s.1 in omega arith) (one-cases x n)

-- what the chain reaches keeps its form, if the chain is a free list
reached-form : (pages : PageMap) (count first : ℕ) (free front : List ℕ) (next : ℕ) → IsFreeList pages count first free → IsReached pages first front next → 0 < next → IsFreePage (pages next)
reached-form pages count first [] [] next f r some = absurd (omega (arith, f, r))
reached-form pages count first [] (y ∷ ys) next f r some = let e = r.0 in let s = r.1 in absurd (omega arith)
reached-form pages count first (x ∷ xs) [] next f r some = subst (λ (p : ℕ). IsFreePage (pages p)) (sym f.0 ∙ r) f.3
reached-form pages count first (x ∷ xs) (y ∷ ys) next f r some =
    let e : y ≡ x = sym r.0 ∙ f.0 in
    reached-form pages count (next_free (pages x)) xs ys next f.4 (subst (λ (p : ℕ). IsReached pages (next_free (pages p)) ys next) e r.2) some

-- and is in the list
reached-le : (pages : PageMap) (count first : ℕ) (free front : List ℕ) (next : ℕ) → IsFreeList pages count first free → IsReached pages first front next → 0 < next
    → (n : ℕ) → times (front ++ next ∷ []) n ≤ times free n
reached-le pages count first [] [] next f r some n = absurd (omega (arith, f, r))
reached-le pages count first [] (y ∷ ys) next f r some n = let e = r.0 in let s = r.1 in absurd (omega arith)
reached-le pages count first (x ∷ xs) [] next f r some n = let e : one_at next n ≡ one_at x n = ap (λ (p : ℕ). one_at p n) (sym r ∙ f.0) in omega arith
reached-le pages count first (x ∷ xs) (y ∷ ys) next f r some n =
    let e : y ≡ x = sym r.0 ∙ f.0 in
    let s = reached-le pages count (next_free (pages x)) xs ys next f.4 (subst (λ (p : ℕ). IsReached pages (next_free (pages p)) ys next) e r.2) some n in
    let o : one_at y n ≡ one_at x n = ap (λ (p : ℕ). one_at p n) e in
    omega arith

breaks-free-apart : (rule : Rule) (page : List ℕ) → BreaksFree rule page → IsFreePage page → ⊥
breaks-free-apart Head page b f = b
breaks-free-apart Link page b f = b
breaks-free-apart Kind page b f = b f.kind
breaks-free-apart Fill page b f = b
breaks-free-apart Order page b f = b
breaks-free-apart Spare page b f = let e : true ≡ false = sym f.spare ∙ b.1 in cc
breaks-free-apart Level page b f = b
breaks-free-apart Value page b f = b
breaks-free-apart Shared page b f = b
breaks-free-apart Rect page b f = b
breaks-free-apart Row page b f = b
breaks-free-apart Entry page b f = b
breaks-free-apart Words page b f = b
breaks-free-apart Counts page b f = b

-- a broken chain isn't a free list whose pages are used once
pub chain-apart : (pages : PageMap) (count : ℕ) (before : ℕ → ℕ) (first : ℕ) (free : List ℕ) (damage : Damage) → IsBrokenChain pages count before first damage → IsFreeList pages count first free
    → ((n : ℕ) → before n + times free n ≤ 1) → ⊥
chain-apart pages count before first free damage b f once =
    ⊎_elim
    (λ m. misused-apart count before (times free) damage
    (misused-up count before before (times (b.front ++ b.next ∷ [])) (times free) damage
    (λ n. let l = reached-le pages count first free b.front b.next f b.reached b.some n in omega arith) (λ n. reached-le pages count first free b.front b.next f b.reached b.some n) m)
    (record { once = once; known = free-known pages count first free f }))
    (λ k. breaks-free-apart damage.rule (pages b.next) k.1 (reached-form pages count first free b.front b.next f b.reached b.some)) b.how
