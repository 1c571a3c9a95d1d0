-- What the walks over a store's structures name is broken there.
use Rattle.std.proofs.Common.{◌≡◌, ◌≢◌, ◌⊎◌, ◌&&◌, Bool, true, false, Option, ap, true≢false, ℕ, zero, suc, ◌+◌, ◌<◌, ◌≤◌, ◌++◌, inl, inr, ⊎_elim, List, [], ◌∷◌, refl, sym, subst, ◌∙◌, arith}
use Rattle.std.specs.Prelude.{slice_index}
use Rattle.std.proofs.lemmas.Bool.{cases_eq, cases_lt, eq-eqb}
use Rattle.page_face.specs.Causes.{IsUncounted}
use Rattle.page_face.specs.FreeList.{PageMap, IsFreeList, BreaksFree, are_zero, next_free}
use Rattle.page_face.specs.declared.fault.Damage.{Damage}
use Rattle.page_face.specs.declared.fault.Rule.{Rule}
use Rattle.page_face.specs.declared.fault.Rule.TheVariants.{Head, Link, Kind, Fill, Order, Spare, Level, Value, Shared, Rect, Row, Entry, Words, Counts}
use Rattle.page_store.specs.declared.superblock.Superblock.{Superblock}
use Rattle.page_walks.specs.Chains.{IsBrokenChain, IsReached}
use Rattle.page_walks.specs.Met.{IsFirstUnmet}
use Rattle.page_walks.specs.Misuse.{IsMisused}
use Rattle.page_walks.proofs.Misuses.{one-cases}
use Rattle.btree_nodes.specs.Supply.{times}
use Rattle.btree_nodes.specs.Tree.{map_rows}
use Rattle.rtree_nodes.specs.Stock.{rows_form}
use Rattle.node_rows.specs.Rows.{byte_in}
use Rattle.node_rows.proofs.Bytes.{bytes-small}
use Rattle.tree_check.specs.Names.{IsUnnamed}
use Rattle.store_verify.specs.Tree.{node_uses}
use Rattle.store_verify.specs.Breaks.{IsBroken, IsNamedFree, damage_at}
use Rattle.btree_nodes.proofs.Supplies.{counted-none, uncounted-past}
use Rattle.store_verify.specs.Whole.{outside, store_uses}
use Rattle.store_verify.proofs.Whole.{outside-some, outside-zero}

-- the damage of its rule at its page is broken, where the rule is this one
pub at-rule : (block : Superblock) (pages : PageMap) (damage : Damage) (rule : Rule) → damage.rule ≡ rule → IsBroken block pages (damage_at rule damage.page) → IsBroken block pages damage
at-rule block pages damage rule is broken = subst (λ (r : Rule). IsBroken block pages (damage_at r damage.page)) (sym is) broken

-- a page that is misused, where the structures use each page as often as this, is broken
pub misused-named : (block : Superblock) (pages : PageMap) (before now : ℕ → ℕ) (damage : Damage) → ((n : ℕ) → before n + now n ≤ store_uses block.head pages n) → IsMisused block.counted before now damage → IsBroken block pages damage
misused-named block pages before now damage uses (inl link) =
    at-rule block pages damage Link link.0 (link.1, inl (let all = uses damage.page in let some = link.2 in omega arith))
misused-named block pages before now damage uses (inr shared) =
    at-rule block pages damage Shared shared.0 (inl (let all = uses damage.page in let twice = shared.1 in omega arith))

-- a page that the chain goes over, or that it names, is named by it
reached-named : (pages : PageMap) (first : ℕ) (front : List ℕ) (next page : ℕ) → 0 < next → IsReached pages first front next → 0 < times (front ++ next ∷ []) page → (0 < page) × (before : List ℕ) × IsReached pages first before page
reached-named pages first [] next page positive reached some = ⊎_elim
    (λ here. (let e = here.0 in omega arith, [], reached ∙ sym here.0))
    (λ other. let none = other.1 in absurd (omega arith)) (one-cases next page)
reached-named pages first (p ∷ front) next page positive reached some = ⊎_elim
    (λ here. (let e = here.0 in let q = reached.1 in omega arith, [], reached.0 ∙ sym here.0))
    (λ other.
    let none = other.1 in
    let rest = reached-named pages (next_free (pages p)) front next page positive reached.2 (omega arith) in
    (rest.0, p ∷ rest.1, (reached.0, reached.1, rest.2)))
    (one-cases p page)

-- a broken chain of free pages is broken at the page that is named
pub chain-named : (block : Superblock) (pages : PageMap) (damage : Damage) → IsBrokenChain pages block.counted (store_uses block.head pages) block.first_free damage → IsBroken block pages damage
chain-named block pages damage broken = ⊎_elim (λ misused. used misused) (λ form. formed damage.rule damage.page form.0 form.1) broken.how
  where
    used : IsMisused block.counted (store_uses block.head pages) (times (broken.front ++ broken.next ∷ [])) damage → IsBroken block pages damage
    used (inl link) =
        let named = reached-named pages block.first_free broken.front broken.next damage.page broken.some broken.reached link.2 in
        at-rule block pages damage Link link.0 (link.1, inr (record { front = named.1; some = named.0; reached = named.2 }))
    used (inr shared) = at-rule block pages damage Shared shared.0 (inr (inl (record { front = broken.front; next = broken.next; some = broken.some; reached = broken.reached; twice = shared.1 })))

    here : (page : ℕ) → page ≡ broken.next → IsNamedFree block pages page
    here page is = record { front = broken.front; some = (let positive = broken.some in omega arith); reached = subst (IsReached pages block.first_free broken.front) (sym is) broken.reached }

    formed : (rule : Rule) (page : ℕ) → page ≡ broken.next → BreaksFree rule (pages broken.next) → IsBroken block pages (damage_at rule page)
    formed Kind page is breaks = inr (inr (here page is, subst (λ (n : ℕ). BreaksFree Kind (pages n)) (sym is) breaks))
    formed Spare page is breaks = inr (inr (here page is, subst (λ (n : ℕ). BreaksFree Spare (pages n)) (sym is) breaks))
    formed Head page is breaks = absurd breaks
    formed Link page is breaks = absurd breaks
    formed Fill page is breaks = absurd breaks
    formed Order page is breaks = absurd breaks
    formed Level page is breaks = absurd breaks
    formed Value page is breaks = absurd breaks
    formed Shared page is breaks = absurd breaks
    formed Rect page is breaks = absurd breaks
    formed Row page is breaks = absurd breaks
    formed Entry page is breaks = absurd breaks
    formed Words page is breaks = absurd breaks
    formed Counts page is breaks = absurd breaks

-- a page that the chain names is in the free list
reached-free : (pages : PageMap) (count first : ℕ) (free front : List ℕ) (page : ℕ) → IsFreeList pages count first free → IsReached pages first front page → 0 < page → 1 ≤ times free page
reached-free pages count first [] [] page list reached some = absurd (omega (arith, list, reached))
reached-free pages count first [] (q ∷ front) page list reached some = let e = reached.0 in let positive = reached.1 in absurd (omega arith)
reached-free pages count first (p ∷ free) [] page list reached some =
    ⊎_elim (λ here. let one = here.1 in omega arith) (λ other. absurd (other.0 (sym reached ∙ list.0))) (one-cases p page)
reached-free pages count first (p ∷ free) (q ∷ front) page list reached some =
    let same : q ≡ p = sym reached.0 ∙ list.0 in
    let rest = reached-free pages count (next_free (pages p)) free front page list.4 (subst (λ (n : ℕ). IsReached pages (next_free (pages n)) front page) same reached.2) some in
    omega arith

-- a page that no structure was met at is lost
pub lost-named : (block : Superblock) (pages : PageMap) (free : List ℕ) (met : ℕ → ℕ) (page : ℕ) → IsFreeList pages block.counted block.first_free free → ((n : ℕ) → met n ≡ store_uses block.head pages n + times free n)
    → IsFirstUnmet block.counted met page → IsBroken block pages (damage_at Shared page)
lost-named block pages free met page chain all lost = inr (inr (record {
  some = lost.some;
  counted = lost.counted;
  unused = (let is = all page in let none = lost.unmet in omega arith);
  taken = λ front reached. (let is = all page in let none = lost.unmet in let there = reached-free pages block.counted block.first_free free front page chain reached lost.some in absurd (omega arith));
}))

-- Each page is once in exactly one structure, or outside, if each page was met as often as the structures use it, none twice, each that is
-- counted but page 0 was, and none that isn't counted, nor page 0.
pub once-met : (block : Superblock) (pages : PageMap) (free : List ℕ) (met : ℕ → ℕ) → 1 ≤ block.counted → ((n : ℕ) → met n ≡ store_uses block.head pages n + times free n)
    → ((n : ℕ) → IsUncounted block.counted n → met n ≡ 0) → ((n : ℕ) → 0 < n → n < block.counted → met n ≡ 1) → (n : ℕ) → store_uses block.head pages n + times free n + outside block.counted n ≡ 1
once-met block pages free met some all unknown known zero =
    let is = all 0 in let none = unknown 0 (inl refl) in let out = outside-zero block.counted in omega arith
once-met block pages free met some all unknown known (suc n) = ⊎_elim
    (λ inside. let is = all (suc n) in let one = known (suc n) (omega arith) inside in let out = outside-some block.counted (suc n) (omega arith) in let in_range = counted-none block.counted (suc n) inside in omega arith)
    (λ past. let is = all (suc n) in let none = unknown (suc n) (inr past) in let out = outside-some block.counted (suc n) (omega arith) in let beyond = uncounted-past block.counted (suc n) past in omega arith)
    (cases_lt (suc n) block.counted)

-- bytes that aren't all zeros have one that isn't
some-byte : (row : List ℕ) → are_zero row ≡ false → (i : ℕ) × (slice_index row i ≢ 0)
some-byte [] some = absurd (true≢false some)
some-byte (x ∷ row) some = ⊎_elim
    (λ zero-is. let rest = some-byte row (ap (λ (t : Bool). t && are_zero row) (sym (eq-eqb x 0 zero-is)) ∙ some) in (suc rest.0, rest.1))
    (λ other. (0, other)) (cases_eq x 0)

-- a row of words that is all zeros, or whose node the tree doesn't use, is broken at the node that it names
pub stray-named : (block : Superblock) (pages : PageMap) (nodes : ℕ → ℕ) (damage : Damage) → ((n : ℕ) → nodes n ≡ 0 → node_uses block.head pages n ≡ 0)
    → IsUnnamed (map_rows rows_form pages block.head.rows) nodes damage → IsBroken block pages damage
stray-named block pages nodes damage used stray = subst (IsBroken block pages) (sym stray.named) (by (are_zero stray.value) refl stray.wrong)
  where
    by : (t : Bool) → are_zero stray.value ≡ t → (nodes stray.node ≡ 0) ⊎ (are_zero stray.value ≡ true) → IsBroken block pages (damage_at Row stray.node)
    by true zeros wrong = inr (inr (record { word = stray.word; row = stray.value; there = stray.held; zero = zeros }))
    by false some (inr zeros) = absurd (true≢false (sym zeros ∙ some))
    by false some (inl unused) =
        let byte = some-byte stray.value some in
        inr (inl (record {
          unused = used stray.node unused;
          word = stray.word;
          at = byte.0;
          some = λ none. byte.1 (ap (λ (o : Option (List ℕ)). byte_in o byte.0) (sym stray.held) ∙ sym (bytes-small (map_rows rows_form pages block.head.rows) stray.node stray.word byte.0 stray.small) ∙ none);
        }))
