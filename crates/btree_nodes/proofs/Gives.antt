-- Pages that are given back.
use Rattle.std.proofs.Common.{◌≡◌, ℕ, ◌<◌, ◌≤◌, List, ◌∷◌, arith, refl, sym, ap, subst, inl, inr}
use Rattle.page_face.specs.FreeList.{PageMap, IsFreeList, IsFreePage, next_free}
use Rattle.page_face.specs.Causes.{IsUncounted}
use Rattle.btree_nodes.specs.Supply.{one_at, times, spare, view, IsSupplied, Moves}
use Rattle.btree_nodes.proofs.Supplies.{one_at-same, chain-frame, none}

-- a page that isn't 0 or uncounted
pub page-some : (count page : ℕ) → (IsUncounted count page → ⊥) → 0 < page × page < count
page-some count page h = (omega (arith, λ (z : page ≡ 0). h (inl z)), omega (arith, λ (z : count ≤ page). h (inr z)))

-- a page in use is given back
pub moves-give : (old new : PageMap) (count first page : ℕ) (free : List ℕ) → IsSupplied (view old count first free) → spare free count page ≡ 0 → 0 < page → page < count
    → IsFreePage (new page) → next_free (new page) ≡ first → ((n : ℕ) → (n ≡ page → ⊥) → new n ≡ old n)
    → Moves (view old count first free) (view new count page (page ∷ free)) (one_at page) none
moves-give old new count first page free s unused some within form next others = record {
  supplied = (
    refl,
    some,
    within,
    form,
    subst (λ (k : ℕ). IsFreeList new count k free) (sym next)
        (chain-frame old new count count first free (omega arith) (λ n h. others n (λ same.
        let a : times free n ≡ times free page = ap (times free) same in omega arith)) s),
  );
  kept = λ n. omega arith;
  others = λ n z k. others n (λ same. let one = one_at-same page in let a : one_at page n ≡ one_at page page = ap (one_at page) same in omega arith);
}
