-- Pages that are misused: in a part and in the whole, and never where each page is used once.
use Rattle.std.proofs.Common.{◌≡◌, ◌⊎◌, ℕ, ◌+◌, ◌<◌, ◌≤◌, arith, refl, subst, inl, inr, ⊎_elim}
use Rattle.std.proofs.lemmas.Bool.Decides.{nat_tests}
use Rattle.page_face.specs.Causes.{IsUncounted}
use Rattle.page_face.specs.declared.fault.Damage.{Damage}
use Rattle.page_face.specs.declared.fault.PageFault.TheVariants.{Damaged}
use Rattle.page_face.specs.declared.fault.Rule.TheVariants.{Link, Shared}
use Rattle.btree_nodes.specs.Supply.{one_at}
use Rattle.btree_nodes.proofs.Supplies.{one_at-same, one_at-other}
use Rattle.page_walks.specs.Misuse.{IsMisused, AreUsedOnce}

-- the damage that a fault names
pub same-damage : (first second : Damage) → Damaged first ≡ Damaged second → first ≡ second
same-damage first second e = cc e

-- a page is the one that is used here, or another one
pub one-cases : (page n : ℕ) → ((n ≡ page) × (one_at page n ≡ 1)) ⊎ ((n ≡ page → ⊥) × (one_at page n ≡ 0))
unfolding one_at
one-cases page n = grind (arith, nat_tests)

-- a counted page isn't one that isn't counted
pub one-known : (count page n : ℕ) → (IsUncounted count page → ⊥) → IsUncounted count n → one_at page n ≡ 0
one-known count page n known un = one_at-other page n (λ e. known (subst (IsUncounted count) e un))

-- where each page is used once at most, none is misused
pub misused-apart : (count : ℕ) (before now : ℕ → ℕ) (damage : Damage) → IsMisused count before now damage → AreUsedOnce count before now → ⊥
misused-apart count before now damage m used =
    ⊎_elim (λ l. let a = l.2 in let z = used.known damage.page l.1 in absurd (omega arith)) (λ s. let a = s.1 in let z = used.once damage.page in absurd (omega arith)) m

-- what is misused in a part is misused in the whole
pub misused-up : (count : ℕ) (before before' now now' : ℕ → ℕ) (damage : Damage) → ((n : ℕ) → before n + now n ≤ before' n + now' n) → ((n : ℕ) → now n ≤ now' n)
    → IsMisused count before now damage → IsMisused count before' now' damage
misused-up count before before' now now' damage le part m =
    ⊎_elim (λ l. let a = l.2 in let z = part damage.page in inl (l.0, l.1, omega arith)) (λ s. let a = s.1 in let z = le damage.page in inr (s.0, omega arith)) m

-- a page that is named but isn't counted is misused
pub misused-link : (count page : ℕ) (before : ℕ → ℕ) → IsUncounted count page → (damage : Damage) → record { page = page; rule = Link } ≡ damage → IsMisused count before (one_at page) damage
misused-link count page before un damage e =
    let o = one_at-same page in
    let some : 0 < one_at page page = omega arith in
    subst (IsMisused count before (one_at page)) e (inl (refl, un, some))

-- a page that is named and was met before is misused
pub misused-shared : (count page : ℕ) (before : ℕ → ℕ) → before page ≡ 1 → (damage : Damage) → record { page = page; rule = Shared } ≡ damage → IsMisused count before (one_at page) damage
misused-shared count page before held damage e =
    let o = one_at-same page in
    let some : 2 ≤ before page + one_at page page = omega arith in
    subst (IsMisused count before (one_at page)) e (inr (refl, some))
