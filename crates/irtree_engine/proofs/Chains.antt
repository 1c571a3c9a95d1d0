-- The free list, followed.
use Rattle.std.proofs.Common.{◌≡◌, ℕ, ◌<◌, ◌≤◌, ◌+◌, ◌-◌, List, [], ◌∷◌, length, arith, ap, sym, subst, ◌∙◌}
use Rattle.page_face.specs.FreeList.{PageMap, IsFreeList, next_free}
use Rattle.btree_nodes.proofs.Supplies.{free-told}

-- what is left of each list is the list from a page on
abbrev pub IsLeft : PageMap → ℕ → ℕ → ℕ → ℕ → ℕ → Type 0
IsLeft pages count first next most left =
    (free : List ℕ) → IsFreeList pages count first free → (rest : List ℕ) × IsFreeList pages count next rest × (length free + left ≡ most + length rest)

-- one page further
further : (pages : PageMap) (count next after left most here : ℕ) (rest : List ℕ) → IsFreeList pages count next rest → 0 < next → 0 < left → (0 < length (pages next) → after ≡ next_free (pages next)) → here + left ≡ most + length rest
    → (more : List ℕ) × IsFreeList pages count after more × (here + (left - 1) ≡ most + length more)
further pages count next after left most here [] list some enough is long = absurd (omega (arith, list))
further pages count next after left most here (page ∷ rest) list some enough is long =
    (rest, subst (λ (n : ℕ). IsFreeList pages count n rest) (ap (λ (n : ℕ). next_free (pages n)) (sym list.0) ∙ sym (is (subst (λ (n : ℕ). 0 < length (pages n)) (sym list.0) (free-told (pages page) list.3)))) list.4, omega (arith, long))

pub left-step : (pages : PageMap) (count first next after most left : ℕ) → IsLeft pages count first next most left → 0 < next → 0 < left → (0 < length (pages next) → after ≡ next_free (pages next)) → IsLeft pages count first after most (left - 1)
left-step pages count first next after most left lies some enough is free list =
    let h = lies free list in
    further pages count next after left most (length free) h.0 h.1 some enough is h.2

-- a list from no page on has none
none-left : (pages : PageMap) (count next most left here : ℕ) (rest : List ℕ) → IsFreeList pages count next rest → next ≡ 0 → here + left ≡ most + length rest → here ≤ most
none-left pages count next most left here [] list none long = omega (arith, long)
none-left pages count next most left here (page ∷ rest) list none long = let a = list.0 in let b = list.1 in absurd (omega (arith, a, b, none))

pub left-none : (pages : PageMap) (count first next most left : ℕ) → IsLeft pages count first next most left → next ≡ 0 → (free : List ℕ) → IsFreeList pages count first free → length free ≤ most
left-none pages count first next most left lies none free list = (let h = lies free list in none-left pages count next most left (length free) h.0 h.1 none h.2)
