-- The relevance of some of a query's words.
use Rattle.std.proofs.Common.{◌≡◌, ℕ, Bool, true, false, ◌||◌, nat_lt, refl, ◌+◌, ◌*◌, ◌<◌, ◌∙◌, List, [], ◌∷◌, ◌++◌, length, take, get_or, ap, sym, arith}
use Rattle.std.specs.List.{list_any}
use Rattle.std.proofs.lemmas.List.{take_more}
use Rattle.std.proofs.lemmas.List.Sums.{sum_by-append, sum_by-cons}
use Rattle.place_values.specs.Top.{Weighted}
use Rattle.node_filter.specs.Filters.{holds_by, relevance_by}

or-false : (a : Bool) → (a || false) ≡ a
or-false true = refl
or-false false = refl

or-assoc : (a b c : Bool) → (a || (b || c)) ≡ ((a || b) || c)
or-assoc true b c = refl
or-assoc false b c = refl

one-term : (f : List ℕ → ℕ) (front : Weighted) (term : List ℕ × ℕ) → relevance_by f (front ++ term ∷ []) ≡ relevance_by f front + term.1 * f term.0
one-term f front term =
    let a = sum_by-append (λ (t : List ℕ × ℕ). t.1 * f t.0) front (term ∷ []) in
    let b = sum_by-cons (λ (t : List ℕ × ℕ). t.1 * f t.0) term [] in
    omega arith

-- one word more
pub relevance-more : (f : List ℕ → ℕ) (words : Weighted) (n : ℕ) (term : List ℕ × ℕ) → n < length words → term ≡ get_or words n term → relevance_by f (take (n + 1) words) ≡ relevance_by f (take n words) + term.1 * f term.0
relevance-more f words n term l e =
    ap (relevance_by f) (take_more words n term l ∙ ap (λ (t : List ℕ × ℕ). take n words ++ t ∷ []) (sym e)) ∙ one-term f (take n words) term

any-append : (test : List ℕ × ℕ → Bool) (front : Weighted) (term : List ℕ × ℕ) → list_any test (front ++ term ∷ []) ≡ (list_any test front || test term)
any-append test [] term = or-false (test term)
any-append test (t ∷ front) term = ap (λ (b : Bool). test t || b) (any-append test front term) ∙ or-assoc (test t) (list_any test front) (test term)

-- and of which one is held
pub held-more : (f : List ℕ → ℕ) (words : Weighted) (n : ℕ) (term : List ℕ × ℕ) → n < length words → term ≡ get_or words n term → holds_by f (take (n + 1) words) ≡ (holds_by f (take n words) || nat_lt 0 (f term.0))
held-more f words n term l e =
    ap (holds_by f) (take_more words n term l ∙ ap (λ (t : List ℕ × ℕ). take n words ++ t ∷ []) (sym e)) ∙ any-append (λ t. nat_lt 0 (f t.0)) (take n words) term
