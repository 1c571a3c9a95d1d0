-- How many hits cost less than a bound.
use Rattle.std.proofs.Common.{◌≡◌, ℕ, suc, ◌+◌, ◌-◌, ◌<◌, ◌≤◌, List, [], ◌∷◌, ◌++◌, length, get_or, refl, arith, false, true, ⊎_elim, nat_lt, if◌then◌else◌, Bool, ◌==◌, Option, Some, ap, ◌⊎◌, inl, inr}
use Rattle.std.specs.Prelude.{IfSome}
use Rattle.std.specs.List.{AllByRecursion}
use Rattle.std.specs.Cmp.{nat_cmp_is}
use Rattle.std.specs.Ordering.{nat_cmp, ordering_then, is_lt}
use Rattle.std.specs.declared.cmp.Ordering.{Ordering}
use Rattle.std.specs.declared.cmp.Ordering.TheVariants.{Less, Equal, Greater}
use Rattle.std.proofs.lemmas.Bool.{cases_Bool, cases_lt, lt-ltb, le-ltb, ltb-false, ne_eqb}
use Rattle.std.proofs.lemmas.Bool.Decides.{nat_tests}
use Rattle.std.proofs.lemmas.Cmp.{ranked as compared}
use Rattle.std.proofs.lemmas.List.Sums.{sum_by-cons, sum_by-append, sum_by-take-le}
use Rattle.place_values.specs.First.{placed, ranked, first, IsRanked}
use Rattle.place_values.specs.declared.hit.Hit.{Hit}
use Rattle.place_values.specs.Hit.{comes_before}
use Rattle.best_first.specs.Openings.{last_cost, cheaper}
use Rattle.best_first.specs.Cuts.{most_of}
use Rattle.best_first.specs.Lists.{all_weaker}

-- what the first part of a comparison says
pub not_less : (a b : ℕ) (o rest : Ordering) → o ≡ nat_cmp a b → is_lt (ordering_then o rest) ≡ false → b ≤ a
not_less a b Less rest e h = absurd (cc)
not_less a b Equal rest e h = let r = compared a b Equal e in omega arith
not_less a b Greater rest e h = let r = compared a b Greater e in omega arith

-- what isn't before another costs no less
pub upto_cost : (x y : Hit) → comes_before y x ≡ false → x.cost ≤ y.cost
upto_cost x y h = not_less y.cost x.cost (nat_cmp y.cost x.cost) _ refl h

-- what costs more isn't before
pub below_cost : (x y : Hit) → x.cost < y.cost → comes_before y x ≡ false
below_cost x y h = let e = nat_cmp_is y.cost x.cost Greater h in rw (← e) refl

-- 1 for a hit that costs less
abbrev pub is_cheaper : ℕ → Hit → ℕ
is_cheaper bound h = if nat_lt h.cost bound then 1 else 0

one_below : (bound : ℕ) (h : Hit) → h.cost < bound → is_cheaper bound h ≡ 1
one_below bound h l = let t : nat_lt h.cost bound ≡ true = grind (arith, nat_tests) in rw t refl

none_above : (bound : ℕ) (h : Hit) → bound ≤ h.cost → is_cheaper bound h ≡ 0
none_above bound h l = let t : nat_lt h.cost bound ≡ false = grind (arith, nat_tests) in rw t refl

one_at_most : (bound : ℕ) (h : Hit) → is_cheaper bound h ≤ 1
one_at_most bound h = ⊎_elim (λ (l : h.cost < bound). omega (arith, one_below bound h l)) (λ (l : bound ≤ h.cost). omega (arith, none_above bound h l)) (cases_lt h.cost bound)

-- no more than all
pub cheaper_some : (bound : ℕ) (hs : List Hit) → cheaper bound hs ≤ length hs
cheaper_some bound [] = omega arith
cheaper_some bound (h ∷ hs) = omega (arith, sum_by-cons (is_cheaper bound) h hs, one_at_most bound h, cheaper_some bound hs)

-- none where none costs less
pub cheaper_none : (bound : ℕ) (hs : List Hit) → AllByRecursion (λ (h : Hit). bound ≤ h.cost) hs → cheaper bound hs ≡ 0
cheaper_none bound [] a = refl
cheaper_none bound (h ∷ hs) a = omega (arith, sum_by-cons (is_cheaper bound) h hs, none_above bound h a.0, cheaper_none bound hs a.1)

-- all where all cost less
pub cheaper_each : (bound : ℕ) (hs : List Hit) → AllByRecursion (λ (h : Hit). h.cost < bound) hs → cheaper bound hs ≡ length hs
cheaper_each bound [] a = refl
cheaper_each bound (h ∷ hs) a = omega (arith, sum_by-cons (is_cheaper bound) h hs, one_below bound h a.0, cheaper_each bound hs a.1)

-- and only there
pub all_cheaper : (bound : ℕ) (hs : List Hit) → length hs ≤ cheaper bound hs → AllByRecursion (λ (h : Hit). h.cost < bound) hs
all_cheaper bound [] l = tt
all_cheaper bound (h ∷ hs) l =
    ⊎_elim
    (λ (c : h.cost < bound). (c, all_cheaper bound hs (omega (arith, sum_by-cons (is_cheaper bound) h hs, one_at_most bound h))))
    (λ (c : bound ≤ h.cost). absurd (omega (arith, sum_by-cons (is_cheaper bound) h hs, none_above bound h c, cheaper_some bound hs)))
    (cases_lt h.cost bound)

cheaper_placed : (bound : ℕ) (x : Hit) (ys : List Hit) → cheaper bound (placed comes_before x ys) ≡ is_cheaper bound x + cheaper bound ys
cheaper_placed bound x [] = omega (arith, sum_by-cons (is_cheaper bound) x [])
cheaper_placed bound x (y ∷ ys) =
    ⊎_elim
    (λ (t : comes_before y x ≡ true). rw t (omega (arith, cheaper_placed bound x ys, sum_by-cons (is_cheaper bound) y (placed comes_before x ys), sum_by-cons (is_cheaper bound) y ys)))
    (λ (f : comes_before y x ≡ false). rw f (sum_by-cons (is_cheaper bound) x (y ∷ ys)))
    (cases_Bool (comes_before y x))

cheaper_ranked : (bound : ℕ) (hs : List Hit) → cheaper bound (ranked comes_before hs) ≡ cheaper bound hs
cheaper_ranked bound [] = refl
cheaper_ranked bound (h ∷ hs) = omega (arith, cheaper_placed bound h (ranked comes_before hs), cheaper_ranked bound hs, sum_by-cons (is_cheaper bound) h hs)

-- the first k of them with others that don't cost less
pub cheaper_kept : (bound k : ℕ) (hs gs : List Hit) → AllByRecursion (λ (h : Hit). bound ≤ h.cost) gs → cheaper bound (first comes_before k (hs ++ gs)) ≤ cheaper bound hs
cheaper_kept bound k hs gs a =
    omega (arith, sum_by-take-le (is_cheaper bound) (ranked comes_before (hs ++ gs)) k, cheaper_ranked bound (hs ++ gs), sum_by-append (is_cheaper bound) hs gs, cheaper_none bound gs a)

-- of hits in order, the last one costs the most
pub all_last : (hs : List Hit) → IsRanked comes_before hs → AllByRecursion (λ (h : Hit). h.cost ≤ last_cost hs) hs
all_last [] r = tt
all_last (h ∷ []) r = (omega arith, tt)
all_last (h ∷ g ∷ hs) r =
    let rest = all_last (g ∷ hs) r.1 in
    let first_le = upto_cost h g r.0.0 in
    (omega (arith, rest.0, first_le), rest)

-- where not all of them cost less than a bound, the last one doesn't
pub last_above : (bound : ℕ) (hs : List Hit) → IsRanked comes_before hs → cheaper bound hs < length hs → bound ≤ last_cost hs
last_above bound hs r l =
    ⊎_elim
    (λ (c : last_cost hs < bound). absurd (omega (arith, cheaper_each bound hs (all_weaker (λ (h : Hit). h.cost ≤ last_cost hs) (λ (h : Hit). h.cost < bound) (λ h q. omega arith) hs (all_last hs r)))))
    (λ c. c)
    (cases_lt (last_cost hs) bound)

last_is : (hs : List Hit) (d : Hit) → 0 < length hs → (get_or hs (length hs - 1) d).cost ≡ last_cost hs
last_is [] d l = absurd (omega arith)
last_is (h ∷ []) d l = refl
last_is (h ∷ g ∷ hs) d l = let e : length (h ∷ g ∷ hs) - 1 ≡ suc (length (g ∷ hs) - 1) = omega arith in rw e (last_is (g ∷ hs) d (omega arith))

-- the test of whether all cost less
pub settled_last : (bound k : ℕ) (hs : List Hit) (d : Hit) → IsRanked comes_before hs → k ≤ length hs → 0 < length hs → (get_or hs (length hs - 1) d).cost < bound → k ≤ cheaper bound hs
settled_last bound k hs d r l s c =
    let e = last_is hs d s in
    omega (arith, cheaper_each bound hs (all_weaker (λ (h : Hit). h.cost ≤ last_cost hs) (λ (h : Hit). h.cost < bound) (λ h q. omega (arith, e)) hs (all_last hs r)))

cheaper_front : (bound : ℕ) (hs : List Hit) → 0 < length hs → bound ≤ last_cost hs → cheaper bound hs < length hs
cheaper_front bound [] l c = absurd (omega arith)
cheaper_front bound (h ∷ []) l c = omega (arith, sum_by-cons (is_cheaper bound) h [], none_above bound h c)
cheaper_front bound (h ∷ g ∷ hs) l c = omega (arith, sum_by-cons (is_cheaper bound) h (g ∷ hs), one_at_most bound h, cheaper_front bound (g ∷ hs) (omega arith) c)

pub unsettled_last : (bound k : ℕ) (hs : List Hit) (d : Hit) → length hs ≤ k → 0 < length hs → bound ≤ (get_or hs (length hs - 1) d).cost → cheaper bound hs < k
unsettled_last bound k hs d l s c = let e = last_is hs d s in let f = cheaper_front bound hs s (omega (arith, e)) in omega arith

-- while fewer than k are found, and where none is asked for, the limit is the most
pub most-few : (limit : Option ℕ) (k : ℕ) (hs : List Hit) → length hs < k → limit ≡ most_of limit k hs
most-few limit k hs l = rw (lt-ltb (length hs) k l) refl

pub most-zero : (limit : Option ℕ) (k : ℕ) (hs : List Hit) → k ≡ 0 → limit ≡ most_of limit k hs
most-zero limit k hs z = rw (z, le-ltb (length hs) 0 (omega arith)) refl

-- else it is what the last one costs
pub most-is : (limit : Option ℕ) (k : ℕ) (hs : List Hit) (d : Hit) → k ≤ length hs → 0 < k → Some (get_or hs (length hs - 1) d).cost ≡ most_of limit k hs
most-is limit k hs d l s =
    let some : (k == 0) ≡ false = ne_eqb k 0 (λ z. absurd (omega arith)) in
    rw (le-ltb (length hs) k l, some) (ap Some (last_is hs d (omega arith)))

-- the most is the limit, or what the kth of those found costs
abbrev pub IsMost : Option ℕ → ℕ → List Hit → Option ℕ → Type 0
IsMost limit k found most = (most ≡ limit) ⊎ IfSome most (λ m. (length found ≡ k) × AllByRecursion (λ (h : Hit). h.cost ≤ m) found)

-- what the kth of k hits in order costs is the most that any does
pub most_last : (limit : Option ℕ) (k : ℕ) (hs : List Hit) → IsRanked comes_before hs → length hs ≤ k → IsMost limit k hs (most_of limit k hs)
most_last limit k hs r short = by-tests (nat_lt (length hs) k) (k == 0) refl
  where
    by-tests : (a b : Bool) → nat_lt (length hs) k ≡ a → IsMost limit k hs (if a then limit else if b then limit else Some (last_cost hs))
    by-tests true b e = inl refl
    by-tests false true e = inl refl
    by-tests false false e = let l = ltb-false (length hs) k e in inr (omega arith, all_last hs r)
