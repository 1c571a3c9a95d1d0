-- The numbers of the words of places, and what agrees with them.
use Rattle.std.proofs.Common.{◌≡◌, ℕ, ◌+◌, ◌<◌, ◌==◌, ◌||◌, ◌++◌, if◌then◌else◌, cond, List, [], ◌∷◌, Bool, true, false, arith, refl, sym, ap, subst, ⊎_elim}
use Rattle.std.proofs.Math.Path.{fun_ext}
use Rattle.std.specs.List.{All, AllByRecursion, list_any}
use Rattle.std.specs.List.Sorted.{IsStrictlySortedBy}
use Rattle.std.specs.Map.{keys_of, values_of}
use Rattle.std.specs.Ordering.{nat_cmp}
use Rattle.std.specs.declared.cmp.Ordering.TheVariants.{Less}
use Rattle.std.proofs.lemmas.Bool.{cases_eq}
use Rattle.std.proofs.lemmas.Bool.Decides.{nat_tests}
use Rattle.std.proofs.lemmas.List.Elements.{All-head, All-tail}
use Rattle.std.proofs.lemmas.List.Sums.{sum_by-cons}
use Rattle.std.proofs.lemmas.Map.Keys.{sorted_from_strictly_increasing}
use Rattle.spatial_base.specs.Key.{Name}
use Rattle.row_codec.specs.declared.counted.Counted.{Counted}
use Rattle.row_codec.specs.declared.stored.Stored.{Stored}
use Rattle.row_codec.specs.Pairs.{Pair}
use Rattle.row_codec.specs.Stored.{held_pairs}
use Rattle.store_tables.specs.Coded.{IsPlaceEntry}
use Rattle.store_tables.specs.Words.{WordTablesAgree, has_number, holders}
use Rattle.store_verify.specs.Words.{held_numbers, number_times}

times-append : (xs ys : List ℕ) (n : ℕ) → number_times (xs ++ ys) n ≡ number_times xs n + number_times ys n
times-append [] ys n = omega arith
times-append (x ∷ xs) ys n = let rest = times-append xs ys n in omega arith

-- numbers behind one in order aren't it
times-behind : (n m : ℕ) → n ≡ m → (ns : List ℕ) → AllByRecursion (λ y. nat_cmp m y ≡ Less) ns → number_times ns n ≡ 0
times-behind n m is [] less = refl
times-behind n m is (k ∷ ns) less =
    let above : m < k = lower m k less.0 in
    let rest = times-behind n m is ns less.1 in
    let none : ◌≡◌ {A = ℕ} (if n == k then 1 else 0) 0 = grind (arith, nat_tests) in
    omega arith
  where
    lower : (a b : ℕ) → nat_cmp a b ≡ Less → a < b
    lower a b e = grind (arith, nat_tests)

-- a number is among those of pairs in order once or not at all
pairs-times : (n : ℕ) (pairs : List Pair) → IsStrictlySortedBy nat_cmp (keys_of pairs) → number_times (keys_of pairs) n ≡ cond (list_any (λ (p : Pair). p.0 == n) pairs) 1 0
unfolding IsStrictlySortedBy
pairs-times n [] sorted = refl
pairs-times n (p ∷ pairs) sorted = ⊎_elim
    (λ same.
    let none = times-behind n p.0 same (keys_of pairs) sorted.0 in
    let one : ◌≡◌ {A = ℕ} (if n == p.0 then 1 else 0) 1 = grind (arith, nat_tests) in
    let test : (p.0 == n) ≡ true = grind (arith, nat_tests) in
    let is : ◌≡◌ {A = ℕ} (cond ((p.0 == n) || list_any (λ (q : Pair). q.0 == n) pairs) 1 0) 1 = ap (λ (t : Bool). cond (t || list_any (λ (q : Pair). q.0 == n) pairs) 1 0) test in
    omega (arith, none, one, is))
    (λ other.
    let rest = pairs-times n pairs sorted.1 in
    let none : ◌≡◌ {A = ℕ} (if n == p.0 then 1 else 0) 0 = grind (arith, nat_tests) in
    let test : (p.0 == n) ≡ false = grind (arith, nat_tests) in
    let is : ◌≡◌ {A = ℕ} (cond ((p.0 == n) || list_any (λ (q : Pair). q.0 == n) pairs) 1 0) (cond (list_any (λ (q : Pair). q.0 == n) pairs) 1 0) =
    ap (λ (t : Bool). cond (t || list_any (λ (q : Pair). q.0 == n) pairs) 1 0) test in
    omega (arith, rest, none, is))
    (cases_eq n p.0)

-- how often a number is among those of all places is how many of them hold it
pub held-holders : (places : List (Name × Stored)) → All IsPlaceEntry places → (n : ℕ) → number_times (held_numbers places) n ≡ holders n places
held-holders [] each n = refl
held-holders (e ∷ places) each n =
    let first = pairs-times n (held_pairs e.1) (sorted_from_strictly_increasing (keys_of (held_pairs e.1)) (All-head IsPlaceEntry e places each).1.1.ascending) in
    let rest = held-holders places (All-tail IsPlaceEntry e places each) n in
    let parts = times-append (keys_of (held_pairs e.1)) (held_numbers places) n in
    let both = sum_by-cons (λ (s : Stored). cond (has_number n s) 1 0) e.1 (values_of places) in
    omega (arith, first, rest, parts, both)

-- so tables that agree with the numbers of all places agree with the places, and the other way round
pub agree-places : (places : List (Name × Stored)) (texts : List (List ℕ × ℕ)) (numbers : List (ℕ × Counted)) (next_word : ℕ) → All IsPlaceEntry places
    → WordTablesAgree (number_times (held_numbers places)) texts numbers next_word → WordTablesAgree (λ n. holders n places) texts numbers next_word
agree-places places texts numbers next_word each agree =
    subst (λ (claims : ℕ → ℕ). WordTablesAgree claims texts numbers next_word) (fun_ext (held-holders places each)) agree

pub places-agree : (places : List (Name × Stored)) (texts : List (List ℕ × ℕ)) (numbers : List (ℕ × Counted)) (next_word : ℕ) → All IsPlaceEntry places
    → WordTablesAgree (λ n. holders n places) texts numbers next_word → WordTablesAgree (number_times (held_numbers places)) texts numbers next_word
places-agree places texts numbers next_word each agree =
    subst (λ (claims : ℕ → ℕ). WordTablesAgree claims texts numbers next_word) (sym (fun_ext (held-holders places each))) agree
