-- Numbers in order, each as often as places hold its word.
use Rattle.std.proofs.Common.{◌≡◌, ◌↔◌, ◌⊎◌, ℕ, zero, suc, ◌+◌, ◌-◌, ◌<◌, ◌≤◌, ◌++◌, List, [], ◌∷◌, get_or, length, drop, take, replicate, Bool, true, false, cond, Some, None, arith, refl, sym, ap, ◌∙◌, subst, ⊎_elim, append_assoc}
use Rattle.std.specs.BTreeMap.{is_at}
use Rattle.std.specs.Bool.{IsTrue}
use Rattle.std.specs.Cmp.{eq_by_cmp_equiv}
use Rattle.std.specs.List.{All}
use Rattle.std.specs.List.Sorted.{IsPermutation, IsNonDecreasing, IsSorted, IsStrictlySortedBy}
use Rattle.std.specs.Map.{keys_of, values_of}
use Rattle.std.specs.Option.{IsSome, IfSome}
use Rattle.std.specs.Ordering.{nat_cmp}
use Rattle.std.proofs.lemmas.Bool.{cases_eq, cases_lt, true≢false}
use Rattle.std.proofs.lemmas.Cmp.{nat_cmp_total}
use Rattle.std.proofs.lemmas.Bool.Decides.{nat_tests}
use Rattle.std.proofs.lemmas.List.{append-nil, append_cancel_left, drop-drop, length-append, length-drop, length-replicate, get_or-replicate, get_or-append_right, get_or_append_left}
use Rattle.std.proofs.lemmas.List.Elements.{All-cons, All-nil, All-head, All-tail, All-append}
use Rattle.std.proofs.lemmas.List.Sorted.{IsNonDecreasingBy-from_sort}
use Rattle.std.proofs.lemmas.Map.Entries.{All-lookup}
use Rattle.std.proofs.lemmas.Map.Keys.{IsDistinct-from_sorted}
use Rattle.std.proofs.lemmas.Map.Views.{All-keys_from_lookup, All-values_from_lookup}
use Rattle.row_codec.specs.declared.counted.Counted.{Counted}
use Rattle.store_tables.specs.Entries.{word_of_number}
use Rattle.store_tables.specs.Words.{places_in, places_of_number}
use Rattle.store_verify.specs.Words.{number_times, spread, AreCounted, AreBelow, HaveAPlace}
use Rattle.store_verify.proofs.Times.{count, count-moved, IsUp, IsClimbing, same-numbers, same_number, number-tells}
use Rattle.store_verify.proofs.Inverse.{climbing-rows, up-sorted}

-- ---- how often

pub times-count : (ns : List ℕ) (n : ℕ) → number_times ns n ≡ count same_number n ns
times-count [] n = refl
times-count (m ∷ ms) n = let rest = times-count ms n in omega arith

pub count-append : (n : ℕ) (xs ys : List ℕ) → count same_number n (xs ++ ys) ≡ count same_number n xs + count same_number n ys
count-append n [] ys = omega arith
count-append n (x ∷ xs) ys = let rest = count-append n xs ys in omega arith

-- a number so often, before others
count-run : (n m k : ℕ) (xs : List ℕ) → n ≡ m → count same_number n (replicate k m ++ xs) ≡ k + count same_number n xs
count-run n m zero xs e = omega arith
count-run n m (suc k) xs e = let rest = count-run n m k xs e in let one : same_number n m ≡ 1 = grind (arith, nat_tests) in omega arith

-- another number
count-other : (n m k : ℕ) (xs : List ℕ) → (n ≡ m → ⊥) → count same_number n (replicate k m ++ xs) ≡ count same_number n xs
count-other n m zero xs e = omega arith
count-other n m (suc k) xs e = let rest = count-other n m k xs e in let none : same_number n m ≡ 0 = grind (arith, nat_tests) in omega arith

-- ---- the numbers of rows in order

abbrev Climbs : ℕ → List (ℕ × Counted) → Type 0
Climbs low rows = IsClimbing (λ (r : ℕ × Counted). r.0) low rows

-- a number below the rows' isn't among theirs
pub spread-none : (n low : ℕ) (rows : List (ℕ × Counted)) → Climbs low rows → n < low → count same_number n (spread rows) ≡ 0
spread-none n low [] climbs below = refl
spread-none n low (row ∷ rows) climbs below =
    let first = climbs.0 in
    let rest = spread-none n (row.0 + 1) rows climbs.1 (omega arith) in
    let other = count-other n row.0 row.1.places (spread rows) (λ e. omega arith) in
    omega arith

-- and has no row
rows-none : (n low : ℕ) (rows : List (ℕ × Counted)) → Climbs low rows → n < low → word_of_number n rows ≡ None
rows-none n low [] climbs below = refl
rows-none n low (row ∷ rows) climbs below =
    let first = climbs.0 in
    let rest = rows-none n (row.0 + 1) rows climbs.1 (omega arith) in
    let apart : is_at (nat_cmp n) row.0 ≡ false = grind (arith, nat_tests) in
    ap (λ (b : Bool). cond b (Some row.1) (word_of_number n rows)) apart ∙ rest

-- each number as often as its row says
pub spread-count : (n low : ℕ) (rows : List (ℕ × Counted)) → Climbs low rows → count same_number n (spread rows) ≡ places_of_number n rows
spread-count n low [] climbs = refl
spread-count n low (row ∷ rows) climbs =
    ⊎_elim
    (λ e.
    let here : is_at (nat_cmp n) row.0 ≡ true = grind (arith, nat_tests) in
    let none = spread-none n (row.0 + 1) rows climbs.1 (omega arith) in
    let run = count-run n row.0 row.1.places (spread rows) e in
    let is : places_of_number n (row ∷ rows) ≡ row.1.places = ap (λ (b : Bool). places_in (cond b (Some row.1) (word_of_number n rows))) here in
    omega arith)
    (λ e.
    let apart : is_at (nat_cmp n) row.0 ≡ false = grind (arith, nat_tests) in
    let rest = spread-count n (row.0 + 1) rows climbs.1 in
    let other = count-other n row.0 row.1.places (spread rows) e in
    let is : places_of_number n (row ∷ rows) ≡ places_of_number n rows = ap (λ (b : Bool). places_in (cond b (Some row.1) (word_of_number n rows))) apart in
    omega arith)
    (cases_eq n row.0)

-- numbers that go up, one of them so often before the others
up-run : (low m k : ℕ) (xs : List ℕ) → low ≤ m → IsUp (λ (n : ℕ). n) m xs → IsUp (λ (n : ℕ). n) low (replicate k m ++ xs)
up-run low m zero xs le up = up-weaker low m xs le up
  where
    up-weaker : (low m : ℕ) (xs : List ℕ) → low ≤ m → IsUp (λ (n : ℕ). n) m xs → IsUp (λ (n : ℕ). n) low xs
    up-weaker low m [] le up = tt
    up-weaker low m (x ∷ xs) le up = (let first = up.0 in omega arith, up.1)
up-run low m (suc k) xs le up = (le, up-run m m k xs (omega arith) up)

-- the numbers of the rows go up
pub spread-up : (from low : ℕ) (rows : List (ℕ × Counted)) → from ≤ low → Climbs low rows → IsUp (λ (n : ℕ). n) from (spread rows)
spread-up from low [] le climbs = tt
spread-up from low (row ∷ rows) le climbs =
    let first = climbs.0 in
    up-run from row.0 row.1.places (spread rows) (omega arith) (spread-up row.0 (row.0 + 1) rows (omega arith) climbs.1)

-- ---- the counts of places

module _ (numbers : List (ℕ × Counted)) (held run : List ℕ) (sorted : IsStrictlySortedBy nat_cmp (keys_of numbers)) (moved : IsPermutation held run) (up : IsNonDecreasing run) where
  run-times : (n : ℕ) → number_times held n ≡ count same_number n run
  run-times n = times-count held n ∙ sym (count-moved same_number held run moved n)

  -- if the numbers in order are the rows' ones, each row counts its places
  pub counted-from : run ≡ spread numbers → HaveAPlace numbers → AreCounted (number_times held) numbers
  counted-from e some = (
    (λ n. sym (spread-count n 0 numbers (climbing-rows numbers sorted)) ∙ sym (ap (count same_number n) e) ∙ sym (run-times n)),
    (λ n. All-lookup (λ (c : Counted). 1 ≤ c.places) (is_at (nat_cmp n)) numbers some),
  )

  -- and if each row counts its places, they are the rows' ones
  pub spread-from : AreCounted (number_times held) numbers → run ≡ spread numbers
  spread-from counted = same-numbers same_number number-tells run (spread numbers) 0 0
      (up-sorted (λ (n : ℕ). n) 0 run (λ d some. omega arith) up) (spread-up 0 0 numbers (omega arith) (climbing-rows numbers sorted))
      (λ n. sym (run-times n) ∙ sym (counted.0 n) ∙ sym (spread-count n 0 numbers (climbing-rows numbers sorted)))

-- each word has a place exactly if each row that is found has
pub place-from : (numbers : List (ℕ × Counted)) → IsStrictlySortedBy nat_cmp (keys_of numbers) → ((number : ℕ) → IfSome (word_of_number number numbers) (λ c. 1 ≤ c.places)) → HaveAPlace numbers
place-from numbers sorted some = rows-all numbers (All-values_from_lookup (eq_by_cmp_equiv nat_cmp_total) (λ (c : Counted). 1 ≤ c.places) numbers (IsDistinct-from_sorted nat_cmp (keys_of numbers) sorted) some)
  where
    rows-all : (rows : List (ℕ × Counted)) → All (λ (c : Counted). 1 ≤ c.places) (values_of rows) → HaveAPlace rows
    rows-all [] all = All-nil (λ (row : ℕ × Counted). 1 ≤ row.1.places)
    rows-all (row ∷ rows) all =
        All-cons (λ (r : ℕ × Counted). 1 ≤ r.1.places) row rows (All-head (λ (c : Counted). 1 ≤ c.places) row.1 (values_of rows) all) (rows-all rows (All-tail (λ (c : Counted). 1 ≤ c.places) row.1 (values_of rows) all))

-- ---- numbers below the next one

pub below-from : (next : ℕ) (numbers : List (ℕ × Counted)) → AreBelow next numbers → All (λ (row : ℕ × Counted). row.0 < next) numbers
below-from next numbers below = rows-all numbers (All-keys_from_lookup (eq_by_cmp_equiv nat_cmp_total) (λ (n : ℕ). n < next) numbers below)
  where
    rows-all : (rows : List (ℕ × Counted)) → All (λ (n : ℕ). n < next) (keys_of rows) → All (λ (row : ℕ × Counted). row.0 < next) rows
    rows-all [] all = All-nil (λ (row : ℕ × Counted). row.0 < next)
    rows-all (row ∷ rows) all =
        All-cons (λ (r : ℕ × Counted). r.0 < next) row rows (All-head (λ (n : ℕ). n < next) row.0 (keys_of rows) all) (rows-all rows (All-tail (λ (n : ℕ). n < next) row.0 (keys_of rows) all))

pub below-all : (next : ℕ) (numbers : List (ℕ × Counted)) → All (λ (row : ℕ × Counted). row.0 < next) numbers → AreBelow next numbers
below-all next [] all number found = absurd (true≢false (sym found))
below-all next (row ∷ rows) all number found = by (is_at (nat_cmp number) row.0) refl found (λ more. below-all next rows (All-tail (λ (r : ℕ × Counted). r.0 < next) row rows all) number more)
  where
    by : (b : Bool) → is_at (nat_cmp number) row.0 ≡ b → IsSome (cond b (Some row.1) (word_of_number number rows)) → (IsSome (word_of_number number rows) → number < next) → number < next
    by true here some rest = let same : number ≡ row.0 = grind (arith, nat_tests) in let first = All-head (λ (r : ℕ × Counted). r.0 < next) row rows all in omega arith
    by false apart some rest = rest some

-- ---- one row's run

-- the first numbers are this one, and the next isn't
pub record IsRun (rest : List ℕ) (number run : ℕ) : Type 0 where
  pub within : run ≤ length rest
  pub same : (k : ℕ) → k < run → get_or rest k 0 ≡ number
  pub other : run < length rest → get_or rest run 0 ≡ number → ⊥

run-drop : (rest : List ℕ) (number run : ℕ) → run ≤ length rest → ((k : ℕ) → k < run → get_or rest k 0 ≡ number) → rest ≡ replicate run number ++ drop run rest
run-drop rest number zero within same = refl
run-drop [] number (suc run) within same = absurd (omega arith)
run-drop (x ∷ xs) number (suc run) within same =
    let first : x ≡ number = same 0 (omega arith) in
    ap (λ (y : ℕ). y ∷ xs) first ∙ ap (λ (ys : List ℕ). number ∷ ys) (run-drop xs number run (omega arith) (λ k lt. same (suc k) (omega arith)))

-- the rows before one, that row, and those behind it
split-at : (rows : List (ℕ × Counted)) (at : ℕ) (row : ℕ × Counted) → at < length rows → row ≡ get_or rows at row → rows ≡ take at rows ++ row ∷ drop (suc at) rows
split-at [] at row inside is = absurd (omega arith)
split-at (r ∷ rs) zero row inside is = ap (λ (q : ℕ × Counted). q ∷ rs) (sym is)
split-at (r ∷ rs) (suc at) row inside is = ap (λ (qs : List (ℕ × Counted)). r ∷ qs) (split-at rs at row (omega arith) is)

take-more : (rows : List (ℕ × Counted)) (at : ℕ) (row : ℕ × Counted) → at < length rows → row ≡ get_or rows at row → take (at + 1) rows ≡ take at rows ++ row ∷ []
take-more rows at row inside is = subst (λ (k : ℕ). take k rows ≡ take at rows ++ row ∷ []) (let e : suc at ≡ at + 1 = omega arith in e) (go rows at inside is)
  where
    go : (rows : List (ℕ × Counted)) (at : ℕ) → at < length rows → row ≡ get_or rows at row → take (suc at) rows ≡ take at rows ++ row ∷ []
    go [] at inside is = absurd (omega arith)
    go (r ∷ rs) zero inside is = ap (λ (q : ℕ × Counted). q ∷ []) (sym is)
    go (r ∷ rs) (suc at) inside is = ap (λ (qs : List (ℕ × Counted)). r ∷ qs) (go rs at (omega arith) is)

-- the numbers so far are the rows' ones, and each row had a place
pub record AreTaken (done : List (ℕ × Counted)) (held rest : List ℕ) : Type 0 where
  pub is : held ≡ spread done ++ rest
  pub some : HaveAPlace done

pub spread-append : (xs ys : List (ℕ × Counted)) → spread (xs ++ ys) ≡ spread xs ++ spread ys
spread-append [] ys = refl
spread-append (row ∷ rows) ys = ap (λ (ns : List ℕ). replicate row.1.places row.0 ++ ns) (spread-append rows ys) ∙ sym (append_assoc (replicate row.1.places row.0) (spread rows) (spread ys))

-- one row more
pub taken-more : (done : List (ℕ × Counted)) (held rest : List ℕ) (number : ℕ) (counted : Counted) (run : ℕ) → AreTaken done held rest → IsRun rest number run → run ≡ counted.places → (run ≡ 0 → ⊥)
    → AreTaken (done ++ (number, counted) ∷ []) held (drop run rest)
taken-more done held rest number counted run taken is places some = record {
  is = taken.is ∙ ap (λ (ns : List ℕ). spread done ++ ns) (run-drop rest number run is.within is.same ∙ ap (λ (k : ℕ). replicate k number ++ drop run rest) places)
      ∙ sym (append_assoc (spread done) (replicate counted.places number) (drop run rest)) ∙ ap (λ (ns : List ℕ). ns ++ drop run rest) (sym one);
  some = All-append (λ (row : ℕ × Counted). 1 ≤ row.1.places) done ((number, counted) ∷ []) taken.some (All-cons (λ (row : ℕ × Counted). 1 ≤ row.1.places) (number, counted) [] (omega arith) (All-nil (λ (row : ℕ × Counted). 1 ≤ row.1.places)));
}
  where
    one : spread (done ++ (number, counted) ∷ []) ≡ spread done ++ replicate counted.places number
    one = spread-append done ((number, counted) ∷ []) ∙ ap (λ (ns : List ℕ). spread done ++ ns) (append-nil (replicate counted.places number))

-- ---- what the whole says of one row

climbing-behind : (low : ℕ) (done : List (ℕ × Counted)) (row : ℕ × Counted) (later : List (ℕ × Counted)) → Climbs low (done ++ row ∷ later) → Climbs (row.0 + 1) later
climbing-behind low [] row later climbs = climbs.1
climbing-behind low (r ∷ rs) row later climbs = climbing-behind (r.0 + 1) rs row later climbs.1

first-counts : (n : ℕ) (ys : List ℕ) → 0 < length ys → get_or ys 0 0 ≡ n → 1 ≤ count same_number n ys
first-counts n [] some e = absurd (omega arith)
first-counts n (y ∷ ys) some e = let one : same_number n y ≡ 1 = grind (arith, nat_tests) in omega arith

-- a run is as long as its number is often, where the numbers behind are others
run-long : (rest later : List ℕ) (number places run : ℕ) → rest ≡ replicate places number ++ later → count same_number number later ≡ 0 → IsRun rest number run → run ≡ places
run-long rest later number places run e none is =
    let all : length rest ≡ places + length later = ap (λ (xs : List ℕ). length xs) e ∙ length-append (replicate places number) later ∙ ap (λ (k : ℕ). k + length later) (length-replicate places number) in
    let within = is.within in
    ⊎_elim
    (λ short. absurd (is.other (omega arith) (ap (λ (xs : List ℕ). get_or xs run 0) e
    ∙ get_or_append_left (replicate places number) later 0 run (let l = length-replicate places number in omega arith) ∙ get_or-replicate places run number 0 short)))
    (λ long. ⊎_elim (λ same. same)
    (λ other.
    let more : 0 < length later = omega arith in
    let first : get_or later 0 0 ≡ number =
    ap (λ (k : ℕ). get_or later k 0) (let z : 0 ≡ places - places = omega arith in z)
    ∙ sym (get_or-append_right (replicate places number) later places places 0 (length-replicate places number) (omega arith))
    ∙ sym (ap (λ (xs : List ℕ). get_or xs places 0) e) ∙ is.same places (omega arith) in
    let some = first-counts number later more first in
    absurd (omega arith))
    (cases_eq run places))
    (cases_lt run places)

pub run-is : (numbers done later : List (ℕ × Counted)) (held rest : List ℕ) (number : ℕ) (counted : Counted) (run : ℕ) → IsStrictlySortedBy nat_cmp (keys_of numbers) → numbers ≡ done ++ (number, counted) ∷ later
    → AreTaken done held rest → IsRun rest number run → held ≡ spread numbers → run ≡ counted.places
run-is numbers done later held rest number counted run sorted split taken is all =
    let climbs : Climbs (number + 1) later = climbing-behind 0 done (number, counted) later (subst (Climbs 0) split (climbing-rows numbers sorted)) in
    run-long rest (spread later) number counted.places run
    (append_cancel_left (spread done) rest (replicate counted.places number ++ spread later)
    (sym taken.is ∙ all ∙ ap spread split ∙ spread-append done ((number, counted) ∷ later)))
    (spread-none number (number + 1) later climbs (omega arith)) is

-- ---- a loop over the rows

-- so many rows were gone through, and so many numbers taken: they are those rows' ones, and each row has a place
pub record HasTaken (rows at : ℕ) (numbers : List (ℕ × Counted)) (held : List ℕ) : Type 0 where
  pub within : at ≤ length held
  pub taken : AreTaken (take rows numbers) held (drop at held)

drop-further : (run at : ℕ) (xs : List ℕ) → drop run (drop at xs) ≡ drop (at + run) xs
drop-further run at xs = drop-drop run at xs

-- a row that breaks the count: the numbers aren't the rows' ones, or some row has no place
pub run-apart : (numbers : List (ℕ × Counted)) (rows at : ℕ) (row : ℕ × Counted) (held : List ℕ) (run : ℕ) → IsStrictlySortedBy nat_cmp (keys_of numbers) → rows < length numbers → row ≡ get_or numbers rows row
    → HasTaken rows at numbers held → IsRun (drop at held) row.0 run → (run ≡ 0) ⊎ (run ≡ row.1.places → ⊥) → (held ≡ spread numbers) × HaveAPlace numbers → ⊥
run-apart numbers rows at row held run sorted inside is taken runs apart all =
    let same = run-is numbers (take rows numbers) (drop (suc rows) numbers) held (drop at held) row.0 row.1 run sorted (split-at numbers rows row inside is) taken.taken runs all.0 in
    let some : 1 ≤ row.1.places = subst (λ (r : ℕ × Counted). 1 ≤ r.1.places) (sym is) (all.1 rows row inside) in
    ⊎_elim (λ none. absurd (omega arith)) (λ other. other same) apart

-- a row that counts its places
pub run-taken : (numbers : List (ℕ × Counted)) (rows at : ℕ) (row : ℕ × Counted) (held : List ℕ) (run : ℕ) → rows < length numbers → row ≡ get_or numbers rows row
    → HasTaken rows at numbers held → IsRun (drop at held) row.0 run → run ≡ row.1.places → (run ≡ 0 → ⊥) → HasTaken (rows + 1) (at + run) numbers held
run-taken numbers rows at row held run inside is taken runs same some = record {
  within = (let short = runs.within in let long = length-drop at held in let fits = taken.within in omega arith);
  taken = subst (λ (rest : List ℕ). AreTaken (take (rows + 1) numbers) held rest) (drop-further run at held)
      (subst (λ (done : List (ℕ × Counted)). AreTaken done held (drop run (drop at held))) (sym (take-more numbers rows row inside is))
      (taken-more (take rows numbers) held (drop at held) row.0 row.1 run taken.taken runs same some));
}

-- before the first row
pub taken-none : (numbers : List (ℕ × Counted)) (held : List ℕ) → HasTaken 0 0 numbers held
taken-none numbers held = record { within = omega arith; taken = record { is = refl; some = All-nil (λ (row : ℕ × Counted). 1 ≤ row.1.places) } }

drop-all : (xs : List ℕ) (n : ℕ) → n ≡ length xs → drop n xs ≡ []
drop-all [] n e = ap (λ (k : ℕ). drop k []) e
drop-all (x ∷ xs) n e = subst (λ (k : ℕ). drop k (x ∷ xs) ≡ []) (sym e) (drop-all xs (length xs) refl)

take-all : (rows : List (ℕ × Counted)) (n : ℕ) → n ≡ length rows → take n rows ≡ rows
take-all [] n e = ap (λ (k : ℕ). take k []) e
take-all (row ∷ rows) n e = subst (λ (k : ℕ). take k (row ∷ rows) ≡ row ∷ rows) (sym e) (ap (λ (rs : List (ℕ × Counted)). row ∷ rs) (take-all rows (length rows) refl))

-- behind the last row, the numbers are the rows' ones exactly if all were taken
pub taken-all : (numbers : List (ℕ × Counted)) (rows at : ℕ) (held : List ℕ) → rows ≡ length numbers → HasTaken rows at numbers held → (at ≡ length held) ↔ ((held ≡ spread numbers) × HaveAPlace numbers)
taken-all numbers rows at held last taken =
    let done : take rows numbers ≡ numbers = take-all numbers rows last in
    let is : held ≡ spread numbers ++ drop at held = taken.taken.is ∙ ap (λ (rs : List (ℕ × Counted)). spread rs ++ drop at held) done in (
      (λ all. (is ∙ ap (λ (rest : List ℕ). spread numbers ++ rest) (drop-all held at all) ∙ append-nil (spread numbers), subst HaveAPlace done taken.taken.some)),
      (λ all.
          let lengths : length held ≡ length (spread numbers) + length (drop at held) = ap (λ (xs : List ℕ). length xs) is ∙ length-append (spread numbers) (drop at held) in
          let whole : length held ≡ length (spread numbers) = ap (λ (xs : List ℕ). length xs) all.0 in
          let left = length-drop at held in
          let fits = taken.within in
          omega arith),
    )

-- ---- what the functions return

-- the test of the numbers in order tells whether each row counts its places
pub held-counts : (numbers : List (ℕ × Counted)) (held run : List ℕ) → IsStrictlySortedBy nat_cmp (keys_of numbers) → IsPermutation held run → IsSorted nat_cmp run → (r : Bool)
    → IsTrue r ↔ ((run ≡ spread numbers) × HaveAPlace numbers) → IsTrue r ↔ AreCounted (number_times held) numbers
held-counts numbers held run sorted moved up r test =
    let order = IsNonDecreasingBy-from_sort (λ (n : ℕ). n) run up in (
      (λ yes'. let is = test.0 yes' in counted-from numbers held run sorted moved order is.0 is.1),
      (λ counted. test.1 (spread-from numbers held run sorted moved order counted, place-from numbers sorted counted.1)),
    )
