-- Sets as masks, and as lists of flags.
use Rattle.std.proofs.Common.{◌≡◌, ℕ, zero, suc, ◌+◌, ◌-◌, ◌*◌, ◌/◌, ◌%◌, ◌^◌, ◌<◌, ◌≤◌, min, max, Bool, true, false, cond, not, ◌==◌, ◌&&◌, ◌||◌, List, [], ◌∷◌, map, length, bit_and, bit_or, bit_xor, refl, sym, ap, subst, ◌∙◌, add-one, arith, ◌⊎◌, inl, inr, ⊎_elim}
use Rattle.std.specs.List.{Contains, list_any}
use Rattle.std.specs.Int.{bit_at}
use Rattle.std.specs.Int.Bits.{or_add_and}
use Rattle.std.proofs.lemmas.List.{length-map}
use Rattle.std.proofs.lemmas.Nat.Bits.{bit_at_and, bit_at_or, bit_at_xor, bit_at-lt, bit_at-zero, bit_at_lowest, bit_at-suc, same_from_bits, same_from_bits_below, bit_at_above, bit_at_ones}
use Rattle.std.proofs.lemmas.Bool.{true≢false, false≢true, cases_eq, cases_lt, eq-eqb, eqb-true, eqb-false, or_parts}
use Rattle.std.proofs.lemmas.Bool.Decides.{nat_tests}
use Rattle.best_first.proofs.Histories.{contains_head}
use Rattle.group_search.proofs.Members.{contains-none, contains-later, contains-cases}
use Rattle.group_sum.specs.Sets.{has_word, flags_from, flagged, in_set}
use Rattle.group_sum.specs.Splits.{sides_of}
use Rattle.group_sum.proofs.Joins.{others}

-- ---- bits

sub-one : (a b : ℕ) → a < 2 → b < 2 → min a b ≡ a → (a == 1) ≡ true → (b == 1) ≡ true
sub-one a b l m e h = grind (arith, nat_tests)

rest-one : (a b : ℕ) → a < 2 → b < 2 → min b a ≡ b → ((a + b) % 2 == 1) ≡ (a == 1 && not (b == 1))
rest-one a b l m e = grind (arith, nat_tests)

min-from : (a b : ℕ) → a < 2 → b < 2 → ((a == 1) ≡ true → (b == 1) ≡ true) → min a b ≡ a
min-from a b l m h = ⊎_elim
    (λ (e : a ≡ 1). let f : b ≡ 1 = eqb-true b 1 (h (eq-eqb a 1 e)) in omega arith)
    (λ ne. let e : a ≡ 0 = omega arith in omega arith)
    (cases_eq a 1)

module _ (set part : ℕ) (within : bit_and part set ≡ part) where
  bit-within : (i : ℕ) → min (bit_at part i) (bit_at set i) ≡ bit_at part i
  bit-within i = sym (bit_at_and part set i) ∙ ap (λ n. bit_at n i) within

  -- a word of the part is one of the set
  pub word-within : (i : ℕ) → has_word part i ≡ true → has_word set i ≡ true
  word-within i = sub-one (bit_at part i) (bit_at set i) (bit_at-lt part i) (bit_at-lt set i) (bit-within i)

  -- the rest has the others
  pub word-rest : (i : ℕ) → has_word (bit_xor set part) i ≡ (has_word set i && not (has_word part i))
  word-rest i =
      ap (λ (n : ℕ). n == 1) (bit_at_xor set part i)
      ∙ rest-one (bit_at set i) (bit_at part i) (bit_at-lt set i) (bit_at-lt part i) (bit-within i)

  rest-bit : (i : ℕ) → bit_at (bit_xor set part) i ≡ bit_at set i - bit_at part i
  rest-bit i =
      let a : bit_at (bit_xor set part) i ≡ (bit_at set i + bit_at part i) % 2 = bit_at_xor set part i in
      let b = bit-within i in
      let c = bit_at-lt set i in
      let d = bit_at-lt part i in
      omega arith

  -- a part and the rest add up to the set
  pub rest-sum : part + bit_xor set part ≡ set
  rest-sum =
      let rest : ℕ = bit_xor set part in
      let both : bit_and rest part ≡ 0 = same_from_bits (bit_and rest part) 0 (λ i.
      let a = bit_at_and rest part i in let b = rest-bit i in let c = bit-within i in let d = bit_at-lt set i in let e = bit_at-lt part i in let f = bit_at-zero i in omega arith) in
      let either : bit_or rest part ≡ set = same_from_bits (bit_or rest part) set (λ i.
      let a = bit_at_or rest part i in let b = rest-bit i in let c = bit-within i in let d = bit_at-lt set i in let e = bit_at-lt part i in omega arith) in
      omega (arith, or_add_and rest part)

  -- the rest is a part, too
  pub rest-within : bit_and (bit_xor set part) set ≡ bit_xor set part
  rest-within = same_from_bits (bit_and (bit_xor set part) set) (bit_xor set part) (λ i.
      let a = bit_at_and (bit_xor set part) set i in let b = rest-bit i in let c = bit-within i in let d = bit_at-lt set i in let e = bit_at-lt part i in omega arith)

-- the rest of the rest is the part
pub rest-rest : (set part : ℕ) → bit_and part set ≡ part → bit_xor set (bit_xor set part) ≡ part
rest-rest set part within =
    omega (arith, rest-sum set part within, rest-sum set (bit_xor set part) (rest-within set part within))

-- ---- flags

-- a list of flags has none that another one lacks
abbrev pub IsSub : List Bool → List Bool → Type 0
IsSub [] [] = Unit {0}
IsSub [] (c ∷ part) = ⊥
IsSub (b ∷ set) [] = ⊥
IsSub (b ∷ set) (c ∷ part) = (c ≡ true → b ≡ true) × IsSub set part

-- the flags that another list lacks
abbrev pub minus : List Bool → List Bool → List Bool
minus [] part = []
minus (b ∷ set) [] = []
minus (b ∷ set) (c ∷ part) = (b && not c) ∷ minus set part

pub flags-sub : (set part : ℕ) → bit_and part set ≡ part → (n i : ℕ) → IsSub (flags_from set i n) (flags_from part i n)
flags-sub set part within zero i = tt
flags-sub set part within (suc n) i = (word-within set part within i, flags-sub set part within n (i + 1))

flags-rest : (set part : ℕ) → bit_and part set ≡ part → (n i : ℕ) → flags_from (bit_xor set part) i n ≡ minus (flags_from set i n) (flags_from part i n)
flags-rest set part within zero i = refl
flags-rest set part within (suc n) i = let a = word-rest set part within i in let b = flags-rest set part within n (i + 1) in cc

pub flagged-none : {X : Type 0} (flags : List Bool) → flagged {X = X} flags [] ≡ []
flagged-none [] = refl
flagged-none (b ∷ flags) = refl

sub-flagged : {X : Type 0} (set part : List Bool) (xs : List X) → IsSub set part → flagged (flagged set part) (flagged set xs) ≡ flagged part xs
sub-flagged [] [] xs h = refl
sub-flagged [] (c ∷ part) xs h = absurd h
sub-flagged (b ∷ set) [] xs h = absurd h
sub-flagged (true ∷ set) (c ∷ part) [] h = refl
sub-flagged {X} (false ∷ set) (c ∷ part) [] h = flagged-none {X = X} (flagged set part)
sub-flagged (true ∷ set) (true ∷ part) (x ∷ xs) h = ap (λ l. x ∷ l) (sub-flagged set part xs h.1)
sub-flagged (true ∷ set) (false ∷ part) (x ∷ xs) h = sub-flagged set part xs h.1
sub-flagged (false ∷ set) (true ∷ part) (x ∷ xs) h = absurd (false≢true (h.0 refl))
sub-flagged (false ∷ set) (false ∷ part) (x ∷ xs) h = sub-flagged set part xs h.1

rest-flagged : {X : Type 0} (set part : List Bool) (xs : List X) → IsSub set part → flagged (others (flagged set part)) (flagged set xs) ≡ flagged (minus set part) xs
rest-flagged [] [] xs h = refl
rest-flagged [] (c ∷ part) xs h = absurd h
rest-flagged (b ∷ set) [] xs h = absurd h
rest-flagged (true ∷ set) (c ∷ part) [] h = refl
rest-flagged {X} (false ∷ set) (c ∷ part) [] h = flagged-none {X = X} (others (flagged set part))
rest-flagged (true ∷ set) (true ∷ part) (x ∷ xs) h = rest-flagged set part xs h.1
rest-flagged (true ∷ set) (false ∷ part) (x ∷ xs) h = ap (λ l. x ∷ l) (rest-flagged set part xs h.1)
rest-flagged (false ∷ set) (true ∷ part) (x ∷ xs) h = absurd (false≢true (h.0 refl))
rest-flagged (false ∷ set) (false ∷ part) (x ∷ xs) h = rest-flagged set part xs h.1

-- of what a list has for a set, the sides of a part take what it has for the part
pub part-in : {X : Type 0} (set part : ℕ) (xs : List X) → bit_and part set ≡ part → flagged (sides_of (length xs) set part) (in_set set xs) ≡ in_set part xs
part-in set part xs within = sub-flagged (flags_from set 0 (length xs)) (flags_from part 0 (length xs)) xs (flags-sub set part within (length xs) 0)

-- and leave what it has for the rest
pub rest-in : {X : Type 0} (set part : ℕ) (xs : List X) → bit_and part set ≡ part → flagged (others (sides_of (length xs) set part)) (in_set set xs) ≡ in_set (bit_xor set part) xs
rest-in set part xs within =
    rest-flagged (flags_from set 0 (length xs)) (flags_from part 0 (length xs)) xs (flags-sub set part within (length xs) 0)
    ∙ ap (λ f. flagged f xs) (sym (flags-rest set part within (length xs) 0))

-- the sides of the rest are the other ones
pub rest-sides : (count set part : ℕ) → bit_and part set ≡ part → sides_of count set (bit_xor set part) ≡ others (sides_of count set part)
rest-sides count set part within =
    ap (flagged (flags_from set 0 count)) (flags-rest set part within count 0) ∙ turned (flags_from set 0 count) (flags_from part 0 count)
  where
    turned : (f g : List Bool) → flagged f (minus f g) ≡ others (flagged f g)
    turned [] g = refl
    turned (true ∷ f) [] = refl
    turned (false ∷ f) [] = refl
    turned (true ∷ f) (c ∷ g) = ap (λ l. not c ∷ l) (turned f g)
    turned (false ∷ f) (c ∷ g) = turned f g

pub flags-length : (mask n i : ℕ) → length (flags_from mask i n) ≡ n
flags-length mask zero i = refl
flags-length mask (suc n) i = let ih = flags-length mask n (i + 1) in omega arith

-- ---- the part of given sides

-- flags of a set's words, by their sides
abbrev pub spread : List Bool → List Bool → List Bool
spread [] sides = []
spread (false ∷ set) sides = false ∷ spread set sides
spread (true ∷ set) [] = false ∷ spread set []
spread (true ∷ set) (s ∷ sides) = s ∷ spread set sides

spread-length : (set sides : List Bool) → length (spread set sides) ≡ length set
spread-length [] sides = refl
spread-length (false ∷ set) sides = let ih = spread-length set sides in omega arith
spread-length (true ∷ set) [] = let ih = spread-length set [] in omega arith
spread-length (true ∷ set) (s ∷ sides) = let ih = spread-length set sides in omega arith

spread-sub : (set sides : List Bool) → IsSub set (spread set sides)
spread-sub [] sides = tt
spread-sub (false ∷ set) sides = (λ e. e, spread-sub set sides)
spread-sub (true ∷ set) [] = (λ e. refl, spread-sub set [])
spread-sub (true ∷ set) (s ∷ sides) = (λ e. refl, spread-sub set sides)

spread-sides : {X : Type 0} (set : List Bool) (xs : List X) (sides : List Bool) → length set ≡ length xs → length sides ≡ length (flagged set xs) → flagged set (spread set sides) ≡ sides
spread-sides [] xs [] e l = refl
spread-sides [] xs (s ∷ sides) e l = absurd (omega arith)
spread-sides (b ∷ set) [] sides e l = absurd (omega arith)
spread-sides (true ∷ set) (x ∷ xs) [] e l = absurd (omega arith)
spread-sides (true ∷ set) (x ∷ xs) (s ∷ sides) e l = ap (λ f. s ∷ f) (spread-sides set xs sides (omega arith) (omega arith))
spread-sides (false ∷ set) (x ∷ xs) sides e l = spread-sides set xs sides (omega arith) l

-- the mask of some flags
abbrev pub mask_of : List Bool → ℕ
mask_of [] = 0
mask_of (b ∷ flags) = cond b 1 0 + 2 * mask_of flags

mask-below : (flags : List Bool) → mask_of flags < 2 ^ length flags
mask-below [] = omega arith
mask-below (true ∷ flags) = let ih = mask-below flags in let p : 2 ^ suc (length flags) ≡ 2 * 2 ^ length flags = omega arith in omega arith
mask-below (false ∷ flags) = let ih = mask-below flags in let p : 2 ^ suc (length flags) ≡ 2 * 2 ^ length flags = omega arith in omega arith

halved : (mask n i : ℕ) → flags_from mask (i + 1) n ≡ flags_from (mask / 2) i n
halved mask zero i = refl
halved mask (suc n) i =
    let a : has_word mask (i + 1) ≡ has_word (mask / 2) i = ap (λ (n : ℕ). n == 1) (ap (bit_at mask) (add-one i) ∙ bit_at-suc mask i) in
    let b = halved mask n (i + 1) in cc

first-bit : (b : Bool) (n : ℕ) → has_word (cond b 1 0 + 2 * n) 0 ≡ b
first-bit true n = ap (λ (k : ℕ). k == 1) (let a = bit_at_lowest (1 + 2 * n) in let c : (1 + 2 * n) % 2 ≡ 1 = omega arith in a ∙ c)
first-bit false n = ap (λ (k : ℕ). k == 1) (let a = bit_at_lowest (0 + 2 * n) in let c : (0 + 2 * n) % 2 ≡ 0 = omega arith in a ∙ c)

later-bits : (b : Bool) (n : ℕ) → (cond b 1 0 + 2 * n) / 2 ≡ n
later-bits true n = omega arith
later-bits false n = omega arith

flags-mask : (flags : List Bool) → flags_from (mask_of flags) 0 (length flags) ≡ flags
flags-mask [] = refl
flags-mask (b ∷ flags) =
    let a = first-bit b (mask_of flags) in
    let c : flags_from (cond b 1 0 + 2 * mask_of flags) 1 (length flags) ≡ flags =
    halved (cond b 1 0 + 2 * mask_of flags) (length flags) 0 ∙ ap (λ n. flags_from n 0 (length flags)) (later-bits b (mask_of flags)) ∙ flags-mask flags in
    cc

sub-at : (set part n i k : ℕ) → IsSub (flags_from set i n) (flags_from part i n) → i ≤ k → k < i + n → has_word part k ≡ true → has_word set k ≡ true
sub-at set part zero i k h le lt t = absurd (omega arith)
sub-at set part (suc n) i k h le lt t = ⊎_elim
    (λ (e : i ≡ k). subst (λ j. has_word set j ≡ true) e (h.0 (subst (λ j. has_word part j ≡ true) (sym e) t)))
    (λ ne. sub-at set part n (i + 1) k h.1 (omega arith) (omega arith) t)
    (cases_eq i k)

within-from : (set part count : ℕ) → part < 2 ^ count → IsSub (flags_from set 0 count) (flags_from part 0 count) → bit_and part set ≡ part
within-from set part count below sub = same_from_bits (bit_and part set) part (λ i. ⊎_elim
    (λ (lt : i < count). bit_at_and part set i ∙ min-from (bit_at part i) (bit_at set i) (bit_at-lt part i) (bit_at-lt set i) (sub-at set part count 0 i sub (omega arith) (omega arith)))
    (λ (le : count ≤ i). let a = bit_at_and part set i in let b = bit_at_above part count i below le in omega arith)
    (cases_lt i count))

-- for all sides of a set's words there is a part of it that has them
pub part-of : {X : Type 0} (set : ℕ) (xs : List X) (sides : List Bool) → length sides ≡ length (in_set set xs) → (part : ℕ) × (bit_and part set ≡ part) × (sides_of (length xs) set part ≡ sides)
part-of set xs sides sized =
    let flags : List Bool = flags_from set 0 (length xs) in
    let wide : length flags ≡ length xs = flags-length set (length xs) 0 in
    let part : ℕ = mask_of (spread flags sides) in
    let as_long : length (spread flags sides) ≡ length xs = spread-length flags sides ∙ wide in
    let is : flags_from part 0 (length xs) ≡ spread flags sides = ap (flags_from part 0) (sym as_long) ∙ flags-mask (spread flags sides) in
    let below : part < 2 ^ length xs = subst (λ n. part < 2 ^ n) as_long (mask-below (spread flags sides)) in (
      part,
      within-from set part (length xs) below (subst (IsSub flags) (sym is) (spread-sub flags sides)),
      ap (flagged flags) is ∙ spread-sides flags xs sides wide sized,
    )

-- ---- sets that have a word

-- one of some flags is set
abbrev pub has_flag : List Bool → Bool
has_flag flags = list_any (λ flag. flag) flags

no-flag : (f : List Bool) (n i : ℕ) → has_flag (flagged f (flags_from 0 i n)) ≡ false
no-flag [] n i = refl
no-flag (b ∷ f) zero i = refl
no-flag (true ∷ f) (suc n) i = let a : has_word 0 i ≡ false = ap (λ (n : ℕ). n == 1) (bit_at-zero i) in rw a (no-flag f n (i + 1))
no-flag (false ∷ f) (suc n) i = no-flag f n (i + 1)

-- a part that a word is in isn't empty
pub some-part : (count set part : ℕ) → has_flag (sides_of count set part) ≡ true → 0 < part
some-part count set zero h = absurd (true≢false (sym h ∙ no-flag (flags_from set 0 count) count 0))
some-part count set (suc part) h = omega arith

none-at : (set n i k : ℕ) → has_flag (flags_from set i n) ≡ false → i ≤ k → k < i + n → has_word set k ≡ false
none-at set zero i k h le lt = absurd (omega arith)
none-at set (suc n) i k h le lt = ⊎_elim
    (λ (e : i ≡ k). subst (λ j. has_word set j ≡ false) e (or_parts (has_word set i) (has_flag (flags_from set (i + 1) n)) h).0)
    (λ ne. none-at set n (i + 1) k (or_parts (has_word set i) (has_flag (flags_from set (i + 1) n)) h).1 (omega arith) (omega arith))
    (cases_eq i k)

none-flagged : {X : Type 0} (flags : List Bool) (xs : List X) → length flags ≡ length xs → flagged flags xs ≡ [] → has_flag flags ≡ false
none-flagged [] xs e h = refl
none-flagged (b ∷ flags) [] e h = absurd (omega arith)
none-flagged (true ∷ flags) (x ∷ xs) e h = absurd (cc)
none-flagged (false ∷ flags) (x ∷ xs) e h = none-flagged flags xs (omega arith) h

-- a set of some of the words has something of each list of them
pub set-some : {X : Type 0} (set : ℕ) (xs : List X) → 0 < set → set < 2 ^ length xs → in_set set xs ≡ [] → ⊥
set-some set xs some below none =
    let clear : has_flag (flags_from set 0 (length xs)) ≡ false = none-flagged (flags_from set 0 (length xs)) xs (flags-length set (length xs) 0) none in
    let zero : set ≡ 0 = same_from_bits_below (length xs) set 0 below (omega arith) (λ i lt.
    let a : has_word set i ≡ false = none-at set (length xs) 0 i clear (omega arith) (omega arith) in
    let b = bit_at-zero i in let c = bit_at-lt set i in let d = eqb-false (bit_at set i) 1 a in omega arith) in
    omega arith

-- a part of a set is no longer for one list than for another
pub flagged-lengths : {X Y : Type 0} (flags : List Bool) (xs : List X) (ys : List Y) → length xs ≡ length ys → length (flagged flags xs) ≡ length (flagged flags ys)
flagged-lengths [] xs ys e = refl
flagged-lengths (b ∷ flags) [] [] e = refl
flagged-lengths (b ∷ flags) [] (y ∷ ys) e = absurd (omega arith)
flagged-lengths (b ∷ flags) (x ∷ xs) [] e = absurd (omega arith)
flagged-lengths (true ∷ flags) (x ∷ xs) (y ∷ ys) e = let ih = flagged-lengths flags xs ys (omega arith) in omega arith
flagged-lengths (false ∷ flags) (x ∷ xs) (y ∷ ys) e = flagged-lengths flags xs ys (omega arith)

-- a set has a side for each of its words
pub sides-length : {X : Type 0} (set part : ℕ) (xs : List X) → length (sides_of (length xs) set part) ≡ length (in_set set xs)
sides-length set part xs = flagged-lengths (flags_from set 0 (length xs)) (flags_from part 0 (length xs)) xs (flags-length part (length xs) 0)

-- ---- lists of a set

flagged-map : {X Y : Type 0} (f : X → Y) (flags : List Bool) (xs : List X) → flagged flags (map f xs) ≡ map f (flagged flags xs)
flagged-map f [] xs = refl
flagged-map f (b ∷ flags) [] = refl
flagged-map f (true ∷ flags) (x ∷ xs) = ap (λ l. f x ∷ l) (flagged-map f flags xs)
flagged-map f (false ∷ flags) (x ∷ xs) = flagged-map f flags xs

-- what a set has of what each becomes
pub in-set-map : {X Y : Type 0} (f : X → Y) (set : ℕ) (xs : List X) → in_set set (map f xs) ≡ map f (in_set set xs)
in-set-map f set xs = ap (λ n. flagged (flags_from set 0 n) (map f xs)) (length-map xs f) ∙ flagged-map f (flags_from set 0 (length xs)) xs

full-from : {X : Type 0} (set n i : ℕ) (xs : List X) → ((k : ℕ) → k < i + n → has_word set k ≡ true) → n ≡ length xs → flagged (flags_from set i n) xs ≡ xs
full-from set zero i [] h e = refl
full-from set zero i (x ∷ xs) h e = absurd (omega arith)
full-from set (suc n) i [] h e = absurd (omega arith)
full-from set (suc n) i (x ∷ xs) h e = rw (h i (omega arith)) (ap (λ l. x ∷ l) (full-from set n (i + 1) xs (λ k lt. h k (omega arith)) (omega arith)))

-- the set of all words has all
pub in-set-full : {X : Type 0} (xs : List X) → in_set (2 ^ length xs - 1) xs ≡ xs
in-set-full xs = full-from (2 ^ length xs - 1) (length xs) 0 xs (λ k lt. ap (λ (n : ℕ). n == 1) (bit_at_ones (length xs) k (omega arith))) refl

-- what a part of a list has, the list has
pub contains-flagged : {X : Type 0} (flags : List Bool) (xs : List X) (x : X) → Contains (flagged flags xs) x → Contains xs x
contains-flagged [] xs x c = absurd (contains-none x c)
contains-flagged (b ∷ flags) [] x c = absurd (contains-none x c)
contains-flagged (true ∷ flags) (y ∷ xs) x c = ⊎_elim
    (λ (e : y ≡ x). subst (Contains (y ∷ xs)) e (contains_head y xs))
    (λ (l : Contains (flagged flags xs) x). contains-later y xs x (contains-flagged flags xs x l))
    (contains-cases y (flagged flags xs) x c)
contains-flagged (false ∷ flags) (y ∷ xs) x c = contains-later y xs x (contains-flagged flags xs x c)
