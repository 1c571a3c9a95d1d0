-- Pairs, and the bytes of them.
use Rattle.std.proofs.Common.{◌≡◌, ℕ, ◌+◌, ◌*◌, ◌<◌, ◌≤◌, ◌↔◌, Bool, true, false, IsTrue, nat_lt, List, [], ◌∷◌, ◌++◌, length, take, drop, set, get_or, All, ⊎_elim, refl, sym, ap, subst, ◌∙◌, true≢false, arith}
use Rattle.std.proofs.Math.Seq.{take-add}
use Rattle.std.proofs.lemmas.Bool.{cases_eq, ltb-true, lt-ltb}
use Rattle.std.proofs.lemmas.List.{flat_map_more, get_or-drop, get_or-map, get_or-set_other, get_or-set_same, length-drop, length-map, take_more, take_more_set}
use Rattle.std.proofs.lemmas.List.Elements.{All-head, All-tail}
use Rattle.std.proofs.lemmas.Nat.{from_be_bytes-to_be_bytes_8}
use Rattle.std.specs.Int.{from_be_bytes, to_be_bytes, w64}
use Rattle.std.specs.List.{IsAllAdjacentAnswer, flat_map}
use Rattle.std.specs.List.Sorted.{IsStrictlyIncreasing}
use Rattle.std.specs.Map.{keys_of}
use Rattle.row_codec.specs.Pairs.{Pair, IsPair, pair_bytes}

number_at : (pairs : List Pair) (k : ℕ) → k < length pairs → get_or (keys_of pairs) k 0 ≡ (get_or pairs k (0, 0)).0
number_at pairs k inside = get_or-map (λ (p : Pair). p.0) pairs k (0, 0) 0 inside

-- the answer of a test of each number and the next
pub ascending_answer : (pairs : List Pair) (r : Bool) → IsAllAdjacentAnswer (λ p q b. b ≡ nat_lt p.0 q.0) pairs r → IsTrue r ↔ IsStrictlyIncreasing (keys_of pairs)
ascending_answer pairs true adjacent = (
  λ _ k lt.
      let inside : k + 1 < length pairs = subst (λ n. k + 1 < n) (length-map pairs (λ p. p.0)) lt in
      let here = number_at pairs k (omega arith) in
      let next = number_at pairs (k + 1) inside in
      let less : (get_or pairs k (0, 0)).0 < (get_or pairs (k + 1) (0, 0)).0 = ltb-true _ _ (sym (adjacent k (0, 0) inside)) in
      let is : get_or (keys_of pairs) k 0 < get_or (keys_of pairs) (k + 1) 0 = rw (here, next) less in is,
  λ _. refl,
)
ascending_answer pairs false fails = (
  λ h. absurd (true≢false (sym h)),
  λ sorted.
      let inside : fails.0 + 1 < length (keys_of pairs) = subst (λ n. fails.0 + 1 < n) (sym (length-map pairs (λ p. p.0))) fails.1 in
      let step : get_or (keys_of pairs) fails.0 0 < get_or (keys_of pairs) (fails.0 + 1) 0 = sorted fails.0 inside in
      let here = number_at pairs fails.0 (omega arith) in
      let next = number_at pairs (fails.0 + 1) fails.1 in
      let less : (get_or pairs fails.0 (0, 0)).0 < (get_or pairs (fails.0 + 1) (0, 0)).0 = rw (here, next) at step in
      absurd (true≢false (sym (fails.2 (0, 0) ∙ lt-ltb _ _ less))),
)

-- a pair's bytes tell it
pair_bytes-same : (p q : Pair) → IsPair p → IsPair q → pair_bytes p ≡ pair_bytes q → p ≡ q
unfolding pair_bytes
pair_bytes-same p q fits other same =
    let number : p.0 ≡ q.0 =
    sym (from_be_bytes-to_be_bytes_8 p.0 fits.0) ∙ ap (λ (l : List ℕ). from_be_bytes w64 (take 8 l)) same ∙ from_be_bytes-to_be_bytes_8 q.0 other.0 in
    let impact : p.1 ≡ q.1 = ap (λ (l : List ℕ). get_or l 8 0) same in
    λ i. (number i, impact i)

first_pair : (p : Pair) (rest : List ℕ) → take 9 (pair_bytes p ++ rest) ≡ pair_bytes p
unfolding pair_bytes
first_pair p rest = refl

rest_behind : (p : Pair) (rest : List ℕ) → drop 9 (pair_bytes p ++ rest) ≡ rest
unfolding pair_bytes
rest_behind p rest = refl

-- and so do those of as many pairs
pub pairs-same : (ps qs : List Pair) → length ps ≡ length qs → All IsPair ps → All IsPair qs → flat_map pair_bytes ps ≡ flat_map pair_bytes qs → ps ≡ qs
pairs-same [] [] size fits others same = refl
pairs-same [] (q ∷ qs) size fits others same = absurd (omega arith)
pairs-same (p ∷ ps) [] size fits others same = absurd (omega arith)
pairs-same (p ∷ ps) (q ∷ qs) size fits others same =
    let bytes : pair_bytes p ≡ pair_bytes q =
    sym (first_pair p (flat_map pair_bytes ps)) ∙ ap (λ (l : List ℕ). take 9 l) same ∙ first_pair q (flat_map pair_bytes qs) in
    let left : flat_map pair_bytes ps ≡ flat_map pair_bytes qs =
    sym (rest_behind p (flat_map pair_bytes ps)) ∙ ap (λ (l : List ℕ). drop 9 l) same ∙ rest_behind q (flat_map pair_bytes qs) in
    let here = pair_bytes-same p q (All-head IsPair p ps fits) (All-head IsPair q qs others) bytes in
    let rest = pairs-same ps qs (omega arith) (All-tail IsPair p ps fits) (All-tail IsPair q qs others) left in
    λ i. here i ∷ rest i

-- as many bytes as pairs, nine times
pub length-pairs : (ps : List Pair) → length (flat_map pair_bytes ps) ≡ 9 * length ps
unfolding pair_bytes
length-pairs [] = refl
length-pairs (p ∷ ps) = let rest = length-pairs ps in omega arith

-- a number's bytes and one byte more are those of a pair
pub pair_read : (xs : List ℕ) (at n : ℕ) → at + 9 ≤ length xs → to_be_bytes w64 n ≡ take 8 (drop at xs) → pair_bytes (n, get_or xs (at + 8) 0) ≡ take 9 (drop at xs)
unfolding pair_bytes
pair_read xs at n fits is =
    let size : 8 < length (drop at xs) = rw (length-drop at xs) (omega arith) in
    ap (λ (l : List ℕ). l ++ get_or xs (at + 8) 0 ∷ []) is
    ∙ ap (λ (b : ℕ). take 8 (drop at xs) ++ b ∷ []) (sym (get_or-drop at xs 8 0))
    ∙ sym (take_more (drop at xs) 8 0 size)

-- one pair more
pub pairs_more : (ps : List Pair) (xs : List ℕ) (i : ℕ) (p : Pair) → i < length ps → flat_map pair_bytes (take i ps) ≡ take (9 * i) xs → pair_bytes p ≡ take 9 (drop (9 * i) xs)
    → flat_map pair_bytes (take (i + 1) (set ps i p)) ≡ take (9 * (i + 1)) xs
pairs_more ps xs i p inside so_far here =
    let step : 9 * (i + 1) ≡ 9 * i + 9 = omega arith in
    ap (λ (l : List Pair). flat_map pair_bytes l) (take_more_set ps i p inside)
    ∙ sym (flat_map_more pair_bytes [] (take i ps) p)
    ∙ ap (λ (l : List ℕ). l ++ pair_bytes p) so_far
    ∙ ap (λ (l : List ℕ). take (9 * i) xs ++ l) here
    ∙ sym (take-add (9 * i) 9 xs)
    ∙ ap (λ (n : ℕ). take n xs) (sym step)

-- and each up to it fits
pub pairs_fit_more : (ps : List Pair) (i : ℕ) (p : Pair) → i < length ps → ((k : ℕ) (d : Pair) → k < i → IsPair (get_or ps k d)) → IsPair p
    → (k : ℕ) (d : Pair) → k < i + 1 → IsPair (get_or (set ps i p) k d)
pairs_fit_more ps i p inside so_far here k d lt = ⊎_elim
    (λ (same : k ≡ i). subst (λ n. IsPair (get_or (set ps i p) n d)) (sym same) (subst IsPair (sym (get_or-set_same ps i p d inside)) here))
    (λ (other : k ≡ i → ⊥). subst IsPair (sym (get_or-set_other ps i k p d other)) (so_far k d (omega arith)))
    (cases_eq k i)
