-- Where whole characters stop.
use Rattle.std.proofs.Common.{◌≡◌, ℕ, zero, suc, ◌+◌, ◌-◌, ◌<◌, ◌≤◌, true, false, List, [], ◌∷◌, ◌++◌, length, take, refl, sym, ap, subst, ◌∙◌, arith, inl, inr, ⊎_elim, true≢false, length-append}
use Rattle.std.proofs.lemmas.List.{take_all, take-append-le, length-take}
use Rattle.std.proofs.Math.Seq.{take-append_seam, take-append-add, drop-append_seam}
use Rattle.std.proofs.lemmas.Bool.{cases_Bool, cases_lt, cond-true, cond-false, and_parts}
use Rattle.std.proofs.lemmas.Str.{IsUtf8-from_is_utf8, is_utf8-from_IsUtf8, IsUtf8-encode, IsUtf8-drop, IsCharBoundary-from_take, length-encode, len_utf8_bounds}
use Rattle.std.specs.Str.{IsUtf8, IsValidUpTo, is_utf8}
use Rattle.std.specs.Str.Lossy.{valid_len_up_to}
use Rattle.json_spelled.specs.Reading.{IsValidLength}
use Rattle.json_spelled.specs.Feeding.{NoChar}
use lib.Utf8.{scalar, encode, encodes}

-- the longest front of whole characters, of fronts up to this length
longest_front : (bs : List ℕ) (m : ℕ)
    → IsUtf8 (take (valid_len_up_to bs m) bs) × ((k : ℕ) → valid_len_up_to bs m < k → k ≤ m → IsUtf8 (take k bs) → ⊥) × (valid_len_up_to bs m ≤ m)
longest_front bs zero = (([], (refl, refl)), (λ k above within. absurd (omega arith)), omega arith)
longest_front bs (suc m) =
    let rest = longest_front bs m in
    ⊎_elim
    (λ (yes : is_utf8 (take (suc m) bs) ≡ true).
    let is : valid_len_up_to bs (suc m) ≡ suc m = cond-true _ _ _ yes in
    (subst (λ n. IsUtf8 (take n bs)) (sym is) (IsUtf8-from_is_utf8 _ yes), (λ k above within. absurd (omega arith)), omega arith))
    (λ (no : is_utf8 (take (suc m) bs) ≡ false).
    let is : valid_len_up_to bs (suc m) ≡ valid_len_up_to bs m = cond-false _ _ _ no in (
      subst (λ n. IsUtf8 (take n bs)) (sym is) rest.0,
      (λ k above within u. ⊎_elim
          (λ (top : m < k).
          let same : k ≡ suc m = omega arith in
          true≢false (sym (is_utf8-from_IsUtf8 _ (subst (λ n. IsUtf8 (take n bs)) same u)) ∙ no))
          (λ (low : k ≤ m). rest.1 k (omega arith) low u)
          (cases_lt m k)),
      omega (arith, rest.2),
    ))
    (cases_Bool (is_utf8 (take (suc m) bs)))

-- so many bytes at the front are the longest of whole characters
pub front_len : List ℕ → ℕ
front_len bs = valid_len_up_to bs (length bs)

pub front_valid : (bs : List ℕ) → IsValidLength bs (front_len bs)
unfolding front_len
front_valid bs = let f = longest_front bs (length bs) in record {
  within = f.2;
  front = f.0;
  ill = λ less. record {
    short = less;
    front = f.0;
    longest = λ m past u. ⊎_elim
        (λ (l : length bs < m). f.1 (length bs) less (omega arith) (subst IsUtf8 (take_all m bs (omega arith) ∙ sym (take_all (length bs) bs (omega arith))) u))
        (λ (l : m ≤ length bs). f.1 m past l u)
        (cases_lt (length bs) m);
  };
}

-- whole characters at the front are within it
pub front_within : (xs rest : List ℕ) → IsUtf8 xs → length xs ≤ front_len (xs ++ rest)
unfolding front_len
front_within xs rest u = ⊎_elim
    (λ (less : front_len (xs ++ rest) < length xs).
    absurd ((longest_front (xs ++ rest) (length (xs ++ rest))).1 (length xs) less (omega (arith, length-append xs rest)) (subst IsUtf8 (sym (take-append_seam xs rest)) u)))
    (λ (more : length xs ≤ front_len (xs ++ rest)). more)
    (cases_lt (front_len (xs ++ rest)) (length xs))

-- whole characters, and then none
pub ill_behind : (xs more : List ℕ) → IsUtf8 xs → NoChar more → 0 < length more → IsValidUpTo (xs ++ more) (length xs)
ill_behind xs more u none some = record {
  short = omega (arith, length-append xs more);
  front = subst IsUtf8 (sym (take-append_seam xs more)) u;
  longest = λ m past whole.
      let e : length xs + (m - length xs) ≡ m = omega arith in
      let is : take m (xs ++ more) ≡ xs ++ take (m - length xs) more = ap (λ n. take n (xs ++ more)) (sym e) ∙ take-append-add xs more (m - length xs) in
      let text : IsUtf8 (xs ++ take (m - length xs) more) = subst IsUtf8 is whole in
      let cut = IsCharBoundary-from_take (xs ++ take (m - length xs) more) (length xs) text (omega (arith, length-append xs (take (m - length xs) more))) (subst IsUtf8 (sym (take-append_seam xs (take (m - length xs) more))) u) in
      let tail : IsUtf8 (take (m - length xs) more) = subst IsUtf8 (drop-append_seam xs (take (m - length xs) more)) (IsUtf8-drop (xs ++ take (m - length xs) more) (length xs) text cut) in
      ⊎_elim
      (λ (l : m - length xs < length more). none (m - length xs) (omega arith) (omega arith) tail)
      (λ (l : length more ≤ m - length xs). none (length more) some (omega arith) (subst IsUtf8 (take_all (m - length xs) more l ∙ sym (take_all (length more) more (omega arith))) tail))
      (cases_lt (m - length xs) (length more));
}

pub ill_valid : (xs more : List ℕ) → IsUtf8 xs → NoChar more → 0 < length more → IsValidLength (xs ++ more) (length xs)
ill_valid xs more u none some = record {
  within = omega (arith, length-append xs more);
  front = subst IsUtf8 (sym (take-append_seam xs more)) u;
  ill = λ less. ill_behind xs more u none some;
}

-- nothing begins no character
pub none_begun : NoChar []
none_begun = λ n some within u. absurd (omega arith)

-- one byte more, and still no whole character
pub one_more : (xs : List ℕ) (b : ℕ) → NoChar xs → (IsUtf8 (xs ++ b ∷ []) → ⊥) → NoChar (xs ++ b ∷ [])
one_more xs b none not = λ n some within u. ⊎_elim
    (λ (l : n ≤ length xs). none n some l (subst IsUtf8 (take-append-le n xs (b ∷ []) l) u))
    (λ (l : length xs < n). not (subst IsUtf8 (take_all n (xs ++ b ∷ []) (omega (arith, length-append xs (b ∷ [])))) u))
    (⊎_elim (λ (l : length xs < n). inr l) (λ (l : n ≤ length xs). inl l) (cases_lt (length xs) n))

-- where there are four bytes, what comes behind them makes no character of them
front_char : (xs : List ℕ) → 0 < length xs → IsUtf8 xs → (k : ℕ) × (0 < k) × (k ≤ 4) × (k ≤ length xs) × IsUtf8 (take k xs)
front_char xs some ([], (all, e)) = absurd (omega (arith, ap length e))
front_char xs some (c ∷ cs, (all, e)) =
    let ok : scalar c ≡ true = (and_parts _ _ all).0 in
    let k = length (encode c) in
    let b = len_utf8_bounds c in
    let is : encode c ++ encodes cs ≡ xs = e in
    let front : take k xs ≡ encode c = ap (take k) (sym is) ∙ take-append_seam (encode c) (encodes cs) in
    (k, omega (arith, length-encode c), omega (arith, length-encode c), omega (arith, ap length is, length-append (encode c) (encodes cs)), subst IsUtf8 (sym front) (IsUtf8-encode c ok))

take_take : (i j : ℕ) (xs : List ℕ) → i ≤ j → take i (take j xs) ≡ take i xs
take_take zero j xs h = refl
take_take (suc i) zero xs h = absurd (omega arith)
take_take (suc i) (suc j) [] h = refl
take_take (suc i) (suc j) (x ∷ xs) h = ap (λ (l : List ℕ). x ∷ l) (take_take i j xs (omega arith))

pub never_whole : (xs rest : List ℕ) → NoChar xs → 4 ≤ length xs → NoChar (xs ++ rest)
never_whole xs rest none four = λ n some within u.
    let long : 0 < length (take n (xs ++ rest)) = omega (arith, length-take n (xs ++ rest)) in
    let c = front_char (take n (xs ++ rest)) long u in
    let low : c.0 ≤ n = omega (arith, c.3, length-take n (xs ++ rest)) in
    let is : take c.0 (take n (xs ++ rest)) ≡ take c.0 xs = take_take c.0 n (xs ++ rest) low ∙ take-append-le c.0 xs rest (omega (arith, c.2)) in
    none c.0 c.1 (omega (arith, c.2)) (subst IsUtf8 is c.4)
