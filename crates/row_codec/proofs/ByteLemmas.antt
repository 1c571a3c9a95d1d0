-- Numbers that are read from bytes.
use Rattle.std.proofs.Common.{◌≡◌, ℕ, zero, suc, ◌+◌, ◌<◌, ◌≤◌, List, [], ◌∷◌, length, take, drop, get_or, sym, ap, ◌∙◌, arith}
use Rattle.std.proofs.Math.Seq.{drop-cons}
use Rattle.std.proofs.lemmas.List.{get_or-drop, length-drop, length-take-le}
use Rattle.std.proofs.lemmas.Nat.{be_bytes_4, be_bytes_8}
use Rattle.std.specs.Int.{from_be_bytes, to_be_bytes, w32, w64}

-- each is a byte
abbrev pub AreBytes : List ℕ → Type 0
AreBytes xs = (i : ℕ) → get_or xs i 0 < 256

bytes-take : (n : ℕ) (xs : List ℕ) → AreBytes xs → AreBytes (take n xs)
bytes-take zero xs small i = omega arith
bytes-take (suc n) [] small i = small i
bytes-take (suc n) (x ∷ xs) small zero = small 0
bytes-take (suc n) (x ∷ xs) small (suc i) = bytes-take n xs (λ j. small (suc j)) i

bytes-drop : (n : ℕ) (xs : List ℕ) → AreBytes xs → AreBytes (drop n xs)
bytes-drop n xs small i = rw (get_or-drop n xs i 0) (small (n + i))

-- the first byte of a part, and those behind it
pub part-cons : (xs : List ℕ) (i j n : ℕ) → i < length xs → suc i ≡ j → take (suc n) (drop i xs) ≡ get_or xs i 0 ∷ take n (drop j xs)
part-cons xs i j n inside next =
    ap (λ (l : List ℕ). take (suc n) l) (drop-cons xs i 0 inside) ∙ ap (λ (k : ℕ). get_or xs i 0 ∷ take n (drop k xs)) next

-- four bytes one after another
four : (xs : List ℕ) (at : ℕ) → at + 4 ≤ length xs
    → get_or xs at 0 ∷ (get_or xs (at + 1) 0 ∷ (get_or xs (at + 2) 0 ∷ (get_or xs (at + 3) 0 ∷ []))) ≡ take 4 (drop at xs)
four xs at fits = sym (
    part-cons xs at (at + 1) 3 (omega arith) (omega arith)
    ∙ ap (λ (l : List ℕ). get_or xs at 0 ∷ l) (part-cons xs (at + 1) (at + 2) 2 (omega arith) (omega arith)
    ∙ ap (λ (l : List ℕ). get_or xs (at + 1) 0 ∷ l) (part-cons xs (at + 2) (at + 3) 1 (omega arith) (omega arith)
    ∙ ap (λ (l : List ℕ). get_or xs (at + 2) 0 ∷ l) (part-cons xs (at + 3) (at + 4) 0 (omega arith) (omega arith)))))

-- the number of four bytes has them
pub word_read : (xs : List ℕ) (at n : ℕ) → at + 4 ≤ length xs → AreBytes xs
    → n ≡ from_be_bytes w32 (get_or xs at 0 ∷ (get_or xs (at + 1) 0 ∷ (get_or xs (at + 2) 0 ∷ (get_or xs (at + 3) 0 ∷ []))))
    → to_be_bytes w32 n ≡ take 4 (drop at xs)
word_read xs at n fits small is =
    let size : 4 ≤ length (drop at xs) = rw (length-drop at xs) (omega arith) in
    be_bytes_4 (take 4 (drop at xs)) n (length-take-le 4 (drop at xs) size) (bytes-take 4 (drop at xs) (bytes-drop at xs small))
    (is ∙ ap (λ (l : List ℕ). from_be_bytes w32 l) (four xs at fits))

-- eight bytes one after another
eight : (xs : List ℕ) (at : ℕ) → at + 8 ≤ length xs
    → get_or xs at 0 ∷ (get_or xs (at + 1) 0 ∷ (get_or xs (at + 2) 0 ∷ (get_or xs (at + 3) 0
    ∷ (get_or xs (at + 4) 0 ∷ (get_or xs (at + 5) 0 ∷ (get_or xs (at + 6) 0 ∷ (get_or xs (at + 7) 0 ∷ []))))))) ≡ take 8 (drop at xs)
eight xs at fits = sym (
    part-cons xs at (at + 1) 7 (omega arith) (omega arith)
    ∙ ap (λ (l : List ℕ). get_or xs at 0 ∷ l) (part-cons xs (at + 1) (at + 2) 6 (omega arith) (omega arith)
    ∙ ap (λ (l : List ℕ). get_or xs (at + 1) 0 ∷ l) (part-cons xs (at + 2) (at + 3) 5 (omega arith) (omega arith)
    ∙ ap (λ (l : List ℕ). get_or xs (at + 2) 0 ∷ l) (part-cons xs (at + 3) (at + 4) 4 (omega arith) (omega arith)
    ∙ ap (λ (l : List ℕ). get_or xs (at + 3) 0 ∷ l) (part-cons xs (at + 4) (at + 5) 3 (omega arith) (omega arith)
    ∙ ap (λ (l : List ℕ). get_or xs (at + 4) 0 ∷ l) (part-cons xs (at + 5) (at + 6) 2 (omega arith) (omega arith)
    ∙ ap (λ (l : List ℕ). get_or xs (at + 5) 0 ∷ l) (part-cons xs (at + 6) (at + 7) 1 (omega arith) (omega arith)
    ∙ ap (λ (l : List ℕ). get_or xs (at + 6) 0 ∷ l) (part-cons xs (at + 7) (at + 8) 0 (omega arith) (omega arith)))))))))

-- the number of eight bytes has them
pub long_read : (xs : List ℕ) (at n : ℕ) → at + 8 ≤ length xs → AreBytes xs
    → n ≡ from_be_bytes w64 (get_or xs at 0 ∷ (get_or xs (at + 1) 0 ∷ (get_or xs (at + 2) 0 ∷ (get_or xs (at + 3) 0
    ∷ (get_or xs (at + 4) 0 ∷ (get_or xs (at + 5) 0 ∷ (get_or xs (at + 6) 0 ∷ (get_or xs (at + 7) 0 ∷ []))))))))
    → to_be_bytes w64 n ≡ take 8 (drop at xs)
long_read xs at n fits small is =
    let size : 8 ≤ length (drop at xs) = rw (length-drop at xs) (omega arith) in
    be_bytes_8 (take 8 (drop at xs)) n (length-take-le 8 (drop at xs) size) (bytes-take 8 (drop at xs) (bytes-drop at xs small))
    (is ∙ ap (λ (l : List ℕ). from_be_bytes w64 l) (eight xs at fits))
