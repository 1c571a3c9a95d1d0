-- Parts of a page, and what is written over them.
use Rattle.std.proofs.Common.{◌≡◌, ℕ, zero, suc, ◌+◌, ◌-◌, ◌<◌, ◌≤◌, ◌^◌, List, [], ◌∷◌, ◌++◌, length, take, drop, get_or, arith, refl, sym, ap, ◌∙◌, ◌⊎◌, ⊎_elim}
use Rattle.std.proofs.lemmas.List.{length-append, length-take-le, length-drop, take_at, drop_at, drop-drop, take-take, drop-take, get_or-take, get_or-drop}
use Rattle.std.specs.Int.{from_be_bytes, w32}
use Rattle.rtree_nodes.specs.Numbers.{number_at, overwritten}

-- as long as before
pub overwritten-length : (at : ℕ) (bytes page : List ℕ) → at + length bytes ≤ length page → length (overwritten at bytes page) ≡ length page
unfolding overwritten
overwritten-length at bytes page fits =
    omega (arith, length-append (take at page) (bytes ++ drop (at + length bytes) page), length-append bytes (drop (at + length bytes) page), length-take-le at page (omega arith), length-drop (at + length bytes) page)

-- a part of a front
part-front : (m n at : ℕ) (page : List ℕ) → m + n ≤ at → take n (drop m page) ≡ take n (drop m (take at page))
part-front m n at page fits =
    sym (drop-take m n page)
    ∙ ap (drop m) (sym (take-take (m + n) at page fits))
    ∙ drop-take m n (take at page)

-- what stands before it is as before
pub overwritten-before : (at m n : ℕ) (bytes page : List ℕ) → m + n ≤ at → at ≤ length page → take n (drop m (overwritten at bytes page)) ≡ take n (drop m page)
unfolding overwritten
overwritten-before at m n bytes page before fits =
    let front : take at (take at page ++ (bytes ++ drop (at + length bytes) page)) ≡ take at page = take_at (take at page) (bytes ++ drop (at + length bytes) page) at (length-take-le at page fits) in
    part-front m n at (take at page ++ (bytes ++ drop (at + length bytes) page)) before
    ∙ ap (λ (l : List ℕ). take n (drop m l)) front
    ∙ sym (part-front m n at page before)

-- what was written stands there
pub overwritten-here : (at : ℕ) (bytes page : List ℕ) → at ≤ length page → take (length bytes) (drop at (overwritten at bytes page)) ≡ bytes
unfolding overwritten
overwritten-here at bytes page fits =
    ap (take (length bytes)) (drop_at (take at page) (bytes ++ drop (at + length bytes) page) at (length-take-le at page fits))
    ∙ take_at bytes (drop (at + length bytes) page) (length bytes) refl

-- what stands behind it is as before
pub overwritten-behind : (at m : ℕ) (bytes page : List ℕ) → at + length bytes ≤ m → at ≤ length page → drop m (overwritten at bytes page) ≡ drop m page
unfolding overwritten
overwritten-behind at m bytes page behind fits =
    let rest = drop (at + length bytes) page in
    let more : m ≡ at + length bytes + (m - (at + length bytes)) = omega arith in
    let whole : drop (at + length bytes) (take at page ++ (bytes ++ rest)) ≡ rest =
    sym (drop-drop (length bytes) at (take at page ++ (bytes ++ rest)))
    ∙ ap (drop (length bytes)) (drop_at (take at page) (bytes ++ rest) at (length-take-le at page fits))
    ∙ drop_at bytes rest (length bytes) refl in
    ap (λ (k : ℕ). drop k (take at page ++ (bytes ++ rest))) more
    ∙ sym (drop-drop (m - (at + length bytes)) (at + length bytes) (take at page ++ (bytes ++ rest)))
    ∙ ap (drop (m - (at + length bytes))) whole
    ∙ drop-drop (m - (at + length bytes)) (at + length bytes) page
    ∙ ap (λ (k : ℕ). drop k page) (sym more)

-- a part apart from it is as before
pub overwritten-apart : (at m n : ℕ) (bytes page : List ℕ) → (m + n ≤ at) ⊎ (at + length bytes ≤ m) → at ≤ length page → take n (drop m (overwritten at bytes page)) ≡ take n (drop m page)
overwritten-apart at m n bytes page apart fits = ⊎_elim
    (λ (before : m + n ≤ at). overwritten-before at m n bytes page before fits)
    (λ (behind : at + length bytes ≤ m). ap (take n) (overwritten-behind at m bytes page behind fits))
    apart

-- a byte is a part of one
pub byte-part : (page : List ℕ) (k : ℕ) → get_or page k 0 ≡ get_or (take 1 (drop k page)) 0 0
byte-part page k = ap (λ (n : ℕ). get_or page n 0) (omega arith) ∙ sym (get_or-drop k page 0 0) ∙ sym (get_or-take 1 (drop k page) 0 0 (omega arith))

-- a byte before it is as before
pub overwritten-byte : (at k : ℕ) (bytes page : List ℕ) → k < at → at ≤ length page → get_or (overwritten at bytes page) k 0 ≡ get_or page k 0
overwritten-byte at k bytes page before fits =
    byte-part (overwritten at bytes page) k
    ∙ ap (λ (l : List ℕ). get_or l 0 0) (overwritten-before at k 1 bytes page (omega arith) fits)
    ∙ sym (byte-part page k)

-- a number apart from it is as before
pub overwritten-number : (at m : ℕ) (bytes page : List ℕ) → (m + 4 ≤ at) ⊎ (at + length bytes ≤ m) → at ≤ length page → number_at m (overwritten at bytes page) ≡ number_at m page
unfolding number_at
overwritten-number at m bytes page apart fits = ap (from_be_bytes w32) (overwritten-apart at m 4 bytes page apart fits)

-- a part of a part
pub part-part : (start width at n : ℕ) (page : List ℕ) → at + n ≤ width → take n (drop at (take width (drop start page))) ≡ take n (drop (start + at) page)
part-part start width at n page fits =
    sym (part-front at n width (drop start page) fits) ∙ ap (take n) (drop-drop at start page)

-- a number in a part
pub number-part : (start width at : ℕ) (page : List ℕ) → at + 4 ≤ width → number_at at (take width (drop start page)) ≡ number_at (start + at) page
unfolding number_at
number-part start width at page fits = ap (from_be_bytes w32) (part-part start width at 4 page fits)

-- four bytes are a number of four bytes
four-fit : (xs : List ℕ) → length xs ≡ 4 → ((i : ℕ) → get_or xs i 0 < 256) → from_be_bytes w32 xs < 2 ^ 32
four-fit [] size small = absurd (omega arith)
four-fit (a ∷ []) size small = absurd (omega arith)
four-fit (a ∷ (b ∷ [])) size small = absurd (omega arith)
four-fit (a ∷ (b ∷ (c ∷ []))) size small = absurd (omega arith)
four-fit (a ∷ (b ∷ (c ∷ (d ∷ [])))) size small =
    let first : a < 256 = small 0 in
    let second : b < 256 = small 1 in
    let third : c < 256 = small 2 in
    let fourth : d < 256 = small 3 in
    omega arith
four-fit (a ∷ (b ∷ (c ∷ (d ∷ (e ∷ xs))))) size small = absurd (omega arith)

pub bytes-part : (m n : ℕ) (page : List ℕ) → ((i : ℕ) → get_or page i 0 < 256) → (i : ℕ) → get_or (take n (drop m page)) i 0 < 256
bytes-part m n page small i = taken n (drop m page) (λ j. rw (get_or-drop m page j 0) (small (m + j))) i
  where
    taken : (n : ℕ) (xs : List ℕ) → ((i : ℕ) → get_or xs i 0 < 256) → (i : ℕ) → get_or (take n xs) i 0 < 256
    taken zero xs small i = omega arith
    taken (suc n) [] small i = small i
    taken (suc n) (x ∷ xs) small zero = small 0
    taken (suc n) (x ∷ xs) small (suc i) = taken n xs (λ j. small (suc j)) i

pub number-fits : (at : ℕ) (page : List ℕ) → ((i : ℕ) → get_or page i 0 < 256) → at + 4 ≤ length page → number_at at page < 2 ^ 32
unfolding number_at
number-fits at page small fits =
    four-fit (take 4 (drop at page)) (length-take-le 4 (drop at page) (omega (arith, length-drop at page))) (bytes-part at 4 page small)
