-- The bytes of a page, and pages of an overlay.
use Rattle.std.proofs.Common.{◌≡◌, ℕ, ◌+◌, ◌*◌, ◌/◌, ◌%◌, ◌<◌, List, length, map, get_or, slice_index, arith, ap, sym, ◌∙◌}
use mathlib.Core.Path.{fun_ext}
use Rattle.std.proofs.lemmas.List.FromFn.{fill_by_all, length-map-range_with_len, get_or-map-range_with_len}
use Rattle.std.specs.List.{range_with_len}
use Rattle.page_store.specs.Contents.{page_bytes}

-- what a read of a page's range gave is the page
pub page_bytes-read : (area : ℕ → ℕ) (n : ℕ) (bytes : List ℕ) → length bytes ≡ 4096 → ((i j : ℕ) → i < length bytes → 4096 * n + i ≡ j → slice_index bytes i ≡ area j) → bytes ≡ page_bytes area n
unfolding page_bytes
page_bytes-read area n bytes long reads = fill_by_all (λ i. area (4096 * n + i)) bytes 4096 0 long (λ k lt. reads k (4096 * n + k) (omega arith) (omega arith))

-- a page has 4,096 bytes
pub length-page_bytes : (area : ℕ → ℕ) (n : ℕ) → length (page_bytes area n) ≡ 4096
unfolding page_bytes
length-page_bytes area n = length-map-range_with_len (λ i. area (4096 * n + i)) 0 4096

-- areas that agree within a page have the same page
pub page_bytes-same : (p q : ℕ → ℕ) (n : ℕ) → ((j : ℕ) → j < 4096 → p (4096 * n + j) ≡ q (4096 * n + j)) → page_bytes p n ≡ page_bytes q n
unfolding page_bytes
page_bytes-same p q n same =
    fill_by_all (λ i. q (4096 * n + i)) (map (λ i. p (4096 * n + i)) (range_with_len 0 4096)) 4096 0 (length-map-range_with_len (λ i. p (4096 * n + i)) 0 4096)
    (λ k lt. get_or-map-range_with_len (λ i. p (4096 * n + i)) 0 4096 k k 0 lt (omega arith) ∙ same k lt)

-- a byte of a page
byte_of : (area : ℕ → ℕ) (n j : ℕ) → j < 4096 → get_or (page_bytes area n) j 0 ≡ area (4096 * n + j)
unfolding page_bytes
byte_of area n j lt = get_or-map-range_with_len (λ i. area (4096 * n + i)) 0 4096 j j 0 lt (omega arith)

-- areas that have the same pages are the same
pub area_by_pages : (p q : ℕ → ℕ) → ((n : ℕ) → page_bytes p n ≡ page_bytes q n) → p ≡ q
area_by_pages p q same = fun_ext (λ i.
    let n = i / 4096 in
    let j = i % 4096 in
    let place : 4096 * n + j ≡ i = omega arith in
    let lt : j < 4096 = omega arith in
    sym (ap p place) ∙ sym (byte_of p n j lt) ∙ ap (λ (l : List ℕ). get_or l j 0) (same n) ∙ byte_of q n j lt ∙ ap q place)
