-- The header of page 0.
use Rattle.std.proofs.Common.{true, if◌then◌else◌, ◌≡◌, ℕ, zero, suc, ◌==◌, slice_index, ◌+◌, ◌^◌, ◌<◌, ◌≤◌, false, List, [], ◌∷◌, ◌++◌, take, drop, ◌∙◌, ap, subst, sym, refl, arith}
use Rattle.std.proofs.lemmas.Bool.{and_left, ne_eqb, cond-false}
use Rattle.std.proofs.lemmas.List.{drop-take}
use Rattle.std.proofs.lemmas.Nat.{from_be_bytes-to_be_bytes_4, from_be_bytes-to_be_bytes_8}
use Rattle.std.specs.Int.{from_be_bytes, to_be_bytes, w32, w64}
use Rattle.page_store.specs.declared.superblock.Superblock.{Superblock}
use Rattle.page_face.specs.declared.head.Version.{Version}
use Rattle.page_face.specs.declared.head.Version.TheVariants.{One, Two}
use Rattle.page_store.specs.Superblock.{header_of, fields_of, word_at, long_at, is_zero, superblock_in, empty_store, IsInRange, IsPageOfVersion1, IsStorePage, digit_of, has_clear_spare, in_version2, magic_of, version_in}

-- one field more behind the fields written so far
pub joined : {xs ys zs : List ℕ} (b : List ℕ) → xs ≡ ys ++ b → ys ≡ zs → xs ≡ zs ++ b
joined b whole front = whole ∙ ap (λ (l : List ℕ). l ++ b) front

-- the front of a front
take_take : (m k : ℕ) (l : List ℕ) → m ≤ k → take m (take k l) ≡ take m l
take_take zero k l le = refl
take_take (suc m) zero l le = absurd (omega arith)
take_take (suc m) (suc k) [] le = refl
take_take (suc m) (suc k) (x ∷ l) le = ap (λ (r : List ℕ). x ∷ r) (take_take m k l (omega arith))

-- a part of the first 64 bytes is that part of the header
within_header : (page header : List ℕ) (at n : ℕ) → take 64 page ≡ header → at + n ≤ 64 → take n (drop at page) ≡ take n (drop at header)
within_header page header at n is fits =
    let front : take (at + n) page ≡ take (at + n) (take 64 page) = sym (take_take (at + n) 64 page fits) in
    sym (drop-take at n page) ∙ ap (λ (l : List ℕ). drop at l) front ∙ drop-take at n (take 64 page) ∙ ap (λ (l : List ℕ). take n (drop at l)) is

-- the u32 at an offset is the one whose bytes stand there in the header
word_read : (page header : List ℕ) (at x : ℕ) → take 64 page ≡ header → at + 4 ≤ 64 → take 4 (drop at header) ≡ to_be_bytes w32 x → x < 2 ^ 32 → word_at page at ≡ x
unfolding word_at
word_read page header at x is within stands fits =
    ap (λ (l : List ℕ). from_be_bytes w32 l) (within_header page header at 4 is within ∙ stands) ∙ from_be_bytes-to_be_bytes_4 x fits

-- and so is the u64
long_read : (page header : List ℕ) (at x : ℕ) → take 64 page ≡ header → at + 8 ≤ 64 → take 8 (drop at header) ≡ to_be_bytes w64 x → x < 2 ^ 64 → long_at page at ≡ x
unfolding long_at
long_read page header at x is within stands fits =
    ap (λ (l : List ℕ). from_be_bytes w64 l) (within_header page header at 8 is within ∙ stands) ∙ from_be_bytes-to_be_bytes_8 x fits

-- each field fits its type
pub record FitsTypes (block : Superblock) : Type 0 where
  pub counted : block.counted < 2 ^ 32
  pub first_free : block.first_free < 2 ^ 32
  pub places : block.head.places < 2 ^ 32
  pub texts : block.head.texts < 2 ^ 32
  pub numbers : block.head.numbers < 2 ^ 32
  pub rows : block.head.rows < 2 ^ 32
  pub tree : block.head.tree < 2 ^ 32
  pub live : block.head.live < 2 ^ 32
  pub serial : block.head.serial < 2 ^ 64
  pub number : block.head.number < 2 ^ 64
  pub next_word : block.head.next_word < 2 ^ 64

-- what stands in the front of a list stands in the list
slice_front : (k n : ℕ) (l : List ℕ) → k < n → slice_index (take n l) k ≡ slice_index l k
slice_front k zero l lt = absurd (omega arith)
slice_front k (suc n) [] lt = refl
slice_front zero (suc n) (x ∷ l) lt = refl
slice_front (suc k) (suc n) (x ∷ l) lt = slice_front k n l (omega arith)

-- the digit of a version names it
digit_names : (version : Version) → (if digit_of version == 49 then One else Two) ≡ version
digit_names One = refl
digit_names Two = refl

-- the version of a header
version_read : (page : List ℕ) (block : Superblock) → take 64 page ≡ header_of block → version_in page ≡ block.head.version
unfolding header_of
version_read page block is =
    let digit : slice_index page 7 ≡ digit_of block.head.version = sym (slice_front 7 64 page (omega arith)) ∙ ap (λ (l : List ℕ). slice_index l 7) is in
    ap (λ (n : ℕ). if n == 49 then One else Two) digit ∙ digit_names block.head.version

-- the fields behind a block's header are the block
pub fields_of-header : (page : List ℕ) (block : Superblock) → take 64 page ≡ header_of block → FitsTypes block → fields_of page ≡ block
unfolding header_of
fields_of-header page block is fits =
    let counted = word_read page _ 8 block.counted is (omega arith) refl fits.counted in
    let first_free = word_read page _ 12 block.first_free is (omega arith) refl fits.first_free in
    let places = word_read page _ 16 block.head.places is (omega arith) refl fits.places in
    let texts = word_read page _ 20 block.head.texts is (omega arith) refl fits.texts in
    let numbers = word_read page _ 24 block.head.numbers is (omega arith) refl fits.numbers in
    let rows = word_read page _ 28 block.head.rows is (omega arith) refl fits.rows in
    let tree = word_read page _ 32 block.head.tree is (omega arith) refl fits.tree in
    let live = word_read page _ 36 block.head.live is (omega arith) refl fits.live in
    let serial = long_read page _ 40 block.head.serial is (omega arith) refl fits.serial in
    let number = long_read page _ 48 block.head.number is (omega arith) refl fits.number in
    let next_word = long_read page _ 56 block.head.next_word is (omega arith) refl fits.next_word in
    let version = version_read page block is in
    rw (version, counted, first_free, places, texts, numbers, rows, tree, live, serial, number, next_word) refl

-- a page with a header isn't all zero
not_zero : (page : List ℕ) (block : Superblock) → take 64 page ≡ header_of block → is_zero page ≡ false
unfolding header_of
not_zero [] block is = let first : zero ≡ 73 = ap (λ (l : List ℕ). slice_index l 0) is in absurd (omega arith)
not_zero (b ∷ page) block is =
    let first : b ≡ 73 = ap (λ (l : List ℕ). slice_index l 0) is in
    and_left (b == 0) (is_zero page) (ne_eqb b 0 (λ zeros. omega arith))

-- page 0 with a block's header stands for the block
pub superblock_in-header : (page : List ℕ) (block : Superblock) → take 64 page ≡ header_of block → FitsTypes block → superblock_in page ≡ block
superblock_in-header page block is fits = cond-false (is_zero page) empty_store (fields_of page) (not_zero page block is) ∙ fields_of-header page block is fits

-- it begins with the magic of its version
magic-header : (page : List ℕ) (block : Superblock) → take 64 page ≡ header_of block → take 8 page ≡ magic_of block.head.version
unfolding header_of
magic-header page block is = sym (take_take 8 64 page (omega arith)) ∙ ap (λ (l : List ℕ). take 8 l) is

-- with the fields in their ranges and the spare bytes clear it is page 0 of a store
pub store_page-header : (page : List ℕ) (block : Superblock) → take 64 page ≡ header_of block → FitsTypes block → has_clear_spare page ≡ true → IsInRange block → IsStorePage page
store_page-header page block is fits spare range some =
    (magic-header page block is ∙ ap magic_of range.version, (subst IsInRange (sym (fields_of-header page block is fits)) range, spare))

-- and so it is of a store of version 1
pub version1_page-header : (page : List ℕ) (block : Superblock) → take 64 page ≡ header_of block → FitsTypes block → has_clear_spare page ≡ true → block.head.version ≡ One → IsInRange (in_version2 block) → IsPageOfVersion1 page
version1_page-header page block is fits spare one range some =
    (magic-header page block is ∙ ap magic_of one, (subst (λ (b : Superblock). IsInRange (in_version2 b)) (sym (fields_of-header page block is fits)) range, spare))
