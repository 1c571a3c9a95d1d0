-- The bytes of a record, as they stand in a journal.
use Rattle.std.proofs.Common.{◌≡◌, ℕ, zero, suc, ◌+◌, ◌*◌, ◌^◌, ◌<◌, List, [], ◌∷◌, ◌++◌, length, slice_index, get_or, refl, sym, ◌∙◌, ap, subst, arith, length-append, append_assoc}
use Rattle.std.proofs.lemmas.List.{get_or_append_left, get_or-append-add, append-nil}
use Rattle.std.proofs.lemmas.Nat.{from_be_bytes-to_be_bytes_4}
use Rattle.std.specs.Int.{w32, to_be_bytes}
use Rattle.std.specs.List.{AllByRecursion, flat_map}
use Rattle.page_journal.specs.Record.{Batch, word, batch_of, batch_at, entry_bytes, record_bytes, IsRecordOf}

-- these bytes stand in the area from a place on
abbrev pub Stands : ℕ → List ℕ → (ℕ → ℕ) → Type 0
Stands at bytes area = (i j : ℕ) → i < length bytes → at + i ≡ j → area j ≡ slice_index bytes i

-- the first part stands there
pub stands_left : (at : ℕ) (xs ys : List ℕ) (area : ℕ → ℕ) → Stands at (xs ++ ys) area → Stands at xs area
stands_left at xs ys area stands i j lt is = let long = length-append xs ys in stands i j (omega arith) is ∙ get_or_append_left xs ys 0 i lt

-- the second part stands behind it
pub stands_right : (at n : ℕ) (xs ys : List ℕ) (area : ℕ → ℕ) → length xs ≡ n → Stands at (xs ++ ys) area → Stands (at + n) ys area
stands_right at n xs ys area size stands i j lt is =
    let long = length-append xs ys in stands (length xs + i) j (omega arith) (omega arith) ∙ get_or-append-add xs ys i 0

-- a word spelled by four bytes
pub word_stands : (at n : ℕ) (bytes : List ℕ) (area : ℕ → ℕ) → n < 2 ^ 32 → bytes ≡ to_be_bytes w32 n → Stands at bytes area → word area at ≡ n
word_stands at n bytes area fits is stands =
    let long : length bytes ≡ 4 = ap length is in
    let e0 = stands 0 at (omega arith) (omega arith) ∙ ap (λ (l : List ℕ). slice_index l 0) is in
    let e1 = stands 1 (at + 1) (omega arith) refl ∙ ap (λ (l : List ℕ). slice_index l 1) is in
    let e2 = stands 2 (at + 2) (omega arith) refl ∙ ap (λ (l : List ℕ). slice_index l 2) is in
    let e3 = stands 3 (at + 3) (omega arith) refl ∙ ap (λ (l : List ℕ). slice_index l 3) is in
    let whole = from_be_bytes-to_be_bytes_4 n fits in
    omega arith

-- each page is numbered by a u32, and has 4,096 bytes
abbrev pub ArePages : List (ℕ × List ℕ) → Type 0
ArePages pages = AllByRecursion (λ (p : ℕ × List ℕ). (p.0 < 2 ^ 32) × (length p.1 ≡ 4096)) pages

entry_size : (page : ℕ × List ℕ) → length page.1 ≡ 4096 → length (entry_bytes page) ≡ 4100
entry_size page size = let long = length-append (to_be_bytes w32 page.0) page.1 in let four : length (to_be_bytes w32 page.0) ≡ 4 = refl in omega arith

-- the entries of so many pages
pub entries_size : (pages : List (ℕ × List ℕ)) → ArePages pages → length (flat_map entry_bytes pages) ≡ 4100 * length pages
entries_size [] each = refl
entries_size (page ∷ pages) each =
    let long = length-append (entry_bytes page) (flat_map entry_bytes pages) in
    let one = entry_size page each.0.1 in
    let rest = entries_size pages each.1 in
    omega arith

-- a record of so many pages
pub record_size : (pages : List (ℕ × List ℕ)) → ArePages pages → length (record_bytes pages) ≡ 5 + 4100 * length pages
record_size pages each =
    let front = length-append (to_be_bytes w32 (length pages)) (flat_map entry_bytes pages ++ 0 ∷ []) in
    let behind = length-append (flat_map entry_bytes pages) (0 ∷ []) in
    let four : length (to_be_bytes w32 (length pages)) ≡ 4 = refl in
    let entries = entries_size pages each in
    omega arith

-- the number of the k-th of entries that stand there
pub number_stands : (pages : List (ℕ × List ℕ)) (at k : ℕ) (area : ℕ → ℕ) → ArePages pages → Stands at (flat_map entry_bytes pages) area → k < length pages → word area (at + 4100 * k) ≡ (get_or pages k (0, [])).0
number_stands [] at k area each stands lt = absurd (omega arith)
number_stands (page ∷ pages) at zero area each stands lt =
    let here = stands_left at (entry_bytes page) (flat_map entry_bytes pages) area stands in
    let first = stands_left at (to_be_bytes w32 page.0) page.1 area here in
    subst (λ (x : ℕ). word area x ≡ page.0) (omega arith) (word_stands at page.0 _ area each.0.0 refl first)
number_stands (page ∷ pages) at (suc k) area each stands lt =
    let behind = stands_right at 4100 (entry_bytes page) (flat_map entry_bytes pages) area (entry_size page each.0.1) stands in
    let later = number_stands pages (at + 4100) k area each.1 behind (omega arith) in
    subst (λ (x : ℕ). word area x ≡ (get_or pages k (0, [])).0) (omega arith) later

-- a byte of the k-th of entries that stand there
pub byte_stands : (pages : List (ℕ × List ℕ)) (at k i : ℕ) (area : ℕ → ℕ) → ArePages pages → Stands at (flat_map entry_bytes pages) area → k < length pages → i < 4096
    → area (at + 4 + 4100 * k + i) ≡ slice_index (get_or pages k (0, [])).1 i
byte_stands [] at k i area each stands lt fits = absurd (omega arith)
byte_stands (page ∷ pages) at zero i area each stands lt fits =
    let here = stands_left at (entry_bytes page) (flat_map entry_bytes pages) area stands in
    let second = stands_right at 4 (to_be_bytes w32 page.0) page.1 area refl here in
    second i (at + 4 + 4100 * zero + i) (omega (arith, each.0.1)) (omega arith)
byte_stands (page ∷ pages) at (suc k) i area each stands lt fits =
    let behind = stands_right at 4100 (entry_bytes page) (flat_map entry_bytes pages) area (entry_size page each.0.1) stands in
    let later = byte_stands pages (at + 4100) k i area each.1 behind (omega arith) fits in
    subst (λ (x : ℕ). area x ≡ slice_index (get_or pages k (0, [])).1 i) (omega arith) later

-- the bytes gathered for each page, and then the next gate's
pub record_gathered : (pages : List (ℕ × List ℕ)) (n : ℕ) (items all : List ℕ) → n ≡ length pages → items ++ [] ≡ to_be_bytes w32 n ++ flat_map entry_bytes pages → all ≡ items ++ 0 ∷ [] → all ≡ record_bytes pages
record_gathered pages n items all count whole is =
    is ∙ ap (λ (l : List ℕ). l ++ 0 ∷ []) (sym (append-nil items) ∙ whole) ∙ append_assoc (to_be_bytes w32 n) (flat_map entry_bytes pages) (0 ∷ [])
    ∙ ap (λ (m : ℕ). to_be_bytes w32 m ++ (flat_map entry_bytes pages ++ 0 ∷ [])) count

-- Behind a gate the journal holds this batch's record, and then a closed gate.
pub record HoldsRecord (batch : Batch) (journal : ℕ → ℕ) (at : ℕ) : Type 0 where
  pub count : (batch_at journal at).count ≡ batch.count
  pub number : (k : ℕ) → k < batch.count → (batch_at journal at).number k ≡ batch.number k
  pub byte : (k i : ℕ) → k < batch.count → i < 4096 → (batch_at journal at).byte k i ≡ batch.byte k i
  pub closed : journal (at + 5 + 4100 * batch.count) ≡ 0

-- where a record's bytes stand behind a gate, the journal holds the record
pub holds_record : (pages : List (ℕ × List ℕ)) (bytes : List ℕ) (journal : ℕ → ℕ) (at : ℕ) → IsRecordOf pages bytes → Stands (at + 1) bytes journal → HoldsRecord (batch_of pages) journal at
holds_record pages bytes journal at is stands =
    let spelled : List ℕ = to_be_bytes w32 (length pages) in
    let entries : List ℕ = flat_map entry_bytes pages in
    let whole : Stands (at + 1) (record_bytes pages) journal = subst (λ (l : List ℕ). Stands (at + 1) l journal) is.are stands in
    let count = word_stands (at + 1) (length pages) spelled journal is.few refl (stands_left (at + 1) spelled (entries ++ 0 ∷ []) journal whole) in
    let behind : Stands (at + 5) (entries ++ 0 ∷ []) journal = subst (λ (x : ℕ). Stands x (entries ++ 0 ∷ []) journal) (omega arith) (stands_right (at + 1) 4 spelled (entries ++ 0 ∷ []) journal refl whole) in
    let held : Stands (at + 5) entries journal = stands_left (at + 5) entries (0 ∷ []) journal behind in
    let last = stands_right (at + 5) (4100 * length pages) entries (0 ∷ []) journal (entries_size pages is.each) behind in
    record {
      count = count;
      number = λ k lt. number_stands pages (at + 5) k journal is.each held lt;
      byte = λ k i lt fits. subst (λ (x : ℕ). journal x ≡ slice_index (get_or pages k (0, [])).1 i) (omega arith) (byte_stands pages (at + 5) k i journal is.each held lt fits);
      closed = last 0 (at + 5 + 4100 * length pages) (omega arith) (omega arith);
    }
