-- Words and their numbers: how a place's hold on a word is counted.
use Rattle.std.specs.Prelude.{◌≡◌, ◌↔◌, ℕ, ◌+◌, ◌-◌, ◌<◌, ◌≤◌, ◌^◌, ◌==◌, if◌then◌else◌, nat_le, Bool, List, [], ◌∷◌, Option, Some, None, IsSome, IsSomeAnd, IfSome, option_map, unwrap_or}
use Rattle.std.specs.BTreeMap.{insert_entry, is_at}
use Rattle.std.specs.List.{list_any, count_by}
use Rattle.std.specs.Map.{remove_entry, values_of}
use Rattle.std.specs.Ordering.{nat_cmp}
use Rattle.spatial_base.specs.Key.{Name}
use Rattle.row_codec.specs.declared.counted.Counted.{Counted}
use Rattle.row_codec.specs.declared.stored.Stored.{Stored}
use Rattle.row_codec.specs.Pairs.{Pair}
use Rattle.row_codec.specs.Stored.{held_pairs}
use Rattle.store_tables.specs.Entries.{Entries, word_cmp, number_of_word, word_of_number}

-- the word of a number's row, if there is one
abbrev pub word_in : Option Counted → Option (List ℕ)
word_in = option_map (λ (c : Counted). c.word)

-- how many places hold the word of a number's row; none where there is no row
abbrev pub places_in : Option Counted → ℕ
places_in row = unwrap_or (option_map (λ (c : Counted). c.places) row) 0

-- how many places hold a number's word; none where the number has no word
abbrev pub places_of_number : ℕ → List (ℕ × Counted) → ℕ
places_of_number number numbers = places_in (word_of_number number numbers)

-- the place has a pair of this number
abbrev pub has_number : ℕ → Stored → Bool
has_number number stored = list_any (λ (p : Pair). p.0 == number) (held_pairs stored)

-- how many of the places have a pair of this number
abbrev pub holders : ℕ → List (Name × Stored) → ℕ
holders number places = count_by (has_number number) (values_of places)

-- The word tables agree, each word has as many places as are claimed, and at least one, and each number is below the next one.
pub record WordTablesAgree (claims : ℕ → ℕ) (texts : List (List ℕ × ℕ)) (numbers : List (ℕ × Counted)) (next_word : ℕ) : Type 0 where
  pub inverse : (word : List ℕ) (number : ℕ) → (number_of_word word texts ≡ Some number) ↔ (word_in (word_of_number number numbers) ≡ Some word)
  pub counts : (number : ℕ) → places_of_number number numbers ≡ claims number
  pub some : (number : ℕ) → IfSome (word_of_number number numbers) (λ c. 1 ≤ c.places)
  pub below : (number : ℕ) → IsSome (word_of_number number numbers) → number < next_word

-- the word tables agree with the places
abbrev pub WordsAgree : Entries → ℕ → Type 0
WordsAgree entries next_word = WordTablesAgree (λ number. holders number entries.places) entries.texts entries.numbers next_word

-- the number that a word has, or that it is given
abbrev pub number_for : List ℕ → ℕ → List (List ℕ × ℕ) → ℕ
number_for word next_word texts = unwrap_or (number_of_word word texts) next_word

-- the next word number after a word was held that had this number, or none
abbrev pub next_after : Option ℕ → ℕ → ℕ
next_after None next_word = next_word + 1
next_after (Some number) next_word = next_word

-- the numbers of words after a word was held that had this number, or none
abbrev pub texts_after : Option ℕ → List ℕ → ℕ → List (List ℕ × ℕ) → List (List ℕ × ℕ)
texts_after None word next_word texts = insert_entry word_cmp texts word next_word
texts_after (Some number) word next_word texts = texts

-- so many places more hold the word, which has its number or the next one
abbrev pub with_holds : ℕ → List ℕ → ℕ → Entries → Entries
with_holds places word next_word entries =
    let number = number_for word next_word entries.texts in
    record entries {
      texts = texts_after (number_of_word word entries.texts) word next_word entries.texts;
      numbers = insert_entry nat_cmp entries.numbers number (record { word = word; places = places_of_number number entries.numbers + places });
    }

-- one place more holds the word
abbrev pub with_hold : List ℕ → ℕ → Entries → Entries
with_hold = with_holds 1

-- The two tables agree on a word that has this number, or none, and so many places more can be counted, by the row of that number, or of the next one: the row is the word's, and its count stays below 2^32; and where the word has no number, there is no row.
abbrev pub IsHoldableRow : ℕ → List ℕ → Option ℕ → Option Counted → Type 0
IsHoldableRow places word None row = row ≡ None
IsHoldableRow places word (Some number) row = (word_in row ≡ Some word) × (places_in row + places < 2 ^ 32)

-- and by the rows of all numbers
abbrev pub IsHoldable : ℕ → List ℕ → ℕ → List (ℕ × Counted) → Option ℕ → Type 0
IsHoldable places word next_word numbers found = IsHoldableRow places word found (word_of_number (unwrap_or found next_word) numbers)

-- the two tables agree on a word, and so many places more can hold it
abbrev pub CanHoldBy : ℕ → List ℕ → ℕ → Entries → Type 0
CanHoldBy places word next_word entries = IsHoldable places word next_word entries.numbers (number_of_word word entries.texts)

-- one place more can hold it
abbrev pub CanHold : List ℕ → ℕ → Entries → Type 0
CanHold = CanHoldBy 1

-- the entries where one place less holds the word of a number: it goes with its last place
abbrev pub released : ℕ → Option Counted → Entries → Entries
released number None entries = entries
released number (Some counted) entries =
    if nat_le counted.places 1
    then record entries {
      texts = remove_entry (is_at (word_cmp counted.word)) entries.texts;
      numbers = remove_entry (is_at (nat_cmp number)) entries.numbers;
    }
    else record entries { numbers = insert_entry nat_cmp entries.numbers number (record counted { places = counted.places - 1 }) }

-- one place less holds the number's word
abbrev pub without_hold : ℕ → Entries → Entries
without_hold number entries = released number (word_of_number number entries.numbers) entries

-- The number has a word, and where the word goes with its last place, the words by text have that number of it.
abbrev pub CanRelease : ℕ → Entries → Type 0
CanRelease number entries =
    IsSomeAnd (word_of_number number entries.numbers) (λ (c : Counted). c.places ≤ 1 → number_of_word c.word entries.texts ≡ Some number)

-- the words with one more, where the number has one
abbrev pub with_word : Option Counted → ℕ → List (List ℕ × ℕ) → List (List ℕ × ℕ)
with_word None impact words = words
with_word (Some counted) impact words = insert_entry word_cmp words counted.word impact

-- the words of pairs by number, with their impacts, in the order of the words
abbrev pub words_of_pairs : List (ℕ × Counted) → List Pair → List (List ℕ × ℕ)
words_of_pairs numbers [] = []
words_of_pairs numbers (pair ∷ pairs) = with_word (word_of_number pair.0 numbers) pair.1 (words_of_pairs numbers pairs)

-- the words of a place, with their impacts, in the order of the words
abbrev pub words_of_place : List (ℕ × Counted) → Stored → List (List ℕ × ℕ)
words_of_place numbers stored = words_of_pairs numbers (held_pairs stored)

-- the claims with so many more on a number
abbrev pub claimed_by : ℕ → ℕ → (ℕ → ℕ) → ℕ → ℕ
claimed_by places number claims n = if number == n then claims n + places else claims n

-- the claims with one more on it
abbrev pub claimed_more : ℕ → (ℕ → ℕ) → ℕ → ℕ
claimed_more = claimed_by 1

-- the claims with one less on a number
abbrev pub claimed_less : ℕ → (ℕ → ℕ) → ℕ → ℕ
claimed_less number claims n = if number == n then claims n - 1 else claims n
