-- A batch holds its words ahead: each word of its Puts once, by as many places as are still to hold it.
use Rattle.std.specs.Prelude.{◌≡◌, ℕ, ◌+◌, ◌≤◌, ◌^◌, ◌==◌, if◌then◌else◌, Bool, List, [], ◌∷◌, length, map, fold, sum_by, Option, Some, None, IsSome, unwrap_or}
use Rattle.std.specs.List.{AllByRecursion, IsDistinct, count_by}
use Rattle.std.specs.Map.{keys_of, lookup}
use Rattle.std.specs.Str.{bytes_eq}
use Rattle.indexmap.specs.IndexMap.{insert_entry}
use Rattle.spatial_base.specs.Key.{Name}
use Rattle.spatial_base.specs.Point.{Position}
use Rattle.page_face.specs.FreeList.{PageMap}
use Rattle.page_store.specs.declared.superblock.Superblock.{Superblock}
use Rattle.place_values.specs.State.{Contents}
use Rattle.place_values.specs.declared.update.Update.{Update}
use Rattle.place_values.specs.declared.update.Update.TheVariants.{Put, Remove}
use Rattle.row_codec.specs.declared.counted.Counted.{Counted}
use Rattle.row_codec.specs.Pairs.{Pair}
use Rattle.store_tables.specs.Entries.{Entries, number_of_word, word_of_number}
use Rattle.store_tables.specs.Words.{CanHoldBy, next_after, number_for, with_holds, word_in}
use Rattle.store_model.specs.Stands.{PagesStandFor}
use Rattle.store_model.specs.Updates.{after_held, after_put, numbered_for}

-- the words that an update puts, with their impacts
abbrev pub words_put : Update → List (List ℕ × ℕ)
words_put (Put key point words label) = words
words_put (Remove key) = []

-- how many of the updates are Puts
abbrev pub puts_in : List Update → ℕ
puts_in [] = 0
puts_in (Put key point words label ∷ updates) = puts_in updates + 1
puts_in (Remove key ∷ updates) = puts_in updates

-- how many words of a place have a property
abbrev pub place_count : (List ℕ → Bool) → List (List ℕ × ℕ) → ℕ
place_count has words = count_by (λ (term : List ℕ × ℕ). has term.0) words

-- how many words with a property the updates put, each as often as they do
abbrev pub word_count : (List ℕ → Bool) → List Update → ℕ
word_count has [] = 0
word_count has (Put key point words label ∷ updates) = place_count has words + word_count has updates
word_count has (Remove key ∷ updates) = word_count has updates

-- how often counted words with a property were counted
abbrev pub times_counted : (List ℕ → Bool) → List (List ℕ × ℕ) → ℕ
times_counted has counts = sum_by (λ (count : List ℕ × ℕ). if has count.0 then count.1 else 0) counts

-- the number that a map has of a word, which is looked up by its bytes
abbrev pub number_among : List ℕ → List (List ℕ × ℕ) → Option ℕ
number_among word numbers = lookup (bytes_eq word) numbers

-- that number; 0 for none
abbrev pub number_in : List (List ℕ × ℕ) → List ℕ → ℕ
number_in numbers word = unwrap_or (number_among word numbers) 0

-- words by their numbers, with their impacts
abbrev pub pairs_for : List (List ℕ × ℕ) → List (List ℕ × ℕ) → List Pair
pairs_for numbers words = map (λ (term : List ℕ × ℕ). (number_in numbers term.0, term.1)) words

-- a word has its number in the map, which is the word's in the tables
abbrev pub IsNamed : List (List ℕ × ℕ) → List (ℕ × Counted) → List ℕ → Type 0
IsNamed numbers table word = IsSome (number_among word numbers) × (word_in (word_of_number (number_in numbers word) table) ≡ Some word)

-- each word that the updates put has
abbrev pub AreNamed : List (List ℕ × ℕ) → List (ℕ × Counted) → List Update → Type 0
AreNamed numbers table [] = Unit {0}
AreNamed numbers table (update ∷ left) = AllByRecursion (IsNamed numbers table) (keys_of (words_put update)) × AreNamed numbers table left

-- how many places are still to hold a number: one for each update that is left and has its word
abbrev pub ahead : List (List ℕ × ℕ) → List Update → ℕ → ℕ
ahead numbers left n = word_count (λ word. number_in numbers word == n) left

-- What claims a number that so many places hold, where the words of the updates that are left were held ahead by these numbers, or
-- none were.
abbrev pub claimed : Option (List (List ℕ × ℕ)) → List Update → ℕ → ℕ → ℕ
claimed None left number places = places
claimed (Some numbers) left number places = places + ahead numbers left number

-- the update number by which the next word number may be what it is
abbrev pub last_number : Option (List (List ℕ × ℕ)) → List Update → ℕ → ℕ
last_number None left number = number
last_number (Some numbers) left number = number + puts_in left

-- what holding counted words leaves: the entries, the next word number, and the number that each word has
pub record HeldAhead : Type 0 where
  pub entries : Entries
  pub next_word : ℕ
  pub numbers : List (List ℕ × ℕ)

-- one word more was held, by as many places as it was counted
abbrev pub with_counted : HeldAhead → List ℕ × ℕ → HeldAhead
with_counted held count =
    let number = number_for count.0 held.next_word held.entries.texts in
    record {
      entries = with_holds count.1 count.0 held.next_word held.entries;
      next_word = next_after (number_of_word count.0 held.entries.texts) held.next_word;
      numbers = insert_entry bytes_eq held.numbers count.0 number;
    }

-- counted words were held one after another
abbrev pub held_ahead : List (List ℕ × ℕ) → ℕ → Entries → HeldAhead
held_ahead counts next_word entries = fold with_counted (record { entries = entries; next_word = next_word; numbers = [] }) counts

-- In its turn each counted word can be held by as many places as it was counted.
abbrev pub CanHoldAhead : List (List ℕ × ℕ) → HeldAhead → Type 0
CanHoldAhead [] held = Unit {0}
CanHoldAhead (count ∷ counts) held = CanHoldBy count.1 count.0 held.next_word held.entries × CanHoldAhead counts (with_counted held count)

-- counted words: no word twice, each counted at least once
pub record AreCountedWords (counts : List (List ℕ × ℕ)) : Type 0 where
  pub distinct : IsDistinct bytes_eq (keys_of counts)
  pub some : AllByRecursion (λ (count : List ℕ × ℕ). 1 ≤ count.1) counts

-- ---- an update in a batch, whose words were held ahead by these numbers, or whose words are numbered as they come

-- the entries after a place was put at a key
abbrev pub after_put_by : Option (List (List ℕ × ℕ)) → Name → Position → List (List ℕ × ℕ) → List ℕ → ℕ → Entries → Entries
after_put_by None key point words label next_word entries = after_put key point words label next_word entries
after_put_by (Some numbers) key point words label next_word entries = after_held key point (pairs_for numbers words) label entries

-- the numbers of its words
abbrev pub pairs_by : Option (List (List ℕ × ℕ)) → Name → List (List ℕ × ℕ) → ℕ → Entries → List Pair
pairs_by None key words next_word entries = (numbered_for key words next_word entries).pairs
pairs_by (Some numbers) key words next_word entries = pairs_for numbers words

-- the next word number then
abbrev pub next_by : Option (List (List ℕ × ℕ)) → Name → List (List ℕ × ℕ) → ℕ → Entries → ℕ
next_by None key words next_word entries = (numbered_for key words next_word entries).next_word
next_by (Some numbers) key words next_word entries = next_word

-- the words of the updates that are left have their numbers, where they were held ahead
abbrev pub AreNamedBy : Option (List (List ℕ × ℕ)) → List (ℕ × Counted) → List Update → Type 0
AreNamedBy None table left = Unit {0}
AreNamedBy (Some numbers) table left = AreNamed numbers table left

-- and there are update numbers for the updates that are left
abbrev pub HaveNumbers : Option (List (List ℕ × ℕ)) → ℕ → List Update → Type 0
HaveNumbers None number left = Unit {0}
HaveNumbers (Some numbers) number left = number + length left ≤ 2 ^ 40

-- Page 0's fields and the pages stand for a state in the midst of a batch: beside the places the words of the updates that are left
-- are held, where they were held ahead, each has its number, and there are update numbers for those updates.
pub record StandAhead (held : Option (List (List ℕ × ℕ))) (left : List Update) (block : Superblock) (pages : PageMap) (state : Contents) : Type 0 where
  pub stand : PagesStandFor (claimed held left) (last_number held left block.head.number) block pages state
  pub named : AreNamedBy held stand.entries.numbers left
  pub last : HaveNumbers held block.head.number left
