-- The words of a store's tables as rows, and the numbers of the words that places hold.
use Rattle.std.specs.Prelude.{◌≡◌, ◌↔◌, ℕ, ◌+◌, ◌<◌, ◌≤◌, ◌==◌, if◌then◌else◌, List, [], ◌∷◌, ◌++◌, replicate, All, Some, IsSome, IfSome}
use Rattle.std.specs.List.{flat_map}
use Rattle.std.specs.Map.{keys_of}
use Rattle.spatial_base.specs.Key.{Name}
use Rattle.row_codec.specs.declared.counted.Counted.{Counted}
use Rattle.row_codec.specs.declared.stored.Stored.{Stored}
use Rattle.row_codec.specs.Stored.{held_pairs}
use Rattle.store_tables.specs.Entries.{number_of_word, word_of_number}
use Rattle.store_tables.specs.Words.{word_in, places_of_number}

-- a word's number and the word
abbrev pub Named : Type 0
Named = ℕ × List ℕ

-- a row by text, the other way round
abbrev pub turned : List ℕ × ℕ → Named
turned row = (row.1, row.0)

-- a row by number, without its count of places
abbrev pub named : ℕ × Counted → Named
named row = (row.0, row.1.word)

-- how often a number is in a list
abbrev pub number_times : List ℕ → ℕ → ℕ
number_times [] n = 0
number_times (m ∷ ms) n = (if n == m then 1 else 0) + number_times ms n

-- each number as often as places hold its word
abbrev pub spread : List (ℕ × Counted) → List ℕ
spread [] = []
spread (row ∷ rows) = replicate row.1.places row.0 ++ spread rows

-- the numbers of the words of places, one place's after another's
abbrev pub held_numbers : List (Name × Stored) → List ℕ
held_numbers places = flat_map (λ (e : Name × Stored). keys_of (held_pairs e.1)) places

-- a word has a number by text exactly if the number has the word by number
abbrev pub AreInverse : List (List ℕ × ℕ) → List (ℕ × Counted) → Type 0
AreInverse texts numbers = (word : List ℕ) (number : ℕ) → (number_of_word word texts ≡ Some number) ↔ (word_in (word_of_number number numbers) ≡ Some word)

-- each word has as many places as are claimed of its number, and at least one, and no other number is claimed
abbrev pub AreCounted : (ℕ → ℕ) → List (ℕ × Counted) → Type 0
AreCounted claims numbers =
    ((number : ℕ) → places_of_number number numbers ≡ claims number) × ((number : ℕ) → IfSome (word_of_number number numbers) (λ c. 1 ≤ c.places))

-- each number that has a word is below the next one
abbrev pub AreBelow : ℕ → List (ℕ × Counted) → Type 0
AreBelow next_word numbers = (number : ℕ) → IsSome (word_of_number number numbers) → number < next_word

-- each word has a place
abbrev pub HaveAPlace : List (ℕ × Counted) → Type 0
HaveAPlace numbers = All (λ (row : ℕ × Counted). 1 ≤ row.1.places) numbers
