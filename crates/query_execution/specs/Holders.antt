-- How many places hold a word, by the word tables.
use Rattle.std.specs.Prelude.{ℕ, List, map}
use Rattle.node_filter.specs.Numbers.{by_number}
use Rattle.place_values.specs.Rarity.{rarity}
use Rattle.place_values.specs.Top.{Weighted}
use Rattle.store_tables.specs.Entries.{Entries, number_of_word}
use Rattle.store_tables.specs.Words.{places_of_number}

-- how many places hold a word: what the words by number count at the word's number, none where it has no number
abbrev pub places_of_word : Entries → List ℕ → ℕ
places_of_word entries word = by_number (λ number. places_of_number number entries.numbers) (number_of_word word entries.texts)

-- words with the weights by rarity that the word tables give them, where so many places live
abbrev pub weighed_by_tables : Entries → ℕ → List (List ℕ) → Weighted
weighed_by_tables entries live words = map (λ word. (word, rarity live (places_of_word entries word))) words
