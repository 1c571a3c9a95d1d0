-- What a text says of its words: how often each stands in it, among how many.
use Rattle.std.specs.Prelude.{ℕ, ◌+◌, ◌*◌, ◌/◌, not, List, [], ◌∷◌, map, filter, take, length, count_by}
use Rattle.std.specs.Str.{bytes_eq}
use Rattle.term_impacts.specs.Pairs.{by_word}
use Rattle.term_impacts.specs.Text.{words_of}

-- how often a word stands in the list
abbrev pub term_frequency : List (List ℕ) → List ℕ → ℕ
term_frequency words word = count_by (bytes_eq word) words

-- each word of the list once, in the order of first appearance
abbrev pub distinct : List (List ℕ) → List (List ℕ)
distinct [] = []
distinct (word ∷ words) = word ∷ filter (λ other. not (bytes_eq word other)) (distinct words)

-- those of them that a place keeps: the first 64
abbrev pub first_words : List (List ℕ) → List (List ℕ)
first_words words = take 64 (distinct words)

-- the impact of a word: its share of all the words of the list, from 1 to 255
abbrev pub impact : List (List ℕ) → List ℕ → ℕ
impact words word = 1 + 254 * term_frequency words word / length words

-- the map from the first 64 distinct words to their impacts, where all the words of the list count
abbrev pub impacts_of : List (List ℕ) → List (List ℕ × ℕ)
impacts_of words = by_word (map (λ word. (word, impact words word)) (first_words words))

-- the words of a text with their impacts
abbrev pub word_impacts : List ℕ → List (List ℕ × ℕ)
word_impacts text = impacts_of (words_of text)
