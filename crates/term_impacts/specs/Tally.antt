-- What is known of a text's words while they are counted.
use Rattle.std.specs.Prelude.{◌≡◌, ℕ, List, map, length}
use Rattle.term_impacts.specs.Impacts.{term_frequency, first_words}

-- the first 64 distinct words, each with its number of occurrences, and the number of all the words
pub record IsTally (words : List (List ℕ)) (entries : List (List ℕ × ℕ)) (number : ℕ) : Type 0 where
  pub counts : entries ≡ map (λ word. (word, term_frequency words word)) (first_words words)
  pub total : number ≡ length words
