-- Finite maps from words to impacts, as lists of pairs that ascend by word.
use Rattle.std.specs.Prelude.{ℕ, ◌≤◌, List, [], length, fold, All, unwrap_or}
use Rattle.std.specs.BTreeMap.{insert_entry}
use Rattle.std.specs.Cmp.Lexicographic.{slice_cmp}
use Rattle.std.specs.List.Sorted.{IsStrictlySortedBy}
use Rattle.std.specs.Map.{keys_of, lookup}
use Rattle.std.specs.Ordering.{nat_cmp}
use Rattle.std.specs.Str.{bytes_eq}

-- the list is a map of words: at most 64 pairs, each word before the next by the bytes of its text, and impacts from 1 to 255
pub record IsWordMap (pairs : List (List ℕ × ℕ)) : Type 0 where
  pub few : length pairs ≤ 64
  pub ascending : IsStrictlySortedBy (slice_cmp nat_cmp) (keys_of pairs)
  pub impacts : All (λ pair. (1 ≤ pair.1) × (pair.1 ≤ 255)) pairs

-- the impact of a word in the map, and 0 where the word is absent
abbrev pub impact_in : List (List ℕ × ℕ) → List ℕ → ℕ
impact_in pairs word = unwrap_or (lookup (bytes_eq word) pairs) 0

-- the pairs in the order of their words
abbrev pub by_word : List (List ℕ × ℕ) → List (List ℕ × ℕ)
by_word pairs = fold (λ placed pair. insert_entry (slice_cmp nat_cmp) placed pair.0 pair.1) [] pairs
