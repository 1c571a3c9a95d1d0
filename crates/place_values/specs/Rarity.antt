-- How much a word counts by how few places hold it: one more than the number of times that the places holding it can double and still
-- be no more than all live places, 1 to 20. It is the inverse document frequency of a word, in whole numbers.
use Rattle.std.specs.Prelude.{ℕ, ◌+◌, ◌*◌, ◌^◌, suc, zero, nat_le, if◌then◌else◌, ◌==◌, Bool, List, length, map}
use Rattle.std.specs.List.{filter}
use Rattle.place_values.specs.Filter.{has_word}
use Rattle.place_values.specs.State.{Places}
use Rattle.place_values.specs.Top.{Weighted}

-- the greatest number up to a bound that meets a condition, and 0 if none does
abbrev pub greatest : (ℕ → Bool) → ℕ → ℕ
greatest meets zero = 0
greatest meets (suc n) = if meets (suc n) then suc n else greatest meets n

-- the weight of a word that so many of the live places hold
abbrev pub rarity : ℕ → ℕ → ℕ
rarity live holders = if holders == 0 then 1 else 1 + greatest (λ e. nat_le (holders * 2 ^ e) live) 19

-- the places that hold a word
abbrev pub holders_of : List ℕ → Places → Places
holders_of word places = filter (λ entry. has_word entry.1 word) places

-- words with their weights
abbrev pub weighed_by_rarity : Places → List (List ℕ) → Weighted
weighed_by_rarity places words = map (λ word. (word, rarity (length places) (length (holders_of word places)))) words
