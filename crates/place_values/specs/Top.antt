-- What a place costs under a top query (the rank of Cong, Jensen and Wu 2009, in whole numbers).
use Rattle.std.specs.Prelude.{ℕ, ◌+◌, ◌-◌, ◌*◌, Bool, List, sum_by}
use Rattle.std.specs.List.{list_any}
use Rattle.term_impacts.specs.Pairs.{impact_in}
use Rattle.place_values.specs.declared.place.Place.{Place}
use Rattle.place_values.specs.Filter.{has_word}

-- a query's words with their weights
abbrev pub Weighted : Type 0
Weighted = List (List ℕ × ℕ)

-- the sum of the weights
abbrev pub weight_sum : Weighted → ℕ
weight_sum words = sum_by (λ term. term.1) words

-- the relevance of a place: the sum of each word's weight times its impact, 0 for a word that the place doesn't hold
abbrev pub relevance : Weighted → Place → ℕ
relevance words place = sum_by (λ term. term.1 * impact_in place.words term.0) words

-- the place holds one of the words
abbrev pub holds_some : Weighted → Place → Bool
holds_some words place = list_any (λ term. has_word place term.0) words

-- the distance and the missing relevance, weighed by alpha and 1000 - alpha; at the distance `reach` both weigh the same
abbrev pub top_cost : ℕ → ℕ → ℕ → ℕ → ℕ → ℕ
top_cost alpha reach weight dist text =
    alpha * dist * 255 * weight + (1000 - alpha) * reach * (255 * weight - text)
