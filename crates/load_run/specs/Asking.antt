-- What is asked for the places of a seed, and what is found.
use Rattle.std.specs.Prelude.{◌≡◌, ℕ, min, List, [], ◌∷◌, ◌++◌, length, sum_by, codes, decimal}
use Rattle.std.specs.List.{flat_map, range_with_len}
use Rattle.place_generator.specs.Made.{Place, place_of_seed}
use Rattle.place_values.specs.Answer.{answer_of}
use Rattle.place_values.specs.State.{Contents}
use Rattle.place_values.specs.declared.hit.Hit.{Hit}
use Rattle.place_values.specs.declared.query.Answer.{Answer}
use Rattle.place_values.specs.declared.query.Answer.TheVariants as answers
use Rattle.place_values.specs.declared.query.Query.{Query}
use Rattle.place_values.specs.declared.query.Query.TheVariants.{Top}
use Rattle.load_run.specs.declared.found.Found.{Found}

-- how many of the places that were made are asked for: all, but a hundred at most
abbrev pub queries_of : ℕ → ℕ
queries_of count = min count 100

-- The query for a place: the ten places of least cost from its point, by the word `place` and, twice as heavy, by its own word of the kind a,
-- with the scale 1000.
unfoldable pub query_for : Place → Query
query_for place = Top place.point 1000 10 500 10000000 ((codes "place", 1) ∷ (codes "a" ++ decimal place.first, 2) ∷ [])

-- the hits of an answer
abbrev pub hits_in : Answer → List Hit
hits_in (answers.Hits hits) = hits
hits_in (answers.Group chosen) = []

-- what is found for a place of a seed
unfoldable pub found_for : Contents → ℕ → ℕ → List Hit
found_for state seed number = hits_in (answer_of state (query_for (place_of_seed seed number)))

-- what is found for its first places
abbrev pub found_in : Contents → ℕ → ℕ → List Hit
found_in state seed queries = flat_map (found_for state seed) (range_with_len 0 queries)

-- what hits cost together
abbrev pub cost_in : List Hit → ℕ
cost_in hits = sum_by (λ hit. hit.cost) hits

-- so many hits were counted, at this cost
pub record Counts (hits : List Hit) (found : Found) : Type 0 where
  pub number : found.hits ≡ length hits
  pub sum : found.cost ≡ cost_in hits
