-- What may be asked.
use Rattle.std.specs.Prelude.{ℕ, ◌≤◌, ◌^◌, List, length, map, All}
use Rattle.std.specs.List.{IsDistinct}
use Rattle.std.specs.Str.{bytes_eq}
use Rattle.place_values.specs.declared.query.Query.{Query}
use Rattle.place_values.specs.declared.query.Query.TheVariants.{Range, Inside, Nearest, Top, Rare, Group, Gather}
use Rattle.place_values.specs.Limits.{IsFilter}

-- how many hits may be asked for
pub record IsCount (k : ℕ) : Type 0 where
  pub some : 1 ≤ k
  pub few : k ≤ 1000

-- the words that may be asked for: 1 to 8, no two the same
pub record IsTerms (words : List (List ℕ)) : Type 0 where
  pub some : 1 ≤ length words
  pub few : length words ≤ 8
  pub distinct : IsDistinct bytes_eq words

-- a word with its weight, 1 to 20
pub record IsWeight (term : List ℕ × ℕ) : Type 0 where
  pub some : 1 ≤ term.1
  pub few : term.1 ≤ 20

-- words that may be asked for, with their weights
pub record IsWeights (terms : List (List ℕ × ℕ)) : Type 0 where
  pub words : IsTerms (map (λ term. term.0) terms)
  pub weights : All IsWeight terms

-- the numbers of a top query: the share of the distance in thousandths, and the distance that weighs as much as the words
pub record IsBlend (alpha reach : ℕ) : Type 0 where
  pub share : alpha ≤ 1000
  pub some : 1 ≤ reach
  pub far : reach ≤ 4024922359

-- the query keeps the limits
abbrev pub IsWithinLimits : Query → Type 0
IsWithinLimits (Range at scale radius filter) = (scale ≤ 1000) × (radius ≤ 10 ^ 12) × IsFilter filter
IsWithinLimits (Inside rect filter) = IsFilter filter
IsWithinLimits (Nearest at scale k filter) = (scale ≤ 1000) × IsCount k × IsFilter filter
IsWithinLimits (Top at scale k alpha reach words) = (scale ≤ 1000) × IsCount k × IsBlend alpha reach × IsWeights words
IsWithinLimits (Rare at scale k alpha reach words) = (scale ≤ 1000) × IsCount k × IsBlend alpha reach × IsTerms words
IsWithinLimits (Group at scale words) = (scale ≤ 1000) × IsTerms words
IsWithinLimits (Gather at scale words) = (scale ≤ 1000) × IsTerms words
