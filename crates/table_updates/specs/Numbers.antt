-- Word numbers with their impacts, as a place holds them.
use Rattle.std.specs.Prelude.{◌≡◌, ℕ, ◌≤◌, List, length, IsSome, All}
use Rattle.std.specs.List.Sorted.{IsStrictlySortedBy}
use Rattle.std.specs.Map.{keys_of}
use Rattle.std.specs.Ordering.{nat_cmp}
use Rattle.page_face.specs.declared.fault.PageFault.{PageFault}
use Rattle.page_face.specs.declared.fault.PageFault.TheVariants.{Memory, Damaged}
use Rattle.row_codec.specs.Pairs.{Pair, HasImpact}
use Rattle.store_tables.specs.Broken.{words_disagree}
use Rattle.store_model.specs.Ahead.{number_among}

-- a word with an impact from 1 to 255
abbrev pub HasTermImpact : List ℕ × ℕ → Type 0
HasTermImpact term = (1 ≤ term.1) × (term.1 ≤ 255)

-- The pairs are a map from numbers to impacts that a place can hold: at most 64, each number before the next, each with an impact.
pub record IsNumberMap (pairs : List Pair) : Type 0 where
  pub few : length pairs ≤ 64
  pub ascending : IsStrictlySortedBy nat_cmp (keys_of pairs)
  pub impacts : All HasImpact pairs

-- a map has a number of the word
abbrev pub IsKnownIn : List (List ℕ × ℕ) → List ℕ → Type 0
IsKnownIn numbers word = IsSome (number_among word numbers)

-- what looking words up in memory may be refused for
abbrev pub IsPairFault : PageFault → Type 0
IsPairFault Memory = Unit {0}
IsPairFault (Damaged damage) = damage ≡ words_disagree
IsPairFault _ = ⊥
