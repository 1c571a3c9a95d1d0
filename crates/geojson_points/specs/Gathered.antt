-- What was gathered of an object's members.
use Rattle.std.specs.Prelude.{◌≡◌, ℕ, List, map, reverse, is_some}
use Rattle.std.specs.Ordering.{on, nat_cmp}
use Rattle.std.specs.Cmp.Lexicographic.{slice_cmp}
use Rattle.std.specs.BTreeSet.{BTreeSet, contains}
use Rattle.json_spelled.specs.Json.{Members}
use Rattle.geojson_points.specs.Object.{last_of, strings_of}
use denote.Bor.{Bor}

-- the set has the members' names, and the list their strings, the last of them first
pub record Gathers (members : Members) (names : BTreeSet (Bor (List ℕ))) (strings : List (Bor (List ℕ))) : Type 0 where
  pub seen : (name : Bor (List ℕ)) → contains (on (λ (b : Bor (List ℕ)). b.now) (slice_cmp nat_cmp)) names name ≡ is_some (last_of name.now members)
  pub found : map (λ (b : Bor (List ℕ)). b.now) (reverse strings) ≡ strings_of members
