-- What a walk gathers of places: where they are, and the numbers of their words.
use Rattle.std.specs.Prelude.{◌≡◌, ℕ, List, ◌++◌, map, All}
use Rattle.page_face.specs.FreeList.{PageMap}
use Rattle.btree_nodes.specs.Rows.{Row}
use Rattle.spatial_base.specs.Key.{Name}
use Rattle.row_codec.specs.declared.stored.Stored.{Stored}
use Rattle.store_tables.specs.Coded.{IsPlaceEntry, place_row}
use Rattle.store_tables.specs.Holding.{HoldsPlaces}
use Rattle.store_verify.specs.Sites.{Site}
use Rattle.store_verify.specs.Words.{held_numbers}

-- the keys of places, each with its point
abbrev pub sites_of : List (Name × Stored) → List Site
sites_of = map (λ (e : Name × Stored). (e.0, e.1.point))

-- the sites of the places of these rows joined sites, and the numbers of their words joined numbers
pub record GainsPlaces (rows : List Row) (sites : List Site) (numbers : List ℕ) (sites' : List Site) (numbers' : List ℕ) : Type 0 where
  pub more : List (Name × Stored)
  pub are : rows ≡ map place_row more
  pub each : All IsPlaceEntry more
  pub sites_are : sites' ≡ sites ++ sites_of more
  pub numbers_are : numbers' ≡ numbers ++ held_numbers more

-- the place table holds places that have these sites and numbers of words
pub record HoldsSites (pages : PageMap) (root : ℕ) (sites : List Site) (numbers : List ℕ) : Type 0 where
  pub entries : List (Name × Stored)
  pub holds : HoldsPlaces pages root entries
  pub sites_are : sites ≡ sites_of entries
  pub numbers_are : numbers ≡ held_numbers entries
