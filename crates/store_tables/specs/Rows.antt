-- The row of a number, and where it stands.
use Rattle.std.specs.Prelude.{ℕ, List, Option, option_map}
use Rattle.page_face.specs.FreeList.{PageMap}
use Rattle.paged_map.specs.Spots.{IsSpot}
use Rattle.paged_map.specs.declared.replacing.RowSpot.{RowSpot}
use Rattle.row_codec.specs.declared.counted.Counted.{Counted}
use Rattle.store_tables.specs.declared.reading.CountedRow.{CountedRow}
use Rattle.store_tables.specs.Holding.{numbers_form}

-- the word and the count of a row that was found
abbrev pub counted_in : Option CountedRow → Option Counted
counted_in = option_map (λ (row : CountedRow). row.counted)

-- where such a row stands
abbrev pub spot_in : Option CountedRow → Option RowSpot
spot_in = option_map (λ (row : CountedRow). row.spot)

-- The page looked at, which has these bytes, has the row of a number at the spot.
abbrev pub IsNumberSpot : PageMap → ℕ → ℕ → List ℕ → ℕ → RowSpot → Type 0
IsNumberSpot = IsSpot numbers_form
