-- What a page of cells says of itself.
use Rattle.std.specs.Prelude.{◌≡◌, ℕ, ◌+◌, ◌*◌, ◌<◌, ◌≤◌, List, take, drop, length, slice_index, true}
use Rattle.std.specs.Int.{from_be_bytes, w16}
use Rattle.page_face.specs.FreeList.{are_zero}

-- how many cells a page says that it has, in bytes 2 and 3
unfoldable pub count_of : List ℕ → ℕ
count_of page = from_be_bytes w16 (take 2 (drop 2 page))

-- each byte is 0
abbrev pub AreZero : List ℕ → Type 0
AreZero bytes = are_zero bytes ≡ true

-- What a page of cells of this width says of itself, apart from their order: its kind, its map, its level, at least so many cells, all of which fit, and zeros in the spare bytes.
pub record IsNode (number_of_map kind_byte at_level width least : ℕ) (page : List ℕ) : Type 0 where
  pub size : length page ≡ 4096
  pub kind : slice_index page 0 ≡ kind_byte
  pub of : slice_index page 1 ≡ number_of_map
  pub level : slice_index page 4 ≡ at_level
  pub some : 0 < count_of page
  pub fill : least ≤ count_of page
  pub fits : 16 + width * count_of page ≤ 4096
  pub plain : AreZero (take 11 (drop 5 page))
  pub rest : AreZero (drop (16 + width * count_of page) page)
