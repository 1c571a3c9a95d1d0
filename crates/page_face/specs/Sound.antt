-- What a page of a map says of itself alone: all that a check of it finds but the bounds of its place, its least count and the level that its place asks.
use Rattle.std.specs.Prelude.{◌≡◌, ℕ, zero, suc, ◌+◌, ◌<◌, List}
use Rattle.page_face.specs.Cells.{key_at, IsAscending}
use Rattle.page_face.specs.Nodes.{IsNode, count_of}
use Rattle.page_face.specs.declared.seal.Seal.{Seal}

-- the kind of a page of a level
abbrev pub kind_of : ℕ → ℕ
kind_of zero = 1
kind_of (suc level) = 2

-- the width of its cells
abbrev pub width_of : Seal → ℕ → ℕ
width_of seal zero = seal.key + seal.value
width_of seal (suc level) = seal.key + 4

-- the least number of its cells, which a root may have
abbrev pub least_of : ℕ → ℕ
least_of zero = 1
least_of (suc level) = 2

-- the first of its cells that has a key of its own
abbrev pub start_of : ℕ → ℕ
start_of zero = 0
start_of (suc level) = 1

-- a page as sealed: its header, its spare bytes, and keys that ascend strictly, the first one of an inner page being zero
pub record IsSound (seal : Seal) (page : List ℕ) : Type 0 where
  pub node : IsNode seal.map (kind_of seal.level) seal.level (width_of seal seal.level) (least_of seal.level) page
  pub first : 0 < seal.level → key_at seal.key (width_of seal seal.level) page 0 ≡ 0
  pub order : IsAscending seal.key (width_of seal seal.level) page (start_of seal.level) (count_of page)
