-- How high a map is.
use Rattle.std.specs.Prelude.{ℕ, zero, suc, ◌+◌}
use Rattle.page_face.specs.FreeList.{PageMap}
use Rattle.btree_nodes.specs.Tree.{level_of}

-- the levels of pages of a map by its root, one more than the level of the root's page; none where there is no root
abbrev pub height_of : PageMap → ℕ → ℕ
height_of pages zero = 0
height_of pages (suc n) = level_of (pages (suc n)) + 1
