-- What a put leaves alone where the pages tell what they hold, whatever that is.
use Rattle.std.specs.Prelude.{◌≡◌, ◌≢◌, ℕ, ◌<◌, slice_index}
use Rattle.page_face.specs.FreeList.{PageMap}
use Rattle.btree_nodes.specs.Tree.{level_of}
use Rattle.btree_nodes.specs.Damages.{AreReadable}

-- Each page is told still, and of those that were counted only this one and free ones have changed.
pub record KeepsOthers (page : ℕ) (old : PageMap) (count : ℕ) (new : PageMap) (count' : ℕ) : Type 0 where
  pub told : AreReadable new count'
  pub others : (n : ℕ) → n < count → n ≢ page → slice_index (old n) 0 ≢ 4 → new n ≡ old n

-- Each page is told still, and no inner page of a higher level has changed.
pub record KeepsAbove (level : ℕ) (old : PageMap) (count : ℕ) (new : PageMap) (count' : ℕ) : Type 0 where
  pub told : AreReadable new count'
  pub above : (n : ℕ) → n < count → slice_index (old n) 0 ≡ 2 → level < level_of (old n) → new n ≡ old n
