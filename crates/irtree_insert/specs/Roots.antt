-- Loose items that are put back.
use Rattle.std.specs.Prelude.{ℕ, List}
use Rattle.page_face.specs.FreeList.{PageMap}
use Rattle.rtree_nodes.specs.Slots.{Item}
use Rattle.rtree_nodes.specs.Stock.{View, view}
use Rattle.rtree_nodes.specs.Loose.{Loose}
use Rattle.rtree_nodes.specs.Pages.{node_of}
use Rattle.irtree_shape.specs.Loose.{IsStanding}

-- the loose items stand so at some level, over some free list
pub record Stands (before : View) (pages : PageMap) (rows count first root : ℕ) (loose : Loose) (mine : ℕ → ℕ) (sums : (Item → ℕ) → ℕ) : Type 0 where
  pub free : List ℕ
  pub level : ℕ
  pub standing : IsStanding node_of before (view pages rows count first free) level root loose mine sums
