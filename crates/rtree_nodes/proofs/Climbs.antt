-- Views of pages that are the same.
use Rattle.std.proofs.Common.{◌≡◌, ℕ, List}
use Rattle.page_face.specs.FreeList.{PageMap}
use Rattle.rtree_nodes.specs.Stock.{view}

-- the same pages, counts and free list are the same view
pub view-same : (a b : PageMap) (rows c d e f : ℕ) (free : List ℕ) → a ≡ b → c ≡ d → e ≡ f → view a rows c e free ≡ view b rows d f free
view-same a b rows c d e f free p q r = rw (p, q, r)
