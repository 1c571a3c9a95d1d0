-- A tree that changed leaves the counted pages told.
use Rattle.std.proofs.Common.{◌≡◌, ℕ, zero, suc, ◌<◌, ◌≤◌, ⊎_elim, length, arith, refl, Option}
use Rattle.std.proofs.lemmas.Bool.{cases_lt}
use Rattle.page_face.specs.FreeList.{PageMap}
use Rattle.btree_nodes.specs.Damages.{AreReadable}
use Rattle.rtree_nodes.specs.Slots.{Item}
use Rattle.rtree_nodes.specs.Trees.{root_least}
use Rattle.rtree_nodes.specs.Stock.{View}
use Rattle.rtree_nodes.proofs.Heights.{root-some}
use Rattle.rtree_nodes.specs.Pages.{node_of}
use Rattle.rtree_nodes.proofs.Subtrees.{node-readable}
use Rattle.irtree_shape.specs.Made.{nodes_in}
use Rattle.irtree_shape.specs.Whole.{IsWell, level_at, tree_uses}
use Rattle.irtree_shape.proofs.Tolds.{node-none, told-moved}
use Rattle.irtree_shape.specs.Regrown.{IsRegrown}

-- a page that isn't told is none of a tree
tree_silent : (pages : PageMap) (rows root n : ℕ) → length (pages n) ≡ 0 → IsWell (nodes_in node_of pages rows) root → tree_uses (nodes_in node_of pages rows) root n ≡ 0
tree_silent pages rows zero n silent well = refl
tree_silent pages rows (suc m) n silent well =
    let level : ℕ = level_at (nodes_in node_of pages rows) (suc m) in
    node-none node_of node-readable pages rows n silent (root_least level) level (suc m) (root-some level) well

-- a tree that changed leaves the counted pages told
pub told-regrown : (before : View) (pages : PageMap) (rows count first old_root root : ℕ) (taken put : Option Item)
    → IsRegrown node_of before pages rows count first old_root root taken put → AreReadable before.pages before.count → AreReadable pages count
told-regrown before pages rows count first old_root root taken put h told =
    told-moved h.moves
    (λ n some used. ⊎_elim
    (λ (silent : length (pages n) < 1). let none = tree_silent pages rows root n (omega arith) h.whole.tree in absurd (omega (arith, none, used)))
    (λ (long : 1 ≤ length (pages n)). omega arith)
    (cases_lt (length (pages n)) 1))
    told
