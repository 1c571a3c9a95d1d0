-- The root of a tree as a node.
use Rattle.std.proofs.Common.{◌≡◌, ℕ, zero, suc, ◌^◌, ◌<◌, ◌≤◌, List, arith, refl, ap, ⊎_elim}
use Rattle.page_face.specs.FreeList.{PageMap}
use Rattle.page_face.specs.declared.fault.Rule.{Rule}
use Rattle.page_face.specs.declared.fault.Rule.TheVariants.{Level}
use Rattle.btree_nodes.proofs.Supplies.{uncounted-past}
use Rattle.rtree_nodes.specs.Slots.{Item}
use Rattle.rtree_nodes.specs.Trees.{node_below}
use Rattle.rtree_nodes.specs.Stock.{view}
use Rattle.rtree_nodes.specs.Made.{nodes_in}
use Rattle.rtree_nodes.specs.Whole.{IsWell, IsWhole, level_at, tree_sum, tree_uses}
use Rattle.rtree_nodes.proofs.Heights.{root-some, whole-level}
use Rattle.rtree_nodes.specs.Pages.{node_of}
use Rattle.rtree_nodes.specs.Subtrees.{IsNodeAt, AreCounted}
use Rattle.rtree_nodes.specs.Harms.{BreaksPlace}
use Rattle.rtree_nodes.proofs.Subtrees.{node-fine, node-read, page-counted}

-- the root of a tree that isn't empty
pub well-node : (pages : PageMap) (root : ℕ) → 0 < root → IsWell node_of pages root → IsNodeAt (nodes_in node_of pages) (level_at node_of pages root) root
well-node pages zero some well = absurd (omega arith)
well-node pages (suc n) some well =
    let least = root-some (level_at node_of pages (suc n)) in
    let filled = well.some in
    record { level_is = well.level_is; some = omega arith; items = well.items }

pub well-level : (pages : PageMap) (root : ℕ) → 0 < root → (node_of (pages root)).level ≡ level_at node_of pages root
well-level pages zero some = absurd (omega arith)
well-level pages (suc n) some = refl

pub well-sum : (pages : PageMap) (root : ℕ) (f : Item → ℕ) → 0 < root → tree_sum node_of pages root f ≡ node_below (nodes_in node_of pages) f (level_at node_of pages root) root
well-sum pages zero f some = absurd (omega arith)
well-sum pages (suc n) f some = refl

-- the pages of a whole tree are counted
pub whole-counted : (pages : PageMap) (rows count first : ℕ) (free : List ℕ) (root : ℕ) → 0 < root → IsWhole node_of (view pages rows count first free) root → AreCounted (nodes_in node_of pages) count (level_at node_of pages root) root
whole-counted pages rows count first free zero some whole = absurd (omega arith)
whole-counted pages rows count first free (suc m) some whole = λ n used u.
    let once = whole.once n in
    let away = whole.away in
    ⊎_elim (λ (z : n ≡ 0). let e = ap (tree_uses node_of pages (suc m)) z in absurd (omega arith)) (λ (past : count ≤ n). let p = uncounted-past count n past in absurd (omega arith)) u

-- its root isn't refused
pub root-fine : (rule : Rule) (pages : PageMap) (rows count first : ℕ) (free : List ℕ) (root : ℕ) → 0 < root → IsWhole node_of (view pages rows count first free) root → (rule ≡ Level → count ≤ 2 ^ 32)
    → BreaksPlace rule pages count root (λ found. 9 < found) → ⊥
root-fine rule pages rows count first free root some whole small b =
    let level : ℕ = level_at node_of pages root in
    let node = well-node pages root some whole.tree in
    let counted = page-counted (nodes_in node_of pages) count level root (whole-counted pages rows count first free root some whole) in
    ⊎_elim (λ alone. node-fine rule pages count level root node counted alone)
    (λ at_level.
    let r = node-read pages level root node in
    let high = at_level.1 r.told in
    let same = well-level pages root some in
    let is = r.level in
    let low = whole-level node_of (view pages rows count first free) root whole (small at_level.0) in
    absurd (omega arith)) b
