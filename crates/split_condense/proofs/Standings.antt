-- Loose items that are put back: the counted pages stay told, and the root stays low.
use Rattle.std.proofs.Common.{◌≡◌, ℕ, zero, suc, ◌<◌, ◌≤◌, ◌^◌, inl, inr, arith, refl, [], ◌∷◌, length}
use Rattle.page_face.specs.FreeList.{PageMap}
use Rattle.btree_nodes.specs.Damages.{AreReadable}
use Rattle.rtree_nodes.specs.Slots.{Item}
use Rattle.rtree_nodes.specs.Trees.{uses, IsItem, root_least}
use Rattle.rtree_nodes.specs.Stock.{View}
use Rattle.rtree_nodes.specs.Loose.{Loose, total_loose, AllLoose, out_uses}
use Rattle.rtree_nodes.proofs.Heights.{node-level, root-some, none_or}
use Rattle.rtree_nodes.specs.Pages.{node_of}
use Rattle.irtree_shape.specs.Made.{nodes_in}
use Rattle.irtree_shape.specs.Loose.{IsStanding}
use Rattle.irtree_shape.specs.Whole.{level_at, IsWhole}
use Rattle.irtree_shape.proofs.Tolds.{told-moved, item-none, node-none}
use Rattle.rtree_nodes.proofs.Subtrees.{node-readable}

-- no loose item stands at a page without bytes
loose-none : (pages : PageMap) (rows n : ℕ) → length (pages n) ≡ 0 → (os : Loose) → AllLoose (λ l y. IsItem (nodes_in node_of pages rows) l y) os → total_loose (λ l y. uses (nodes_in node_of pages rows) l y n) os ≡ 0
loose-none pages rows n silent [] h = refl
loose-none pages rows n silent (o ∷ os) h = let a = item-none node_of node-readable pages rows n silent o.0 o.1 h.0 in let b = loose-none pages rows n silent os h.1 in omega arith

-- a page that is used has bytes, if one without bytes isn't used
told_if : (pages : PageMap) (n used : ℕ) → (length (pages n) ≡ 0 → used ≡ 0) → 0 < used → 0 < length (pages n)
told_if pages n used h some = elim (none_or (length (pages n))) [ inl e ↦ let z = h e in absurd (omega arith) | inr l ↦ l ]

-- while loose items are put back, the counted pages are told
pub standing-told : (before now : View) (level root : ℕ) (loose : Loose) (mine : ℕ → ℕ) (sums : (Item → ℕ) → ℕ) → IsStanding node_of before now level root loose mine sums
    → AreReadable before.pages before.count → AreReadable now.pages now.count
standing-told before now level root loose mine sums standing told =
    told-moved {before = before} {after = now} {mine = mine} {ours = out_uses (nodes_in node_of now.pages now.rows) level root loose} standing.moves
    (λ n away used. told_if now.pages n (out_uses (nodes_in node_of now.pages now.rows) level root loose n) (λ e.
    let a = node-none node_of node-readable now.pages now.rows n e 1 level root (omega arith) standing.node in
    let b = loose-none now.pages now.rows n e loose standing.items in
    omega arith) used)
    told

-- the root of a well-formed tree isn't above level 9
pub whole-low : (v : View) (root : ℕ) → IsWhole node_of v root → v.count ≤ 2 ^ 32 → level_at (nodes_in node_of v.pages v.rows) root ≤ 9
whole-low v zero whole small = omega arith
whole-low v (suc n) whole small =
    let level : ℕ = level_at (nodes_in node_of v.pages v.rows) (suc n) in
    node-level (nodes_in node_of v.pages v.rows) v (root_least level) level (suc n) whole.tree (root-some level) whole.once small
