-- The words of an entry that a path leads to.
use Rattle.std.proofs.Common.{◌≡◌, ℕ, zero, suc, ◌-◌, ◌<◌, ◌≤◌, arith, refl, ap, subst, List, inl, inr}
use Rattle.page_face.specs.FreeList.{PageMap}
use Rattle.spatial_base.specs.Point.{Position}
use Rattle.rtree_nodes.specs.Slots.{Item, NodeMap, got}
use Rattle.rtree_nodes.specs.Trees.{below, node_below}
use Rattle.rtree_nodes.specs.Loose.{Leads}
use Rattle.rtree_nodes.specs.Made as bare_made
use Rattle.rtree_nodes.proofs.Amounts.{amount-at, same_or}
use Rattle.node_rows.specs.Rows.{bytes_in}
use Rattle.rtree_nodes.specs.Reach.{place_item}
use Rattle.rtree_nodes.specs.Pages.{node_of}
use Rattle.rtree_nodes.specs.Entries.{is_entry}
use Rattle.irtree_shape.specs.Words.{worded}
use Rattle.irtree_shape.specs.Made.{nodes_in}
use Rattle.irtree_shape.specs.Whole.{level_at, tree_sum}
use Rattle.irtree_shape.specs.Entries.{AreWorded, has_impact}
use Rattle.irtree_shape.proofs.Entries.{entry-counts, impact-counts}
use Rattle.split_condense.proofs.Plain.{IsBlind, leads-worded}

-- the words of an item don't make it another entry
pub entry-blind : (point : Position) (key : List ℕ) → IsBlind (is_entry point key)
unfolding is_entry
entry-blind point key x h = refl

-- what a path leads to is among the entries
leads-sum : (nodes : NodeMap) (f : Item → ℕ) (path : List ℕ) (level page : ℕ) (x : Item) → Leads nodes path level page x → f x ≤ node_below nodes f level page
leads-sum nodes f path zero page x h =
    let at = amount-at (λ y. below nodes f 0 y) (nodes page).slots _ h.0 in
    let is = ap (got f) h.1 in
    omega (arith, at, is)
leads-sum nodes f path (suc level) page x h =
    let at = amount-at (λ y. below nodes f (suc level) y) (nodes page).slots _ h.1.0 in
    let is = ap (got (λ y. below nodes f (suc level) y)) h.1.1 in
    let rest = leads-sum nodes f path level h.0.to x h.2 in
    omega (arith, at, is, rest)

-- a tree that isn't empty has what its root has
root_sum : (nodes : NodeMap) (root : ℕ) (f : Item → ℕ) → 0 < root → tree_sum nodes root f ≡ node_below nodes f (level_at nodes root) root
root_sum nodes zero f some = absurd (omega arith)
root_sum nodes (suc n) f some = refl

-- where each entry of a point and key has these impacts, the one that a path leads to does
words-are : (nodes : NodeMap) (root : ℕ) (path : List ℕ) (point : Position) (key : List ℕ) (f g : ℕ → ℕ) → 0 < root → AreWorded nodes root point key f
    → Leads nodes path (level_at nodes root) root (worded g (place_item point key)) → g ≡ f
words-are nodes root path point key f g some all leads = λ i w. at w i
  where
    at : (w : ℕ) → g w ≡ f w
    at w = elim (same_or (g w) (f w)) [
      | inl e ↦ e
      | inr k ↦
          let h : Item → ℕ = has_impact point key w (g w) in
          let one = impact-counts point key g w (g w) refl in
          let none = all w (g w) k in
          let sum = leads-sum nodes h path (level_at nodes root) root (worded g (place_item point key)) leads in
          let is = root_sum nodes root h some in
          absurd (omega (arith, one, none, sum, is))
    ]

-- a path to an entry in the pages alone leads to it with its words
pub leads-entry : (pages : PageMap) (rows root level : ℕ) (path : List ℕ) (point : Position) (key : List ℕ) (f : ℕ → ℕ) → 0 < root → AreWorded (nodes_in node_of pages rows) root point key f
    → level ≡ level_at (nodes_in node_of pages rows) root → Leads (bare_made.nodes_in node_of pages) path level root (place_item point key)
    → Leads (nodes_in node_of pages rows) path (level_at (nodes_in node_of pages rows) root) root (worded f (place_item point key))
leads-entry pages rows root level path point key f some all level_is leads =
    let nodes : NodeMap = nodes_in node_of pages rows in
    let there = leads-worded (bare_made.nodes_in node_of pages) (bytes_in pages rows) path level root (place_item point key) leads in
    let here : Leads nodes path (level_at nodes root) root (worded there.words (place_item point key)) = subst (λ (l : ℕ). Leads nodes path l root (worded there.words (place_item point key))) level_is there.leads in
    subst (λ (g : ℕ → ℕ). Leads nodes path (level_at nodes root) root (worded g (place_item point key))) (words-are nodes root path point key f there.words some all here) here

-- a path to an entry in the pages alone leads to one of the tree's entries
pub leads-has : (pages : PageMap) (rows root level : ℕ) (path : List ℕ) (point : Position) (key : List ℕ) → 0 < root → level ≡ level_at (nodes_in node_of pages rows) root
    → Leads (bare_made.nodes_in node_of pages) path level root (place_item point key) → 1 ≤ tree_sum (nodes_in node_of pages rows) root (is_entry point key)
leads-has pages rows root level path point key some level_is leads =
    let nodes : NodeMap = nodes_in node_of pages rows in
    let there = leads-worded (bare_made.nodes_in node_of pages) (bytes_in pages rows) path level root (place_item point key) leads in
    let here : Leads nodes path (level_at nodes root) root (worded there.words (place_item point key)) = subst (λ (l : ℕ). Leads nodes path l root (worded there.words (place_item point key))) level_is there.leads in
    let one = entry-counts point key there.words in
    let sum = leads-sum nodes (is_entry point key) path (level_at nodes root) root (worded there.words (place_item point key)) here in
    let is = root_sum nodes root (is_entry point key) some in
    omega (arith, one, sum, is)
