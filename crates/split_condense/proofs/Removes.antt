-- The root of a whole tree from which an item is to be taken out.
use Rattle.std.proofs.Common.{◌≡◌, ℕ, zero, suc, ◌<◌, ◌≤◌, List, [], ◌∷◌, Ok, IsErr, refl, arith, ap, sym, ◌∙◌, subst, inl, true≢false, length}
use Rattle.page_face.specs.FreeList.{PageMap}
use Rattle.page_face.specs.Causes.{IsUncounted}
use Rattle.rtree_nodes.specs.Slots.{Item, filled}
use Rattle.rtree_nodes.specs.Trees.{root_least}
use Rattle.rtree_nodes.specs.Stock.{view}
use Rattle.rtree_nodes.specs.Loose.{Leads}
use Rattle.rtree_nodes.proofs.Fells.{least-between}
use Rattle.rtree_nodes.specs.Pages.{node_of, slots_in, level_in}
use Rattle.rtree_nodes.proofs.Bounding.{some-form}
use Rattle.node_rows.specs.Rows.{bytes_in}
use Rattle.irtree_shape.specs.Made.{nodes_in}
use Rattle.irtree_shape.specs.Loose.{IsTaking}
use Rattle.irtree_shape.specs.Whole.{level_at, IsWhole}
use Rattle.irtree_shape.proofs.Words.{words-filled}
use Rattle.irtree_shape.proofs.Fells.{well-tree, level-at, whole_taking}
use Rattle.split_condense.specs.declared.orphan.Orphan.{Orphan}
use Rattle.split_condense.specs.Orphans.{loose_in}
use Rattle.irtree_insert.proofs.Loads.{form-level}

-- a call that was refused for page 0 and wasn't refused was for another page
pub root-some : (X Y : Type 0) (count root : ℕ) (value : X) → (IsUncounted count root → IsErr {T = X} {E = Y} (Ok value)) → 0 < root
root-some X Y count zero value h = absurd (true≢false (sym (h (inl refl))))
root-some X Y count (suc n) value h = omega arith

no-more : (os : List Orphan) → length os ≡ 0 → os ≡ []
no-more [] e = refl
no-more (o ∷ os) e = absurd (omega arith)

-- as many orphans as none are none
pub none-left : (olds news : List Orphan) → olds ≡ [] → length news ≡ length olds → news ≡ []
none-left olds news none same = no-more news (same ∙ ap length none)

two-slots : (level : ℕ) → root_least level ≤ 1 → level ≡ 0
two-slots zero h = refl
two-slots (suc level) h = absurd (omega arith)

module _ (old : PageMap) (rows count first root : ℕ) (free : List ℕ) (some : 0 < root) (whole : IsWhole node_of (view old rows count first free) root) where
  -- the root has as many slots as a root needs
  pub whole-least : root_least (level_at (nodes_in node_of old rows) root) ≤ filled (slots_in (old root))
  whole-least = let a = (well-tree (nodes_in node_of old rows) root some whole.tree).some in let b = words-filled (bytes_in old rows root) (slots_in (old root)) in omega arith

  -- so one at least
  pub whole-some : 0 < filled (slots_in (old root))
  whole-some = let a = whole-least in let b = (least-between (level_at (nodes_in node_of old rows) root)).0 in omega arith

  -- its page is of the tree's level
  pub whole-level-in : level_in (old root) ≡ level_at (nodes_in node_of old rows) root
  whole-level-in = sym (form-level (old root) (some-form (old root) whole-some)) ∙ sym (level-at (nodes_in node_of old rows) root some)

  -- and one with a single slot is a leaf
  pub whole-leaf : filled (slots_in (old root)) ≤ 1 → level_at (nodes_in node_of old rows) root ≡ 0
  whole-leaf few = two-slots (level_at (nodes_in node_of old rows) root) (let a = whole-least in omega arith)

  -- the item at the end of a path can be taken out
  pub root-taking : (level : ℕ) (path : List ℕ) (x : Item) (orphans : List Orphan) → level ≡ level_at (nodes_in node_of old rows) root → orphans ≡ [] → Leads (nodes_in node_of old rows) path (level_at (nodes_in node_of old rows) root) root x
      → IsTaking node_of (view old rows count first free) 1 level root path x (loose_in orphans)
  root-taking level path x orphans is none leads =
      subst (λ (os : List Orphan). IsTaking node_of (view old rows count first free) 1 level root path x (loose_in os)) (sym none)
      (subst (λ (l : ℕ). IsTaking node_of (view old rows count first free) 1 l root path x []) (sym is) (whole_taking node_of (view old rows count first free) root path x some whole leads))
