-- A well-formed node isn't refused.
use Rattle.std.proofs.Common.{◌≡◌, ℕ, arith, sym, ◌∙◌, subst, ⊎_elim}
use Rattle.page_face.specs.FreeList.{PageMap}
use Rattle.page_face.specs.Causes.{IsUncounted}
use Rattle.page_face.specs.declared.fault.Rule.{Rule}
use Rattle.page_face.specs.declared.fault.Rule.TheVariants.{Head, Link, Kind, Fill, Order, Spare, Level, Value, Shared, Rect, Row, Entry, Words, Counts}
use Rattle.rtree_nodes.specs.Slots.{NodeView}
use Rattle.rtree_nodes.specs.Pages.{node_of}
use Rattle.rtree_nodes.specs.Subtrees.{IsNodeAt}
use Rattle.rtree_nodes.specs.Harms.{BreaksAlone, BreaksPlace}
use Rattle.rtree_nodes.proofs.Subtrees.{IsRead, values-form}
use Rattle.irtree_shape.specs.Made.{nodes_in}
use Rattle.boolean_queries.proofs.Opened.{joined-read}

-- a page with a slot that is counted breaks no rule by itself
read-fine : (rule : Rule) (pages : PageMap) (count page : ℕ) (node : NodeView) → IsRead (pages page) node → (IsUncounted count page → ⊥) → BreaksAlone rule pages count page → ⊥
read-fine Link pages count page node r counted b = counted b
read-fine Kind pages count page node r counted b = b r.told r.kind
read-fine Fill pages count page node r counted b = let z = (b r.told).1 in let m = r.mask in absurd (omega arith)
read-fine Value pages count page node r counted b = let v = values-form (pages page) r.form in let f = b r.told in cc
read-fine Head pages count page node r counted b = b
read-fine Order pages count page node r counted b = b
read-fine Spare pages count page node r counted b = b
read-fine Level pages count page node r counted b = b
read-fine Shared pages count page node r counted b = b
read-fine Rect pages count page node r counted b = b
read-fine Row pages count page node r counted b = b
read-fine Entry pages count page node r counted b = b
read-fine Words pages count page node r counted b = b
read-fine Counts pages count page node r counted b = b

-- nor by its level, if its level is what its place asks
pub joined-fine : (rule : Rule) (pages : PageMap) (rows count level page : ℕ) (wrong : ℕ → Type 0) → IsNodeAt (nodes_in node_of pages rows) level page → (IsUncounted count page → ⊥) → (rule ≡ Level → wrong level → ⊥) → BreaksPlace rule pages count page wrong → ⊥
joined-fine rule pages rows count level page wrong node counted right b =
    let r = joined-read pages rows level page node in
    ⊎_elim (λ alone. read-fine rule pages count page (node_of (pages page)) r counted alone)
    (λ at_level. right at_level.0 (subst wrong (sym r.level ∙ node.level_is) (at_level.1 r.told))) b
