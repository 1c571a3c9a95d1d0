-- The nodes of a whole store's tree.
use Rattle.std.proofs.Common.{◌≡◌, ℕ, zero, suc, ◌<◌, inl, inr, Option, Some, None, List, true, false, refl, sym, ap, subst, ◌∙◌, arith}
use Rattle.page_face.specs.FreeList.{PageMap}
use Rattle.page_face.specs.declared.fault.Damage.{Damage}
use Rattle.page_face.specs.declared.fault.Rule.{Rule}
use Rattle.page_face.specs.declared.fault.Rule.TheVariants.{Head, Link, Kind, Fill, Order, Spare, Level, Value, Shared, Rect, Row, Entry, Words, Counts}
use Rattle.page_store.specs.declared.superblock.Superblock.{Superblock}
use Rattle.rtree_nodes.specs.Pages.{is_form, has_clear_spares, level_in, node_of, stored_in}
use Rattle.rtree_nodes.specs.Slots.{Item, NodeView, NodeMap, Held, filled, got, tops}
use Rattle.rtree_nodes.specs.Trees.{IsItem, IsNode, reach_of, root_least}
use Rattle.rtree_nodes.specs.Whole as plain
use Rattle.rtree_nodes.proofs.Bounding.{some-form}
use Rattle.rtree_nodes.proofs.Formed.{form-node, form-parts, form-slots, parts-clear}
use Rattle.rtree_nodes.proofs.Heights.{root-some}
use Rattle.rtree_nodes.proofs.Subtrees.{values-form}
use Rattle.rtree_nodes.proofs.Sums.{top-same}
use Rattle.store_verify.specs.Breaks.{BreaksRect, BreaksTree, IsNotLeast, SomeItem, SomeNode, SomeNodeOf, greatest}
use Rattle.tree_check.specs.Damages.{BreaksPlaced}
use Rattle.store_verify.specs.Tree.{plain_nodes}
use Rattle.store_verify.specs.Whole.{IsWhole}

-- ---- no node of a well-formed tree is so, if none that is well formed is

item-in : (nodes : NodeMap) (level : ℕ) (o : Option Item) (x : Item) → o ≡ Some x → Held (λ y. IsItem nodes level y) o → IsItem nodes level x
item-in nodes level o x is held = subst (λ (q : Option Item). Held (λ y. IsItem nodes level y) q) is held

pub some-node : (P : ℕ → ℕ → ℕ → Type 0) (nodes : NodeMap) → ((least level page : ℕ) → 0 < least → IsNode (λ y. IsItem nodes level y) least level (nodes page) → P least level page → ⊥)
    → (level least page : ℕ) → 0 < least → IsNode (λ y. IsItem nodes level y) least level (nodes page) → SomeNode P nodes least level page → ⊥
some-node P nodes each zero least page some node there = each least zero page some node there
some-node P nodes each (suc level) least page some node (inl here) = each least (suc level) page some node here
some-node P nodes each (suc level) least page some node (inr child) =
    let item : IsItem nodes (suc level) child.item = item-in nodes (suc level) ((nodes page).slots child.at) child.item child.is (node.items child.at child.within) in
    some-node P nodes each level 12 child.item.to (omega arith) item.0 child.holds

-- the bytes of a well-formed node have its level
node-form : (page : List ℕ) (level least : ℕ) (nodes : NodeMap) → 0 < least → IsNode (λ y. IsItem nodes level y) least level (node_of page) → is_form page ≡ true
node-form page level least nodes some node = some-form page (let filled' = node.some in omega arith)

pub node-level : (page : List ℕ) (level least : ℕ) (nodes : NodeMap) → 0 < least → IsNode (λ y. IsItem nodes level y) least level (node_of page) → level_in page ≡ level
node-level page level least nodes some node =
    sym (ap (λ (v : NodeView). v.level) (form-node page (node-form page level least nodes some node))) ∙ node.level_is

pub some-root : (P : ℕ → ℕ → ℕ → Type 0) (pages : PageMap)
    → ((least level page : ℕ) → 0 < least → IsNode (λ y. IsItem (plain_nodes pages) level y) least level (plain_nodes pages page) → P least level page → ⊥)
    → (root : ℕ) → plain.IsWell node_of pages root → SomeNodeOf P pages root → ⊥
some-root P pages each zero well there = there
some-root P pages each (suc n) well there =
    let level : ℕ = (node_of (pages (suc n))).level in
    let is : level_in (pages (suc n)) ≡ level = node-level (pages (suc n)) level (root_least level) (plain_nodes pages) (root-some level) well in
    some-node P (plain_nodes pages) each level (root_least level) (suc n) (root-some level) well
    (subst (λ (l : ℕ). SomeNode P (plain_nodes pages) (root_least l) l (suc n)) is there)

-- ---- rules in place

module _ (page : List ℕ) (level least : ℕ) (nodes : NodeMap) (some : 0 < least) (node : IsNode (λ y. IsItem nodes level y) least level (node_of page)) where
  form : is_form page ≡ true
  form = node-form page level least nodes some node

  fill-apart : filled (stored_in page) < least → ⊥
  fill-apart short = let same = ap filled (form-slots page form) in let enough = node.some in absurd (omega arith)

  pub placed-apart : (rule : Rule) → BreaksPlaced rule least level page → ⊥
  placed-apart Kind breaks = breaks (form-parts page form).kind
  placed-apart Fill breaks = fill-apart breaks
  placed-apart Spare breaks = let clear : has_clear_spares page ≡ true = parts-clear page (form-parts page form).clear in absurd (let e : true ≡ false = sym clear ∙ breaks in cc)
  placed-apart Level breaks = breaks (node-level page level least nodes some node)
  placed-apart Value breaks = let values = values-form page form in absurd (let e : true ≡ false = sym values ∙ breaks in cc)
  placed-apart Head breaks = breaks
  placed-apart Link breaks = breaks
  placed-apart Order breaks = breaks
  placed-apart Shared breaks = breaks
  placed-apart Rect breaks = breaks
  placed-apart Row breaks = breaks
  placed-apart Entry breaks = breaks
  placed-apart Words breaks = breaks
  placed-apart Counts breaks = breaks

-- no node of a whole store breaks a rule in its place
pub tree-apart : (block : Superblock) (pages : PageMap) → IsWhole block pages → (damage : Damage) → BreaksTree block pages damage → ⊥
tree-apart block pages whole damage breaks =
    some-root (λ least level page. (page ≡ damage.page) × BreaksPlaced damage.rule least level (pages page)) pages
    (λ least level page some node is. placed-apart (pages page) level least (plain_nodes pages) some node damage.rule is.1) block.head.tree whole.tree breaks

-- ---- rectangles

-- an item of a well-formed tree reaches as far as the places below it
pub reach-held : (nodes : NodeMap) (d level : ℕ) → ((x : Item) → IsItem nodes level x → x.reach d ≡ greatest nodes d level x) → (o : Option Item) → Held (λ y. IsItem nodes level y) o
    → got (reach_of d) o ≡ got (greatest nodes d level) o
reach-held nodes d level each None held = refl
reach-held nodes d level each (Some x) held = each x held

pub reach-greatest : (nodes : NodeMap) (d level : ℕ) (x : Item) → IsItem nodes level x → x.reach d ≡ greatest nodes d level x
unfolding tops
reach-greatest nodes d zero x item = refl
reach-greatest nodes d (suc level) x item = item.1 d
    ∙ top-same 32 (λ i. got (reach_of d) ((nodes x.to).slots i)) (λ i. got (greatest nodes d level) ((nodes x.to).slots i))
    (λ i inside. reach-held nodes d level (λ y own. reach-greatest nodes d level y own) ((nodes x.to).slots i) (item.0.items i inside))

-- each rectangle of a whole store is the least one
pub rect-apart : (block : Superblock) (pages : PageMap) → IsWhole block pages → (page : ℕ) → BreaksRect block pages page → ⊥
rect-apart block pages whole page breaks =
    some-root (λ least level n. (n ≡ page) × SomeItem (λ i x. IsNotLeast (plain_nodes pages) level x) (plain_nodes pages n).slots) pages
    (λ least level n some node is.
    let item : IsItem (plain_nodes pages) level is.1.item = item-in (plain_nodes pages) level ((plain_nodes pages n).slots is.1.at) is.1.item is.1.is (node.items is.1.at is.1.within) in
    is.1.holds (λ side less. reach-greatest (plain_nodes pages) side level is.1.item item))
    block.head.tree whole.tree breaks
