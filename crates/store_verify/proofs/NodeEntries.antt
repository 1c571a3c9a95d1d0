-- The pages of a well-formed tree are nodes, and the sum over their entries is that over the tree.
use Rattle.std.proofs.Common.{◌≡◌, ℕ, zero, suc, ◌+◌, ◌<◌, ◌++◌, ◌==◌, All, List, [], ◌∷◌, Option, Some, None, IfSome, true, length, get_or, take, arith, refl, sym, ap, ◌∙◌, subst}
use Rattle.std.specs.Prelude.{sum_by}
use Rattle.std.proofs.lemmas.List.{take_more}
use Rattle.std.proofs.lemmas.List.Elements.{All-append, All-cons, All-nil}
use Rattle.std.proofs.lemmas.List.Sums.{sum_by-append, sum_by_push}
use Rattle.page_face.specs.Causes.{IsUncounted}
use Rattle.page_face.specs.FreeList.{PageMap}
use Rattle.page_face.specs.declared.fault.Rule.{Rule}
use Rattle.page_face.specs.declared.fault.Rule.TheVariants.{Head, Link, Kind, Fill, Order, Spare, Level, Value, Shared, Rect, Row, Entry, Words, Counts}
use Rattle.btree_nodes.specs.Supply.{one_at}
use Rattle.btree_nodes.proofs.Supplies.{one_at-same}
use Rattle.rtree_nodes.specs.Breaks.{BreaksHeader}
use Rattle.rtree_nodes.specs.Pages.{is_form, level_in, mask_of, node_of, slots_in}
use Rattle.rtree_nodes.specs.Reach.{is_place}
use Rattle.rtree_nodes.specs.declared.content.Slot.{Slot}
use Rattle.rtree_nodes.specs.Slots.{Item, NodeView, Slots, Held, got, sum_to, amount, filled}
use Rattle.rtree_nodes.specs.Trees.{IsNode, IsItem, below, node_below, uses, root_least}
use Rattle.rtree_nodes.specs.Whole.{IsWell, level_at, tree_sum, tree_uses}
use Rattle.rtree_nodes.proofs.Amounts.{amount-at}
use Rattle.rtree_nodes.proofs.Bounding.{some-form, some-mask}
use Rattle.rtree_nodes.proofs.Formed.{form-node, form-parts}
use Rattle.rtree_nodes.proofs.Heights.{root-some}
use Rattle.rtree_nodes.proofs.Sums.{sum-zero}
use Rattle.tree_check.specs.Nodes.{nodes_in, chained, listed, pages_below, node_pages, tree_pages}
use Rattle.store_verify.specs.Sites.{Site, site_item, site_sum}
use Rattle.store_verify.specs.EntrySums.{IsFilledPage, entry_sum, page_sum}

-- ---- entries that are added

-- a leaf's slot has a place, if anything
pub slot-place : (slot : Option Slot) (level : ℕ) → level ≡ 0 → IfSome slot (λ s. is_place s ≡ (level == 0)) → IfSome slot (λ s. is_place s ≡ true)
slot-place slot level leaf kind = subst (λ (l : ℕ). IfSome slot (λ s. is_place s ≡ (l == 0))) leaf kind

-- the sum with the entry of one slot more
pub sum-slot : (f : Item → ℕ) (found found' : List Site) (site : Site) (slot : Option Item) → found' ≡ found ++ (site ∷ []) → Some (site_item site) ≡ slot → site_sum f found' ≡ site_sum f found + got f slot
sum-slot f found found' site slot push is =
    let a : site_sum f found' ≡ site_sum f (found ++ (site ∷ [])) = ap (site_sum f) push in
    let b : site_sum f (found ++ (site ∷ [])) ≡ site_sum f found + f (site_item site) = sum_by_push (λ (s : Site). f (site_item s)) found site in
    let c : f (site_item site) ≡ got f slot = ap (got f) is in
    omega arith

-- an unused slot adds nothing
pub sum-unused : (f : Item → ℕ) (found : List Site) (slot : Option Item) → None ≡ slot → site_sum f found ≡ site_sum f found + got f slot
sum-unused f found slot is = let e : 0 ≡ got f slot = ap (got f) is in omega arith

-- no slot was gone over yet
pub slots-none : (n : ℕ) (g : ℕ → ℕ) → n ≡ n + sum_to 0 g
unfolding sum_to
slots-none n g = omega arith

-- one slot more
pub slots-more : (at was now new : ℕ) (g : ℕ → ℕ) → now ≡ was + sum_to at g → new ≡ now + g at → new ≡ was + sum_to (at + 1) g
unfolding sum_to
slots-more at was now new g old more =
    let e : suc at ≡ at + 1 = omega arith in
    let s : g at + sum_to at g ≡ sum_to (at + 1) g = ap (λ (k : ℕ). sum_to k g) e in
    omega arith

-- all slots
pub slots-all : (f : Item → ℕ) (slots : Slots) (at : ℕ) → at ≡ 32 → sum_to at (λ i. got f (slots i)) ≡ amount f slots
unfolding amount
slots-all f slots at all = ap (λ (k : ℕ). sum_to k (λ i. got f (slots i))) all

-- ---- pages

page-sum : (f : Item → ℕ) (page : List ℕ) (level : ℕ) → is_form page ≡ true → level_in page ≡ level → page_sum f page ≡ entry_sum f level (node_of page)
page-sum f page level form is = ap (λ (l : ℕ). entry_sum f l (node_of page)) (ap (λ (v : NodeView). v.level) (form-node page form) ∙ is)

-- the entries of a leaf are those in its slots
pub leaf-sum : (f : Item → ℕ) (page : List ℕ) → is_form page ≡ true → level_in page ≡ 0 → page_sum f page ≡ amount f (slots_in page)
leaf-sum f page form leaf = page-sum f page 0 form leaf

-- an inner node has none
pub inner-sum : (f : Item → ℕ) (page : List ℕ) → is_form page ≡ true → (level_in page ≡ 0 → ⊥) → page_sum f page ≡ 0
inner-sum f page form inner = by (level_in page) refl
  where
    by : (level : ℕ) → level_in page ≡ level → page_sum f page ≡ 0
    by zero is = absurd (inner is)
    by (suc level) is = page-sum f page (suc level) form is

-- the first bytes of a node with an item break no rule
pub header-apart : (rule : Rule) (page : List ℕ) → 0 < filled (slots_in page) → BreaksHeader rule page → ⊥
header-apart Head page some b = b
header-apart Link page some b = b
header-apart Kind page some b = let f = form-parts page (some-form page some) in b f.kind
header-apart Fill page some b = let m = some-mask page some in let z : mask_of page ≡ 0 = b.1 in absurd (omega arith)
header-apart Order page some b = b
header-apart Spare page some b = b
header-apart Level page some b = b
header-apart Value page some b = b
header-apart Shared page some b = b
header-apart Rect page some b = b
header-apart Row page some b = b
header-apart Entry page some b = b
header-apart Words page some b = b
header-apart Counts page some b = b

-- the sum over one page more of a list
pub pages-more : (g : ℕ → ℕ) (list : List ℕ) (at was now : ℕ) → at < length list → was ≡ sum_by g (take at list) → now ≡ was + g (get_or list at 0) → now ≡ sum_by g (take (at + 1) list)
pages-more g list at was now small old more =
    let a : sum_by g (take (at + 1) list) ≡ sum_by g (take at list ++ (get_or list at 0 ∷ [])) = ap (sum_by g) (take_more list at 0 small) in
    let b = sum_by_push g (take at list) (get_or list at 0) in
    omega arith

-- the page is such a node's in pages that are the same
pub node-on : (pages pages' : PageMap) (count count' page : ℕ) → pages' ≡ pages → count' ≡ count → IsFilledPage (IsUncounted count) pages page → IsFilledPage (IsUncounted count') pages' page
node-on pages pages' count count' page same many node =
    subst (λ (p : PageMap). IsFilledPage (IsUncounted count') p page) (sym same) (subst (λ (k : ℕ). IsFilledPage (IsUncounted k) pages page) (sym many) node)

-- ---- the sum over a tree

sum-chained : (g : ℕ → ℕ) (n : ℕ) (lists : ℕ → List ℕ) (h : ℕ → ℕ) → ((i : ℕ) → i < n → sum_by g (lists i) ≡ h i) → sum_by g (chained n lists) ≡ sum_to n h
unfolding chained sum_to
sum-chained g zero lists h each = refl
sum-chained g (suc n) lists h each =
    let a = sum_by-append g (chained n lists) (lists n) in
    let b = sum-chained g n lists h (λ i l. each i (omega arith)) in
    let c = each n (omega arith) in
    omega arith

module _ (pages : PageMap) (f : Item → ℕ) where
  abbrev own : ℕ → ℕ
  own n = page_sum f (pages n)

  -- a leaf's entries have no pages
  none-below : (o : Option Item) → sum_by own (listed (λ y. pages_below (nodes_in pages) 0 y) o) ≡ 0
  none-below None = refl
  none-below (Some x) = refl

  -- the pages below a slot of an inner node
  slot-sums : (level : ℕ) → ((y : Item) → IsItem (nodes_in pages) level y → sum_by own (pages_below (nodes_in pages) level y) ≡ below (nodes_in pages) f level y)
      → (o : Option Item) → Held (λ y. IsItem (nodes_in pages) level y) o → sum_by own (listed (λ y. pages_below (nodes_in pages) level y) o) ≡ got (λ y. below (nodes_in pages) f level y) o
  slot-sums level each None held = refl
  slot-sums level each (Some y) held = each y held

  node-sums : (level least page : ℕ) → IsNode (λ y. IsItem (nodes_in pages) level y) least level (nodes_in pages page)
      → sum_by own (node_pages (nodes_in pages) level page) ≡ node_below (nodes_in pages) f level page
  unfolding amount
  node-sums zero least page node =
      let lists : ℕ → List ℕ = λ i. listed (λ y. pages_below (nodes_in pages) 0 y) ((nodes_in pages page).slots i) in
      let a : sum_by own (chained 32 lists ++ (page ∷ [])) ≡ sum_by own (chained 32 lists) + own page = sum_by_push own (chained 32 lists) page in
      let b : sum_by own (chained 32 lists) ≡ sum_to 32 (λ i. 0) = sum-chained own 32 lists (λ i. 0) (λ i l. none-below ((nodes_in pages page).slots i)) in
      let z : sum_to 32 (λ i. 0) ≡ 0 = sum-zero 32 in
      let c : own page ≡ node_below (nodes_in pages) f 0 page = ap (λ (l : ℕ). entry_sum f l (nodes_in pages page)) node.level_is in
      omega (arith, a, b, z, c)
  node-sums (suc level) least page node =
      let lists : ℕ → List ℕ = λ i. listed (λ y. pages_below (nodes_in pages) (suc level) y) ((nodes_in pages page).slots i) in
      let a : sum_by own (chained 32 lists ++ (page ∷ [])) ≡ sum_by own (chained 32 lists) + own page = sum_by_push own (chained 32 lists) page in
      let b : sum_by own (chained 32 lists) ≡ node_below (nodes_in pages) f (suc level) page =
      sum-chained own 32 lists (λ i. got (λ y. below (nodes_in pages) f (suc level) y) ((nodes_in pages page).slots i))
      (λ i l. slot-sums (suc level) (λ y item. node-sums level 12 y.to item.0) ((nodes_in pages page).slots i) (node.items i l)) in
      let c : own page ≡ 0 = ap (λ (l : ℕ). entry_sum f l (nodes_in pages page)) node.level_is in
      omega (arith, a, b, c)

  -- the sum over the pages of a well-formed tree is that over its entries
  pub tree-sums : (root : ℕ) → IsWell node_of pages root → sum_by own (tree_pages pages root) ≡ tree_sum node_of pages root f
  tree-sums zero well = refl
  tree-sums (suc m) well = node-sums (level_at node_of pages (suc m)) (root_least (level_at node_of pages (suc m))) (suc m) well

-- ---- the pages of a tree are nodes

all-chained : (P : ℕ → Type 0) (n : ℕ) (lists : ℕ → List ℕ) → ((i : ℕ) → i < n → All P (lists i)) → All P (chained n lists)
unfolding chained
all-chained P zero lists each = All-nil P
all-chained P (suc n) lists each = All-append P (chained n lists) (lists n) (all-chained P n lists (λ i l. each i (omega arith))) (each n (omega arith))

module _ (out : ℕ → Type 0) (pages : PageMap) where
  slot-nodes : (level : ℕ) → ((y : Item) → IsItem (nodes_in pages) level y → ((n : ℕ) → out n → uses (nodes_in pages) level y n ≡ 0) → All (IsFilledPage out pages) (pages_below (nodes_in pages) level y))
      → (o : Option Item) → Held (λ y. IsItem (nodes_in pages) level y) o → ((n : ℕ) → out n → got (λ y. uses (nodes_in pages) level y n) o ≡ 0)
      → All (IsFilledPage out pages) (listed (λ y. pages_below (nodes_in pages) level y) o)
  slot-nodes level each None held none = All-nil (IsFilledPage out pages)
  slot-nodes level each (Some y) held none = each y held none

  node-nodes : (least level page : ℕ) → 0 < least
      → ((y : Item) → IsItem (nodes_in pages) level y → ((n : ℕ) → out n → uses (nodes_in pages) level y n ≡ 0) → All (IsFilledPage out pages) (pages_below (nodes_in pages) level y))
      → IsNode (λ y. IsItem (nodes_in pages) level y) least level (nodes_in pages page)
      → ((n : ℕ) → out n → one_at page n + amount (λ y. uses (nodes_in pages) level y n) (slots_in (pages page)) ≡ 0)
      → All (IsFilledPage out pages) (node_pages (nodes_in pages) level page)
  node-nodes least level page some each node none =
      let many = node.some in
      let lists : ℕ → List ℕ = λ i. listed (λ y. pages_below (nodes_in pages) level y) (slots_in (pages page) i) in
      All-append (IsFilledPage out pages) (chained 32 lists) (page ∷ [])
      (all-chained (IsFilledPage out pages) 32 lists (λ i l. slot-nodes level each (slots_in (pages page) i) (node.items i l)
      (λ n u. let k = none n u in let a = amount-at (λ y. uses (nodes_in pages) level y n) (slots_in (pages page)) i l in omega arith)))
      (All-cons (IsFilledPage out pages) page [] (record { within = λ u. let k = none page u in let o = one_at-same page in absurd (omega arith); some = omega arith }) (All-nil (IsFilledPage out pages)))

  item-nodes : (level : ℕ) (x : Item) → IsItem (nodes_in pages) level x → ((n : ℕ) → out n → uses (nodes_in pages) level x n ≡ 0) → All (IsFilledPage out pages) (pages_below (nodes_in pages) level x)
  item-nodes zero x item none = All-nil (IsFilledPage out pages)
  item-nodes (suc level) x item none = node-nodes 12 level x.to (omega arith) (λ y i k. item-nodes level y i k) item.0 none

  -- the pages of a well-formed tree are nodes, and none of those that it doesn't use
  pub tree-nodes : (root : ℕ) → IsWell node_of pages root → ((n : ℕ) → out n → tree_uses node_of pages root n ≡ 0) → All (IsFilledPage out pages) (tree_pages pages root)
  tree-nodes zero well none = All-nil (IsFilledPage out pages)
  tree-nodes (suc m) well none =
      let level : ℕ = level_at node_of pages (suc m) in
      node-nodes (root_least level) level (suc m) (root-some level) (λ y i k. item-nodes level y i k) well none
