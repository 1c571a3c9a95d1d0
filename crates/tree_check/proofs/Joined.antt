-- Nodes whose rows are right, joined with their rows.
use Rattle.std.proofs.Common.{◌≡◌, ℕ, zero, suc, ◌+◌, ◌-◌, ◌<◌, ◌≤◌, ◌++◌, List, [], ◌∷◌, Option, Some, None, Bool, false, arith, refl, sym, ap, ◌∙◌, subst, ⊎_elim, nat_lt}
use Rattle.std.specs.Prelude.{option_map, if◌then◌else◌}
use Rattle.std.specs.List.{AllByRecursion}
use Rattle.std.proofs.lemmas.Bool.{cases_lt, lt-ltb, le-ltb}
use Rattle.page_face.specs.FreeList.{PageMap}
use Rattle.btree_nodes.specs.Supply.{one_at}
use Rattle.rtree_nodes.specs.Slots.{Item, Slots, NodeView, got, amount, filled, tops, Held}
use Rattle.rtree_nodes.specs.Trees.{IsNode, IsItem, uses, root_least, reach_of}
use Rattle.rtree_nodes.specs.Pages.{level_in, slots_in, node_of}
use Rattle.rtree_nodes.specs.Whole as plain
use Rattle.rtree_nodes.proofs.Sums.{top-same, sum-same}
use Rattle.rtree_nodes.proofs.Formed.{form-node}
use Rattle.rtree_nodes.proofs.Bounding.{some-form}
use Rattle.rtree_nodes.proofs.Heights.{root-some}
use Rattle.node_rows.specs.Rows.{Bytes, bytes_in}
use Rattle.node_rows.specs.Impacts.{top_at}
use Rattle.irtree_shape.specs.Words.{worded, words_on}
use Rattle.irtree_shape.specs.Made.{nodes_in}
use Rattle.irtree_shape.specs.Whole.{IsWell, tree_uses}
use Rattle.irtree_shape.proofs.Words.{sides, words-filled}
use Rattle.tree_check.specs.Nodes as bare
use Rattle.tree_check.specs.Nodes.{chained, listed, pages_below, node_pages, tree_pages}
use Rattle.tree_check.specs.Agreement.{Placed, IsRight, AreRight}

-- what holds of all of two lists, one after the other
pub all-parts : (P : ℕ → Type 0) (xs ys : List ℕ) → AllByRecursion P (xs ++ ys) → AllByRecursion P xs × AllByRecursion P ys
all-parts P [] ys a = (tt, a)
all-parts P (x ∷ xs) ys a = let r = all-parts P xs ys a.1 in ((a.0, r.0), r.1)

-- and of all of several lists
pub all-chained : (P : ℕ → Type 0) (n : ℕ) (f : ℕ → List ℕ) → AllByRecursion P (chained n f) → (i : ℕ) → i < n → AllByRecursion P (f i)
unfolding chained
all-chained P zero f a i l = absurd (omega arith)
all-chained P (suc n) f a i l =
    let r = all-parts P (chained n f) (f n) a in
    ⊎_elim (λ (k : i < n). all-chained P n f r.0 i k) (λ (k : n ≤ i). let e : n ≡ i = omega arith in subst (λ (j : ℕ). AllByRecursion P (f j)) e r.1) (cases_lt i n)

-- the greatest byte of a word is how far the slots reach to it
word-got : (g : ℕ → ℕ) (w : ℕ) (o : Option Item) → (o ≡ None → g w ≡ 0) → g w ≡ got (reach_of (4 + w)) (option_map (worded g) o)
word-got g w None none = none refl
word-got g w (Some x) none =
    let t : nat_lt (4 + w) 4 ≡ false = le-ltb (4 + w) 4 (omega arith) in
    let e : 4 + w - 4 ≡ w = omega arith in
    ap (λ (m : ℕ). g m) (sym e) ∙ ap (λ (k : Bool). if k then x.reach (4 + w) else g (4 + w - 4)) (sym t)

word-top : (b : Bytes) (page w : ℕ) (s : Slots) → ((i : ℕ) → i < 32 → s i ≡ None → b page w i ≡ 0) → top_at b page w ≡ tops (4 + w) (words_on (b page) s)
unfolding tops top_at
word-top b page w s none = top-same 32 (λ i. b page w i) (λ i. got (reach_of (4 + w)) (words_on (b page) s i)) (λ i l. word-got (λ v. b page v i) w (s i) (none i l))

module _ (pages : PageMap) (rows : ℕ) (places : Placed) where
  right-none : (level : ℕ) (impacts : ℕ → ℕ) (o : Option Item) → IsRight (bytes_in pages rows) places level impacts o → o ≡ None → (w : ℕ) → impacts w ≡ 0
  right-none level impacts o r e w = (subst (IsRight (bytes_in pages rows) places level impacts) e r) w

  -- how far an item with its words reaches to each side and each word
  item-reach : (f : ℕ → ℕ) (x : Item) → AreRight pages rows places x.to → ((w : ℕ) → f w ≡ top_at (bytes_in pages rows) x.to w) → ((d : ℕ) → x.reach d ≡ tops d (slots_in (pages x.to)))
      → (d : ℕ) → (worded f x).reach d ≡ tops d (nodes_in node_of pages rows x.to).slots
  item-reach f x right words sides_are d = ⊎_elim
      (λ (l : d < 4). ap (λ (k : Bool). if k then x.reach d else f (d - 4)) (lt-ltb d 4 l) ∙ sides_are d ∙ sym (sides ((bytes_in pages rows) x.to) (slots_in (pages x.to)) d l))
      (λ (l : 4 ≤ d).
      let e : 4 + (d - 4) ≡ d = omega arith in
      ap (λ (k : Bool). if k then x.reach d else f (d - 4)) (le-ltb d 4 l) ∙ words (d - 4)
      ∙ word-top (bytes_in pages rows) x.to (d - 4) (slots_in (pages x.to)) (λ i m none. right-none (level_in (pages x.to)) (λ w. (bytes_in pages rows) x.to w i) (slots_in (pages x.to) i) (right i m) none (d - 4))
      ∙ ap (λ (k : ℕ). tops k (words_on ((bytes_in pages rows) x.to) (slots_in (pages x.to)))) e)
      (cases_lt d 4)

  -- a slot's item with its words is well formed, if each item is
  slot-joined : (level : ℕ) (each : (y : Item) (g : ℕ → ℕ) → IsItem (bare.nodes_in pages) level y → AllByRecursion (AreRight pages rows places) (pages_below (bare.nodes_in pages) level y)
      → IsRight (bytes_in pages rows) places level g (Some y) → IsItem (nodes_in node_of pages rows) level (worded g y))
      → (o : Option Item) (g : ℕ → ℕ) → Held (λ y. IsItem (bare.nodes_in pages) level y) o → AllByRecursion (AreRight pages rows places) (listed (λ y. pages_below (bare.nodes_in pages) level y) o)
      → IsRight (bytes_in pages rows) places level g o → Held (λ y. IsItem (nodes_in node_of pages rows) level y) (option_map (worded g) o)
  slot-joined level each None g h a r = tt
  slot-joined level each (Some y) g h a r = each y g h a r

  -- a node of items that are well formed is, joined with its rows
  node-joined : (least level page : ℕ) → 0 < least → (each : (y : Item) (g : ℕ → ℕ) → IsItem (bare.nodes_in pages) level y → AllByRecursion (AreRight pages rows places) (pages_below (bare.nodes_in pages) level y)
      → IsRight (bytes_in pages rows) places level g (Some y) → IsItem (nodes_in node_of pages rows) level (worded g y))
      → IsNode (λ y. IsItem (bare.nodes_in pages) level y) least level (bare.nodes_in pages page) → AllByRecursion (AreRight pages rows places) (node_pages (bare.nodes_in pages) level page)
      → IsNode (λ y. IsItem (nodes_in node_of pages rows) level y) least level (nodes_in node_of pages rows page)
  node-joined least level page some each node all =
      let f : ℕ → List ℕ = λ i. listed (λ y. pages_below (bare.nodes_in pages) level y) (slots_in (pages page) i) in
      let parts = all-parts (AreRight pages rows places) (chained 32 f) (page ∷ []) all in
      let right : AreRight pages rows places page = parts.1.0 in
      let many = node.some in
      let at : level_in (pages page) ≡ level = sym (ap (λ (v : NodeView). v.level) (form-node (pages page) (some-form (pages page) (omega arith)))) ∙ node.level_is in
      let count : filled (words_on ((bytes_in pages rows) page) (slots_in (pages page))) ≡ filled (slots_in (pages page)) = words-filled ((bytes_in pages rows) page) (slots_in (pages page)) in
      record {
        level_is = node.level_is;
        some = omega arith;
        items = λ i l. slot-joined level each (slots_in (pages page) i) (λ w. (bytes_in pages rows) page w i) (node.items i l) (all-chained (AreRight pages rows places) 32 f parts.0 i l)
            (subst (λ (k : ℕ). IsRight (bytes_in pages rows) places k (λ w. (bytes_in pages rows) page w i) (slots_in (pages page) i)) at (right i l));
      }

  -- the page of a node is right if all its pages are
  node-right : (level page : ℕ) → AllByRecursion (AreRight pages rows places) (node_pages (bare.nodes_in pages) level page) → AreRight pages rows places page
  node-right level page all =
      let parts = all-parts (AreRight pages rows places) (chained 32 (λ i. listed (λ y. pages_below (bare.nodes_in pages) level y) (slots_in (pages page) i))) (page ∷ []) all in parts.1.0

  item-joined : (level : ℕ) (x : Item) (f : ℕ → ℕ) → IsItem (bare.nodes_in pages) level x → AllByRecursion (AreRight pages rows places) (pages_below (bare.nodes_in pages) level x)
      → IsRight (bytes_in pages rows) places level f (Some x) → IsItem (nodes_in node_of pages rows) level (worded f x)
  item-joined zero x f item all right = tt
  item-joined (suc level) x f item all right = (
    node-joined 12 level x.to (omega arith) (λ y g i a r. item-joined level y g i a r) item.0 all,
    item-reach f x (node-right level x.to all) right item.1,
  )

  -- a well-formed tree whose rows are right is well formed with its rows
  pub tree-joined : (root : ℕ) → plain.IsWell node_of pages root → AllByRecursion (AreRight pages rows places) (tree_pages pages root) → IsWell (nodes_in node_of pages rows) root
  tree-joined zero well all = tt
  tree-joined (suc n) well all =
      let level : ℕ = plain.level_at node_of pages (suc n) in
      node-joined (root_least level) level (suc n) (root-some level) (λ y g i a r. item-joined level y g i a r) well all

  slot-uses : (level n : ℕ) → ((y : Item) (g : ℕ → ℕ) → uses (nodes_in node_of pages rows) level (worded g y) n ≡ uses (bare.nodes_in pages) level y n) → (o : Option Item) (g : ℕ → ℕ)
      → got (λ y. uses (nodes_in node_of pages rows) level y n) (option_map (worded g) o) ≡ got (λ y. uses (bare.nodes_in pages) level y n) o
  slot-uses level n each None g = refl
  slot-uses level n each (Some y) g = each y g

  item-uses : (level n : ℕ) (x : Item) (f : ℕ → ℕ) → uses (nodes_in node_of pages rows) level (worded f x) n ≡ uses (bare.nodes_in pages) level x n
  unfolding amount
  item-uses zero n x f = refl
  item-uses (suc level) n x f =
      ap (λ (k : ℕ). one_at x.to n + k)
      (sum-same 32 (λ i. got (λ y. uses (nodes_in node_of pages rows) level y n) (words_on ((bytes_in pages rows) x.to) (slots_in (pages x.to)) i)) (λ i. got (λ y. uses (bare.nodes_in pages) level y n) (slots_in (pages x.to) i))
      (λ i l. slot-uses level n (λ y g. item-uses level n y g) (slots_in (pages x.to) i) (λ w. (bytes_in pages rows) x.to w i)))

  -- the tree uses the same pages, joined with its rows or not
  pub tree-uses : (root n : ℕ) → tree_uses (nodes_in node_of pages rows) root n ≡ plain.tree_uses node_of pages root n
  unfolding amount
  tree-uses zero n = refl
  tree-uses (suc m) n =
      let level : ℕ = plain.level_at node_of pages (suc m) in
      ap (λ (k : ℕ). one_at (suc m) n + k)
      (sum-same 32 (λ i. got (λ y. uses (nodes_in node_of pages rows) level y n) (words_on ((bytes_in pages rows) (suc m)) (slots_in (pages (suc m))) i)) (λ i. got (λ y. uses (bare.nodes_in pages) level y n) (slots_in (pages (suc m)) i))
      (λ i l. slot-uses level n (λ y g. item-uses level n y g) (slots_in (pages (suc m)) i) (λ w. (bytes_in pages rows) (suc m) w i)))
