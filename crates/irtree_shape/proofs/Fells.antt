-- A whole tree from which an item was taken out, with no item loose any more.
use Rattle.std.proofs.Common.{◌≡◌, ℕ, zero, suc, ◌+◌, ◌<◌, ◌≤◌, arith, refl, sym, ap, ◌∙◌, subst, Some, None, List, [], inl, inr}
use Rattle.page_face.specs.FreeList.{PageMap}
use Rattle.btree_nodes.specs.Supply.{one_at}
use Rattle.btree_nodes.proofs.Supplies.{one_at-same, one_at-other, none}
use Rattle.rtree_nodes.specs.Slots.{Item, NodeMap, amount, filled, Held}
use Rattle.rtree_nodes.specs.Trees.{below, uses, IsItem, IsNode, IsTree, node_below, node_uses, root_least}
use Rattle.rtree_nodes.specs.Stock.{View, view, spare_in}
use Rattle.rtree_nodes.specs.Made.{Reads}
use Rattle.rtree_nodes.specs.Loose.{Loose, AllLoose, Leads, IsAt, out_below}
use Rattle.rtree_nodes.proofs.Amounts.{same_or}
use Rattle.rtree_nodes.proofs.Frames.{item-frame}
use Rattle.rtree_nodes.proofs.Fells.{least-between, amount-single}
use Rattle.irtree_shape.specs.Stock.{Moves}
use Rattle.irtree_shape.specs.Made.{nodes_in, IsBlank}
use Rattle.irtree_shape.specs.Loose.{IsTaking, TakesOut, IsStanding}
use Rattle.irtree_shape.specs.Whole.{level_at, IsWell, tree_uses, tree_sum, IsWhole, IsFelled}
use Rattle.irtree_shape.proofs.Stocks.{still, moves-as, moves-further, moves-beside, supplied-plain}
use Rattle.irtree_shape.proofs.Stores.{blank-after}
use Rattle.irtree_shape.proofs.Plants.{named-after}

-- a root that isn't 0 is that of a tree of the level that its node says
pub well-tree : (nodes : NodeMap) (root : ℕ) → 0 < root → IsWell nodes root → IsTree nodes (level_at nodes root) root
well-tree nodes zero some h = absurd (omega arith)
well-tree nodes (suc m) some h = h

-- a tree of the level that its node says is well formed by its root
pub tree-well : (nodes : NodeMap) (level root : ℕ) → 0 < root → level ≡ level_at nodes root → IsTree nodes level root → IsWell nodes root
tree-well nodes level zero some e h = absurd (omega arith)
tree-well nodes level (suc m) some e h = subst (λ (l : ℕ). IsTree nodes l (suc m)) e h

-- the level of a root's node
pub level-at : (nodes : NodeMap) (root : ℕ) → 0 < root → level_at nodes root ≡ (nodes root).level
level-at nodes zero some = absurd (omega arith)
level-at nodes (suc m) some = refl

-- the pages of a tree of this level
pub tree-uses : (nodes : NodeMap) (level root : ℕ) → 0 < root → level ≡ level_at nodes root → (n : ℕ) → tree_uses nodes root n ≡ node_uses nodes level root n
tree-uses nodes level zero some e n = absurd (omega arith)
tree-uses nodes level (suc m) some e n = ap (λ (l : ℕ). node_uses nodes l (suc m) n) (sym e)

-- the sums of a tree of this level
pub tree-sum : (nodes : NodeMap) (level root : ℕ) → 0 < root → level ≡ level_at nodes root → (f : Item → ℕ) → tree_sum nodes root f ≡ node_below nodes f level root
tree-sum nodes level zero some e f = absurd (omega arith)
tree-sum nodes level (suc m) some e f = ap (λ (l : ℕ). node_below nodes f l (suc m)) (sym e)

-- a page that doesn't stand at 0 isn't page 0
away-some : (page : ℕ) → one_at page 0 ≡ 0 → 0 < page
away-some page e = let b = one_at-same page in elim (same_or page 0) [
  | inl k ↦ let c : one_at page 0 ≡ one_at page page = ap (one_at page) (sym k) in absurd (omega arith)
  | inr d ↦ omega (arith, d)
]

-- an item can be taken out below the root of a whole tree
pub whole_taking : (reads : Reads) (v : View) (root : ℕ) (path : List ℕ) (x : Item) → 0 < root → IsWhole reads v root → Leads (nodes_in reads v.pages v.rows) path (level_at (nodes_in reads v.pages v.rows) root) root x
    → IsTaking reads v 1 (level_at (nodes_in reads v.pages v.rows) root) root path x []
whole_taking reads v root path x some whole leads =
    let tree = well-tree (nodes_in reads v.pages v.rows) root some whole.tree in
    let uses_are = tree-uses (nodes_in reads v.pages v.rows) (level_at (nodes_in reads v.pages v.rows) root) root some refl in
    record {
      node = record { level_is = tree.level_is; some = let a = tree.some in let b = (least-between (level_at (nodes_in reads v.pages v.rows) root)).0 in omega arith; items = tree.items };
      leads = leads;
      others = tt;
      supplied = whole.supplied;
      once = λ n. let o = whole.once n in let u = uses_are n in omega arith;
      away = let a = whole.away in let u = uses_are 0 in omega arith;
      blank = whole.blank;
    }

-- what a root and the loose items have together, when the item is out and none has been put back
abbrev pub left_sums : NodeMap → ℕ → ℕ → Loose → (Item → ℕ) → ℕ
left_sums nodes level root loose f = out_below nodes level root loose f

module _ (reads : Reads) (v : View) (root : ℕ) (path : List ℕ) (x : Item) (some : 0 < root) (whole : IsWhole reads v root)
    (pages : PageMap) (rows count first : ℕ) where
  -- nothing is left of the root, and nothing is loose: the tree is empty
  pub felled_empty : TakesOut reads v pages rows count first 1 (level_at (nodes_in reads v.pages v.rows) root) root x None [] [] → IsFelled reads v pages rows count first root 0 x
  felled_empty out =
      let uses_are = tree-uses (nodes_in reads v.pages v.rows) (level_at (nodes_in reads v.pages v.rows) root) root some refl in
      let sums_are = tree-sum (nodes_in reads v.pages v.rows) (level_at (nodes_in reads v.pages v.rows) root) root some refl in
      let moved : Moves v (view pages rows count first out.free) (tree_uses (nodes_in reads v.pages v.rows) root) (λ n. 0) = moves-as (λ n. let u = uses_are n in omega arith) (λ n. omega arith) out.moves in
      record {
        free = out.free;
        whole = record {
          tree = tt;
          supplied = out.moves.supplied;
          once = λ n. let o = (supplied-plain (view pages rows count first out.free) out.moves.supplied).once n in omega arith;
          away = refl;
          blank = out.blank;
          named = λ n w i k. named-after v (view pages rows count first out.free) (tree_uses (nodes_in reads v.pages v.rows) root) (λ m. 0) moved whole.named n w i refl;
        };
        moves = moved;
        sum_is = λ f. let s = out.sum_is f in let k = sums_are f in omega arith;
      }

  -- the root stands, and the loose items are to be put back
  pub out_standing : (y : Item) (loose : Loose) → y.to ≡ root → AllLoose (λ l z. l ≤ level_at (nodes_in reads v.pages v.rows) root) loose
      → (out : TakesOut reads v pages rows count first 1 (level_at (nodes_in reads v.pages v.rows) root) root x (Some y) [] loose)
      → IsStanding reads v (view pages rows count first out.free) (level_at (nodes_in reads v.pages v.rows) root) root loose (tree_uses (nodes_in reads v.pages v.rows) root) (left_sums (nodes_in reads pages rows) (level_at (nodes_in reads v.pages v.rows) root) root loose)
  out_standing y loose to low out =
      let uses_are = tree-uses (nodes_in reads v.pages v.rows) (level_at (nodes_in reads v.pages v.rows) root) root some refl in
      record {
        node = subst (λ (p : ℕ). IsNode (λ z. IsItem (nodes_in reads pages rows) (level_at (nodes_in reads v.pages v.rows) root) z) 1 (level_at (nodes_in reads v.pages v.rows) root) (nodes_in reads pages rows p)) to out.stands.0;
        items = out.items;
        low = low;
        moves = moves-as (λ n. let u = uses_are n in omega arith)
            (λ n. let e : node_uses (nodes_in reads pages rows) (level_at (nodes_in reads v.pages v.rows) root) y.to n ≡ node_uses (nodes_in reads pages rows) (level_at (nodes_in reads v.pages v.rows) root) root n
            = ap (λ (p : ℕ). node_uses (nodes_in reads pages rows) (level_at (nodes_in reads v.pages v.rows) root) p n) to in omega arith) out.moves;
        once = whole.once;
        away = whole.away;
        sum_is = λ f. refl;
        blank = out.blank;
      }

  -- and they have the sums of the tree, less those of the item
  pub out_sums : (y : Item) (loose : Loose) → y.to ≡ root
      → TakesOut reads v pages rows count first 1 (level_at (nodes_in reads v.pages v.rows) root) root x (Some y) [] loose
      → (f : Item → ℕ) → left_sums (nodes_in reads pages rows) (level_at (nodes_in reads v.pages v.rows) root) root loose f + f x ≡ tree_sum (nodes_in reads v.pages v.rows) root f
  out_sums y loose to out f =
      let s = out.sum_is f in
      let k = tree-sum (nodes_in reads v.pages v.rows) (level_at (nodes_in reads v.pages v.rows) root) root some refl f in
      let e : node_below (nodes_in reads pages rows) f (level_at (nodes_in reads v.pages v.rows) root) y.to ≡ node_below (nodes_in reads pages rows) f (level_at (nodes_in reads v.pages v.rows) root) root
      = ap (λ (p : ℕ). node_below (nodes_in reads pages rows) f (level_at (nodes_in reads v.pages v.rows) root) p) to in
      omega arith

module _ (reads : Reads) (v now : View) (level top : ℕ) (root : ℕ) (x : Item) (sums : (Item → ℕ) → ℕ) (start : IsWhole reads v root)
    (standing : IsStanding reads v now level top [] (tree_uses (nodes_in reads v.pages v.rows) root) sums) (less : (f : Item → ℕ) → sums f + f x ≡ tree_sum (nodes_in reads v.pages v.rows) root f) where
  pub top_away : node_uses (nodes_in reads now.pages now.rows) level top 0 ≡ 0
  top_away = let k = standing.moves.kept 0 in let a = standing.away in let b = (supplied-plain v start.supplied).away in omega arith

  pub top_some : 0 < top
  top_some = away-some top (let a = top_away in omega arith)

  -- the root has enough slots, and stays
  pub felled_same : root_least level ≤ filled (nodes_in reads now.pages now.rows top).slots → IsFelled reads v now.pages now.rows now.count now.first root top x
  felled_same enough =
      let level_is : level ≡ level_at (nodes_in reads now.pages now.rows) top = sym (level-at (nodes_in reads now.pages now.rows) top top_some ∙ standing.node.level_is) in
      let uses_are = tree-uses (nodes_in reads now.pages now.rows) level top top_some level_is in
      let sums_are = tree-sum (nodes_in reads now.pages now.rows) level top top_some level_is in
      let moved : Moves v now (tree_uses (nodes_in reads v.pages v.rows) root) (tree_uses (nodes_in reads now.pages now.rows) top) = moves-as (λ n. refl) (λ n. let u = uses_are n in omega arith) standing.moves in
      record {
        free = now.free;
        whole = record {
          tree = tree-well (nodes_in reads now.pages now.rows) level top top_some level_is (record { level_is = standing.node.level_is; some = enough; items = standing.node.items });
          supplied = standing.moves.supplied;
          once = λ n. let u = uses_are n in let k = standing.moves.kept n in let o = standing.once n in omega arith;
          away = let u = uses_are 0 in let a = top_away in omega arith;
          blank = standing.blank;
          named = named-after v now (tree_uses (nodes_in reads v.pages v.rows) root) (tree_uses (nodes_in reads now.pages now.rows) top) moved start.named;
        };
        moves = moved;
        sum_is = λ f. let u = sums_are f in let s = standing.sum_is f in let k = less f in omega arith;
      }

module _ (reads : Reads) (v now : View) (level top : ℕ) (root : ℕ) (x : Item) (sums : (Item → ℕ) → ℕ) (start : IsWhole reads v root)
    (standing : IsStanding reads v now (suc level) top [] (tree_uses (nodes_in reads v.pages v.rows) root) sums) (less : (f : Item → ℕ) → sums f + f x ≡ tree_sum (nodes_in reads v.pages v.rows) root f)
    (at : ℕ) (z : Item) (alone : filled (nodes_in reads now.pages now.rows top).slots ≡ 1) (there : IsAt (nodes_in reads now.pages now.rows top).slots at z) where
  its_only : (F : Item → ℕ) → amount F (nodes_in reads now.pages now.rows top).slots ≡ F z
  its_only F = amount-single F (nodes_in reads now.pages now.rows top).slots at z alone there

  only_item : IsItem (nodes_in reads now.pages now.rows) (suc level) z
  only_item = subst (Held (λ y. IsItem (nodes_in reads now.pages now.rows) (suc level) y)) there.1 (standing.node.items at there.0)

  once_now : (n : ℕ) → one_at top n + uses (nodes_in reads now.pages now.rows) (suc level) z n + spare_in now n ≤ 1
  once_now n = let k = standing.moves.kept n in let o = standing.once n in let u = its_only (λ y. uses (nodes_in reads now.pages now.rows) (suc level) y n) in omega arith

  pub only_some : 0 < z.to
  only_some = away-some z.to (let a = top_away reads v now (suc level) top root x sums start standing less in let u = its_only (λ y. uses (nodes_in reads now.pages now.rows) (suc level) y 0) in omega arith)

  -- the root has one child, which takes its place: the root's page is given back
  pub felled_child : (pages : PageMap) (rows count first : ℕ) (free : List ℕ) → Moves now (view pages rows count first free) (one_at top) none → IsFelled reads v pages rows count first root z.to x
  felled_child pages rows count first free given =
      let kept = item-frame (nodes_in reads now.pages now.rows) (nodes_in reads pages rows) (suc level) z (λ n k. still reads now (view pages rows count first free) n (let o = once_now n in given.others n (omega arith) (omega arith))) in
      let item = kept.item only_item in
      let level_is : level ≡ level_at (nodes_in reads pages rows) z.to = sym (level-at (nodes_in reads pages rows) z.to only_some ∙ item.0.level_is) in
      let uses_are = tree-uses (nodes_in reads pages rows) level z.to only_some level_is in
      let sums_are = tree-sum (nodes_in reads pages rows) level z.to only_some level_is in
      let only_uses : (n : ℕ) → amount (λ y. uses (nodes_in reads now.pages now.rows) (suc level) y n) (nodes_in reads now.pages now.rows top).slots ≡ uses (nodes_in reads now.pages now.rows) (suc level) z n
      = λ n. its_only (λ y. uses (nodes_in reads now.pages now.rows) (suc level) y n) in
      let both : Moves v (view pages rows count first free) (tree_uses (nodes_in reads v.pages v.rows) root) (tree_uses (nodes_in reads pages rows) z.to)
      = moves-as (λ n. refl) (λ n. let u = uses_are n in let k = kept.pages n in omega arith)
      (moves-further (moves-as (λ n. refl) (λ n. let u = only_uses n in omega arith) standing.moves)
      (moves-beside (λ n. uses (nodes_in reads now.pages now.rows) (suc level) z n) given)) in
      record {
        free = free;
        whole = record {
          tree = tree-well (nodes_in reads pages rows) level z.to only_some level_is (record { level_is = item.0.level_is; some = let a = item.0.some in let b = (least-between level).1 in omega arith; items = item.0.items });
          supplied = both.supplied;
          once = λ n. let k = both.kept n in let o = standing.once n in omega arith;
          away = let k = both.kept 0 in let a = standing.away in let b = (supplied-plain v start.supplied).away in omega arith;
          blank = λ n. elim (same_or n top) [
            | inl e ↦ subst (IsBlank reads pages rows) (sym e) (λ w i k. let m = given.kept top in let o = one_at-same top in given.supplied.clear top w i (omega arith))
            | inr d ↦ blank-after reads now (view pages rows count first free) (one_at top) none given n (one_at-other top n d) refl (standing.blank n)
          ];
          named = named-after v (view pages rows count first free) (tree_uses (nodes_in reads v.pages v.rows) root) (tree_uses (nodes_in reads pages rows) z.to) both start.named;
        };
        moves = both;
        sum_is = λ f. let u = sums_are f in let k = kept.sums f in let s = standing.sum_is f in let l = less f in
            let i = its_only (λ y. below (nodes_in reads now.pages now.rows) f (suc level) y) in omega arith;
      }
