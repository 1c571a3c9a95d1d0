-- The tree and its rows beside the tables.
use Rattle.std.proofs.Common.{◌≡◌, ℕ, zero, suc, ◌+◌, ◌<◌, ◌≤◌, inl, inr, List, refl, sym, ap, subst, subst₂, ◌∙◌, arith}
use Rattle.std.proofs.lemmas.Bool.Decides.{nat_tests}
use Rattle.page_face.specs.FreeList.{PageMap}
use Rattle.page_face.specs.declared.head.Head.{Head}
use Rattle.page_store.specs.declared.superblock.Superblock.{Superblock}
use Rattle.btree_nodes.specs.Rows.{Row}
use Rattle.btree_nodes.specs.Supply.{one_at, spare, uncounted}
use Rattle.btree_nodes.specs.Supply as supply
use Rattle.btree_nodes.specs.declared.form.Form.{Form}
use Rattle.btree_nodes.specs.Tree.{level_of, map_uses, uses}
use Rattle.btree_nodes.proofs.Supplies.{one_at-same}
use Rattle.btree_nodes.proofs.Supplies as supplies
use Rattle.rtree_nodes.specs.Slots.{Item, NodeView, NodeMap}
use Rattle.rtree_nodes.specs.Trees.{IsTree, node_below, node_uses}
use Rattle.rtree_nodes.specs.Stock.{View, rows_form, spare_in, view}
use Rattle.rtree_nodes.proofs.Frames.{slots-frame}
use Rattle.rtree_nodes.proofs.Heights.{none_or}
use Rattle.rtree_nodes.specs.Pages.{node_of}
use Rattle.node_rows.specs.Rows.{AreFilled, Bytes, bytes_in, bytes_of}
use Rattle.irtree_shape.specs.Words.{joined}
use Rattle.irtree_shape.specs.Made.{nodes_in, IsBlank}
use Rattle.irtree_shape.specs.Whole.{IsWell, IsWhole, level_at, tree_sum, tree_uses}
use Rattle.store_tables.specs.Entries.{Entries}
use Rattle.store_tables.specs.Holding.{IsSameMap}
use Rattle.store_tables.proofs.FrameLemmas.{map-frame}
use Rattle.store_model.specs.Stands.{TablesStandFor, TreeStands}
use Rattle.store_model.proofs.Tables.{ArePagesKept}

-- ---- pages that stayed

-- a tree is the same in two maps of nodes
pub record IsSameTree (old new : NodeMap) (root : ℕ) : Type 0 where
  pub well : IsWell new root
  pub uses : (n : ℕ) → tree_uses new root n ≡ tree_uses old root n
  pub sums : (f : Item → ℕ) → tree_sum new root f ≡ tree_sum old root f

-- a tree of which each node stayed is the same tree
pub root-frame : (old new : NodeMap) (root : ℕ) → IsWell old root → ((n : ℕ) → 0 < tree_uses old root n → new n ≡ old n) → IsSameTree old new root
root-frame old new zero well same = record { well = tt; uses = λ n. refl; sums = λ f. refl }
root-frame old new (suc m) well same =
    let one = one_at-same (suc m) in
    let here : new (suc m) ≡ old (suc m) = same (suc m) (omega arith) in
    let level : ℕ = level_at old (suc m) in
    let r = slots-frame old new level (old (suc m)).slots (λ n used. same n (omega arith)) in
    let level_is : level_at new (suc m) ≡ level = ap (λ (v : NodeView). v.level) here in
    let tree : IsTree new level (suc m) = rw here (record { level_is = well.level_is; some = well.some; items = r.items well.items }) in
    let uses : (n : ℕ) → node_uses new level (suc m) n ≡ node_uses old level (suc m) n = λ n. rw here (ap (λ (k : ℕ). one_at (suc m) n + k) (r.pages n)) in
    let sums : (f : Item → ℕ) → node_below new f level (suc m) ≡ node_below old f level (suc m) = λ f. rw here (r.sums f) in
    record {
      well = subst (λ (l : ℕ). IsTree new l (suc m)) (sym level_is) tree;
      uses = λ n. ap (λ (l : ℕ). node_uses new l (suc m) n) level_is ∙ uses n;
      sums = λ f. ap (λ (l : ℕ). node_below new f l (suc m)) level_is ∙ sums f;
    }

module _ (head : Head) (before after : PageMap) (entries : Entries) (uses : ℕ → ℕ) (stands : TreeStands head before entries uses) (kept : ArePagesKept uses before after) where
  -- the rows' map is the same
  map_kept : IsSameMap rows_form before after head.rows
  map_kept = map-frame rows_form before after head.rows stands.map (λ n used. kept n (let are = stands.uses_are n in omega (arith, are, used)))

  -- so its bytes are
  bytes_kept : bytes_in after head.rows ≡ bytes_in before head.rows
  bytes_kept = ap (λ (rows : List Row). bytes_of rows) map_kept.rows

  -- the pages of the tree are the same
  page_kept : (n : ℕ) → 0 < tree_uses (nodes_in node_of before head.rows) head.tree n → after n ≡ before n
  page_kept n used = kept n (let are = stands.uses_are n in omega (arith, are, used))

  -- and so is the tree
  tree_same : IsSameTree (nodes_in node_of before head.rows) (nodes_in node_of after head.rows) head.tree
  tree_same = root-frame (nodes_in node_of before head.rows) (nodes_in node_of after head.rows) head.tree stands.tree
      (λ n used. λ i. joined (node_of (page_kept n used i)) (bytes_kept i n))

  -- no byte came to a slot
  blank_kept : (n : ℕ) → IsBlank node_of after head.rows n
  blank_kept n w i none = ap (λ (b : Bytes). b n w i) bytes_kept ∙ elim (none_or (tree_uses (nodes_in node_of before head.rows) head.tree n)) [
    | inl other ↦ stands.named n w i other
    | inr used ↦ stands.blank n w i (ap (λ (page : List ℕ). (node_of page).slots i) (sym (page_kept n used)) ∙ none)
  ]

  -- a tree whose pages stayed stands as it did
  pub pages-kept : TreeStands head after entries uses
  pages-kept = record {
    tree = tree_same.well;
    entries_are = λ f. tree_same.sums f ∙ stands.entries_are f;
    map = map_kept.tree;
    filled = subst AreFilled (sym map_kept.rows) stands.filled;
    blank = blank_kept;
    named = λ n w i none. ap (λ (b : Bytes). b n w i) bytes_kept ∙ stands.named n w i (sym (tree_same.uses n) ∙ none);
    uses_are = λ n. (
        let are = stands.uses_are n in
        let nodes = tree_same.uses n in
        let pages = map_kept.uses n in
        omega (arith, are, nodes, pages));
  }

-- a tree stands by its roots alone
pub roots-same : (old new : Head) (pages : PageMap) (entries : Entries) (uses : ℕ → ℕ) → TreeStands old pages entries uses → new.rows ≡ old.rows → new.tree ≡ old.tree → TreeStands new pages entries uses
roots-same old new pages entries uses stands rows tree =
    let there = subst₂ (λ (r : ℕ) (t : ℕ). TreeStands (record old { rows = r; tree = t }) pages entries uses) (sym rows) (sym tree) stands in
    record {
      tree = there.tree;
      entries_are = there.entries_are;
      map = there.map;
      filled = there.filled;
      blank = there.blank;
      named = there.named;
      uses_are = there.uses_are;
    }

-- a tree whose roots and pages stayed stands as it did
pub tree-kept : (old new : Head) (before after : PageMap) (entries : Entries) (uses : ℕ → ℕ) → TreeStands old before entries uses → new.rows ≡ old.rows → new.tree ≡ old.tree → ArePagesKept uses before after → TreeStands new after entries uses
tree-kept old new before after entries uses stands rows tree kept = roots-same old new after entries uses (pages-kept old before after entries uses stands kept) rows tree

-- ---- whole

-- page 0 can't be taken
pub spare-away : {claims : ℕ → ℕ → ℕ} {last : ℕ} (block : Superblock) (pages : PageMap) (others : ℕ → ℕ) (entries : Entries) (tables : TablesStandFor claims last block pages others entries) → spare tables.free block.counted 0 ≡ 0
spare-away block pages others entries tables = supplies.spare-away (supply.view pages block.counted block.first_free tables.free) tables.apart.some tables.apart.supplied

-- a tree whose pages are apart from those that are spare is whole over them
pub stands-whole : (head : Head) (pages : PageMap) (count first : ℕ) (free : List ℕ) (entries : Entries) (uses : ℕ → ℕ) → TreeStands head pages entries uses → supply.IsSupplied (supply.view pages count first free) → 0 < count
    → ((n : ℕ) → uses n + spare free count n ≤ 1) → uses 0 ≡ 0 → IsWhole node_of (view pages head.rows count first free) head.tree
stands-whole head pages count first free entries uses stands supplied some apart away =
    let once : (n : ℕ) → tree_uses (nodes_in node_of pages head.rows) head.tree n + spare_in (view pages head.rows count first free) n ≤ 1
    = λ n. (let are = stands.uses_are n in let one = apart n in omega (arith, are, one)) in
    record {
      tree = stands.tree;
      supplied = record {
        rows = record {
          kept = record {
            map = stands.map;
            supplied = supplied;
            once = λ n. (let one = once n in omega (arith, one));
            away = (let are = stands.uses_are 0 in omega (arith, are, away));
            some = some;
          };
          filled = stands.filled;
        };
        clear = λ n w i can. stands.named n w i (let one = once n in omega (arith, one, can));
      };
      once = once;
      away = (let are = stands.uses_are 0 in omega (arith, are, away));
      blank = stands.blank;
      named = stands.named;
    }

module _ {claims : ℕ → ℕ → ℕ} {last : ℕ} (block : Superblock) (pages : PageMap) (others : ℕ → ℕ) (entries mine : Entries) (tables : TablesStandFor claims last block pages others entries) (stands : TreeStands block.head pages mine others) where
  -- no page is of others and spare
  others_once : (n : ℕ) → others n + spare tables.free block.counted n ≤ 1
  others_once zero = let away = tables.away in let once = tables.apart.once 0 in omega (arith, away, once)
  others_once (suc m) = let one = tables.every (suc m) (omega arith) in omega (arith, one)

  -- a tree beside tables is whole
  pub whole-in : IsWhole node_of (view pages block.head.rows block.counted block.first_free tables.free) block.head.tree
  whole-in = stands-whole block.head pages block.counted block.first_free tables.free mine others stands tables.apart.supplied tables.apart.some others_once tables.away

-- a page that can't be taken as a new one is counted
pub counted-from : (n count : ℕ) → uncounted count n ≡ 0 → n < count
unfolding uncounted
counted-from n count none = grind (arith, nat_tests)

-- the root of a whole tree is counted
pub whole-root : (v : View) (root : ℕ) → IsWhole node_of v root → 0 < v.count → root < v.count
whole-root v zero whole some = some
whole-root v (suc m) whole some = counted-from (suc m) v.count (let one = one_at-same (suc m) in let once = whole.once (suc m) in omega (arith, one, once))

-- the root of a map is one of its pages
pub root-used : (form : Form) (pages : PageMap) (root : ℕ) → 0 < root → 0 < map_uses form pages root root
root-used form pages zero some = absurd (omega arith)
root-used form pages (suc m) some = at (level_of (pages (suc m)))
  where
    at : (level : ℕ) → 0 < uses form pages level (suc m) (suc m)
    at zero = let one = one_at-same (suc m) in omega arith
    at (suc level) = let one = one_at-same (suc m) in omega arith

-- and so is that of its rows
pub whole-rows : (v : View) (root : ℕ) → IsWhole node_of v root → v.rows < v.count
whole-rows v root whole = elim (none_or v.rows) [
  | inl none ↦ let some = whole.supplied.rows.kept.some in omega (arith, none, some)
  | inr some ↦
      let used = root-used rows_form v.pages v.rows some in
      let once = whole.supplied.rows.kept.once v.rows in
      counted-from v.rows v.count (omega (arith, used, once))
]
