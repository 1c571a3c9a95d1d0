-- A tree well formed with the rows of its words is well formed without them, on the same pages and with the same entries.
use Rattle.std.proofs.Common.{◌≡◌, ℕ, zero, suc, ◌+◌, ◌-◌, ◌<◌, ◌≤◌, ⊎_elim, arith, refl, sym, ap, ◌∙◌, List, Option, Some, None, option_map, slice_index}
use Rattle.std.specs.Prelude.{if◌then◌else◌}
use Rattle.std.proofs.lemmas.Bool.{cases_lt, lt-ltb}
use Rattle.page_face.specs.FreeList.{PageMap}
use Rattle.btree_nodes.specs.Supply.{one_at}
use Rattle.rtree_nodes.specs.Slots.{Item, Slots, NodeMap, got, amount, one, tops, Held, Each}
use Rattle.rtree_nodes.specs.Trees.{below, uses, IsItem, IsNode, reach_of, root_least}
use Rattle.rtree_nodes.specs.Loose.{Leads}
use Rattle.rtree_nodes.specs.Stock.{View}
use Rattle.rtree_nodes.specs.Made as bare_made
use Rattle.rtree_nodes.specs.Whole as bare
use Rattle.rtree_nodes.proofs.Sums.{top-same, top-zero}
use Rattle.rtree_nodes.proofs.Amounts.{amount-same}
use Rattle.node_rows.specs.Rows.{bytes_in}
use Rattle.rtree_nodes.specs.Pages.{node_of}
use Rattle.irtree_shape.specs.Words.{worded, joined_item, words_on, joined}
use Rattle.irtree_shape.specs.Made.{nodes_in}
use Rattle.irtree_shape.specs.Whole.{IsWell, IsWhole, level_at, tree_sum, tree_uses}
use Rattle.irtree_shape.proofs.Stocks.{supplied-plain}
use Rattle.irtree_shape.proofs.Words.{sides as tops_side}
use Rattle.split_condense.proofs.Bare.{IsBare, node-bare}

-- a function that sees no words
abbrev pub IsBlind : (Item → ℕ) → Type 0
IsBlind f = (x : Item) (h : ℕ → ℕ) → f (worded h x) ≡ f x

-- the sum over slots with words, where each item counts as it does without
amount_words : (f g : Item → ℕ) (c : ℕ → ℕ → ℕ) (s : Slots) → ((x : Item) (h : ℕ → ℕ) → f (worded h x) ≡ g x) → amount f (words_on c s) ≡ amount g s
amount_words f g c s e = amount-same f g (words_on c s) s (λ i l. by i (s i))
  where
    by : (i : ℕ) (o : Option Item) → got f (option_map (joined_item c i) o) ≡ got g o
    by i None = refl
    by i (Some x) = e x (λ w. c w i)

-- a side of an item with words
side_of : (x : Item) (h : ℕ → ℕ) (d : ℕ) → d < 4 → (worded h x).reach d ≡ x.reach d
side_of x h d l = ap (λ b. if b then x.reach d else h (d - 4)) (lt-ltb d 4 l)

-- behind the sides slots of bare items reach nowhere
tops_bare : (s : Slots) (d : ℕ) → 4 ≤ d → ((i : ℕ) → Held IsBare (s i)) → tops d s ≡ 0
unfolding tops
tops_bare s d l bare = top-same 32 (λ i. got (reach_of d) (s i)) (λ i. 0) (λ i k. by (s i) (bare i)) ∙ top-zero 32
  where
    by : (o : Option Item) → Held IsBare o → got (reach_of d) o ≡ 0
    by None h = refl
    by (Some x) h = h d l

module _ (old : NodeMap) (b : ℕ → ℕ → ℕ → ℕ) where
  -- the nodes with these words
  abbrev pub with_words : NodeMap
  with_words n = joined (old n) (b n)

  -- the same sums below
  below-plain : (f : Item → ℕ) → IsBlind f → (level : ℕ) (x : Item) (h : ℕ → ℕ) → below with_words f level (worded h x) ≡ below old f level x
  below-plain f blind zero x h = blind x h
  below-plain f blind (suc level) x h =
      amount_words (λ y. below with_words f level y) (λ y. below old f level y) (b x.to) (old x.to).slots (λ y k. below-plain f blind level y k)

  -- and the same pages
  uses-plain : (level : ℕ) (x : Item) (h : ℕ → ℕ) (n : ℕ) → uses with_words level (worded h x) n ≡ uses old level x n
  uses-plain zero x h n = refl
  uses-plain (suc level) x h n =
      ap (λ (k : ℕ). one_at x.to n + k)
      (amount_words (λ y. uses with_words level y n) (λ y. uses old level y n) (b x.to) (old x.to).slots (λ y k. uses-plain level y k n))

  module _ (bare : (n i : ℕ) → Held IsBare ((old n).slots i)) where
    -- the slots of a node, each item well formed
    each_plain : (level n : ℕ) → ((x : Item) (h : ℕ → ℕ) → IsBare x → IsItem with_words level (worded h x) → IsItem old level x) → Each (λ y. IsItem with_words level y) (with_words n).slots → Each (λ y. IsItem old level y) (old n).slots
    each_plain level n rec each i l = by ((old n).slots i) (bare n i) (each i l)
      where
        by : (o : Option Item) → Held IsBare o → Held (λ y. IsItem with_words level y) (option_map (joined_item (b n) i) o) → Held (λ y. IsItem old level y) o
        by None k e = tt
        by (Some x) k e = rec x (λ w. b n w i) k e

    -- a node of such items
    node_plain : (least level n : ℕ) → ((x : Item) (h : ℕ → ℕ) → IsBare x → IsItem with_words level (worded h x) → IsItem old level x)
        → IsNode (λ y. IsItem with_words level y) least level (with_words n) → IsNode (λ y. IsItem old level y) least level (old n)
    node_plain least level n rec node = record {
      level_is = node.level_is;
      some = (let some = node.some in let same = amount_words one one (b n) (old n).slots (λ x h. refl) in omega (arith, some, same));
      items = each_plain level n rec node.items;
    }

    -- an item well formed with words is well formed without
    pub item-plain : (level : ℕ) (x : Item) (h : ℕ → ℕ) → IsBare x → IsItem with_words level (worded h x) → IsItem old level x
    item-plain zero x h k e = tt
    item-plain (suc level) x h k e = (
      node_plain 12 level x.to (λ y g q i. item-plain level y g q i) e.0,
      λ d. ⊎_elim
          (λ (l : d < 4). sym (side_of x h d l) ∙ e.1 d ∙ tops_side (b x.to) (old x.to).slots d l)
          (λ (l : 4 ≤ d). k d l ∙ sym (tops_bare (old x.to).slots d l (bare x.to)))
          (cases_lt d 4),
    )

    -- a node is
    pub node-plain : (least level n : ℕ) → IsNode (λ y. IsItem with_words level y) least level (with_words n) → IsNode (λ y. IsItem old level y) least level (old n)
    node-plain least level n node = node_plain least level n (λ y g q i. item-plain level y g q i) node

  -- a way to an item leads to it with its words
  pub record LeadsWorded (path : List ℕ) (level page : ℕ) (x : Item) : Type 0 where
    pub words : ℕ → ℕ
    pub leads : Leads with_words path level page (worded words x)

  pub leads-worded : (path : List ℕ) (level page : ℕ) (x : Item) → Leads old path level page x → LeadsWorded path level page x
  leads-worded path zero page x h =
      record { words = λ w. b page w (slice_index path 0); leads = (h.0, ap (option_map (joined_item (b page) (slice_index path 0))) h.1) }
  leads-worded path (suc level) page x h =
      let rest = leads-worded path level h.0.to x h.2 in
      record { words = rest.words; leads = (joined_item (b page) (slice_index path (suc level)) h.0, (h.1.0, ap (option_map (joined_item (b page) (slice_index path (suc level)))) h.1.1), rest.leads) }

module _ (pages : PageMap) (rows : ℕ) where
  -- the nodes without their rows
  abbrev plain_nodes : NodeMap
  plain_nodes = bare_made.nodes_in node_of pages

  plain_bare : (n i : ℕ) → Held IsBare ((plain_nodes n).slots i)
  plain_bare n i = node-bare (pages n) i

  -- a tree has the same levels
  pub level-plain : (root : ℕ) → level_at (nodes_in node_of pages rows) root ≡ bare.level_at node_of pages root
  level-plain zero = refl
  level-plain (suc n) = refl

  -- it is well formed
  pub well-plain : (root : ℕ) → IsWell (nodes_in node_of pages rows) root → bare.IsWell node_of pages root
  well-plain zero well = tt
  well-plain (suc n) well =
      let level : ℕ = (node_of (pages (suc n))).level in
      node-plain plain_nodes (bytes_in pages rows) plain_bare (root_least level) level (suc n) well

  -- it has the same entries
  pub sum-plain : (root : ℕ) (f : Item → ℕ) → IsBlind f → tree_sum (nodes_in node_of pages rows) root f ≡ bare.tree_sum node_of pages root f
  sum-plain zero f blind = refl
  sum-plain (suc n) f blind =
      let level : ℕ = (node_of (pages (suc n))).level in
      amount_words (λ y. below (with_words plain_nodes (bytes_in pages rows)) f level y) (λ y. below plain_nodes f level y) (bytes_in pages rows (suc n)) (plain_nodes (suc n)).slots
      (λ y k. below-plain plain_nodes (bytes_in pages rows) f blind level y k)

  -- and the same pages
  pub tree-uses-plain : (root n : ℕ) → tree_uses (nodes_in node_of pages rows) root n ≡ bare.tree_uses node_of pages root n
  tree-uses-plain zero n = refl
  tree-uses-plain (suc m) n =
      let level : ℕ = (node_of (pages (suc m))).level in
      ap (λ (k : ℕ). one_at (suc m) n + k)
      (amount_words (λ y. uses (with_words plain_nodes (bytes_in pages rows)) level y n) (λ y. uses plain_nodes level y n) (bytes_in pages rows (suc m)) (plain_nodes (suc m)).slots
      (λ y k. uses-plain plain_nodes (bytes_in pages rows) level y k n))

-- a tree that is whole with its rows is whole without
pub whole-plain : (v : View) (root : ℕ) → IsWhole node_of v root → bare.IsWhole node_of v root
whole-plain v root whole = record {
  tree = well-plain v.pages v.rows root whole.tree;
  supplied = supplied-plain v whole.supplied;
  once = λ n. (let once = whole.once n in let same = tree-uses-plain v.pages v.rows root n in omega (arith, once, same));
  away = sym (tree-uses-plain v.pages v.rows root 0) ∙ whole.away;
}
