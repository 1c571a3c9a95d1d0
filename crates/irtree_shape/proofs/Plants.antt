-- A place that was put into a whole tree, with its words.
use Rattle.std.proofs.Common.{◌≡◌, ℕ, zero, suc, ◌+◌, ◌<◌, ◌≤◌, inl, inr, max, arith, refl, sym, ap, ◌∙◌, subst, Some, None, List, [], ◌∷◌, ◌++◌, length, length-append}
use Rattle.page_face.specs.FreeList.{PageMap}
use Rattle.btree_nodes.specs.Supply.{one_at}
use Rattle.btree_nodes.proofs.Supplies.{none, one_at-same, one_at-other}
use Rattle.rtree_nodes.specs.Slots.{Item, Slots, NodeView, Each, one, amount, tops}
use Rattle.rtree_nodes.specs.Trees.{below, uses, IsItem, IsTree, with_slot, root_least, node_below, node_uses, stand_uses}
use Rattle.rtree_nodes.specs.Heads.{heads, node_heads, stand_heads, total_heads}
use Rattle.rtree_nodes.specs.Stock.{View, view, spare_in}
use Rattle.rtree_nodes.specs.Made.{Reads}
use Rattle.rtree_nodes.proofs.Amounts.{same_or}
use Rattle.rtree_nodes.proofs.Heads.{total-append}
use Rattle.rtree_nodes.proofs.Plants.{least-some}
use Rattle.rtree_nodes.proofs.Raises.{one-sum, one-each}
use Rattle.rtree_nodes.proofs.Heights.{none_or}
use Rattle.node_rows.specs.Rows.{bytes_in}
use Rattle.node_rows.specs.Impacts.{impact_in, raised}
use Rattle.irtree_shape.specs.Words.{worded, joined, words_on}
use Rattle.irtree_shape.specs.Stock.{Moves}
use Rattle.irtree_shape.specs.Steps.{Steps, Takes}
use Rattle.irtree_shape.specs.Made.{nodes_in, IsBlank, IsMade, IsOpen, IsRaised, Puts}
use Rattle.irtree_shape.specs.Whole.{level_at, levels_at, tree_uses, tree_sum, tree_heads, IsWhole, IsPlanted}
use Rattle.irtree_shape.proofs.Stocks.{moves-as, moves-further, supplied-plain}
use Rattle.irtree_shape.proofs.Stores.{blank-after}
use Rattle.irtree_shape.proofs.Words.{words-same, words-none_back, placed, raised-blank}

-- Each row names a node of the tree, as before: rows of pages that were neither the tree's nor spare stayed, and spare pages have none.
pub named-after : (before after : View) (mine ours : ℕ → ℕ) → Moves before after mine ours → ((n w i : ℕ) → mine n ≡ 0 → bytes_in before.pages before.rows n w i ≡ 0) → (n w i : ℕ) → ours n ≡ 0 → bytes_in after.pages after.rows n w i ≡ 0
named-after before after mine ours moves named n w i o = elim (none_or (spare_in after n)) [
  | inl z ↦ let e = moves.kept n in let m : mine n ≡ 0 = omega arith in (moves.others n m (omega arith)).bytes w i ∙ named n w i m
  | inr s ↦ moves.supplied.clear n w i s
]

-- a place may be put in below the root of a whole tree
pub whole_open : (reads : Reads) (before : View) (root : ℕ) (x : Item) → 0 < root → IsWhole reads before root
    → IsOpen reads before (root_least (level_at (nodes_in reads before.pages before.rows) root)) (level_at (nodes_in reads before.pages before.rows) root) root zero x
whole_open reads before zero x some whole = absurd (omega arith)
whole_open reads before (suc m) x some whole = let l = least-some (level_at (nodes_in reads before.pages before.rows) (suc m)) in record {
  node = whole.tree;
  some = l.0;
  small = l.1;
  item = tt;
  deep = omega arith;
  supplied = whole.supplied;
  once = λ n. let o = whole.once n in omega arith;
  away = let a = whole.away in omega arith;
  blank = whole.blank;
}

-- a tree of a level that is known stands at a root
record Stood (reads : Reads) (before : View) (pages : PageMap) (rows count first old_root root level : ℕ) (x : Item) (rise : ℕ → Type 0) : Type 0 where
  pub free : List ℕ
  pub tree : IsTree (nodes_in reads pages rows) level root
  pub once : (n : ℕ) → node_uses (nodes_in reads pages rows) level root n + spare_in (view pages rows count first free) n ≤ 1
  pub away : node_uses (nodes_in reads pages rows) level root 0 ≡ 0
  pub moves : Moves before (view pages rows count first free) (tree_uses (nodes_in reads before.pages before.rows) old_root) (node_uses (nodes_in reads pages rows) level root)
  pub sum_is : (f : Item → ℕ) → node_below (nodes_in reads pages rows) f level root ≡ tree_sum (nodes_in reads before.pages before.rows) old_root f + f x
  pub fresh : List (ℕ × ℕ)
  pub heads_are : (g : ℕ → ℕ → ℕ) → node_heads (nodes_in reads pages rows) g level root ≡ tree_heads (nodes_in reads before.pages before.rows) old_root g + total_heads g fresh
  pub splits : ℕ
  pub counted : rise splits
  pub many : length fresh + levels_at (nodes_in reads before.pages before.rows) old_root ≡ splits + suc level
  pub blank : (n : ℕ) → IsBlank reads pages rows n
  pub named : (n w i : ℕ) → node_uses (nodes_in reads pages rows) level root n ≡ 0 → bytes_in pages rows n w i ≡ 0

-- it is the tree by its root
planted-at : (reads : Reads) (before : View) (pages : PageMap) (rows count first old_root root level : ℕ) (x : Item) (rise : ℕ → Type 0) → 0 < root
    → Stood reads before pages rows count first old_root root level x rise → IsPlanted reads before pages rows count first old_root root x rise
planted-at reads before pages rows count first old_root zero level x rise some stood = absurd (omega arith)
planted-at reads before pages rows count first old_root (suc m) level x rise some stood =
    let h : Stood reads before pages rows count first old_root (suc m) (level_at (nodes_in reads pages rows) (suc m)) x rise =
    subst (λ (l : ℕ). Stood reads before pages rows count first old_root (suc m) l x rise) (sym stood.tree.level_is) stood in
    record {
      free = h.free;
      whole = record { tree = h.tree; supplied = h.moves.supplied; once = h.once; away = h.away; blank = h.blank; named = h.named };
      moves = h.moves;
      sum_is = h.sum_is;
      fresh = h.fresh;
      heads_are = h.heads_are;
      splits = h.splits;
      counted = h.counted;
      many = h.many;
    }

-- the root wasn't split
pub planted_same : (reads : Reads) (before : View) (pages : PageMap) (rows count first root : ℕ) (x : Item) (told : ℕ → ℕ) (rise : ℕ → Type 0) → 0 < root → IsWhole reads before root
    → Puts reads before pages rows count first (root_least (level_at (nodes_in reads before.pages before.rows) root)) (level_at (nodes_in reads before.pages before.rows) root) root zero x None told rise → IsPlanted reads before pages rows count first root root x rise
planted_same reads before pages rows count first zero x told rise some whole put = absurd (omega arith)
planted_same reads before pages rows count first (suc m) x told rise some whole put =
    let kept : (n : ℕ) → node_uses (nodes_in reads pages rows) (level_at (nodes_in reads before.pages before.rows) (suc m)) (suc m) n + spare_in (view pages rows count first put.free) n ≡ tree_uses (nodes_in reads before.pages before.rows) (suc m) n + spare_in before n
    = λ n. let e = put.moves.kept n in omega arith in
    let moves : Moves before (view pages rows count first put.free) (tree_uses (nodes_in reads before.pages before.rows) (suc m)) (node_uses (nodes_in reads pages rows) (level_at (nodes_in reads before.pages before.rows) (suc m)) (suc m))
    = moves-as (λ n. omega arith) (λ n. omega arith) put.moves in
    planted-at reads before pages rows count first (suc m) (suc m) (level_at (nodes_in reads before.pages before.rows) (suc m)) x rise some (record {
      free = put.free;
      tree = put.stands.node;
      once = λ n. let k = kept n in let o = whole.once n in omega arith;
      away = let k = kept 0 in let a = whole.away in let s = (supplied-plain before whole.supplied).away in omega arith;
      moves = moves;
      blank = put.blank;
      named = named-after before (view pages rows count first put.free) _ _ moves whole.named;
      sum_is = λ f. let s = put.stands.sum_is f in omega arith;
      fresh = put.fresh;
      heads_are = λ g. let s = put.counts_are g in omega arith;
      splits = length put.fresh;
      counted = put.counted;
      many = refl;
    })

-- the root was split
module _ (reads : Reads) (before : View) (mid : PageMap) (rows count first root : ℕ) (x y : Item) (told : ℕ → ℕ) (rise : ℕ → Type 0) (some : 0 < root) (whole : IsWhole reads before root)
    (put : Puts reads before mid rows count first (root_least (level_at (nodes_in reads before.pages before.rows) root)) (level_at (nodes_in reads before.pages before.rows) root) root zero x (Some y) told rise) where
  uses-are : (m n : ℕ) → 0 < m → tree_uses (nodes_in reads before.pages before.rows) m n ≡ node_uses (nodes_in reads before.pages before.rows) (level_at (nodes_in reads before.pages before.rows) m) m n
  uses-are zero n l = absurd (omega arith)
  uses-are (suc m) n l = refl

  -- a new one is to stand above both nodes
  pub to_raise : IsRaised reads (view mid rows count first put.free) (root_least (level_at (nodes_in reads before.pages before.rows) root)) (level_at (nodes_in reads before.pages before.rows) root) root y
      (λ f. node_below (nodes_in reads before.pages before.rows) f (level_at (nodes_in reads before.pages before.rows) root) root + below (nodes_in reads before.pages before.rows) f zero x)
      (λ d. max (tops d (nodes_in reads before.pages before.rows root).slots) (x.reach d)) told
  to_raise = record {
    stands = put.stands;
    told_is = put.told_is;
    supplied = put.moves.supplied;
    once = λ n. let e = put.moves.kept n in let o = whole.once n in let u = uses-are root n some in omega arith;
    blank = put.blank;
  }

-- and a new one stands above both nodes
pub planted_raised : (reads : Reads) (before : View) (mid : PageMap) (rows count first root : ℕ) (x y : Item) (told : ℕ → ℕ) (rise : ℕ → Type 0) → 0 < root → (whole : IsWhole reads before root)
    → (put : Puts reads before mid rows count first (root_least (level_at (nodes_in reads before.pages before.rows) root)) (level_at (nodes_in reads before.pages before.rows) root) root zero x (Some y) told rise)
    → (pages : PageMap) (rows' count' first' top : ℕ) (wide : ℕ → ℕ) → 0 < top
    → IsMade reads (view mid rows count first put.free) pages rows' count' first' 2 (suc (level_at (nodes_in reads before.pages before.rows) root)) top (λ n. stand_uses (nodes_in reads mid rows) (level_at (nodes_in reads before.pages before.rows) root) root (Some y) n) None
    (λ f. node_below (nodes_in reads before.pages before.rows) f (level_at (nodes_in reads before.pages before.rows) root) root + below (nodes_in reads before.pages before.rows) f zero x) (λ g. stand_heads (nodes_in reads mid rows) g (level_at (nodes_in reads before.pages before.rows) root) root (Some y)) wide wide (λ n. n ≡ 1)
    → IsPlanted reads before pages rows' count' first' root top x rise
planted_raised reads before mid rows count first zero x y told rise some whole put pages rows' count' first' top wide top_some made = absurd (omega arith)
planted_raised reads before mid rows count first (suc m) x y told rise some whole put pages rows' count' first' top wide top_some made =
    let level : ℕ = level_at (nodes_in reads before.pages before.rows) (suc m) in
    let kept : (n : ℕ) → node_uses (nodes_in reads pages rows') (suc level) top n + spare_in (view pages rows' count' first' made.free) n ≡ tree_uses (nodes_in reads before.pages before.rows) (suc m) n + spare_in before n
    = λ n. let e = put.moves.kept n in let d = made.moves.kept n in omega arith in
    let moves : Moves before (view pages rows' count' first' made.free) (tree_uses (nodes_in reads before.pages before.rows) (suc m)) (node_uses (nodes_in reads pages rows') (suc level) top)
    = moves-as (λ n. omega arith) (λ n. omega arith) (moves-further put.moves made.moves) in
    planted-at reads before pages rows' count' first' (suc m) top (suc level) x rise top_some (record {
      free = made.free;
      tree = made.stands.node;
      once = λ n. let k = kept n in let o = whole.once n in omega arith;
      away = let k = kept 0 in let a = whole.away in let s = (supplied-plain before whole.supplied).away in omega arith;
      moves = moves;
      blank = made.blank;
      named = named-after before (view pages rows' count' first' made.free) _ _ moves whole.named;
      sum_is = λ f. let s = made.stands.sum_is f in omega arith;
      fresh = put.fresh ++ made.fresh;
      heads_are = λ g. let a = put.counts_are g in let b = made.counts_are g in let t = total-append g put.fresh made.fresh in omega arith;
      splits = length put.fresh;
      counted = put.counted;
      many = let a = length-append put.fresh made.fresh in let b = made.counted in omega arith;
    })

-- the empty tree becomes one leaf with one slot
pub planted_first : (reads : Reads) (before : View) (pages : PageMap) (rows count first top : ℕ) (free : List ℕ) (x : Item) (rise : ℕ → Type 0) → rise 0 → 0 < top → IsWhole reads before 0
    → Moves before (view pages rows count first free) none (one_at top) → (s t : Slots) → ((i : ℕ) → s i ≡ None) → t ≡ with_slot 0 x s
    → nodes_in reads pages rows top ≡ record { level = 0; slots = t } → ((n : ℕ) → IsBlank reads pages rows n) → IsPlanted reads before pages rows count first 0 top x rise
planted_first reads before pages rows count first top free x rise risen some whole moves s t empty is here blank =
    let sum : (F : Item → ℕ) → amount F (nodes_in reads pages rows top).slots ≡ F x = λ F. ap (λ (v : NodeView). amount F v.slots) here ∙ one-sum x s t empty is F in
    let used : (n : ℕ) → node_uses (nodes_in reads pages rows) 0 top n ≡ one_at top n = λ n. let k = sum (λ y. uses (nodes_in reads pages rows) 0 y n) in omega arith in
    let onto : Moves before (view pages rows count first free) (tree_uses (nodes_in reads before.pages before.rows) 0) (node_uses (nodes_in reads pages rows) 0 top) = moves-as (λ n. refl) (λ n. used n) moves in
    planted-at reads before pages rows count first 0 top 0 x rise some (record {
      free = free;
      tree = record {
        level_is = ap (λ (v : NodeView). v.level) here;
        some = let k = sum one in omega arith;
        items = subst (λ (v : NodeView). Each (λ y. IsItem (nodes_in reads pages rows) 0 y) v.slots) (sym here) (one-each x s t empty is (λ y. IsItem (nodes_in reads pages rows) 0 y) tt);
      };
      once = λ n. let u = used n in let k = moves.kept n in let o = whole.supplied.rows.kept.once n in omega arith;
      away = let u = used 0 in let z = one_at-other top 0 (λ e. omega arith) in omega arith;
      moves = onto;
      blank = blank;
      named = named-after before (view pages rows count first free) _ _ onto whole.named;
      sum_is = λ f. let k = sum (λ y. below (nodes_in reads pages rows) f 0 y) in omega arith;
      fresh = (0, top) ∷ [];
      heads_are = λ g. let k = sum (λ y. heads (nodes_in reads pages rows) g 0 y) in omega arith;
      splits = 0;
      counted = risen;
      many = refl;
    })

-- the steps to such a leaf: its page is taken and written, and its slot is raised by the words
module _ (reads : Reads) (before : View) (top : ℕ) (words : List (ℕ × ℕ)) (x : Item) (rise : ℕ → Type 0) (risen : rise 0) (whole : IsWhole reads before 0)
    (taken : PageMap) (r0 c0 f0 : ℕ) (bytes : List ℕ) (take : Takes before taken r0 c0 f0 top bytes) (some : 0 < top) where
  -- the page isn't spare any more
  pub leaf_spare : spare_in (view taken r0 c0 f0 take.free) top ≡ 0
  leaf_spare = let m = take.moves.kept top in let o = whole.supplied.rows.kept.once top in let p = one_at-same top in omega arith

  module _ (pages : PageMap) (rows count first : ℕ) (steps : Steps (view taken r0 c0 f0 take.free) pages rows count first (one_at top) (one_at top) (raised top 0 (impact_in words) (bytes_in taken r0)) taken)
      (s t : Slots) (none_in : (i : ℕ) → s i ≡ None) (is_t : t ≡ with_slot 0 x s) (node_is : reads bytes ≡ record { level = 0; slots = t }) where
    on_top : one_at top top ≡ 1
    on_top = one_at-same top

    holds : reads (pages top) ≡ record { level = 0; slots = t }
    holds = let o = on_top in ap reads (steps.holds top (omega arith) ∙ take.here) ∙ node_is

    bytes_are : (w i : ℕ) → bytes_in pages rows top w i ≡ raised top 0 (impact_in words) (bytes_in taken r0) top w i
    bytes_are w i = let o = on_top in steps.bytes top w i (omega arith)

    slots_are : words_on (bytes_in pages rows top) t ≡ with_slot 0 (worded (impact_in words) x) (words_on (bytes_in taken r0 top) s)
    slots_are = words-same (bytes_in pages rows top) (raised top 0 (impact_in words) (bytes_in taken r0) top) t bytes_are
        ∙ placed top 0 (impact_in words) (bytes_in taken r0) s t x (λ w. take.none w 0) is_t

    here : nodes_in reads pages rows top ≡ record { level = 0; slots = words_on (bytes_in pages rows top) t }
    here = ap (λ (v : NodeView). joined v (bytes_in pages rows top)) holds

    blank_here : IsBlank reads pages rows top
    blank_here w i none_at = bytes_are w i
        ∙ raised-blank top 0 (impact_in words) (bytes_in taken r0) s t x is_t (λ v j h. take.none v j) w i (sym (ap (λ (v : NodeView). v.slots i) holds) ∙ none_at)

    all_moves : Moves before (view pages rows count first steps.free) none (one_at top)
    all_moves = moves-further take.moves steps.moves

    blank : (n : ℕ) → IsBlank reads pages rows n
    blank n = elim (same_or n top) [
      | inl e ↦ subst (IsBlank reads pages rows) (sym e) blank_here
      | inr d ↦ blank-after reads before (view pages rows count first steps.free) none (one_at top) all_moves n refl (one_at-other top n d) (whole.blank n)
    ]

    -- and the tree has one leaf
    pub leaf_planted : IsPlanted reads before pages rows count first 0 top (worded (impact_in words) x) rise
    leaf_planted = planted_first reads before pages rows count first top steps.free (worded (impact_in words) x) rise risen some whole all_moves
        (words_on (bytes_in taken r0 top) s) (words_on (bytes_in pages rows top) t) (λ i. words-none_back (bytes_in taken r0 top) s i (none_in i)) slots_are here blank
