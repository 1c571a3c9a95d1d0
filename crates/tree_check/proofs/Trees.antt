-- The tree at a root, and that no broken tree is whole.
use Rattle.std.proofs.Common.{◌≡◌, ◌⊎◌, ℕ, zero, suc, ◌+◌, ◌^◌, ◌<◌, ◌≤◌, ◌++◌, List, [], true, false, arith, refl, sym, ap, ◌∙◌, subst, inl, inr, ⊎_elim, append-nil}
use Rattle.std.proofs.lemmas.Bool.{cases_Bool, cases_lt}
use Rattle.page_face.specs.FreeList.{PageMap}
use Rattle.page_face.specs.Causes.{IsUncounted}
use Rattle.page_face.specs.declared.fault.Rule.{Rule}
use Rattle.page_face.specs.declared.fault.Rule.TheVariants.{Head, Link, Kind, Fill, Order, Spare, Level, Value, Shared, Rect, Row, Entry, Words, Counts}
use Rattle.page_face.specs.declared.fault.Damage.{Damage}
use Rattle.btree_nodes.specs.Supply.{one_at}
use Rattle.btree_nodes.proofs.Supplies.{counted-none, uncounted-past}
use Rattle.page_walks.specs.Misuse.{IsMisused}
use Rattle.page_walks.proofs.Misuses.{one-known, misused-up, misused-apart}
use Rattle.rtree_nodes.specs.Slots.{Item, Slots, NodeView, amount, filled, Held}
use Rattle.rtree_nodes.specs.Trees.{IsNode, IsItem, uses, root_least}
use Rattle.rtree_nodes.specs.Stock.{view}
use Rattle.rtree_nodes.specs.Pages.{level_in, is_form, slots_in, node_of}
use Rattle.rtree_nodes.specs.Whole.{IsWell, level_at, tree_uses}
use Rattle.rtree_nodes.proofs.Formed.{form-node, form-slots, form-parts, parts-clear, values-from, other-slots}
use Rattle.rtree_nodes.proofs.Bounding.{some-form}
use Rattle.rtree_nodes.proofs.Amounts.{amount-none}
use Rattle.rtree_nodes.proofs.Heights.{node-level, root-some}
use Rattle.tree_check.specs.Nodes.{nodes_in, beneath, node_pages, tree_pages}
use Rattle.tree_check.specs.Damages.{BreaksPlaced, SomeItem, IsNotLeast, IsWrongItem, IsDamaged, IsBrokenBelow, IsTooHigh, IsDamagedTree, IsBrokenTree, IsWholeTree}
use Rattle.tree_check.specs.Walks.{IsWalked}

-- a page that breaks a rule as a node's isn't that of such a node
placed-apart : (rule : Rule) (least level : ℕ) (page : List ℕ) → 0 < least → BreaksPlaced rule least level page → (node_of page).level ≡ level → least ≤ filled (slots_in page) → ⊥
placed-apart Head least level page some b at most = b
placed-apart Link least level page some b at most = b
placed-apart Kind least level page some b at most = let f = form-parts page (some-form page (omega arith)) in b f.kind
placed-apart Fill least level page some b at most = let e = ap filled (form-slots page (some-form page (omega arith))) in absurd (omega arith)
placed-apart Order least level page some b at most = b
placed-apart Spare least level page some b at most =
    let f = form-parts page (some-form page (omega arith)) in
    let e : true ≡ false = sym (parts-clear page f.clear) ∙ b in
    absurd (cc)
placed-apart Level least level page some b at most = b (sym (ap (λ (v : NodeView). v.level) (form-node page (some-form page (omega arith)))) ∙ at)
placed-apart Value least level page some b at most =
    let f = form-parts page (some-form page (omega arith)) in
    let e : true ≡ false = sym (values-from page f.values) ∙ b in
    absurd (cc)
placed-apart Shared least level page some b at most = b
placed-apart Rect least level page some b at most = b
placed-apart Row least level page some b at most = b
placed-apart Entry least level page some b at most = b
placed-apart Words least level page some b at most = b
placed-apart Counts least level page some b at most = b

-- what holds of each item isn't absent from one
some-apart : (P Q : Item → Type 0) (slots : Slots) → ((x : Item) → P x → Q x → ⊥) → SomeItem P slots → ((i : ℕ) → i < 32 → Held Q (slots i)) → ⊥
some-apart P Q slots never s each = never s.item s.holds (subst (Held Q) s.is (each s.at s.within))

node-apart : (pages : PageMap) (damage : Damage) (least level page : ℕ) → 0 < least → ((x : Item) → IsWrongItem pages damage level page x → IsItem (nodes_in pages) level x → ⊥)
    → IsDamaged pages damage least level page → IsNode (λ y. IsItem (nodes_in pages) level y) least level (nodes_in pages page) → ⊥
node-apart pages damage least level page some never d node =
    ⊎_elim
    (λ (b : (damage.page ≡ page) × BreaksPlaced damage.rule least level (pages page)). placed-apart damage.rule least level (pages page) some b.1 node.level_is node.some)
    (λ (s : SomeItem (λ y. IsWrongItem pages damage level page y) (slots_in (pages page))).
    some-apart (λ y. IsWrongItem pages damage level page y) (λ y. IsItem (nodes_in pages) level y) (slots_in (pages page)) never s node.items)
    d

-- an item that is wrong isn't well formed
wrong-apart : (pages : PageMap) (damage : Damage) (level page : ℕ) (x : Item) → IsWrongItem pages damage level page x → IsItem (nodes_in pages) level x → ⊥
wrong-apart pages damage zero page x b item = b
wrong-apart pages damage (suc level) page x b item =
    ⊎_elim
    (λ (r : (damage ≡ record { page = page; rule = Rect }) × IsNotLeast (nodes_in pages) level x). r.1.apart item.1)
    (λ (d : IsDamaged pages damage 12 level x.to). node-apart pages damage 12 level x.to (omega arith) (λ y w i. wrong-apart pages damage level x.to y w i) d item.0)
    b

-- a damaged tree isn't well formed
pub damaged-apart : (pages : PageMap) (damage : Damage) (least level page : ℕ) → 0 < least → IsDamaged pages damage least level page
    → IsNode (λ y. IsItem (nodes_in pages) level y) least level (nodes_in pages page) → ⊥
damaged-apart pages damage least level page some d node = node-apart pages damage least level page some (λ x w i. wrong-apart pages damage level page x w i) d node

-- the root's level is that of its bytes, if it has an item
root-level : (pages : PageMap) (root least : ℕ) → 0 < least → least ≤ filled (slots_in (pages root)) → (node_of (pages root)).level ≡ level_in (pages root)
root-level pages root least some most = ap (λ (v : NodeView). v.level) (form-node (pages root) (some-form (pages root) (omega arith)))

-- no tree whose pages are used once is above level 9
low-tree : (pages : PageMap) (count : ℕ) (before : ℕ → ℕ) (root : ℕ) → count ≤ 2 ^ 32 → IsWholeTree pages count before (suc root) → level_at node_of pages (suc root) ≤ 9
low-tree pages count before root small w =
    let level : ℕ = level_at node_of pages (suc root) in
    node-level (nodes_in pages) (view pages 0 count 0 []) (root_least level) level (suc root) w.tree (root-some level)
    (λ n. ⊎_elim
    (λ (l : n < count). let a = w.used.once n in let b = counted-none count n l in omega arith)
    (λ (l : count ≤ n). let a = w.used.known n (inr l) in let b = uncounted-past count n l in omega arith)
    (cases_lt n count))
    small

damaged-tree-apart : (pages : PageMap) (count : ℕ) (before : ℕ → ℕ) (damage : Damage) (root : ℕ) → count ≤ 2 ^ 32 → IsDamagedTree pages damage root → IsWholeTree pages count before root → ⊥
damaged-tree-apart pages count before damage zero small d w = d
damaged-tree-apart pages count before damage (suc root) small d w =
    let level : ℕ = level_at node_of pages (suc root) in
    let same : level ≡ level_in (pages (suc root)) = root-level pages (suc root) (root_least level) (root-some level) w.tree.some in
    ⊎_elim
    (λ (h : IsTooHigh pages damage (suc root)). let a = h.1 in let b = low-tree pages count before root small w in absurd (omega arith))
    (λ (g : IsDamaged pages damage (root_least (level_in (pages (suc root)))) (level_in (pages (suc root))) (suc root)).
    damaged-apart pages damage (root_least level) level (suc root) (root-some level)
    (subst (λ (k : ℕ). IsDamaged pages damage (root_least k) k (suc root)) (sym same) g) w.tree)
    d

-- a broken tree isn't whole
pub broken-apart : (pages : PageMap) (count : ℕ) (before : ℕ → ℕ) (root : ℕ) (damage : Damage) → count ≤ 2 ^ 32 → IsBrokenTree pages count before root damage → IsWholeTree pages count before root → ⊥
broken-apart pages count before root damage small b w =
    ⊎_elim
    (λ (m : IsMisused count before (tree_uses node_of pages root) damage). misused-apart count before (tree_uses node_of pages root) damage m w.used)
    (λ (d : IsDamagedTree pages damage root). damaged-tree-apart pages count before damage root small d w)
    b

-- the empty tree
pub none-well : (pages : PageMap) (root : ℕ) → root ≡ 0 → IsWell node_of pages root
none-well pages root e = subst (λ (r : ℕ). IsWell node_of pages r) (sym e) tt

pub none-uses : (pages : PageMap) (root n : ℕ) → root ≡ 0 → tree_uses node_of pages root n ≡ 0
none-uses pages root n e = ap (λ (r : ℕ). tree_uses node_of pages r n) e

pub none-pages : (pages : PageMap) (root : ℕ) (list : List ℕ) → root ≡ 0 → list ≡ list ++ tree_pages pages root
none-pages pages root list e = sym (ap (λ (r : ℕ). list ++ tree_pages pages r) e ∙ append-nil list)

-- a tree's pages are its root's and those below it
some-uses : (pages : PageMap) (root n : ℕ) → 0 < root → tree_uses node_of pages root n ≡ one_at root n + beneath (nodes_in pages) (level_at node_of pages root) root n
some-uses pages zero n h = absurd (omega arith)
some-uses pages (suc m) n h = refl

some-level : (pages : PageMap) (root : ℕ) → 0 < root → level_at node_of pages root ≡ (node_of (pages root)).level
some-level pages zero h = absurd (omega arith)
some-level pages (suc m) h = refl

some-pages : (pages : PageMap) (root : ℕ) → 0 < root → tree_pages pages root ≡ node_pages (nodes_in pages) (level_at node_of pages root) root
some-pages pages zero h = absurd (omega arith)
some-pages pages (suc m) h = refl

some-well : (pages : PageMap) (root : ℕ) → 0 < root → IsNode (λ y. IsItem (nodes_in pages) (level_at node_of pages root) y) (root_least (level_at node_of pages root)) (level_at node_of pages root) (nodes_in pages root)
    → IsWell node_of pages root
some-well pages zero h node = tt
some-well pages (suc m) h node = node

some-damaged : (pages : PageMap) (damage : Damage) (root : ℕ) → 0 < root
    → IsTooHigh pages damage root ⊎ IsDamaged pages damage (root_least (level_in (pages root))) (level_in (pages root)) root → IsDamagedTree pages damage root
some-damaged pages damage zero h d = absurd (omega arith)
some-damaged pages damage (suc m) h d = d

-- how often a page is used below the root, by the level of the root's bytes
uses-level : (pages : PageMap) (root n : ℕ) → 0 < root → beneath (nodes_in pages) (level_in (pages root)) root n ≡ beneath (nodes_in pages) (level_at node_of pages root) root n
unfolding amount
uses-level pages root n h = ⊎_elim
    (λ (t : is_form (pages root) ≡ true). ap (λ (k : ℕ). beneath (nodes_in pages) k root n) (sym (some-level pages root h ∙ ap (λ (v : NodeView). v.level) (form-node (pages root) t))))
    (λ (f : is_form (pages root) ≡ false). none (level_in (pages root)) f ∙ sym (none (level_at node_of pages root) f))
    (cases_Bool (is_form (pages root)))
  where
    none : (level : ℕ) → is_form (pages root) ≡ false → beneath (nodes_in pages) level root n ≡ 0
    none level f = amount-none (λ y. uses (nodes_in pages) level y n) (slots_in (pages root)) (λ i. ap (λ (s : Slots). s i) (other-slots (pages root) f))

-- the root's node was walked, over pages that are the same
module _ (pages pages' : PageMap) (count count' root level : ℕ) (some : 0 < root) (same : pages' ≡ pages) (many : count' ≡ count) (at : level ≡ level_in (pages root)) (before mid after : ℕ → ℕ) (list found : List ℕ)
    (enters : (n : ℕ) → mid n ≡ before n + one_at root n) (walked : IsWalked pages' count' (root_least level) level root mid after list found) where
  seen : IsWalked pages count (root_least level) level root mid after list found
  seen = subst (λ (p : PageMap). IsWalked p count (root_least level) level root mid after list found) same (subst (λ (k : ℕ). IsWalked pages' k (root_least level) level root mid after list found) many walked)

  level-is : level ≡ level_at node_of pages root
  level-is = sym (some-level pages root some ∙ seen.node.level_is)

  pub root-well : IsWell node_of pages root
  root-well = some-well pages root some (subst (λ (k : ℕ). IsNode (λ y. IsItem (nodes_in pages) k y) (root_least k) k (nodes_in pages root)) level-is seen.node)

  beneath-is : (n : ℕ) → beneath (nodes_in pages) level root n ≡ beneath (nodes_in pages) (level_at node_of pages root) root n
  beneath-is n = ap (λ (k : ℕ). beneath (nodes_in pages) k root n) level-is

  pub root-counted : (IsUncounted count root → ⊥) → (n : ℕ) → IsUncounted count n → tree_uses node_of pages root n ≡ 0
  root-counted known n u = let a = some-uses pages root n some in let b = beneath-is n in let c = seen.counted n u in let d = one-known count root n known u in omega arith

  pub root-met : (n : ℕ) → after n ≡ before n + tree_uses node_of pages root n
  root-met n = let a = some-uses pages root n some in let b = beneath-is n in let c = seen.met n in let d = enters n in omega arith

  pub root-pages : found ≡ list ++ tree_pages pages root
  root-pages = seen.gives ∙ ap (λ (x : List ℕ). list ++ x) (ap (λ (k : ℕ). node_pages (nodes_in pages) k root) level-is ∙ sym (some-pages pages root some))

-- the root's page is misused
pub root-misused : (pages : PageMap) (count : ℕ) (before : ℕ → ℕ) (root : ℕ) → 0 < root → (damage : Damage) → IsMisused count before (one_at root) damage → IsBrokenTree pages count before root damage
root-misused pages count before root some damage m =
    inl (misused-up count before before (one_at root) (tree_uses node_of pages root) damage
    (λ n. let a = some-uses pages root n some in omega arith) (λ n. let a = some-uses pages root n some in omega arith) m)

-- the root breaks a rule as a node's
pub root-placed : (pages : PageMap) (count : ℕ) (before : ℕ → ℕ) (root : ℕ) → 0 < root → (bytes : List ℕ) → bytes ≡ pages root → (rule : Rule) → BreaksPlaced rule (root_least (level_in bytes)) (level_in bytes) bytes
    → (damage : Damage) → record { page = root; rule = rule } ≡ damage → IsBrokenTree pages count before root damage
root-placed pages count before root some bytes is rule b damage e =
    subst (λ (d : Damage). IsBrokenTree pages count before root d) e
    (inr (some-damaged pages (record { page = root; rule = rule }) root some (inr (inl (refl, subst (λ (p : List ℕ). BreaksPlaced rule (root_least (level_in p)) (level_in p) p) is b)))))

-- the root is above level 9
pub root-high : (pages : PageMap) (count : ℕ) (before : ℕ → ℕ) (root : ℕ) → 0 < root → (bytes : List ℕ) → bytes ≡ pages root → 9 < level_in bytes
    → (damage : Damage) → record { page = root; rule = Level } ≡ damage → IsBrokenTree pages count before root damage
root-high pages count before root some bytes is high damage e =
    inr (some-damaged pages damage root some (inl (sym e, subst (λ (p : List ℕ). 9 < level_in p) is high)))

-- what is damaged below the root, over pages that are the same
pub root-below : (pages pages' : PageMap) (count count' root level : ℕ) → 0 < root → pages' ≡ pages → count' ≡ count → level ≡ level_in (pages root) → (before mid : ℕ → ℕ)
    → ((n : ℕ) → mid n ≡ before n + one_at root n) → (damage : Damage) → IsBrokenBelow pages' count' mid (root_least level) level root damage → IsBrokenTree pages count before root damage
root-below pages pages' count count' root level some same many at before mid enters damage broken =
    let l : ℕ = level_in (pages root) in
    let b : IsBrokenBelow pages count mid (root_least l) l root damage =
    subst (λ (k : ℕ). IsBrokenBelow pages count mid (root_least k) k root damage) at
    (subst (λ (p : PageMap). IsBrokenBelow p count mid (root_least level) level root damage) same (subst (λ (k : ℕ). IsBrokenBelow pages' k mid (root_least level) level root damage) many broken)) in
    ⊎_elim
    (λ (m : IsMisused count mid (beneath (nodes_in pages) l root) damage). inl (misused-up count mid before (beneath (nodes_in pages) l root) (tree_uses node_of pages root) damage
    (λ n. let a = some-uses pages root n some in let c = uses-level pages root n some in let d = enters n in omega arith)
    (λ n. let a = some-uses pages root n some in let c = uses-level pages root n some in omega arith) m))
    (λ (d : IsDamaged pages damage (root_least l) l root). inr (some-damaged pages damage root some (inr d)))
    b
