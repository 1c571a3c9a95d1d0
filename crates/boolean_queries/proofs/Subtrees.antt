-- The nodes that wait are nodes of the tree.
use Rattle.std.proofs.Common.{◌≡◌, ℕ, zero, suc, ◌^◌, ◌<◌, ◌≤◌, Bool, true, false, ◌&&◌, List, [], ◌∷◌, ◌++◌, length, Option, None, Some, refl, sym, ap, subst, ◌∙◌, arith, ⊎_elim}
use Rattle.std.specs.Prelude.{if◌then◌else◌}
use Rattle.std.specs.List.{AllByRecursion}
use Rattle.page_face.specs.FreeList.{PageMap}
use Rattle.btree_nodes.proofs.Supplies.{uncounted-past}
use Rattle.place_values.specs.declared.query.Expr.{Expr}
use Rattle.rtree_nodes.specs.Slots.{Item, NodeMap}
use Rattle.rtree_nodes.specs.Trees.{root_least}
use Rattle.rtree_nodes.specs.Stock.{view}
use Rattle.rtree_nodes.proofs.Heights.{root-some, node-level}
use Rattle.rtree_nodes.specs.Pages.{level_in, node_of}
use Rattle.rtree_nodes.specs.Subtrees.{IsNodeAt, AreCounted}
use Rattle.rtree_nodes.proofs.Subtrees.{child-node, child-counted}
use Rattle.paged_map.proofs.Maps.{kept-counted}
use Rattle.irtree_shape.specs.Made.{nodes_in}
use Rattle.irtree_shape.specs.Whole.{IsWell, level_at, tree_uses}
use Rattle.best_first.specs.declared.item.Item as best
use Rattle.best_first.specs.declared.item.Item.TheVariants.{Node, Place}
use Rattle.best_first.specs.Items.{nodes_of}
use Rattle.best_first.specs.Lists.{all_append, all_parts}
use Rattle.best_first.proofs.Steps.{all_nodes}
use Rattle.node_filter.specs.Numbers.{Numbers, impact_of}
use Rattle.node_filter.specs.Filters.{admits_by}
use Rattle.boolean_queries.specs.declared.region.Region.{Region}
use Rattle.boolean_queries.specs.Near.{listed, touches, given}
use Rattle.boolean_queries.specs.Opens.{Fits, IsGood, gives, opens_in, starts_at}
use Rattle.boolean_queries.proofs.Lists.{in-order-all}
use Rattle.boolean_queries.proofs.Opened.{joined-read}

-- an item that is a node of a tree, with its pages counted
abbrev pub IsSound : NodeMap → ℕ → best.Item → Type 0
IsSound nodes count (Node page level bound) = IsNodeAt nodes level page × AreCounted nodes count level page
IsSound nodes count (Place hit) = Unit {0}

module _ (nodes : NodeMap) (count page level : ℕ) (node : IsNodeAt nodes level page) (counted : AreCounted nodes count level page) where
  sound-given : (region : Region) (l i : ℕ) (x : Item) → level ≡ l → i < 32 → (nodes page).slots i ≡ Some x → IsSound nodes count (given region l x)
  sound-given region zero i x e within is = tt
  sound-given region (suc l) i x e within is = (
    child-node nodes level l page i x.to e within node (record { item = x; is = is; to_is = refl }),
    child-counted nodes level l page i x.to e within node (record { item = x; is = is; to_is = refl }) count counted,
  )

  sound-cond : (b : Bool) (item : best.Item) → IsSound nodes count item → AllByRecursion (IsSound nodes count) (if b then item ∷ [] else [])
  sound-cond true item h = (h, tt)
  sound-cond false item h = tt

  sound-slot : (region : Region) (ids : Numbers) (filter : Option Expr) (i : ℕ) (o : Option Item) → i < 32 → (nodes page).slots i ≡ o → AllByRecursion (IsSound nodes count) (listed (gives region ids filter level) o)
  sound-slot region ids filter i None within is = tt
  sound-slot region ids filter i (Some x) within is = sound-cond (touches region level x && admits_by level (impact_of ids x) filter) (given region level x) (sound-given region level i x refl within is)

  -- what a node opens are nodes below it
  pub sound-opens : (region : Region) (ids : Numbers) (filter : Option Expr) → AllByRecursion (IsSound nodes count) (opens_in region ids filter nodes page level)
  sound-opens region ids filter = in-order-all (IsSound nodes count) 32 (λ i. listed (gives region ids filter level) ((nodes page).slots i)) (λ i within. sound-slot region ids filter i ((nodes page).slots i) within refl)

-- a node is opened
pub sound-next : (nodes : NodeMap) (count page level bound : ℕ) (region : Region) (ids : Numbers) (filter : Option Expr) (items queue rest new : List best.Item) → queue ≡ rest ++ Node page level bound ∷ [] → new ≡ rest ++ nodes_of items
    → items ≡ opens_in region ids filter nodes page level → AllByRecursion (IsSound nodes count) queue → AllByRecursion (IsSound nodes count) new
sound-next nodes count page level bound region ids filter items queue rest new q n o h =
    let parts = all_parts (IsSound nodes count) rest (Node page level bound ∷ []) (subst (AllByRecursion (IsSound nodes count)) q h) in
    let here = parts.1.0 in
    let below : AllByRecursion (IsSound nodes count) items = subst (AllByRecursion (IsSound nodes count)) (sym o) (sound-opens nodes count page level here.0 here.1 region ids filter) in
    rw n (all_append (IsSound nodes count) rest (nodes_of items) parts.0 (all_nodes (λ p l. []) (IsSound nodes count) items below))

-- the node that is taken from those that wait
pub sound-last : (nodes : NodeMap) (count page level bound : ℕ) (queue rest : List best.Item) → queue ≡ rest ++ Node page level bound ∷ [] → AllByRecursion (IsSound nodes count) queue → IsNodeAt nodes level page × AreCounted nodes count level page
sound-last nodes count page level bound queue rest q h =
    let parts = all_parts (IsSound nodes count) rest (Node page level bound ∷ []) (subst (AllByRecursion (IsSound nodes count)) q h) in
    parts.1.0

-- the root of a tree that isn't empty
pub well-node : (nodes : NodeMap) (root : ℕ) → 0 < root → IsWell nodes root → IsNodeAt nodes (level_at nodes root) root
well-node nodes zero some well = absurd (omega arith)
well-node nodes (suc n) some well =
    let least = root-some (level_at nodes (suc n)) in
    let filled = well.some in
    record { level_is = well.level_is; some = omega arith; items = well.items }

pub well-level : (nodes : NodeMap) (root : ℕ) → 0 < root → (nodes root).level ≡ level_at nodes root
well-level nodes zero some = absurd (omega arith)
well-level nodes (suc n) some = refl

-- a whole tree as a node
pub whole-good : (pages : PageMap) (rows count first root : ℕ) → 0 < root → Fits pages rows count first root → IsGood pages rows count (level_at (nodes_in node_of pages rows) root) root
whole-good pages rows count first zero some fits = absurd (omega arith)
whole-good pages rows count first (suc m) some fits =
    let nodes = nodes_in node_of pages rows in
    let whole = fits.1 in
    record {
      map = whole.supplied.rows.kept.map;
      rows_counted = kept-counted _ _ rows whole.supplied.rows.kept;
      node = well-node nodes (suc m) some whole.tree;
      counted = λ n used u.
          let once = whole.once n in
          let away = whole.away in
          ⊎_elim (λ (z : n ≡ 0). let e = ap (tree_uses nodes (suc m)) z in absurd (omega arith)) (λ (past : count ≤ n). let p = uncounted-past count n past in absurd (omega arith)) u;
    }

-- the root of a whole tree isn't above level 9
pub whole-low : (pages : PageMap) (rows count first root : ℕ) → 0 < root → Fits pages rows count first root → count ≤ 2 ^ 32 → level_at (nodes_in node_of pages rows) root ≤ 9
whole-low pages rows count first zero some fits small = absurd (omega arith)
whole-low pages rows count first (suc m) some fits small =
    let nodes = nodes_in node_of pages rows in
    let level : ℕ = level_at nodes (suc m) in
    node-level nodes (view pages rows count first fits.0) (root_least level) level (suc m) fits.1.tree (root-some level) fits.1.once small

-- the level that a root was found to have
pub root-level : (pages : PageMap) (rows count first root level : ℕ) (bytes : List ℕ) → 0 < root → Fits pages rows count first root → level ≡ level_in bytes → (0 < length (pages root) → bytes ≡ pages root) → level ≡ level_at (nodes_in node_of pages rows) root
root-level pages rows count first root level bytes some fits e told =
    let nodes = nodes_in node_of pages rows in
    let good = whole-good pages rows count first root some fits in
    let r = joined-read pages rows (level_at nodes root) root good.node in
    e ∙ ap level_in (told r.told) ∙ sym r.level ∙ well-level nodes root some

-- where a walk starts
pub starts-are : (nodes : NodeMap) (root level : ℕ) → 0 < root → level ≡ level_at nodes root → Node root level 0 ∷ [] ≡ starts_at nodes root
starts-are nodes zero level some e = absurd (omega arith)
starts-are nodes (suc m) level some e = ap (λ (l : ℕ). Node (suc m) l 0 ∷ []) e
