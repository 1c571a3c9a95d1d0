-- What a whole tree promises to a search of it.
use Rattle.std.proofs.Common.{◌≡◌, ℕ, zero, suc, ◌<◌, ◌≤◌, Bool, true, false, if◌then◌else◌, List, [], ◌∷◌, ◌++◌, length, take, Option, Some, None, refl, sym, ap, ◌∙◌, arith, inl, inr, ⊎_elim}
use Rattle.std.specs.Borrow.{Bor}
use Rattle.std.specs.List.{AllByRecursion, flat_map}
use Rattle.page_face.specs.FreeList.{PageMap}
use Rattle.page_face.specs.declared.fault.Damage.{Damage}
use Rattle.page_face.specs.declared.fault.Rule.TheVariants.{Level}
use Rattle.btree_nodes.specs.Tree.{IsMap, map_uses}
use Rattle.btree_nodes.proofs.Supplies.{uncounted-past}
use Rattle.paged_map.specs.Maps.{AreCounted as AreMapCounted}
use Rattle.paged_map.proofs.Maps.{kept-counted}
use Rattle.spatial_base.specs.Point.{Viewpoint, IsViewpoint}
use Rattle.place_values.specs.First.{first}
use Rattle.place_values.specs.Members.{SameMembers, ranked_same}
use Rattle.place_values.specs.declared.hit.Hit.{Hit}
use Rattle.place_values.specs.declared.query.Expr.{Expr}
use Rattle.place_values.specs.Top.{Weighted}
use Rattle.place_values.specs.Hit.{comes_before, hits_linear}
use Rattle.rtree_nodes.specs.Slots.{Held, IsChildAt}
use Rattle.rtree_nodes.specs.Slots as shape
use Rattle.rtree_nodes.specs.Stock.{view, plain, rows_form}
use Rattle.rtree_nodes.proofs.Heights.{root-some}
use Rattle.rtree_nodes.specs.Pages.{node_of, level_in}
use Rattle.node_rows.specs.declared.roots.Tree.{Tree}
use Rattle.node_rows.specs.Rows.{bytes_in}
use Rattle.irtree_shape.specs.Whole.{IsWhole, level_at, tree_uses}
use Rattle.rtree_nodes.specs.Harms.{IsMislevelled}
use Rattle.rtree_nodes.proofs.Subtrees.{some-read, child-node, child-counted, page-counted}
use Rattle.best_first.specs.declared.item.Item.TheVariants.{Node, Place}
use Rattle.best_first.specs.Items.{OfNode, IsGivenAt}
use Rattle.best_first.specs.Leads.{leads, Bounds}
use Rattle.best_first.specs.Levels.{IsOffLevel, IsGivenBelow}
use Rattle.best_first.specs.Logs.{asked_sooner}
use Rattle.node_filter.specs.Numbers.{Numbers, impact_of, byte_of}
use Rattle.node_filter.specs.Entries.{tree_places}
use Rattle.best_first.specs.declared.ask.Ask.{Ask}
use Rattle.node_filter.specs.Hits.{near_item, top_item}
use Rattle.best_first.specs.declared.ask.Ask.TheVariants.{Nearest, Top}
use Rattle.best_first.specs.Asks.{filter_of, qualifies, hits_for, bound_by, hit_by, IsTopFor}
use Rattle.best_first.specs.NodeOpenings.{given_by, given_at, some_below, first_in, opened_in, started_in, IsSoundNode, StandsIn, SaysLevel}
use Rattle.best_first.specs.Fits.{FitsTree, HasNode, nodes_at}
use Rattle.best_first.specs.Harms.{BreaksOne, IsHarm}
use Rattle.best_first.specs.Belows.{IsPlaceItem, all-spread}
use Rattle.best_first.specs.Trees.{tree-members, tree-bounds}
use Rattle.best_first.specs.Leaves.{leaf-held, slot-impacts, filled-joined}

-- what a damage says of the pages asked for last
pub harm-sooner : (pages : PageMap) (count rows : ℕ) (old more new : List ℕ) (damage : Damage) → IsHarm pages count rows (old ++ more) new damage → IsHarm pages count rows old new damage
harm-sooner pages count rows old more new damage h = (asked_sooner old more new damage.page h.0, breaks-sooner h.1)
  where
    mislevelled : IsMislevelled pages (old ++ more) new damage.page → IsMislevelled pages old new damage.page
    mislevelled m = record { parent = m.parent; at = m.at; asked = asked_sooner old more new m.parent m.asked; names = m.names; level = m.level }

    breaks-sooner : BreaksOne pages count rows (old ++ more) new damage → BreaksOne pages count rows old new damage
    breaks-sooner b = elim b [ inl one ↦ inl (elim one [ inl alone ↦ inl alone | inr level ↦ inr (level.0, mislevelled level.1) ]) | inr row ↦ inr row ]

one-above : (above page level bound : ℕ) → IsGivenAt above (Node page level bound) → above ≡ suc level
one-above zero page level bound g = absurd g
one-above (suc l) page level bound g = ap suc (sym g)

-- a page below one that names it, with another level than it was given with, breaks the rule Level
pub harm-below : (pages : PageMap) (count rows : ℕ) (old new : List ℕ) (page level : ℕ) → IsGivenBelow StandsIn SaysLevel pages old new page level → IsOffLevel SaysLevel pages old new page level
    → IsHarm pages count rows old new (record { page = page; rule = Level })
harm-below pages count rows old new page level b off =
    let child = b.stood b.has.0 in
    let one = one-above b.above page level b.bound b.below in
    let parent_level = b.has.1 in (
      off.0,
      inl (inr (
        refl,
        record {
          parent = b.parent;
          at = child.0;
          asked = b.asked;
          names = λ some. child.2;
          level = λ some told same. off.1 (told, omega arith);
        },
      )),
    )

leaves-at : (pages : PageMap) (tree : Tree) (page i : ℕ) → (nodes_at pages tree page).level ≡ 0 → i < 32 → Held IsPlaceItem ((nodes_at pages tree page).slots i)
leaves-at pages tree page i level l = leaf-held (pages page) (bytes_in pages tree.rows page) i level l

impacts-at : (pages : PageMap) (tree : Tree) (ids : Numbers) (page i : ℕ) (z : shape.Item) → (nodes_at pages tree page).slots i ≡ Some z → impact_of ids z ≡ byte_of ids (bytes_in pages tree.rows page) i
impacts-at pages tree ids page i z e = slot-impacts ids (bytes_in pages tree.rows page) i ((node_of (pages page)).slots i) z e

-- the bounds hold
pub fits-bounded : (pages : PageMap) (count begin : ℕ) (tree : Tree) (ids : Numbers) (at : Viewpoint) (ask : Ask) → IsViewpoint at → FitsTree pages count begin tree
    → Bounds (opened_in ids at ask (nodes_at pages tree)) (started_in ids ask (nodes_at pages tree) (bytes_in pages tree.rows) tree.root)
fits-bounded pages count begin tree ids at ask on fits = tree-bounds ids at ask on (nodes_at pages tree) (leaves-at pages tree) (bytes_in pages tree.rows) tree.root fits.1.tree

-- a search leads to the hits of the tree's entries
pub fits-members : (pages : PageMap) (count begin : ℕ) (tree : Tree) (ids : Numbers) (at : Viewpoint) (ask : Ask) → IsViewpoint at → FitsTree pages count begin tree
    → SameMembers (flat_map (hits_for ids at ask) (tree_places (nodes_at pages tree) tree.root))
    (leads (opened_in ids at ask (nodes_at pages tree)) (started_in ids ask (nodes_at pages tree) (bytes_in pages tree.rows) tree.root))
fits-members pages count begin tree ids at ask on fits =
    tree-members ids at ask on (nodes_at pages tree) (bytes_in pages tree.rows) tree.root fits.1.tree (λ i z l e. impacts-at pages tree ids tree.root i z e)

-- so the first k that it leads to are the first k of those hits
pub fits-first : (k : ℕ) (pages : PageMap) (count begin : ℕ) (tree : Tree) (ids : Numbers) (at : Viewpoint) (ask : Ask) → IsViewpoint at → FitsTree pages count begin tree
    → first comes_before k (leads (opened_in ids at ask (nodes_at pages tree)) (started_in ids ask (nodes_at pages tree) (bytes_in pages tree.rows) tree.root))
    ≡ first comes_before k (flat_map (hits_for ids at ask) (tree_places (nodes_at pages tree) tree.root))
fits-first k pages count begin tree ids at ask on fits = ap (λ (hits : List Hit). take k hits) (ranked_same hits_linear (flat_map (hits_for ids at ask) (tree_places (nodes_at pages tree) tree.root))
    (leads (opened_in ids at ask (nodes_at pages tree)) (started_in ids ask (nodes_at pages tree) (bytes_in pages tree.rows) tree.root)) (fits-members pages count begin tree ids at ask on fits))

whole-node : (pages : PageMap) (count begin : ℕ) (tree : Tree) (root : ℕ) (free : List ℕ) → 0 < root → IsWhole node_of (view pages tree.rows count begin free) root → HasNode pages count tree root (level_at (nodes_at pages tree) root)
whole-node pages count begin tree zero free some whole = absurd (omega arith)
whole-node pages count begin tree (suc m) free some whole =
    let well = whole.tree in
    let least = root-some (level_at (nodes_at pages tree) (suc m)) in
    let full = well.some in (
      record { level_is = well.level_is; some = omega arith; items = well.items },
      λ n used u. (let once = whole.once n in let away = whole.away in
          ⊎_elim (λ (z : n ≡ 0). let e = ap (tree_uses (nodes_at pages tree) (suc m)) z in absurd (omega arith)) (λ (past : count ≤ n). let p = uncounted-past count n past in absurd (omega arith)) u),
    )

of-chosen : (P : ℕ → ℕ → Type 0) (b : Bool) (page level bound : ℕ) → P page level → AllByRecursion (OfNode P) (if b then Node page level bound ∷ [] else [])
of-chosen P true page level bound h = (h, tt)
of-chosen P false page level bound h = tt

of-first : (P : ℕ → ℕ → Type 0) (b : Bool) (root level : ℕ) → (0 < root → P root level) → AllByRecursion (OfNode P) (first_in b root level)
of-first P b zero level h = tt
of-first P b (suc m) level h = of-chosen P b (suc m) level 0 (h (omega arith))

-- it starts with a node of the tree
pub fits-starts : (pages : PageMap) (count begin : ℕ) (tree : Tree) (ids : Numbers) (ask : Ask) → FitsTree pages count begin tree
    → AllByRecursion (OfNode (HasNode pages count tree)) (started_in ids ask (nodes_at pages tree) (bytes_in pages tree.rows) tree.root)
fits-starts pages count begin tree ids ask fits =
    of-first (HasNode pages count tree) (some_below 32 (λ i. qualifies ask 1 (byte_of ids (bytes_in pages tree.rows tree.root) i))) tree.root (level_at (nodes_at pages tree) tree.root)
    (λ some. whole-node pages count begin tree tree.root fits.0 some fits.1)

place-of : (P : ℕ → ℕ → Type 0) (b : Bool) (h : Hit) → AllByRecursion (OfNode P) (if b then Place h ∷ [] else [])
place-of P true h = (tt, tt)
place-of P false h = tt

child-of : (pages : PageMap) (count : ℕ) (tree : Tree) (ids : Numbers) (at : Viewpoint) (ask : Ask) (page level i : ℕ) → i < 32 → HasNode pages count tree page level → (o : Option shape.Item) → (nodes_at pages tree page).slots i ≡ o
    → AllByRecursion (OfNode (HasNode pages count tree)) (given_at (λ x. given_by at ask level (impact_of ids x) x) o)
child-of pages count tree ids at ask page level i l h None e = tt
child-of pages count tree ids at ask page zero i l h (Some x) e = place-of (HasNode pages count tree) (qualifies ask 0 (impact_of ids x)) (hit_by at ask (impact_of ids x) x)
child-of pages count tree ids at ask page (suc below) i l h (Some x) e =
    let child : IsChildAt (nodes_at pages tree page).slots i x.to = record { item = x; is = e; to_is = refl } in
    of-chosen (HasNode pages count tree) (qualifies ask (suc below) (impact_of ids x)) x.to below (bound_by at ask (impact_of ids x) x)
    (child-node (nodes_at pages tree) (suc below) below page i x.to refl l h.0 child, child-counted (nodes_at pages tree) (suc below) below page i x.to refl l h.0 child count h.1)

-- and opens such nodes
pub fits-opens : (pages : PageMap) (count : ℕ) (tree : Tree) (ids : Numbers) (at : Viewpoint) (ask : Ask) (page level : ℕ) → HasNode pages count tree page level
    → AllByRecursion (OfNode (HasNode pages count tree)) (opened_in ids at ask (nodes_at pages tree) page level)
fits-opens pages count tree ids at ask page level h =
    all-spread (OfNode (HasNode pages count tree)) 32 (λ i. given_at (λ x. given_by at ask level (impact_of ids x) x) ((nodes_at pages tree page).slots i))
    (λ i l. child-of pages count tree ids at ask page level i l h ((nodes_at pages tree page).slots i) refl)

-- a node of the tree is sound
pub node-sound : (pages : PageMap) (count : ℕ) (tree : Tree) (page level : ℕ) → HasNode pages count tree page level → IsSoundNode pages count page level
node-sound pages count tree page level h =
    let some = h.0.some in
    let same = filled-joined (bytes_in pages tree.rows page) (node_of (pages page)).slots in
    let r = some-read (pages page) (omega arith) in
    record { counted = page-counted (nodes_at pages tree) count level page h.1; form = r.form; some = r.mask; level_is = sym h.0.level_is ∙ r.level }

-- its bytes are told
pub node-told : (pages : PageMap) (count : ℕ) (tree : Tree) (page level : ℕ) → HasNode pages count tree page level → 0 < length (pages page)
node-told pages count tree page level h =
    let some = h.0.some in
    let same = filled-joined (bytes_in pages tree.rows page) (node_of (pages page)).slots in
    let r = some-read (pages page) (omega arith) in
    r.told

-- the map of a whole tree's rows
pub fits-map : (pages : PageMap) (count begin : ℕ) (tree : Tree) → FitsTree pages count begin tree → IsMap rows_form pages tree.rows
fits-map pages count begin tree fits = fits.1.supplied.rows.kept.map

-- the pages of that map are counted
pub fits-counted : (pages : PageMap) (count begin : ℕ) (tree : Tree) → FitsTree pages count begin tree → AreMapCounted (map_uses rows_form pages tree.rows) count
fits-counted pages count begin tree fits = kept-counted rows_form (plain (view pages tree.rows count begin fits.0)) tree.rows fits.1.supplied.rows.kept

-- the root of a whole tree is sound
pub root-sound : (pages : PageMap) (count begin : ℕ) (tree : Tree) → FitsTree pages count begin tree → 0 < tree.root → IsSoundNode pages count tree.root (level_at (nodes_at pages tree) tree.root)
root-sound pages count begin tree fits some = node-sound pages count tree tree.root (level_at (nodes_at pages tree) tree.root) (whole-node pages count begin tree tree.root fits.0 some fits.1)

-- the bytes of the root's page are told
pub root-told : (pages : PageMap) (count begin : ℕ) (tree : Tree) → FitsTree pages count begin tree → 0 < tree.root → 0 < length (pages tree.root)
root-told pages count begin tree fits some = node-told pages count tree tree.root (level_at (nodes_at pages tree) tree.root) (whole-node pages count begin tree tree.root fits.0 some fits.1)

first-level : (b : Bool) (root l m : ℕ) → (0 < root → l ≡ m) → first_in b root l ≡ first_in b root m
first-level b zero l m h = refl
first-level b (suc n) l m h = ap (λ (k : ℕ). first_in b (suc n) k) (h (omega arith))

-- a search starts at the level that the root's page says
pub root-level : (pages : PageMap) (count begin : ℕ) (tree : Tree) (b : Bool) → FitsTree pages count begin tree → first_in b tree.root (level_in (pages tree.root)) ≡ first_in b tree.root (level_at (nodes_at pages tree) tree.root)
root-level pages count begin tree b fits =
    first-level b tree.root (level_in (pages tree.root)) (level_at (nodes_at pages tree) tree.root) (λ some. let s = root-sound pages count begin tree fits some in sym s.level_is)

-- what a search for words asks is a top query
pub top-hits : (ids : Numbers) (at : Viewpoint) (alpha reach : ℕ) (words : Weighted) (ask : Ask) → IsTopFor alpha reach words ask → hits_for ids at ask ≡ top_item ids at alpha reach words
top-hits ids at alpha reach words (Nearest filter) is = absurd is
top-hits ids at alpha reach words (Top terms) is =
    let a = is.0 in
    let r = is.1 in
    let w = is.2 in
    λ i. top_item ids at (a i) (r i) (w i)

-- the first k of a top query's hits
pub top-first : (k : ℕ) (pages : PageMap) (count begin : ℕ) (told tree : Tree) (known ids : Numbers) (from at : Viewpoint) (alpha reach : ℕ) (words : Weighted) (ask : Ask) → IsViewpoint from → FitsTree pages count begin told
    → told ≡ tree → known ≡ ids → from ≡ at → IsTopFor alpha reach words ask
    → first comes_before k (leads (opened_in known from ask (nodes_at pages told)) (started_in known ask (nodes_at pages told) (bytes_in pages told.rows) told.root))
    ≡ first comes_before k (flat_map (top_item ids at alpha reach words) (tree_places (nodes_at pages tree) tree.root))
top-first k pages count begin told tree known ids from at alpha reach words ask on fits t n p is =
    fits-first k pages count begin told known from ask on fits
    ∙ ap (λ (g : shape.Item → List Hit). first comes_before k (flat_map g (tree_places (nodes_at pages told) told.root))) (top-hits known from alpha reach words ask is)
    ∙ (λ i. first comes_before k (flat_map (top_item (n i) (p i) alpha reach words) (tree_places (nodes_at pages (t i)) (t i).root)))

-- the first k of a nearest query's hits
pub near-first : (k : ℕ) (pages : PageMap) (count begin : ℕ) (told tree : Tree) (known ids : Numbers) (from at : Viewpoint) (filter : Option (Bor Expr)) (ask : Ask) → IsViewpoint from → FitsTree pages count begin told
    → told ≡ tree → known ≡ ids → from ≡ at → ask ≡ Nearest filter
    → first comes_before k (leads (opened_in known from ask (nodes_at pages told)) (started_in known ask (nodes_at pages told) (bytes_in pages told.rows) told.root))
    ≡ first comes_before k (flat_map (near_item ids at (filter_of filter)) (tree_places (nodes_at pages tree) tree.root))
near-first k pages count begin told tree known ids from at filter ask on fits t n p is =
    fits-first k pages count begin told known from ask on fits
    ∙ ap (λ (a : Ask). first comes_before k (flat_map (hits_for known from a) (tree_places (nodes_at pages told) told.root))) is
    ∙ (λ i. first comes_before k (flat_map (near_item (n i) (p i) (filter_of filter)) (tree_places (nodes_at pages (t i)) (t i).root)))
