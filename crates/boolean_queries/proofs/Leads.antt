-- What a tree's nodes lead to are the places that the query asks for.
use Rattle.std.proofs.Common.{◌≡◌, ℕ, zero, suc, ◌<◌, Bool, true, false, ◌&&◌, List, [], ◌∷◌, Option, None, Some, refl, sym, ap, ◌∙◌, arith, sum_by}
use Rattle.std.specs.Prelude.{if◌then◌else◌}
use Rattle.std.specs.List.{flat_map}
use Rattle.std.proofs.lemmas.List.{append-nil}
use Rattle.page_face.specs.FreeList.{PageMap}
use Rattle.place_values.specs.Members.{SameMembers}
use Rattle.place_values.specs.declared.hit.Hit.{Hit}
use Rattle.place_values.specs.declared.query.Expr.{Expr}
use Rattle.rtree_nodes.specs.Slots.{Item, Slots, NodeMap, got, amount, Held}
use Rattle.rtree_nodes.specs.Trees.{below, IsItem, node_below}
use Rattle.rtree_nodes.proofs.Sums.{sum-same}
use Rattle.rtree_nodes.specs.Pages.{node_of}
use Rattle.rtree_nodes.specs.Subtrees.{IsNodeAt}
use Rattle.rtree_nodes.proofs.Subtrees.{child-node}
use Rattle.irtree_shape.specs.Made.{nodes_in}
use Rattle.irtree_shape.specs.Whole.{level_at}
use Rattle.best_first.specs.declared.item.Item as best
use Rattle.best_first.specs.declared.item.Item.TheVariants.{Node, Place}
use Rattle.best_first.specs.Leads as under
use Rattle.best_first.specs.Leads.{led}
use Rattle.node_filter.specs.Entries.{point_of, tree_places}
use Rattle.node_filter.specs.Numbers.{Numbers, impact_of}
use Rattle.node_filter.specs.Filters.{admits_by}
use Rattle.node_filter.proofs.Places.{tree-sum}
use Rattle.boolean_queries.specs.declared.region.Region.{Region}
use Rattle.boolean_queries.specs.declared.region.Region.TheVariants.{Within, Inside}
use Rattle.boolean_queries.specs.Regions.{has_point, IsOnTheMap}
use Rattle.boolean_queries.specs.Near.{in_order, listed, touches}
use Rattle.boolean_queries.specs.Opens.{hits_in, gives, opens_in}
use Rattle.best_first.specs.Lists.{sum_by-flat_map}
use Rattle.boolean_queries.proofs.Lists.{in-order-sum, in-order-flat}
use Rattle.boolean_queries.proofs.Covers.{leaf-places, below-nothing, region-without, filter-without}
use Rattle.node_rows.proofs.Bytes.{and_false}

-- the hits of a place outside the region, or of one that doesn't pass the filter
hits-out : (region : Region) (ids : Numbers) (filter : Option Expr) (x : Item) → has_point region (point_of x) ≡ false → hits_in region ids filter x ≡ []
hits-out (Within at radius) ids filter x e = rw e refl
hits-out (Inside asked) ids filter x e = rw e refl

hits-not : (region : Region) (ids : Numbers) (filter : Option Expr) (x : Item) → admits_by 0 (impact_of ids x) filter ≡ false → hits_in region ids filter x ≡ []
hits-not (Within at radius) ids filter x e = rw (e, and_false (has_point (Within at radius) (point_of x))) refl
hits-not (Inside asked) ids filter x e = rw (e, and_false (has_point (Inside asked) (point_of x))) refl

-- a leaf's entry leads to its own hits
led-cond : (g : ℕ → List Hit) (b : Bool) (hit : Hit) → flat_map (led g) (if b then Place hit ∷ [] else []) ≡ (if b then hit ∷ [] else [])
led-cond g true hit = refl
led-cond g false hit = refl

leaf-leads : (region : Region) (ids : Numbers) (filter : Option Expr) (g : ℕ → List Hit) (x : Item) → flat_map (led g) (gives region ids filter 0 x) ≡ hits_in region ids filter x
leaf-leads (Within at radius) ids filter g x = led-cond g _ _
leaf-leads (Inside asked) ids filter g x = led-cond g _ _

module _ (region : Region) (ids : Numbers) (filter : Option Expr) (pages : PageMap) (rows : ℕ) (on : IsOnTheMap region) where
  abbrev nodes : NodeMap
  nodes = nodes_in node_of pages rows

  abbrev opens : ℕ → ℕ → List best.Item
  opens = opens_in region ids filter (nodes_in node_of pages rows)

  -- what the hits of an item weigh
  abbrev weighs : (Hit → ℕ) → Item → ℕ
  weighs f x = sum_by f (hits_in region ids filter x)

  nothing : (f : Hit → ℕ) (l : List Hit) → l ≡ [] → sum_by f l ≡ 0
  nothing f l e = ap (sum_by f) e

  -- a child that isn't given has no answer below it
  out-touch : (f : Hit → ℕ) (level : ℕ) (y : Item) → IsItem nodes (suc level) y → touches region (suc level) y ≡ false → below nodes (weighs f) (suc level) y ≡ 0
  out-touch f level y item out =
      below-nothing nodes (weighs f) (leaf-places pages rows) y (λ x place u. nothing f _ (hits-out region ids filter x (region-without region x y on place u out))) level y item (λ d. omega arith)

  out-filter : (f : Hit → ℕ) (level : ℕ) (y : Item) → IsItem nodes (suc level) y → admits_by (suc level) (impact_of ids y) filter ≡ false → below nodes (weighs f) (suc level) y ≡ 0
  out-filter f level y item out =
      below-nothing nodes (weighs f) (leaf-places pages rows) y (λ x place u. nothing f _ (hits-not region ids filter x (filter-without ids filter level x y u out))) level y item (λ d. omega arith)

  child-cond : (f : Hit → ℕ) (level : ℕ) (y : Item) (t a : Bool) → IsItem nodes (suc level) y → touches region (suc level) y ≡ t → admits_by (suc level) (impact_of ids y) filter ≡ a
      → sum_by f (under.below opens level y.to) ≡ node_below nodes (weighs f) level y.to
      → sum_by f (flat_map (led (λ p. under.below opens level p)) (if t && a then Node y.to level 0 ∷ [] else [])) ≡ below nodes (weighs f) (suc level) y
  child-cond f level y true true item t a e = ap (sum_by f) (append-nil (under.below opens level y.to)) ∙ e
  child-cond f level y true false item t a e = sym (out-filter f level y item a)
  child-cond f level y false a item t b e = sym (out-touch f level y item t)

  -- what a slot leads to is what stands below it
  leaf-slot : (f : Hit → ℕ) (o : Option Item) → sum_by f (flat_map (led (λ p. [])) (listed (gives region ids filter 0) o)) ≡ got (λ y. below nodes (weighs f) 0 y) o
  leaf-slot f None = refl
  leaf-slot f (Some x) = ap (sum_by f) (leaf-leads region ids filter (λ p. []) x)

  inner-slot : (f : Hit → ℕ) (level : ℕ) (o : Option Item) → Held (λ y. IsItem nodes (suc level) y) o → ((y : Item) → o ≡ Some y → sum_by f (under.below opens level y.to) ≡ node_below nodes (weighs f) level y.to)
      → sum_by f (flat_map (led (λ p. under.below opens level p)) (listed (gives region ids filter (suc level)) o)) ≡ got (λ y. below nodes (weighs f) (suc level) y) o
  inner-slot f level None item e = refl
  inner-slot f level (Some y) item e = child-cond f level y _ _ item refl refl (e y refl)

  slots-sum : (f : Hit → ℕ) (g : ℕ → List Hit) (level : ℕ) (s : Slots) → ((i : ℕ) → i < 32 → sum_by f (flat_map (led g) (listed (gives region ids filter level) (s i))) ≡ got (λ y. below nodes (weighs f) level y) (s i))
      → sum_by f (flat_map (led g) (in_order 32 (λ i. listed (gives region ids filter level) (s i)))) ≡ amount (λ y. below nodes (weighs f) level y) s
  unfolding amount
  slots-sum f g level s e =
      ap (sum_by f) (in-order-flat (led g) 32 (λ i. listed (gives region ids filter level) (s i)))
      ∙ in-order-sum f 32 (λ i. flat_map (led g) (listed (gives region ids filter level) (s i)))
      ∙ sum-same 32 (λ i. sum_by f (flat_map (led g) (listed (gives region ids filter level) (s i)))) (λ i. got (λ y. below nodes (weighs f) level y) (s i)) e

  -- a node leads to the answers below it
  pub node-leads : (f : Hit → ℕ) (level page : ℕ) → IsNodeAt nodes level page → sum_by f (under.below opens level page) ≡ node_below nodes (weighs f) level page
  node-leads f zero page node = slots-sum f (λ p. []) 0 (nodes page).slots (λ i l. leaf-slot f ((nodes page).slots i))
  node-leads f (suc level) page node = slots-sum f (λ p. under.below opens level p) (suc level) (nodes page).slots (λ i l. inner-slot f level ((nodes page).slots i) (node.items i l)
      (λ y e. node-leads f level y.to (child-node nodes (suc level) level page i y.to refl l node (record { item = y; is = e; to_is = refl }))))

  -- the root leads to all answers
  pub tree-leads : (level root : ℕ) → 0 < root → level ≡ level_at nodes root → IsNodeAt nodes level root → SameMembers (flat_map (hits_in region ids filter) (tree_places nodes root)) (under.leads opens (Node root level 0 ∷ []))
  tree-leads level zero some e node = λ f. absurd (omega arith)
  tree-leads level (suc m) some e node = λ f.
      ap (sum_by f) (append-nil (under.below opens level (suc m)))
      ∙ node-leads f level (suc m) node
      ∙ ap (λ (k : ℕ). node_below nodes (weighs f) k (suc m)) e
      ∙ tree-sum nodes (weighs f) (suc m)
      ∙ sym (sum_by-flat_map f (hits_in region ids filter) (tree_places nodes (suc m)))
