-- What a search of a tree starts with, and all that it leads to.
use Rattle.std.proofs.Common.{◌≡◌, ℕ, zero, suc, ◌<◌, ◌≤◌, Bool, true, false, ◌||◌, if◌then◌else◌, List, [], ◌∷◌, Option, Some, None, sum_by, refl, sym, ap, ◌∙◌, arith, ⊎_elim, inl, inr}
use Rattle.std.specs.List.{AllByRecursion, flat_map}
use Rattle.std.proofs.lemmas.Bool.{cases_Bool}
use Rattle.std.proofs.lemmas.List.Sums.{sum_by-append, sum_by-cons}
use Rattle.spatial_base.specs.Point.{Viewpoint, IsViewpoint}
use Rattle.place_values.specs.Members.{SameMembers}
use Rattle.place_values.specs.declared.hit.Hit.{Hit}
use Rattle.rtree_nodes.specs.Slots.{NodeMap, got, Held}
use Rattle.rtree_nodes.specs.Slots as shape
use Rattle.rtree_nodes.specs.Trees.{below as below_item, IsItem, IsTree, root_least, node_below}
use Rattle.rtree_nodes.proofs.Heights.{amount-nothing}
use Rattle.rtree_nodes.proofs.Sums.{at_end}
use Rattle.irtree_shape.specs.Whole.{IsWell, level_at, tree_sum}
use Rattle.best_first.specs.declared.item.Item.{Item}
use Rattle.best_first.specs.declared.item.Item.TheVariants.{Node}
use Rattle.best_first.specs.Leads.{below, leads, Bounds}
use Rattle.node_filter.specs.Numbers.{Numbers, impact_of, byte_of}
use Rattle.node_filter.specs.Entries.{tree_places}
use Rattle.node_filter.proofs.Places.{tree-sum}
use Rattle.best_first.specs.declared.ask.Ask.{Ask}
use Rattle.best_first.specs.Asks.{qualifies, hit_by, hits_for}
use Rattle.best_first.specs.NodeOpenings.{opened_in, some_below, first_in, started_in}
use Rattle.best_first.specs.Weighed.{qualifies-none, impact-under}
use Rattle.best_first.specs.Belows.{IsPlaceItem, below-none, node-weight, node-bounds}

or-parts : (a b : Bool) → (a || b) ≡ false → (a ≡ false) × (b ≡ false)
or-parts true b h = absurd (cc)
or-parts false b h = (refl, h)

-- none of the first n meets the test
pub none-below : (n : ℕ) (test : ℕ → Bool) → some_below n test ≡ false → (i : ℕ) → i < n → test i ≡ false
unfolding some_below
none-below zero test h i l = absurd (omega arith)
none-below (suc n) test h i l =
    let p = or-parts (test n) (some_below n test) h in
    elim (at_end n i l) [ inl e ↦ ap test e ∙ p.0 | inr k ↦ none-below n test p.1 i k ]

flat-weight : (w : Hit → ℕ) (g : shape.Item → List Hit) (xs : List shape.Item) → sum_by w (flat_map g xs) ≡ sum_by (λ x. sum_by w (g x)) xs
flat-weight w g [] = refl
flat-weight w g (x ∷ xs) = let a = sum_by-append w (g x) (flat_map g xs) in let b = sum_by-cons (λ y. sum_by w (g y)) x xs in let c = flat-weight w g xs in omega arith

all-zero : (hits : List Hit) → AllByRecursion (λ (h : Hit). 0 ≤ h.cost) hits
all-zero [] = tt
all-zero (h ∷ hits) = (omega arith, all-zero hits)

module _ (ids : Numbers) (at : Viewpoint) (ask : Ask) (on : IsViewpoint at) (nodes : NodeMap) where
  held-nothing : (w : Hit → ℕ) (level : ℕ) (bytes : List ℕ → ℕ) (o : Option shape.Item) → Held (λ y. IsItem nodes level y) o → ((z : shape.Item) → o ≡ Some z → impact_of ids z ≡ bytes) → qualifies ask 1 bytes ≡ false
      → got (λ y. below_item nodes (λ x. sum_by w (hits_for ids at ask x)) level y) o ≡ 0
  held-nothing w level bytes None h e f = refl
  held-nothing w level bytes (Some y) h e f =
      below-none nodes (λ x. sum_by w (hits_for ids at ask x)) y
      (λ z r. ap (λ (q : Bool). sum_by w (if q then hit_by at ask (impact_of ids z) z ∷ [] else []))
      (qualifies-none ask 0 (impact_of ids z) (impact_of ids y) (impact-under ids y z r) (ap (qualifies ask 1) (e y refl) ∙ f)))
      level y h (λ d. omega arith)

  -- a tree below whose root no place can be an answer has none
  nothing-below : (w : Hit → ℕ) (level page : ℕ) (bytes : ℕ → List ℕ → ℕ) → IsTree nodes level page → ((i : ℕ) (z : shape.Item) → i < 32 → (nodes page).slots i ≡ Some z → impact_of ids z ≡ bytes i)
      → some_below 32 (λ i. qualifies ask 1 (bytes i)) ≡ false → node_below nodes (λ x. sum_by w (hits_for ids at ask x)) level page ≡ 0
  nothing-below w level page bytes tree e f =
      amount-nothing (λ y. below_item nodes (λ x. sum_by w (hits_for ids at ask x)) level y) (nodes page).slots
      (λ i l. held-nothing w level (bytes i) ((nodes page).slots i) (tree.items i l) (λ z k. e i z l k) (none-below 32 (λ i. qualifies ask 1 (bytes i)) f i l))

  -- what a search leads to weighs as much as the hits of the tree's entries
  pub tree-weight : (w : Hit → ℕ) (bytes : ℕ → ℕ → ℕ → ℕ) (root : ℕ) → IsWell nodes root → ((i : ℕ) (z : shape.Item) → i < 32 → (nodes root).slots i ≡ Some z → impact_of ids z ≡ byte_of ids (bytes root) i)
      → sum_by w (leads (opened_in ids at ask nodes) (started_in ids ask nodes bytes root)) ≡ tree_sum nodes root (λ x. sum_by w (hits_for ids at ask x))
  tree-weight w bytes zero well e = refl
  tree-weight w bytes (suc m) well e =
      let level : ℕ = level_at nodes (suc m) in
      let root : Item = Node (suc m) level 0 in
      let opens : ℕ → ℕ → List Item = opened_in ids at ask nodes in
      ⊎_elim
      (λ (t : some_below 32 (λ i. qualifies ask 1 (byte_of ids (bytes (suc m)) i)) ≡ true).
      let a : sum_by w (leads opens (started_in ids ask nodes bytes (suc m))) ≡ sum_by w (leads opens (root ∷ [])) = ap (λ (b : Bool). sum_by w (leads opens (if b then root ∷ [] else []))) t in
      let b = sum_by-append w (below opens level (suc m)) [] in
      let c = node-weight ids at ask on nodes w level (suc m) well.items in
      omega arith)
      (λ (f : some_below 32 (λ i. qualifies ask 1 (byte_of ids (bytes (suc m)) i)) ≡ false).
      ap (λ (b : Bool). sum_by w (leads opens (if b then root ∷ [] else []))) f ∙ sym (nothing-below w level (suc m) (byte_of ids (bytes (suc m))) well e f))
      (cases_Bool (some_below 32 (λ i. qualifies ask 1 (byte_of ids (bytes (suc m)) i))))

  -- and has the same members
  pub tree-members : (bytes : ℕ → ℕ → ℕ → ℕ) (root : ℕ) → IsWell nodes root → ((i : ℕ) (z : shape.Item) → i < 32 → (nodes root).slots i ≡ Some z → impact_of ids z ≡ byte_of ids (bytes root) i)
      → SameMembers (flat_map (hits_for ids at ask) (tree_places nodes root)) (leads (opened_in ids at ask nodes) (started_in ids ask nodes bytes root))
  tree-members bytes root well e = λ w.
      tree-weight w bytes root well e ∙ tree-sum nodes (λ x. sum_by w (hits_for ids at ask x)) root ∙ sym (flat-weight w (hits_for ids at ask) (tree_places nodes root))

  -- all bounds hold
  pub tree-bounds : (leaves : (page i : ℕ) → (nodes page).level ≡ 0 → i < 32 → Held IsPlaceItem ((nodes page).slots i)) (bytes : ℕ → ℕ → ℕ → ℕ) (root : ℕ) → IsWell nodes root
      → Bounds (opened_in ids at ask nodes) (started_in ids ask nodes bytes root)
  tree-bounds leaves bytes zero well = tt
  tree-bounds leaves bytes (suc m) well =
      bounds-of (some_below 32 (λ i. qualifies ask 1 (byte_of ids (bytes (suc m)) i)))
    where
      bounds-of : (b : Bool) → Bounds (opened_in ids at ask nodes) (first_in b (suc m) (level_at nodes (suc m)))
      bounds-of true = ((all-zero (below (opened_in ids at ask nodes) (level_at nodes (suc m)) (suc m)), node-bounds ids at ask on nodes leaves (level_at nodes (suc m)) (suc m) (root_least (level_at nodes (suc m))) well), tt)
      bounds-of false = tt
