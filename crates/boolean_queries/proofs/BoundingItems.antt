-- What goes round the places below a node reaches as far as its slots do, and so does the slot of its parent.
use Rattle.std.proofs.Common.{◌≡◌, ℕ, zero, suc, ◌<◌, max, List, [], ◌∷◌, ◌++◌, Option, Some, None, refl, sym, ap, ◌∙◌, arith, inl, inr, ◌⊎◌}
use Rattle.std.specs.List.{AllByRecursion, Contains}
use Rattle.std.proofs.lemmas.List.Elements.{Contains-append_right}
use Rattle.rtree_nodes.specs.Slots.{Item, Slots, NodeMap, gather, opt_list, top_to, tops, got, Held, Each}
use Rattle.rtree_nodes.specs.Trees.{IsItem, places, reach_of}
use Rattle.rtree_nodes.proofs.Sums.{top-same}
use Rattle.rtree_nodes.specs.Subtrees.{IsNodeAt}
use Rattle.best_first.specs.Lists.{all_in, all_weaker}
use Rattle.node_filter.specs.Entries.{node_places}
use Rattle.boolean_queries.proofs.Covers.{IsUnder}
use Rattle.boolean_queries.specs.BoundingItems.{farthest, bounding_item, bounding_item_at}

farthest-append : (d : ℕ) (xs ys : List Item) → farthest d (xs ++ ys) ≡ max (farthest d xs) (farthest d ys)
farthest-append d [] ys = omega arith
farthest-append d (x ∷ xs) ys = let e = farthest-append d xs ys in omega arith

farthest-gather : (d n : ℕ) (f : ℕ → List Item) → farthest d (gather n f) ≡ top_to n (λ i. farthest d (f i))
unfolding gather top_to
farthest-gather d zero f = refl
farthest-gather d (suc n) f = let a = farthest-append d (f n) (gather n f) in let b = farthest-gather d n f in omega arith

module _ (nodes : NodeMap) (d level : ℕ) (each : (y : Item) → IsItem nodes level y → farthest d (places nodes level y) ≡ y.reach d) where
  held-farthest : (o : Option Item) → Held (λ y. IsItem nodes level y) o → farthest d (opt_list (λ y. places nodes level y) o) ≡ got (reach_of d) o
  held-farthest None h = refl
  held-farthest (Some y) h = each y h

  slots-farthest : (s : Slots) → Each (λ y. IsItem nodes level y) s → farthest d (gather 32 (λ i. opt_list (λ y. places nodes level y) (s i))) ≡ tops d s
  unfolding tops
  slots-farthest s e =
      farthest-gather d 32 (λ i. opt_list (λ y. places nodes level y) (s i))
      ∙ top-same 32 (λ i. farthest d (opt_list (λ y. places nodes level y) (s i))) (λ i. got (reach_of d) (s i)) (λ i l. held-farthest (s i) (e i l))

item-farthest : (nodes : NodeMap) (d level : ℕ) (y : Item) → IsItem nodes level y → farthest d (places nodes level y) ≡ y.reach d
item-farthest nodes d zero y h = omega arith
item-farthest nodes d (suc level) y h = slots-farthest nodes d level (item-farthest nodes d level) (nodes y.to).slots h.0.items ∙ sym (h.1 d)

-- the places below a well-formed node reach as far as its slots
pub node-farthest : (nodes : NodeMap) (d level page : ℕ) → IsNodeAt nodes level page → farthest d (node_places nodes level page) ≡ tops d (nodes page).slots
node-farthest nodes d level page node = slots-farthest nodes d level (item-farthest nodes d level) (nodes page).slots node.items

-- a slot reaches as far as what goes round the places below its child
pub child-reach : (nodes : NodeMap) (level : ℕ) (x : Item) → IsItem nodes (suc level) x → x.reach ≡ (bounding_item_at nodes x.to).reach
child-reach nodes level x h =
    λ i d. (sym (item-farthest nodes d (suc level) x h) ∙ ap (λ (l : ℕ). farthest d (node_places nodes l x.to)) (sym h.0.level_is)) i

-- no place reaches further than what goes round it
pub under-bounding : (xs : List Item) → AllByRecursion (λ y. IsUnder y (bounding_item xs)) xs
under-bounding [] = tt
under-bounding (x ∷ xs) = (
  λ d. omega arith,
  all_weaker (λ y. IsUnder y (bounding_item xs)) (λ y. IsUnder y (bounding_item (x ∷ xs))) (λ y u d. let k = u d in omega arith) xs (under-bounding xs),
)

some-or : (a : ℕ) → (0 < a) ⊎ (a ≡ 0)
some-or a = grind arith

-- what goes round places reaches somewhere only where one of them does
pub attained : (d : ℕ) (xs : List Item) → 0 < farthest d xs → (y : Item) × Contains xs y × (0 < y.reach d)
attained d [] l = absurd (omega arith)
attained d (x ∷ xs) l = elim (some-or (x.reach d)) [
  | inl some ↦ (x, (all_in (x ∷ xs)).0, some)
  | inr none ↦ let r = attained d xs (omega arith) in (r.0, Contains-append_right (x ∷ []) xs r.0 r.1, r.2)
]
