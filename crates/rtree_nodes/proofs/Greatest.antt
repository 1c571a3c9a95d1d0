-- The places below an item are a list, with the sums of the tree.
use Rattle.std.proofs.Common.{◌≡◌, ℕ, zero, suc, arith, refl, ◌∙◌, Option, Some, None, List, sum_by}
use Rattle.std.proofs.lemmas.List.Sums.{sum_by-append}
use Rattle.rtree_nodes.specs.Slots.{Item, Slots, NodeMap, sum_to, got, amount, gather, opt_list}
use Rattle.rtree_nodes.specs.Trees.{below, places}
use Rattle.rtree_nodes.proofs.Sums.{sum-same}

gather-sum : (f : Item → ℕ) (n : ℕ) (g : ℕ → List Item) → sum_by f (gather n g) ≡ sum_to n (λ i. sum_by f (g i))
unfolding gather sum_to
gather-sum f zero g = refl
gather-sum f (suc n) g = let h = gather-sum f n g in let a = sum_by-append f (g n) (gather n g) in omega arith

opt-sum : (f : Item → ℕ) (g : Item → List Item) (k : Item → ℕ) → ((y : Item) → sum_by f (g y) ≡ k y) → (o : Option Item) → sum_by f (opt_list g o) ≡ got k o
opt-sum f g k e None = refl
opt-sum f g k e (Some y) = e y

gathered : (f : Item → ℕ) (g : Item → List Item) (k : Item → ℕ) (s : Slots) → ((y : Item) → sum_by f (g y) ≡ k y) → sum_by f (gather 32 (λ i. opt_list g (s i))) ≡ amount k s
unfolding amount
gathered f g k s e = gather-sum f 32 (λ i. opt_list g (s i)) ∙ sum-same 32 (λ i. sum_by f (opt_list g (s i))) (λ i. got k (s i)) (λ i l. opt-sum f g k e (s i))

-- the sums over the places are those of the tree
pub places-sum : (nodes : NodeMap) (f : Item → ℕ) (level : ℕ) (x : Item) → sum_by f (places nodes level x) ≡ below nodes f level x
places-sum nodes f zero x = omega arith
places-sum nodes f (suc level) x = gathered f (λ y. places nodes level y) (λ y. below nodes f level y) (nodes x.to).slots (λ y. places-sum nodes f level y)
