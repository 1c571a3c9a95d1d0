-- Lists put together slot by slot.
use Rattle.std.proofs.Common.{◌≡◌, ℕ, zero, suc, ◌+◌, ◌<◌, ◌≤◌, List, [], ◌++◌, length, refl, ap, ◌∙◌, arith, sum_by}
use Rattle.std.specs.List.{AllByRecursion, flat_map}
use Rattle.std.proofs.lemmas.List.{length-append}
use Rattle.std.proofs.lemmas.Grind.{flat_map-append}
use Rattle.std.proofs.lemmas.List.Sums.{sum_by-append}
use Rattle.rtree_nodes.specs.Slots.{sum_to}
use Rattle.best_first.specs.Lists.{all_append}
use Rattle.boolean_queries.specs.Near.{in_order}

-- no list
pub in-order-none : {X : Type 0} (f : ℕ → List X) → in_order 0 f ≡ []
unfolding in_order
in-order-none f = refl

-- one list more
pub in-order-more : {X : Type 0} (n : ℕ) (f : ℕ → List X) → in_order (n + 1) f ≡ in_order n f ++ f n
unfolding in_order
in-order-more n f = let e : n + 1 ≡ suc n = omega arith in ap (λ (m : ℕ). in_order m f) e

-- the same lists
pub in-order-same : {X : Type 0} (n : ℕ) (f g : ℕ → List X) → ((i : ℕ) → i < n → f i ≡ g i) → in_order n f ≡ in_order n g
unfolding in_order
in-order-same zero f g e = refl
in-order-same (suc n) f g e = ap (λ l. l ++ f n) (in-order-same n f g (λ i l. e i (omega arith))) ∙ ap (λ l. in_order n g ++ l) (e n (omega arith))

-- what each member gives
pub in-order-flat : {X Y : Type 0} (k : X → List Y) (n : ℕ) (f : ℕ → List X) → flat_map k (in_order n f) ≡ in_order n (λ i. flat_map k (f i))
unfolding in_order
in-order-flat k zero f = refl
in-order-flat k (suc n) f = flat_map-append k (in_order n f) (f n) ∙ ap (λ l. l ++ flat_map k (f n)) (in-order-flat k n f)

-- the sum over all
pub in-order-sum : {X : Type 0} (w : X → ℕ) (n : ℕ) (f : ℕ → List X) → sum_by w (in_order n f) ≡ sum_to n (λ i. sum_by w (f i))
unfolding in_order sum_to
in-order-sum w zero f = refl
in-order-sum w (suc n) f = let a = sum_by-append w (in_order n f) (f n) in let b = in-order-sum w n f in omega arith

-- what holds of each list's members
pub in-order-all : {X : Type 0} (P : X → Type 0) (n : ℕ) (f : ℕ → List X) → ((i : ℕ) → i < n → AllByRecursion P (f i)) → AllByRecursion P (in_order n f)
unfolding in_order
in-order-all P zero f h = tt
in-order-all P (suc n) f h = all_append P (in_order n f) (f n) (in-order-all P n f (λ i l. h i (omega arith))) (h n (omega arith))

-- as many as there are lists, at most
pub in-order-few : {X : Type 0} (n : ℕ) (f : ℕ → List X) → ((i : ℕ) → i < n → length (f i) ≤ 1) → length (in_order n f) ≤ n
unfolding in_order
in-order-few zero f h = omega arith
in-order-few (suc n) f h = let a = length-append (in_order n f) (f n) in let b = h n (omega arith) in let c = in-order-few n f (λ i l. h i (omega arith)) in omega arith
