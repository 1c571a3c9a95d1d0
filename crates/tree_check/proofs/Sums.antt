-- Sums over pages and over slots.
use Rattle.std.proofs.Common.{◌≡◌, ℕ, zero, suc, ◌+◌, ◌*◌, ◌<◌, ◌≤◌, arith, refl, sym, ◌∙◌, Option, Some, None}
use Rattle.std.proofs.Math.Nat.{add-mul}
use Rattle.rtree_nodes.specs.Slots.{Item, Slots, sum_to, got, amount, Held, Each}
use Rattle.rtree_nodes.proofs.Sums.{sum-zero, sum-same}

pub sum-plus : (n : ℕ) (f g : ℕ → ℕ) → sum_to n (λ i. f i + g i) ≡ sum_to n f + sum_to n g
unfolding sum_to
sum-plus zero f g = refl
sum-plus (suc n) f g = let a = sum-plus n f g in omega arith

-- two sums may change places
sum-swap : (m n : ℕ) (f : ℕ → ℕ → ℕ) → sum_to m (λ i. sum_to n (f i)) ≡ sum_to n (λ j. sum_to m (λ i. f i j))
unfolding sum_to
sum-swap zero n f = sym (sum-zero n)
sum-swap (suc m) n f = let a = sum-swap m n f in let b = sum-plus n (f m) (λ j. sum_to m (λ i. f i j)) in omega arith

got-sum : (n : ℕ) (f : Item → ℕ → ℕ) (o : Option Item) → got (λ y. sum_to n (f y)) o ≡ sum_to n (λ j. got (λ y. f y j) o)
got-sum n f None = sym (sum-zero n)
got-sum n f (Some y) = refl

pub amount-sum : (n : ℕ) (f : Item → ℕ → ℕ) (s : Slots) → amount (λ y. sum_to n (f y)) s ≡ sum_to n (λ j. amount (λ y. f y j) s)
unfolding amount
amount-sum n f s =
    sum-same 32 (λ i. got (λ y. sum_to n (f y)) (s i)) (λ i. sum_to n (λ j. got (λ y. f y j) (s i))) (λ i l. got-sum n f (s i))
    ∙ sum-swap 32 n (λ i j. got (λ y. f y j) (s i))

-- terms that are so many times others and something more
sum-times : (n k : ℕ) (f g h : ℕ → ℕ) → ((i : ℕ) → i < n → f i * k + g i ≤ h i) → sum_to n f * k + sum_to n g ≤ sum_to n h
unfolding sum_to
sum-times zero k f g h e = omega arith
sum-times (suc n) k f g h e =
    let a = e n (omega arith) in
    let b = sum-times n k f g h (λ i l. e i (omega arith)) in
    rw (add-mul (f n) (sum_to n f) k) (omega arith)

got-times : (k : ℕ) (f g h : Item → ℕ) (o : Option Item) → Held (λ y. f y * k + g y ≤ h y) o → got f o * k + got g o ≤ got h o
got-times k f g h None e = omega arith
got-times k f g h (Some y) e = e

pub amount-times : (k : ℕ) (f g h : Item → ℕ) (s : Slots) → Each (λ y. f y * k + g y ≤ h y) s → amount f s * k + amount g s ≤ amount h s
unfolding amount
amount-times k f g h s e = sum-times 32 k (λ i. got f (s i)) (λ i. got g (s i)) (λ i. got h (s i)) (λ i l. got-times k f g h (s i) (e i l))

held-map : (P Q : Item → Type 0) → ((y : Item) → P y → Q y) → (o : Option Item) → Held P o → Held Q o
held-map P Q f None h = tt
held-map P Q f (Some y) h = f y h

pub each-map : (P Q : Item → Type 0) → ((y : Item) → P y → Q y) → (s : Slots) → Each P s → Each Q s
each-map P Q f s e i l = held-map P Q f (s i) (e i l)

held-all : (P : Item → Type 0) → ((y : Item) → P y) → (o : Option Item) → Held P o
held-all P f None = tt
held-all P f (Some y) = f y

pub each-all : (P : Item → Type 0) → ((y : Item) → P y) → (s : Slots) → Each P s
each-all P f s i l = held-all P f (s i)
