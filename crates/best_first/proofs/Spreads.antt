-- What slots give, one behind another.
use Rattle.std.proofs.Common.{◌≡◌, ℕ, zero, suc, ◌+◌, ◌<◌, ◌≤◌, List, [], ◌++◌, length, Option, Some, None, refl, ap, ◌∙◌, arith, add-one, length-append}
use Rattle.std.specs.Prelude.{IfSome}
use Rattle.std.specs.List.{AllByRecursion}
use Rattle.best_first.specs.declared.item.Item.{Item}
use Rattle.best_first.specs.NodeOpenings.{spread, listed_item}

pub spread-none : (f : ℕ → List Item) → spread 0 f ≡ []
unfolding spread
spread-none f = refl

pub spread-more : (n : ℕ) (f : ℕ → List Item) → spread (n + 1) f ≡ spread n f ++ f n
unfolding spread
spread-more n f = rw add-one refl

-- slots that give the same
pub spread-same : (n : ℕ) (f g : ℕ → List Item) → ((i : ℕ) → i < n → f i ≡ g i) → spread n f ≡ spread n g
unfolding spread
spread-same zero f g h = refl
spread-same (suc n) f g h = ap (λ (xs : List Item). xs ++ f n) (spread-same n f g (λ i l. h i (omega arith))) ∙ ap (λ (xs : List Item). spread n g ++ xs) (h n (omega arith))

-- one slot more gives one item more at most
pub few-more : (n : ℕ) (front : List Item) (o : Option Item) → length front ≤ n → length (front ++ listed_item o) ≤ n + 1
few-more n front None l = let a = length-append front [] in omega arith
few-more n front (Some item) l = let a = length-append front (listed_item (Some item)) in omega arith

pub all-listed : (P : Item → Type 0) (o : Option Item) → IfSome o P → AllByRecursion P (listed_item o)
all-listed P None h = tt
all-listed P (Some item) h = (h, tt)
