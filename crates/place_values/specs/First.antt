-- The first of a list in an order.
use Rattle.std.specs.Prelude.{◌≡◌, ℕ, Bool, true, false, cond, List, [], ◌∷◌, take}
use Rattle.std.specs.List.{AllByRecursion}

-- a strict order in which two that are neither before the other are the same
pub record IsLinear {X : Type 0} (before : X → X → Bool) : Type 0 where
  pub one_way : (x y : X) → before x y ≡ true → before y x ≡ false
  pub chain : (x y z : X) → before y x ≡ false → before z y ≡ false → before z x ≡ false
  pub same : (x y : X) → before x y ≡ false → before y x ≡ false → x ≡ y

module _ {X : Type 0} (before : X → X → Bool) where
  -- x stands behind all that come before it
  abbrev pub placed : X → List X → List X
  placed x [] = x ∷ []
  placed x (y ∷ ys) = cond (before y x) (y ∷ placed x ys) (x ∷ y ∷ ys)

  -- all of a list, in order
  abbrev pub ranked : List X → List X
  ranked [] = []
  ranked (x ∷ xs) = placed x (ranked xs)

  -- the first k of a list, in order
  abbrev pub first : ℕ → List X → List X
  first k xs = take k (ranked xs)

  -- a list in order: none comes before one that stands in front of it
  abbrev pub IsRanked : List X → Type 0
  IsRanked [] = Unit {0}
  IsRanked (x ∷ xs) = AllByRecursion (λ y. before y x ≡ false) xs × IsRanked xs
