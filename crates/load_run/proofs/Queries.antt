-- The queries for the places that were made.
use Rattle.std.proofs.Common.{ℕ, [], ◌∷◌, ◌++◌, codes, decimal, refl, arith}
use Rattle.std.proofs.lemmas.List.Elements.{All-cons, All-nil}
use Rattle.std.specs.List.{IsDistinct}
use Rattle.place_values.specs.Query.{IsWeight, IsWeights}

-- two words of which only one begins with a p may be asked for with these weights
pub own_weights : (n : ℕ) → IsWeights ((codes "place", 1) ∷ (codes "a" ++ decimal n, 2) ∷ [])
unfolding IsDistinct
own_weights n = record {
  words = record { some = omega arith; few = omega arith; distinct = ((refl, tt), (tt, tt)) };
  weights = All-cons IsWeight (codes "place", 1) ((codes "a" ++ decimal n, 2) ∷ []) (record { some = omega arith; few = omega arith })
      (All-cons IsWeight (codes "a" ++ decimal n, 2) [] (record { some = omega arith; few = omega arith }) (All-nil IsWeight));
}
