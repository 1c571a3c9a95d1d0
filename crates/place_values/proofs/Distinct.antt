-- Lists of which no two members are the same, one member at a time.
use Rattle.std.proofs.Common.{◌≡◌, ℕ, List, [], ◌∷◌, false, sym, subst}
use Rattle.std.specs.List.{AllByRecursion, IsDistinct}
use Rattle.std.specs.Str.{bytes_eq}

module _ (words : List (List ℕ)) (word : List ℕ) (others : List (List ℕ)) (is : words ≡ word ∷ others) where
  -- the first is none of the others, and the others are distinct
  pub distinct_more : AllByRecursion (λ other. bytes_eq word other ≡ false) others → IsDistinct bytes_eq others → IsDistinct bytes_eq words
  unfolding IsDistinct
  distinct_more new rest = subst (IsDistinct bytes_eq) (sym is) (new, rest)

  pub distinct_parts : IsDistinct bytes_eq words → AllByRecursion (λ other. bytes_eq word other ≡ false) others × IsDistinct bytes_eq others
  unfolding IsDistinct
  distinct_parts h = subst (IsDistinct bytes_eq) is h

-- no words are distinct
pub distinct_none : (words : List (List ℕ)) → words ≡ [] → IsDistinct bytes_eq words
unfolding IsDistinct
distinct_none words is = subst (IsDistinct bytes_eq) (sym is) tt
