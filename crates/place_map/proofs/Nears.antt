-- What holds of each of some picks.
use Rattle.std.proofs.Common.{◌≡◌, ℕ, zero, suc, ◌<◌, List, [], ◌∷◌, ◌++◌, length, get_or, sym, subst, arith}
use Rattle.std.specs.List.{AllByRecursion}

module _ {X : Type 0} (P : X → Type 0) where
  -- it holds of one more where it holds of that one
  all_push : (xs : List X) (x : X) → AllByRecursion P xs → P x → AllByRecursion P (xs ++ x ∷ [])
  all_push [] x all here = (here, tt)
  all_push (y ∷ xs) x all here = (all.0, all_push xs x all.1 here)

  pub all_pushed : (xs more : List X) (x : X) → more ≡ xs ++ x ∷ [] → AllByRecursion P xs → P x → AllByRecursion P more
  all_pushed xs more x is all here = subst (AllByRecursion P) (sym is) (all_push xs x all here)

  -- and so it does of each
  pub all_at : (xs : List X) (i : ℕ) (d : X) → AllByRecursion P xs → i < length xs → P (get_or xs i d)
  all_at [] i d all below = absurd (omega arith)
  all_at (x ∷ xs) zero d all below = all.0
  all_at (x ∷ xs) (suc i) d all below = all_at xs i d all.1 (omega arith)
