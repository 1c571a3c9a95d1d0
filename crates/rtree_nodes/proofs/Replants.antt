-- Loose items that are put back.
use Rattle.std.proofs.Common.{ℕ, ◌≤◌, arith, [], ◌∷◌, ◌++◌}
use Rattle.rtree_nodes.specs.Slots.{Item}
use Rattle.rtree_nodes.specs.Loose.{Loose, AllLoose}

-- levels that are at most a are at most b
pub loose-lower : (a b : ℕ) (os : Loose) → a ≤ b → AllLoose (λ l y. l ≤ a) os → AllLoose (λ l y. l ≤ b) os
loose-lower a b [] h k = tt
loose-lower a b (o ∷ os) h k = let m = k.0 in (omega arith, loose-lower a b os h k.1)

-- what holds of loose items holds of them with the last one first
pub popped-all : (P : ℕ → Item → Type 0) (os : Loose) (o : ℕ × Item) → AllLoose P (os ++ o ∷ []) → AllLoose P (o ∷ os)
popped-all P [] o h = h
popped-all P (q ∷ os) o h = let r = popped-all P os o h.1 in (r.0, (h.0, r.1))
