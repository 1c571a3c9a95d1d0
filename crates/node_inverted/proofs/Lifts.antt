-- The rows of a node in memory.
use Rattle.std.proofs.Common.{◌≡◌, ℕ, ◌+◌, ◌≤◌, max, arith, refl, ap, ◌∙◌, slice_index, List, [], ◌∷◌, ◌++◌, if◌then◌else◌, ◌==◌, true, false, Bool}
use Rattle.std.proofs.lemmas.Bool.Decides.{nat_tests}
use Rattle.node_rows.proofs.Impacts.{swap}
use Rattle.node_inverted.specs.Lifts.{AreOrdered, lifted_at, lifted_by}
use Rattle.node_inverted.specs.declared.taking.NodeRow.{NodeRow}

-- one row more, not before the bound
pub rows-push : (low at : ℕ) (r : NodeRow) (rows : List NodeRow) → AreOrdered low at rows → at ≤ r.number → AreOrdered low (r.number + 1) (rows ++ r ∷ [])
rows-push low at r [] h l = (omega arith, omega arith)
rows-push low at r (q ∷ rows) h l = (h.0, rows-push (q.number + 1) at r rows h.1 l)

-- a later bound
pub rows-wider : (low at high : ℕ) (rows : List NodeRow) → AreOrdered low at rows → at ≤ high → AreOrdered low high rows
rows-wider low at high [] h l = omega arith
rows-wider low at high (r ∷ rows) h l = (h.0, rows-wider (r.number + 1) at high rows h.1 l)

-- the bytes of one row more
pub lifted-push : (rows : List NodeRow) (r : NodeRow) (w i : ℕ) → lifted_at (rows ++ r ∷ []) w i ≡ max (lifted_at rows w i) (lifted_by r w i)
lifted-push [] r w i = refl
lifted-push (q ∷ rows) r w i = ap (λ (k : ℕ). max k (lifted_by q w i)) (lifted-push rows r w i) ∙ swap (lifted_at rows w i) (lifted_by r w i) (lifted_by q w i)

-- a row's bytes at its own word
pub lifted-here : (r : NodeRow) (w i : ℕ) → r.number ≡ w → lifted_by r w i ≡ slice_index r.bytes i
lifted-here r w i e = let t : (r.number == w) ≡ true = grind (arith, nat_tests) in ap (λ (x : Bool). if x then slice_index r.bytes i else 0) t

-- a row has no bytes at another word
pub lifted-other : (r : NodeRow) (w i : ℕ) → (r.number ≡ w → ⊥) → lifted_by r w i ≡ 0
lifted-other r w i k = let t : (r.number == w) ≡ false = grind (arith, nat_tests) in ap (λ (x : Bool). if x then slice_index r.bytes i else 0) t
