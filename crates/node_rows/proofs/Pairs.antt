-- The words of a node in memory.
use Rattle.std.proofs.Common.{◌≡◌, ℕ, ◌+◌, ◌<◌, ◌≤◌, max, arith, refl, List, [], ◌∷◌, ◌++◌, if◌then◌else◌, ◌==◌, true, false, Bool}
use Rattle.std.proofs.lemmas.Bool.Decides.{nat_tests}
use Rattle.node_rows.specs.Impacts.{impact_at}
use Rattle.node_rows.specs.Words.{AreWords}

-- one word more, not before the bound
pub words-push : (low at word impact : ℕ) (pairs : List (ℕ × ℕ)) → AreWords low at pairs → at ≤ word → 0 < impact → AreWords low (word + 1) (pairs ++ (word, impact) ∷ [])
words-push low at word impact [] h l some = (omega arith, some, omega arith)
words-push low at word impact (pair ∷ pairs) h l some = (h.0, h.1, words-push (pair.0 + 1) at word impact pairs h.2 l some)

-- a later bound
pub words-wider : (low at high : ℕ) (pairs : List (ℕ × ℕ)) → AreWords low at pairs → at ≤ high → AreWords low high pairs
words-wider low at high [] h l = omega arith
words-wider low at high (pair ∷ pairs) h l = (h.0, h.1, words-wider (pair.0 + 1) at high pairs h.2 l)

-- the impact of a pair's own word
pub impact-here : (word impact w : ℕ) → word ≡ w → impact_at (word, impact) w ≡ impact
impact-here word impact w e = let t : (word == w) ≡ true = grind (arith, nat_tests) in rw t refl

-- a pair has no impact of another word
pub impact-other : (word impact w : ℕ) → (word ≡ w → ⊥) → impact_at (word, impact) w ≡ 0
impact-other word impact w k = let t : (word == w) ≡ false = grind (arith, nat_tests) in rw t refl

-- an impact of 0 adds nothing
pub impact-none : (word impact w old : ℕ) → impact ≡ 0 → old ≡ max old (impact_at (word, impact) w)
impact-none word impact w old e = elim (word == w) as (λ (x : Bool). old ≡ max old (if x then impact else 0)) [ true ↦ omega arith | false ↦ omega arith ]

pub max-none : (a b : ℕ) → a ≡ 0 → max a b ≡ b
max-none a b e = omega arith

pub max-zero : (a b : ℕ) → b ≡ 0 → max a b ≡ a
max-zero a b e = omega arith
