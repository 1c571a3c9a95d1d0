use Rattle.std.proofs.Common.{rules, [], refl, inl, inr}
use Rattle.number_grammar.proofs.stage.Stage.is_number.Goals as goal

-- each of the four stages goes on with nothing
pub returns-in-Zero : goal.returns-in-Zero
returns-in-Zero c = (
  λ _. elim c.in-Zero.is [
    | inl at_zero ↦ rw at_zero ([], [], refl, tt, tt)
    | inr (inl at_whole) ↦ rw at_whole ([], [], [], refl, tt, tt, tt)
    | inr (inr (inl at_fraction)) ↦ rw at_fraction ([], [], refl, tt, tt)
    | inr (inr (inr at_exponent)) ↦ rw at_exponent tt
  ],
  λ _. search rules,
)
