-- Reads of a range, one after the other.
use Rattle.std.proofs.Common.{◌≡◌, ◌∙◌, ap, ℕ, ◌+◌, ◌-◌, Bool, ◌∷◌}
use Rattle.std_devices.specs.FileCalls.{FileCall, Calls, noted, OnlyReads}

-- Another read of what is left keeps the calls reads of the range.
pub one_more : (at len done a n : ℕ) (ok : Bool) (old mid new : Calls) → OnlyReads at len old mid → new ≡ noted (FileCall.read a n ok) mid
    → a ≡ at + done → n ≡ len - done → OnlyReads at len old new
one_more at len done a n ok old mid new held next is_a is_n = (
  (done, ok) ∷ held.0,
  next ∙ ap (λ x. noted (FileCall.read x n ok) mid) is_a ∙ ap (λ x. noted (FileCall.read (at + done) x ok) mid) is_n
      ∙ ap (noted (FileCall.read (at + done) (len - done) ok)) held.1,
)
