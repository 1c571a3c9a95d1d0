use Rattle.std.proofs.Common.{◌≡◌, ◌==◌, ◌<◌, ◌≤◌, ◌&&◌, ℕ, Bool, true, false, sym, ◌∙◌, refl, arith}
use Rattle.std.proofs.lemmas.Bool.{ne_eqb}
use Rattle.page_face.proofs.zeros.greater.Goals as goal

-- a greater byte isn't zero
from-greater : (g b : ℕ) (all : Bool) → g < b → (b == 0) ≡ (all && (b == 0))
from-greater g b all more = none ∙ sym (split all)
  where
    none : (b == 0) ≡ false
    none = ne_eqb b 0 (λ e. omega arith)

    split : (a : Bool) → (a && (b == 0)) ≡ false
    split true = none
    split false = refl

-- a lesser one is zero where the greater is
from-lesser : (g b : ℕ) → b ≤ g → (g == 0) ≡ ((g == 0) && (b == 0))
from-lesser g b less = grind arith

pub returns-then-other-one : goal.returns-then-other-one
returns-then-other-one c = from-greater c.args.one c.args.other (c.args.one == 0) c.if-other-one.true

pub returns-else-other-one : goal.returns-else-other-one
returns-else-other-one c = from-lesser c.args.one c.args.other c.if-other-one.false
