-- What holds of a result whatever it is.
use Rattle.std.proofs.Common.{Result, Ok, Err}
use Rattle.std.specs.Prelude.{IfOk}

-- what holds of each value
pub ok-always : {A B : Type 0} (r : Result A B) (P : A → Type 0) → ((a : A) → P a) → IfOk r P
ok-always (Ok a) P h = h a
ok-always (Err e) P h = tt
