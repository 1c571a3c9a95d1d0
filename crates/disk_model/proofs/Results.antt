-- Results whose error is replaced.
use Rattle.std.proofs.Common.{◌≡◌, Result, Ok, Err, MatchResult, IfOk, subst, sym}
use Rattle.std.specs.Result.{is_ok}

-- what holds of an Ok stays where the error alone is replaced
pub IfOk-map_err : {T D E : Type 0} (P : T → Type 0) (Q : D → Type 0) (from : Result T D) (to : Result T E) → MatchResult from (λ x. to ≡ Ok x) Q → is_ok to ≡ is_ok from → IfOk from P → IfOk to P
IfOk-map_err {T = T} {E = E} P Q (Ok x) to same variant p = subst (λ (r : Result T E). IfOk r P) (sym same) p
IfOk-map_err P Q (Err d) (Ok y) same variant p = cc
IfOk-map_err P Q (Err d) (Err e) same variant p = tt
