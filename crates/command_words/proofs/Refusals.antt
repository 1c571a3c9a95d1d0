-- What a parse says of the causes for which a command refuses its words.
use Rattle.std.proofs.Common.{◌≡◌, ◌≢◌, ◌∙◌, sym, subst, inl, inr, [], IfErr, OnOk}
use Rattle.std.specs.Prelude.{Ok, Err, Result}
use Rattle.clap.specs.Words.{FailsBy, IsAmong, Kinds, kind_of}
use Rattle.clap.specs.declared.error.Error.{Error}
use Rattle.clap.specs.declared.error.kind.ErrorKind.TheVariants.{OutOfMemory}

-- words that are taken are refused for no cause
pub taken_for_none : {T : Type 0} (r : Result T Error) (some other : Kinds) → some ≡ other → FailsBy some r → OnOk r (other ≡ [])
taken_for_none (Ok x) some other same h = sym same ∙ h
taken_for_none (Err e) some other same h = tt

-- words that are refused, and not for memory, are refused for a cause
pub refused_for_some : {T : Type 0} (r : Result T Error) (some other : Kinds) → some ≡ other → FailsBy some r
    → IfErr r (λ e. kind_of e ≢ OutOfMemory → other ≢ [])
refused_for_some (Ok x) some other same h = tt
refused_for_some (Err e) some other same (inl memory) = λ differs. absurd (differs memory)
refused_for_some (Err e) some other same (inr among) = λ differs none. subst (IsAmong (kind_of e)) (same ∙ none) among
