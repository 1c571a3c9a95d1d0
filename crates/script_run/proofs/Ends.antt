-- What ends a script, whatever the image stands for.
use Rattle.std.proofs.Common.{◌≡◌, ℕ, ◌+◌, ◌<◌, ◌≤◌, List, ◌++◌, length, take, refl, ap, subst, arith, length-append}
use Rattle.std.specs.Prelude.{Result, IfErr, IsErrOf}
use Rattle.std.proofs.lemmas.List.{length-take-le}
use Rattle.irtree_engine.specs.Faults.{IsReadFault}
use Rattle.irtree_engine.specs.declared.fault.EngineFault.{EngineFault}
use Rattle.irtree_engine.specs.declared.fault.EngineFault.TheVariants as engine
use Rattle.run_outcome.specs.Causes.{end_of_engine}
use Rattle.run_outcome.specs.declared.ended.Ended.{Ended}
use Rattle.run_outcome.specs.declared.ended.Ended.TheVariants as ends
use Rattle.run_outcome.specs.declared.ended.InputFault.{InputFault}
use Rattle.run_outcome.specs.declared.ended.InputFault.TheVariants.{Long}
use Rattle.run_outcome.specs.declared.ended.LimitFault.{LimitFault}
use Rattle.run_outcome.specs.declared.ended.LimitFault.TheVariants as limits
use Rattle.script_run.specs.Lines.{refused_by, IsLineEnd, IsPieceEnd}

-- ---- lines

-- an update that is refused for a limit of the map is replied to
pub refused-ends : (fault : EngineFault) → IfErr (refused_by fault) IsLineEnd
refused-ends engine.NoRoom = refl
refused-ends _ = tt

-- a call that only reads meets no limit
pub read-ends : (fault : EngineFault) → IsReadFault fault → IsLineEnd (end_of_engine fault)
read-ends engine.Full reads = absurd reads
read-ends engine.Worn reads = absurd reads
read-ends engine.NoRoom reads = absurd reads
read-ends _ reads = tt

-- an update that ends a run for want of room was refused for that
pub refused-full : (fault : EngineFault) → IsErrOf (refused_by fault) (ends.Limit limits.NoRoom) → fault ≡ engine.NoRoom
refused-full engine.NoRoom is = refl
refused-full engine.Full is = absurd (cc)
refused-full engine.Worn is = absurd (cc)
refused-full engine.Disk is = absurd (cc)
refused-full engine.NotAStore is = absurd (cc)
refused-full engine.Version1 is = absurd (cc)
refused-full (engine.BadJournal at) is = absurd (cc)
refused-full (engine.Damaged damage) is = absurd (cc)
refused-full engine.Stopped is = absurd (cc)
refused-full engine.Memory is = absurd (cc)

-- no input ends lines
pub line-input : {T : Type 0} (result : Result T Ended) (fault : InputFault) → IfErr result IsLineEnd → IsErrOf result (ends.Input fault) → ⊥
line-input {T = T} result fault has is = subst (λ (r : Result T Ended). IfErr r IsLineEnd) is has

-- the one limit that ends lines
pub line-limit : {T : Type 0} (result : Result T Ended) (fault : LimitFault) → IfErr result IsLineEnd → IsErrOf result (ends.Limit fault) → fault ≡ limits.NoRoom
line-limit {T = T} result fault has is = subst (λ (r : Result T Ended). IfErr r IsLineEnd) is has

-- ---- pieces

-- lines that end end their piece so
pub piece-line : (taken len : ℕ) (end : Ended) → IsLineEnd end → IsPieceEnd taken len end
piece-line taken len (ends.Limit fault) has = has
piece-line taken len (ends.Input fault) has = absurd has
piece-line taken len _ has = tt

-- an input that ends a piece is too long
pub piece-input : {T : Type 0} (taken len : ℕ) (result : Result T Ended) (fault : InputFault) → IfErr result (IsPieceEnd taken len) → IsErrOf result (ends.Input fault) → (fault ≡ Long) × (268435456 < taken + len)
piece-input {T = T} taken len result fault has is = subst (λ (r : Result T Ended). IfErr r (IsPieceEnd taken len)) is has

-- the one limit that ends a piece
pub piece-limit : {T : Type 0} (taken len : ℕ) (result : Result T Ended) (fault : LimitFault) → IfErr result (IsPieceEnd taken len) → IsErrOf result (ends.Limit fault) → fault ≡ limits.NoRoom
piece-limit {T = T} taken len result fault has is = subst (λ (r : Result T Ended). IfErr r (IsPieceEnd taken len)) is has

-- ---- what was read

-- how many bytes were left, where some were read to a buffer
pub left-counts : (left next buffer : List ℕ) (n : ℕ) → left ≡ take n buffer ++ next → n ≤ length buffer → length left ≡ n + length next
left-counts left next buffer n is few = omega (arith, ap length is, length-append (take n buffer) next, length-take-le n buffer few)
