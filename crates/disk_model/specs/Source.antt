-- What a read of a source gives.
use Rattle.std.specs.Prelude.{◌≡◌, ℕ, ◌≤◌, List, [], ◌++◌, take, Result, IfOk, OnOk, OnErr}
use Rattle.disk_model.specs.declared.disk.Failed.{Failed}
use Rattle.disk_model.specs.World.{Rose}

-- Ok(n): the next n bytes stand at the front of the buffer, and 0 is the end of input; after a failure the bytes left are as before
pub record HasGiven (buffer old new : List ℕ) (result : Result ℕ Failed) : Type 0 where
  pub given : IfOk result (λ n. old ≡ take n buffer ++ new)
  pub ends : IfOk result (λ n. n ≡ 0 → old ≡ [])
  pub failed : OnErr result (new ≡ old)

-- a read fails just where the source's count rose, or stands at its last value, and the count never falls
pub record HasReadCause {T : Type 0} (old new : ℕ) (result : Result T Failed) : Type 0 where
  pub later : old ≤ new
  pub rose : OnErr result (Rose old new)
  pub stays : OnOk result (new ≡ old)
