-- A store whose journal is at its front behind the job.
use Rattle.std.proofs.Common.{◌≡◌, Bool, false}
use Rattle.std.specs.Prelude.{Result, Ok, Err}
use Rattle.disk_model.specs.World.{World}
use Rattle.page_journal.specs.Record.{IsReady}
use Rattle.run_outcome.specs.Causes.{GoesOn, GoesOnBehind}
use Rattle.run_outcome.specs.declared.ended.Ended.{Ended}
use Rattle.run_outcome.specs.declared.ended.Ended.TheVariants as ends
use Rattle.irtree_top.specs.Run.{IsBehindOpening, LeavesAtRest, RestsBehind, RestsIfOpened}
use Rattle.irtree_top.proofs.Openings.{IsOpeningEnd}

-- where the engine goes on, and rests if it does
rests-behind : (stopped : Bool) (new : World) (end : Ended) → GoesOnBehind stopped end → (stopped ≡ false → IsReady 0 new) → RestsBehind new end
rests-behind stopped new ends.Disk on rest = tt
rests-behind stopped new ends.Done on rest = rest on
rests-behind stopped new ends.Memory on rest = rest on
rests-behind stopped new ends.Words on rest = rest on
rests-behind stopped new ends.Source on rest = rest on
rests-behind stopped new ends.Sink on rest = rest on
rests-behind stopped new (ends.Input fault) on rest = rest on
rests-behind stopped new (ends.Store fault) on rest = rest on
rests-behind stopped new (ends.Limit fault) on rest = rest on

pub leaves-rest : {T : Type 0} (stopped : Bool) (new : World) (result : Result T Ended) → GoesOn stopped result → (stopped ≡ false → IsReady 0 new) → LeavesAtRest new result
leaves-rest stopped new (Ok done) on rest = rest on
leaves-rest stopped new (Err end) on rest = rests-behind stopped new end on rest

-- the disk's end doesn't come behind the opening alone
rests-opened : (new : World) (end : Ended) → RestsBehind new end → IsBehindOpening end → IsReady 0 new
rests-opened new ends.Disk rest behind = absurd behind
rests-opened new ends.Done rest behind = rest
rests-opened new ends.Memory rest behind = rest
rests-opened new ends.Words rest behind = rest
rests-opened new ends.Source rest behind = rest
rests-opened new ends.Sink rest behind = rest
rests-opened new (ends.Input fault) rest behind = rest
rests-opened new (ends.Store fault) rest behind = rest
rests-opened new (ends.Limit fault) rest behind = rest

pub job-rests : {T : Type 0} (new : World) (result : Result T Ended) → LeavesAtRest new result → RestsIfOpened new result
job-rests new (Ok done) rest = rest
job-rests new (Err end) rest = rests-opened new end rest

-- no end of an opening that was refused comes behind it
pub none-behind : (end : Ended) → IsOpeningEnd end → IsBehindOpening end → ⊥
none-behind ends.Disk opens behind = behind
none-behind (ends.Store fault) opens behind = behind
none-behind ends.Done opens behind = opens
none-behind ends.Memory opens behind = opens
none-behind ends.Words opens behind = opens
none-behind ends.Source opens behind = opens
none-behind ends.Sink opens behind = opens
none-behind (ends.Input fault) opens behind = opens
none-behind (ends.Limit fault) opens behind = opens
