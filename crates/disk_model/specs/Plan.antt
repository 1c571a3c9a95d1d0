-- Which calls are to fail, and how many have been made.
use Rattle.std.specs.Prelude.{ℕ, ◌+◌, ◌-◌, ◌^◌, min, Bool, true, false, ◌==◌, ◌&&◌, ◌||◌, nat_lt, Option, Some, None, List}
use Rattle.std.specs.List.{list_any}
use Rattle.disk_model.specs.declared.call.CallKind.{CallKind}
use Rattle.disk_model.specs.declared.call.CallKind.TheVariants.{Read, Write, Sync, Say}
use Rattle.disk_model.specs.declared.call.Fail.{Fail}
use Rattle.disk_model.specs.declared.plan.Plan.{Plan}

-- one more, up to the last value of a u64
abbrev pub once_more : ℕ → ℕ
once_more n = min (n + 1) (2 ^ 64 - 1)

-- how many calls of a kind were made
abbrev pub count_of : CallKind → Plan → ℕ
count_of Read plan = plan.reads
count_of Write plan = plan.writes
count_of Sync plan = plan.syncs
count_of Say plan = plan.says

-- how many calls were made
abbrev pub calls_of : Plan → ℕ
calls_of plan = min (plan.reads + plan.writes + plan.syncs + plan.says) (2 ^ 64 - 1)

-- the plan with one more call of a kind
abbrev pub counted : CallKind → Plan → Plan
counted Read plan = record plan { reads = once_more plan.reads }
counted Write plan = record plan { writes = once_more plan.writes }
counted Sync plan = record plan { syncs = once_more plan.syncs }
counted Say plan = record plan { says = once_more plan.says }

-- whether two kinds are one
abbrev pub same_kind : CallKind → CallKind → Bool
same_kind Read Read = true
same_kind Write Write = true
same_kind Sync Sync = true
same_kind Say Say = true
same_kind _ _ = false

-- the call of a kind that has this number is listed
abbrev pub is_listed : CallKind → ℕ → List Fail → Bool
is_listed kind nth fails = list_any (λ fail. same_kind fail.kind kind && (fail.nth == nth)) fails

-- so many calls are past the stop
abbrev pub is_past : Option ℕ → ℕ → Bool
is_past (Some stop) calls = nat_lt stop calls
is_past None calls = false

-- the last call counted, which is of this kind, is to fail: it is listed, or comes after the stop
abbrev pub is_last_due : CallKind → Plan → Bool
is_last_due kind plan = is_listed kind (count_of kind plan) plan.fails.items || is_past plan.stop (calls_of plan)

-- the next call of a kind is to fail
abbrev pub is_due : CallKind → Plan → Bool
is_due kind plan = is_last_due kind (counted kind plan)
