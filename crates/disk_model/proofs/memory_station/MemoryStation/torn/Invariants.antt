use Rattle.std.proofs.Common.{◌≡◌, take}
use Rattle.disk_model.specs.Replay.{replay}
use Rattle.disk_model.specs.Crash.{torn_by}
use Rattle.disk_model.specs.Stored.{image_of, first_state}
use Rattle.disk_model.proofs.memory_station.MemoryStation.torn.Given as goal

abbrev pub invariant-loop-call : goal.invariant-loop-call
invariant-loop-call l =
    let st = replay (first_state l.self.first) (take l.call-index l.self.made.items) in
    record { seen : st.seen ≡ image_of l.held; leaves : torn_by l.byte st ≡ image_of l.left }
