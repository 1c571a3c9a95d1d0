use Rattle.std.proofs.Common.{ap, ◌∙◌, arith}
use Rattle.disk_model.specs.World.{Image}
use Rattle.disk_model.specs.declared.disk.Area.TheVariants.{Journal}
use Rattle.disk_model.proofs.Replays.{on_ok_from}
use Rattle.page_journal.proofs.gate.set_gate.Goals as goal

pub returns-clause-done : goal.returns-clause-done
returns-clause-done g c = λ t. on_ok_from c.sync.result (ap (λ (s : Image). s Journal c.args.at) (c.sync.ensures.told t).rests.seen ∙ (c.in_ok-write.ensures.told t).written.inside 0 c.args.at (omega arith) (omega arith))
