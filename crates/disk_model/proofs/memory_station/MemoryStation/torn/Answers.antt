use Rattle.std.proofs.Common.{◌≤◌, ◌∙◌, ap, refl, sym, take, length, rules}
use Rattle.disk_model.specs.Replay.{State, replay}
use Rattle.disk_model.specs.Crash.{torn_by}
use Rattle.disk_model.specs.Stored.{image_of, first_state}
use Rattle.disk_model.proofs.Crashes.{torn_at_first, follow_more, all_followed}
use Rattle.disk_model.proofs.memory_station.MemoryStation.torn.Goals as goal

pub loop-call-init : goal.loop-call-init
loop-call-init c = record { seen = sym c.in_ok-held.ensures; leaves = torn_at_first c.args.byte (first_state c.args.self.now.first) refl refl ∙ sym c.in_ok-left.ensures }

pub loop-call-preserved : goal.loop-call-preserved
loop-call-preserved c =
    let first = first_state c.args.self.now.first in
    let k = c.loop-call.call-index in
    let both = c.in_ok-follow.ensures (replay first (take k c.args.self.now.made.items)) c.loop-call.invariant.seen c.loop-call.invariant.leaves in
    let more = follow_more first c.args.self.now.made.items k c.call-item.result (search rules) (search rules) in
    record {
      seen = ap (λ (s : State). s.seen) more ∙ both.0;
      leaves = ap (λ (s : State). torn_by c.args.byte s) more ∙ both.1;
    }

pub returns : goal.returns
returns c =
    let first = first_state c.args.self.now.first in
    let made = c.args.self.now.made.items in
    let le : length made ≤ c.loop-call.call-index = search rules in
    all_followed c.args.byte first made c.loop-call.call-index (image_of c.loop-call.left) le c.loop-call.invariant.leaves
