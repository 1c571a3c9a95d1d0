use Rattle.std.proofs.Common.{sym, ◌∙◌, ap, arith, rules}
use Rattle.disk_model.specs.World.{Image}
use Rattle.disk_model.specs.declared.disk.Area.TheVariants.{Journal}
use Rattle.disk_model.proofs.Moments.{rested_then}
use Rattle.page_journal.proofs.Gates.{gate_first, place_more, records_next}
use Rattle.page_journal.proofs.recovery.check_all.Goals as goal

pub loop-gate-init : goal.loop-gate-init
loop-gate-init g c = record {
  fits = search rules;
  few = search rules;
  rested = λ t. c.in_ok-gate.ensures.rested t;
  place = λ t. sym (gate_first _);
  gate = λ t. c.in_ok-gate.ensures.byte t;
  records = λ t k lt. absurd (omega arith);
  faults = search rules;
  room = search rules;
  sink = search rules;
}

pub loop-gate-preserved : goal.loop-gate-preserved
loop-gate-preserved g c = record {
  fits = c.in_ok-at.ensures.behind.1;
  few = omega (arith, c.loop-gate.invariant.few, c.in_ok-at.ensures.behind.0);
  rested = λ t. rested_then (rested_then (c.loop-gate.invariant.rested t) (c.in_ok-at.ensures.rested t)) (c.in_ok-gate-2.ensures.rested t);
  place = λ t. place_more _ _ c.loop-gate.records _ _ (ap (λ (m : Image). m Journal) (c.loop-gate.invariant.rested t).seen) (c.loop-gate.invariant.place t) (c.in_ok-at.ensures.next t);
  gate = λ t. c.in_ok-gate-2.ensures.byte t ∙ ap (λ (m : Image). m Journal c.in_ok-at.at) (rested_then (c.loop-gate.invariant.rested t) (c.in_ok-at.ensures.rested t)).seen;
  records = λ t. records_next _ _ c.loop-gate.records _ (ap (λ (m : Image). m Journal) (c.loop-gate.invariant.rested t).seen) (c.loop-gate.invariant.place t) (c.loop-gate.invariant.records t) (c.in_ok-at.ensures.record_is t);
  faults = search rules;
  room = search rules;
  sink = search rules;
}
