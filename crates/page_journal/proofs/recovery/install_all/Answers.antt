use Rattle.std.proofs.Common.{sym, arith, rules}
use mathlib.Core.Path.{fun_ext}
use Rattle.disk_model.specs.declared.disk.Area.TheVariants.{Journal}
use Rattle.disk_model.proofs.Moments.{keeps_at_start, quiet_in_pages}
use Rattle.page_journal.proofs.Gates.{gate_first, records_none, place_more, done_more}
use Rattle.page_journal.proofs.Steps.{keeps_at_spares, records_sub}
use Rattle.page_journal.proofs.recovery.install_all.Goals as goal

pub loop-n-init : goal.loop-n-init
loop-n-init g c = record {
  fits = search rules;
  place = λ t. sym (gate_first _);
  keeps = λ t. keeps_at_start _ (c.requires.safe t);
  done = λ t. sym (records_none _ _);
  faults = search rules;
  room = search rules;
  sink = search rules;
}

pub loop-n-preserved : goal.loop-n-preserved
loop-n-preserved g c = record {
  fits = c.in_ok-at.ensures.behind;
  place = λ t. place_more _ _ c.loop-n.n _ _ (fun_ext (λ i. (c.loop-n.invariant.keeps t).seen Journal i (λ e. cc))) (c.loop-n.invariant.place t) (c.in_ok-at.ensures.next t);
  keeps = λ t. keeps_at_spares (records_sub _ _ c.args.records c.loop-n.n _ (fun_ext (λ i. (c.loop-n.invariant.keeps t).seen Journal i (λ e. cc))) (c.loop-n.invariant.place t) (omega arith)) (c.loop-n.invariant.keeps t) (c.in_ok-at.ensures.spares t);
  done = λ t. done_more _ _ c.loop-n.n _ _ _ _ (fun_ext (λ i. (c.loop-n.invariant.keeps t).seen Journal i (λ e. cc))) (c.loop-n.invariant.place t) (c.loop-n.invariant.done t) (c.in_ok-at.ensures.done t);
  faults = search rules;
  room = search rules;
  sink = search rules;
}

pub returns-in_err-at-clause-keeps : goal.returns-in_err-at-clause-keeps
returns-in_err-at-clause-keeps g c = λ t.
    keeps_at_spares (records_sub _ _ c.args.records c.loop-n.n _ (fun_ext (λ i. (c.loop-n.invariant.keeps t).seen Journal i (λ e. cc))) (c.loop-n.invariant.place t) (omega arith)) (c.loop-n.invariant.keeps t) (c.install_record.ensures.spares t)

pub returns-clause-safe : goal.returns-clause-safe
returns-clause-safe g c = λ t. quiet_in_pages (c.loop-n.invariant.keeps t) (λ i e. cc) (c.in_ok-sync.ensures.told t)
