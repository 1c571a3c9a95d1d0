use Rattle.std.proofs.Common.{◌≡◌, ◌+◌, ◌*◌, ◌<◌, ℕ, length, refl, ◌∙◌, ap, arith, rules}
use mathlib.Core.Path.{fun_ext}
use Rattle.disk_model.specs.World.{Image}
use Rattle.disk_model.specs.declared.disk.Area.TheVariants.{Journal, Pages}
use Rattle.disk_model.proofs.Moments.{rested_read}
use Rattle.page_journal.specs.Record.{batch_at, word}
use Rattle.page_journal.proofs.Batches.{written_none, page_more, outside}
use Rattle.page_journal.proofs.Steps.{spares_at_start, spares_at_rested, spares_at_write}
use Rattle.page_journal.proofs.recovery.install_record.Goals as goal

pub loop-k-init : goal.loop-k-init
loop-k-init g c = record {
  size = refl;
  spares = λ t. spares_at_rested (spares_at_start _) (c.in_ok-count.ensures.rested t);
  done = λ t. ap (λ (m : Image). m Pages) (c.in_ok-count.ensures.rested t).seen ∙ written_none (batch_at ((g.D.Disk.world c.args.disk.now).seen Journal) c.args.at) _;
  faults = search rules;
  room = search rules;
  sink = search rules;
}

pub returns-in_err-count-clause-spares : goal.returns-in_err-count-clause-spares
returns-in_err-count-clause-spares g c = λ t. spares_at_rested (spares_at_start _) (c.in_err-count.ensures.rested t)

pub returns-in_err-number-clause-spares : goal.returns-in_err-number-clause-spares
returns-in_err-number-clause-spares g c = λ t. spares_at_rested (c.loop-k.invariant.spares t) (c.in_err-number.ensures.rested t)

pub returns-in_err-read-clause-spares : goal.returns-in_err-read-clause-spares
returns-in_err-read-clause-spares g c = λ t. spares_at_rested (spares_at_rested (c.loop-k.invariant.spares t) (c.in_ok-number.ensures.rested t)) (rested_read (c.read.ensures.told t))

pub returns-in_err-write-clause-spares : goal.returns-in_err-write-clause-spares
returns-in_err-write-clause-spares g c = λ t.
    let k = c.loop-k.k in
    let journal : (g.D.Disk.world c.loop-k.disk).seen Journal ≡ (g.D.Disk.world c.args.disk.now).seen Journal = fun_ext (λ i. (c.loop-k.invariant.spares t).seen Journal i (λ e. cc)) in
    let number : c.in_ok-number.number ≡ word ((g.D.Disk.world c.args.disk.now).seen Journal) (c.args.at + 5 + 4100 * k) = c.in_ok-number.ensures.word t ∙ ap (λ (f : ℕ → ℕ). word f (c.args.at + 5 + 4100 * k)) journal in
    let spares = spares_at_rested (spares_at_rested (c.loop-k.invariant.spares t) (c.in_ok-number.ensures.rested t)) (rested_read (c.in_ok-read.ensures.told t)) in
    let long : length c.read.new.buf ≡ 4096 = search rules in
    let within : k < word ((g.D.Disk.world c.args.disk.now).seen Journal) (c.args.at + 1) = omega (arith, c.in_ok-count.ensures.count t) in
    spares_at_write spares (c.write.ensures.told t) (λ i apart. outside _ _ _ i (ap (λ (n : ℕ). 4096 * n) number) long (apart refl k within))

pub loop-k-preserved : goal.loop-k-preserved
loop-k-preserved g c = record {
  size = search rules;
  spares = λ t.
      let k = c.loop-k.k in
      let journal : (g.D.Disk.world c.loop-k.disk).seen Journal ≡ (g.D.Disk.world c.args.disk.now).seen Journal = fun_ext (λ i. (c.loop-k.invariant.spares t).seen Journal i (λ e. cc)) in
      let number : c.in_ok-number.number ≡ word ((g.D.Disk.world c.args.disk.now).seen Journal) (c.args.at + 5 + 4100 * k) = c.in_ok-number.ensures.word t ∙ ap (λ (f : ℕ → ℕ). word f (c.args.at + 5 + 4100 * k)) journal in
      let spares = spares_at_rested (spares_at_rested (c.loop-k.invariant.spares t) (c.in_ok-number.ensures.rested t)) (rested_read (c.in_ok-read.ensures.told t)) in
      let long : length c.read.new.buf ≡ 4096 = search rules in
      let within : k < word ((g.D.Disk.world c.args.disk.now).seen Journal) (c.args.at + 1) = omega (arith, c.in_ok-count.ensures.count t) in
      spares_at_write spares (c.in_ok-write.ensures.told t) (λ i apart. outside _ _ _ i (ap (λ (n : ℕ). 4096 * n) number) long (apart refl k within));
  done = λ t.
      let k = c.loop-k.k in
      let journal : (g.D.Disk.world c.loop-k.disk).seen Journal ≡ (g.D.Disk.world c.args.disk.now).seen Journal = fun_ext (λ i. (c.loop-k.invariant.spares t).seen Journal i (λ e. cc)) in
      let number : c.in_ok-number.number ≡ word ((g.D.Disk.world c.args.disk.now).seen Journal) (c.args.at + 5 + 4100 * k) = c.in_ok-number.ensures.word t ∙ ap (λ (f : ℕ → ℕ). word f (c.args.at + 5 + 4100 * k)) journal in
      let long : length c.read.new.buf ≡ 4096 = search rules in
      let pages : (g.D.Disk.world c.read.new.self).seen Pages ≡ (g.D.Disk.world c.loop-k.disk).seen Pages =
      ap (λ (m : Image). m Pages) ((c.in_ok-read.ensures.told t).rests.seen ∙ (c.in_ok-number.ensures.rested t).seen) in
      let at_read : (g.D.Disk.world c.read_word.new.disk).seen Journal ≡ (g.D.Disk.world c.args.disk.now).seen Journal = ap (λ (m : Image). m Journal) (c.in_ok-number.ensures.rested t).seen ∙ journal in
      page_more (batch_at ((g.D.Disk.world c.args.disk.now).seen Journal) c.args.at) k _ _ c.read.new.buf _ _ (pages ∙ c.loop-k.invariant.done t) (ap (λ (n : ℕ). 4096 * n) number) long
      (λ i lt. (c.in_ok-read.ensures.told t).gives i (c.args.at + 9 + 4100 * k + i) (omega arith) refl ∙ ap (λ (f : ℕ → ℕ). f (c.args.at + 9 + 4100 * k + i)) at_read)
      (c.in_ok-write.ensures.told t).written;
  faults = search rules;
  room = search rules;
  sink = search rules;
}
