use Rattle.std.proofs.Common.{◌≡◌, ℕ, ◌+◌, List, length, subst, rules}
use Rattle.disk_model.specs.World.{Written}
use Rattle.disk_model.specs.declared.disk.Area.TheVariants.{Journal}
use Rattle.page_journal.specs.Record.{batch_of, IsReady}
use Rattle.page_journal.proofs.Steps.{in_write, in_opening, appended, append_ready, append_overwrites}
use Rattle.page_journal.proofs.appending.append.Goals as goal

pub returns-in_err-write_behind-clause-any_moment : goal.returns-in_err-write_behind-clause-any_moment
returns-in_err-write_behind-clause-any_moment g c = λ t pages is. in_write c.args.at _ (c.requires.ready t) (batch_of pages) _ (c.write_behind.ensures.keeps t)

pub returns-in_err-set_gate-clause-any_moment : goal.returns-in_err-set_gate-clause-any_moment
returns-in_err-set_gate-clause-any_moment g c = λ t pages is.
    in_opening c.args.at _ (c.requires.ready t) pages c.args.gathered.now.bytes.items is c.requires.fits _ _ (c.in_ok-write_behind.ensures.keeps t) (subst (λ (l : List ℕ). Written Journal (c.args.at + 1) l (g.D.Disk.world c.args.disk.now).seen (g.D.Disk.world c.write_behind.new.disk).seen) c.deref.ensures.value (c.in_ok-write_behind.ensures.done t)) (c.set_gate.ensures.keeps t)

pub returns-clause-any_moment : goal.returns-clause-any_moment
returns-clause-any_moment g c = λ t pages is.
    in_opening c.args.at _ (c.requires.ready t) pages c.args.gathered.now.bytes.items is c.requires.fits _ _ (c.in_ok-write_behind.ensures.keeps t) (subst (λ (l : List ℕ). Written Journal (c.args.at + 1) l (g.D.Disk.world c.args.disk.now).seen (g.D.Disk.world c.write_behind.new.disk).seen) c.deref.ensures.value (c.in_ok-write_behind.ensures.done t)) (c.set_gate.ensures.keeps t)

pub returns-clause-appended : goal.returns-clause-appended
returns-clause-appended g c = λ t pages is.
    appended c.args.at _ (c.requires.ready t) pages c.args.gathered.now.bytes.items is c.requires.fits _ _ (c.in_ok-write_behind.ensures.keeps t) (subst (λ (l : List ℕ). Written Journal (c.args.at + 1) l (g.D.Disk.world c.args.disk.now).seen (g.D.Disk.world c.write_behind.new.disk).seen) c.deref.ensures.value (c.in_ok-write_behind.ensures.done t)) (c.set_gate.ensures.keeps t) (c.in_ok-set_gate.ensures.done t)

pub returns-clause-ready : goal.returns-clause-ready
returns-clause-ready g c = λ t pages is.
    let end = append_ready c.args.at _ (c.requires.ready t) pages c.args.gathered.now.bytes.items is c.requires.fits _ _ (c.in_ok-write_behind.ensures.keeps t) (subst (λ (l : List ℕ). Written Journal (c.args.at + 1) l (g.D.Disk.world c.args.disk.now).seen (g.D.Disk.world c.write_behind.new.disk).seen) c.deref.ensures.value (c.in_ok-write_behind.ensures.done t)) (c.set_gate.ensures.keeps t) (c.in_ok-set_gate.ensures.done t) (c.in_ok-set_gate.ensures.safe t) in
    let size : length c.args.gathered.now.bytes.items ≡ c.len.result = search rules in
    subst (λ (n : ℕ). IsReady (c.args.at + n) (g.D.Disk.world c.set_gate.new.disk)) size end

pub returns-clause-overwritten : goal.returns-clause-overwritten
returns-clause-overwritten g c = λ t pages is.
    append_overwrites c.args.at _ (c.requires.ready t) pages c.args.gathered.now.bytes.items is c.requires.fits _ _ (c.in_ok-write_behind.ensures.keeps t) (subst (λ (l : List ℕ). Written Journal (c.args.at + 1) l (g.D.Disk.world c.args.disk.now).seen (g.D.Disk.world c.write_behind.new.disk).seen) c.deref.ensures.value (c.in_ok-write_behind.ensures.done t)) (c.set_gate.ensures.keeps t) (c.in_ok-set_gate.ensures.done t)
