use Rattle.std.proofs.Common.{◌≡◌, true, inl, subst, ◌∙◌}
use Rattle.std.specs.Prelude.{IsErrOf}
use Rattle.disk_model.specs.World.{LeavesOnly}
use Rattle.disk_model.proofs.Moments.{then, within}
use Rattle.place_values.specs.State as states
use Rattle.table_updates.specs.Version1.{StandsVersion1}
use Rattle.irtree_engine.specs.Opening.{IsRecovered, LeavesRefused}
use Rattle.irtree_engine.specs.Upgrades.{LeavesEither}
use Rattle.irtree_engine.specs.declared.fault.EngineFault.{EngineFault}
use Rattle.irtree_engine.specs.declared.fault.EngineFault.TheVariants.{NotAStore, BadJournal, Damaged}
use Rattle.irtree_engine.proofs.Openings.{bad-journal}
use Rattle.irtree_engine.proofs.Upgrades.{alike-further, broken-version1, damage-back, foreign-version1, neither, openable-back, opening-version1, recovered-further, recovered-magic, recovered-version1, refused-left}
use Rattle.irtree_engine.proofs.upgrading.upgrade.Goals.{In-Err-Version1, After-upgrade_version1}
use Rattle.irtree_engine.proofs.upgrading.upgrade.Given as given
use Rattle.irtree_engine.proofs.upgrading.upgrade.Goals as goal

-- the journal is recovered where page 0 is of version 1
recovered : (g : given.Over) (c : In-Err-Version1 g) → g.D.Disk.readable ≡ true → IsRecovered (g.D.Disk.world c.args.disk.now) (g.D.Disk.world c.recover_superblock.new.disk)
recovered g c t = subst (λ (fault : EngineFault). LeavesRefused fault (g.D.Disk.world c.args.disk.now) (g.D.Disk.world c.recover_superblock.new.disk)) c.in-Err-Version1.field-0-is (c.in-Err-Version1.ensures.left t)

-- a crash leaves the state by version 1 or by version 2
upgrading : (g : given.Over) (c : After-upgrade_version1 g) → g.D.Disk.readable ≡ true → IsRecovered (g.D.Disk.world c.args.disk.now) (g.D.Disk.world c.recover_superblock.new.disk) → (state : states.Contents) → StandsVersion1 (g.D.Disk.world c.args.disk.now).seen state
    → LeavesOnly (g.D.Disk.world c.args.disk.now) (g.D.Disk.world c.upgrade_version1.new.disk) (LeavesEither state (g.D.Disk.world c.args.disk.now))
upgrading g c t back state stands =
    let old = g.D.Disk.world c.args.disk.now in
    let mid = g.D.Disk.world c.recover_superblock.new.disk in
    let quiet = (c.recover_superblock.ensures.quiet t).said in
    (then) (opening-version1 old mid state stands (c.recover_superblock.ensures.alike t))
    (within (c.upgrade_version1.ensures.any_moment t state (recovered-version1 old mid state back stands)) (λ image said left. (left.0, left.1 ∙ quiet)))

pub upgrade_version1-requires : goal.upgrade_version1-requires
upgrade_version1-requires g c = record {
  magic = λ t. recovered-magic (g.D.Disk.world c.args.disk.now) (g.D.Disk.world c.recover_superblock.new.disk) (recovered g (goal.at.upgrade_version1-requires g c).In-Err-Version1 t) (c.recover_superblock.ensures.version1 t (cc)).1;
}

pub returns-in-Ok-upgrade_version1-clause-any_moment : goal.returns-in-Ok-upgrade_version1-clause-any_moment
returns-in-Ok-upgrade_version1-clause-any_moment g c = λ t state stands.
    let at = goal.at.returns-in-Ok-upgrade_version1-clause-any_moment g c in
    upgrading g at.After-upgrade_version1 t (recovered g at.In-Err-Version1 t) state stands

pub returns-in-Err-upgrade_version1-clause-any_moment : goal.returns-in-Err-upgrade_version1-clause-any_moment
returns-in-Err-upgrade_version1-clause-any_moment g c = λ t state stands.
    let at = goal.at.returns-in-Err-upgrade_version1-clause-any_moment g c in
    upgrading g at.After-upgrade_version1 t (recovered g at.In-Err-Version1 t) state stands

pub returns-in-Ok-upgrade_version1-clause-upgraded : goal.returns-in-Ok-upgrade_version1-clause-upgraded
returns-in-Ok-upgrade_version1-clause-upgraded g c = λ t state stands.
    let back = recovered g (goal.at.returns-in-Ok-upgrade_version1-clause-upgraded g c).In-Err-Version1 t in
    let done = c.in-Ok-upgrade_version1.ensures.upgraded t state (recovered-version1 (g.D.Disk.world c.args.disk.now) (g.D.Disk.world c.recover_superblock.new.disk) state back stands) in
    (cc (done.0), done.1)

pub returns-in-Ok-upgrade_version1-clause-opened : goal.returns-in-Ok-upgrade_version1-clause-opened
returns-in-Ok-upgrade_version1-clause-opened g c = λ t.
    let back = recovered g (goal.at.returns-in-Ok-upgrade_version1-clause-opened g c).In-Err-Version1 t in
    openable-back (g.D.Disk.world c.args.disk.now) (g.D.Disk.world c.recover_superblock.new.disk) back (c.in-Ok-upgrade_version1.ensures.opened t)

pub returns-in-Err-upgrade_version1-clause-damaged : goal.returns-in-Err-upgrade_version1-clause-damaged
returns-in-Err-upgrade_version1-clause-damaged g c = λ t damage is.
    let old = g.D.Disk.world c.args.disk.now in
    let mid = g.D.Disk.world c.recover_superblock.new.disk in
    let back = recovered g (goal.at.returns-in-Err-upgrade_version1-clause-damaged g c).In-Err-Version1 t in
    let named : IsErrOf c.upgrade_version1.result (Damaged damage) = cc in
    let told = c.upgrade_version1.ensures.damaged t damage named in (
      neither old.seen (c.recover_superblock.ensures.version1 t (cc)).0 (λ state stands. told.0 state (recovered-version1 old mid state back stands)),
      damage-back old mid damage back told.1,
    )

pub returns-in-Err-Disk-clause-any_moment : goal.returns-in-Err-Disk-clause-any_moment
returns-in-Err-Disk-clause-any_moment g c = λ t state stands. opening-version1 (g.D.Disk.world c.args.disk.now) (g.D.Disk.world c.recover_superblock.new.disk) state stands (c.recover_superblock.ensures.alike t)

pub returns-in-Err-NotAStore-clause-any_moment : goal.returns-in-Err-NotAStore-clause-any_moment
returns-in-Err-NotAStore-clause-any_moment g c = λ t state stands. opening-version1 (g.D.Disk.world c.args.disk.now) (g.D.Disk.world c.recover_superblock.new.disk) state stands (c.recover_superblock.ensures.alike t)

pub returns-in-Err-BadJournal-clause-any_moment : goal.returns-in-Err-BadJournal-clause-any_moment
returns-in-Err-BadJournal-clause-any_moment g c = λ t state stands. opening-version1 (g.D.Disk.world c.args.disk.now) (g.D.Disk.world c.recover_superblock.new.disk) state stands (c.recover_superblock.ensures.alike t)

pub returns-in-Err-Damaged-clause-any_moment : goal.returns-in-Err-Damaged-clause-any_moment
returns-in-Err-Damaged-clause-any_moment g c = λ t state stands. opening-version1 (g.D.Disk.world c.args.disk.now) (g.D.Disk.world c.recover_superblock.new.disk) state stands (c.recover_superblock.ensures.alike t)

pub returns-in-Err-NotAStore-clause-not_a_store : goal.returns-in-Err-NotAStore-clause-not_a_store
returns-in-Err-NotAStore-clause-not_a_store g c = λ t is.
    let old = g.D.Disk.world c.args.disk.now in
    let named : IsErrOf c.recover_superblock.result NotAStore = cc in
    let foreign = c.recover_superblock.ensures.foreign t named in
    (neither old.seen (c.recover_superblock.ensures.not_a_store t named) (λ state stands. foreign-version1 old.seen state foreign stands), foreign)

pub returns-in-Err-BadJournal-clause-bad : goal.returns-in-Err-BadJournal-clause-bad
returns-in-Err-BadJournal-clause-bad g c = λ t at is.
    let old = g.D.Disk.world c.args.disk.now in
    let named : IsErrOf c.recover_superblock.result (BadJournal at) = cc in
    let told = c.recover_superblock.ensures.bad t at named in
    (neither old.seen told.1 (λ state stands. bad-journal old.seen at told.0 stands.holds.stands.0), told.0)

pub returns-in-Err-Damaged-clause-damaged : goal.returns-in-Err-Damaged-clause-damaged
returns-in-Err-Damaged-clause-damaged g c = λ t damage is.
    let old = g.D.Disk.world c.args.disk.now in
    let named : IsErrOf c.recover_superblock.result (Damaged damage) = cc in
    let broken = c.recover_superblock.ensures.broken_head t damage named in
    let told = c.recover_superblock.ensures.damaged damage named in
    (neither old.seen (told.1 t) (λ state stands. broken-version1 old.seen state broken stands), inl (told.0, broken))

pub returns-in-Err-upgrade_version1-clause-left : goal.returns-in-Err-upgrade_version1-clause-left
returns-in-Err-upgrade_version1-clause-left g c = λ t.
    let old = g.D.Disk.world c.args.disk.now in
    let mid = g.D.Disk.world c.recover_superblock.new.disk in
    let back = recovered g (goal.at.returns-in-Err-upgrade_version1-clause-left g c).In-Err-Version1 t in
    refused-left old (g.D.Disk.world c.upgrade_version1.new.disk) c.in-Err-upgrade_version1.fault (c.in-Err-upgrade_version1.ensures.causes t)
    (λ other. recovered-further old mid _ back (c.in-Err-upgrade_version1.ensures.left t (λ e. other (cc))))

pub returns-in-Err-upgrade_version1-clause-alike : goal.returns-in-Err-upgrade_version1-clause-alike
returns-in-Err-upgrade_version1-clause-alike g c = λ t other.
    let back = recovered g (goal.at.returns-in-Err-upgrade_version1-clause-alike g c).In-Err-Version1 t in
    alike-further (g.D.Disk.world c.args.disk.now) (g.D.Disk.world c.recover_superblock.new.disk) (g.D.Disk.world c.upgrade_version1.new.disk) back (c.recover_superblock.ensures.quiet t).said (c.recover_superblock.ensures.alike t)
    (c.in-Err-upgrade_version1.ensures.alike t (λ e. other (cc)))

pub returns-in-Err-upgrade_version1-clause-unopened : goal.returns-in-Err-upgrade_version1-clause-unopened
returns-in-Err-upgrade_version1-clause-unopened g c = λ t closed.
    let back = recovered g (goal.at.returns-in-Err-upgrade_version1-clause-unopened g c).In-Err-Version1 t in
    alike-further (g.D.Disk.world c.args.disk.now) (g.D.Disk.world c.recover_superblock.new.disk) (g.D.Disk.world c.upgrade_version1.new.disk) back (c.recover_superblock.ensures.quiet t).said (c.recover_superblock.ensures.alike t)
    (c.upgrade_version1.ensures.unopened t (λ opened. closed (openable-back (g.D.Disk.world c.args.disk.now) (g.D.Disk.world c.recover_superblock.new.disk) back opened)))
