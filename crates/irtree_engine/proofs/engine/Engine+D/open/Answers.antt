use Rattle.std.proofs.Common.{IsErrOf, sym, subst}
use Rattle.disk_model.specs.World.{LeavesOnly}
use Rattle.irtree_engine.specs.Holding.{LeavesState}
use Rattle.irtree_engine.specs.declared.fault.EngineFault.TheVariants.{BadJournal, Damaged, NotAStore, Version1}
use Rattle.irtree_engine.proofs.engine.Engine+D.open.Goals as goal

pub returns-in-Ok-clause-any_moment : goal.returns-in-Ok-clause-any_moment
returns-in-Ok-clause-any_moment g c = λ t state holds.
    subst (λ disk. LeavesOnly (g.D.Disk.world c.args.disk.now) (g.D.Disk.world disk) (LeavesState state (g.D.Disk.world c.args.disk.now))) (sym c.over.ensures.disk) (c.recover_superblock.ensures.any_moment t state holds)

pub returns-in-Err-clause-not_a_store : goal.returns-in-Err-clause-not_a_store
returns-in-Err-clause-not_a_store g c = λ t is.
    let named : IsErrOf c.recover_superblock.result NotAStore = cc in
    c.recover_superblock.ensures.not_a_store t named

pub returns-in-Err-clause-bad : goal.returns-in-Err-clause-bad
returns-in-Err-clause-bad g c = λ t at is.
    let named : IsErrOf c.recover_superblock.result (BadJournal at) = cc in
    c.recover_superblock.ensures.bad t at named

pub returns-in-Err-clause-damaged : goal.returns-in-Err-clause-damaged
returns-in-Err-clause-damaged g c = λ damage is.
    let named : IsErrOf c.recover_superblock.result (Damaged damage) = cc in
    c.recover_superblock.ensures.damaged damage named

pub returns-in-Err-clause-foreign : goal.returns-in-Err-clause-foreign
returns-in-Err-clause-foreign g c = λ t is.
    let named : IsErrOf c.recover_superblock.result NotAStore = cc in
    c.recover_superblock.ensures.foreign t named

pub returns-in-Err-clause-version1 : goal.returns-in-Err-clause-version1
returns-in-Err-clause-version1 g c = λ t is.
    let named : IsErrOf c.recover_superblock.result Version1 = cc in
    c.recover_superblock.ensures.version1 t named

pub returns-in-Err-clause-broken_head : goal.returns-in-Err-clause-broken_head
returns-in-Err-clause-broken_head g c = λ t damage is.
    let named : IsErrOf c.recover_superblock.result (Damaged damage) = cc in
    c.recover_superblock.ensures.broken_head t damage named
