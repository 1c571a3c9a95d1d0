use Rattle.std.proofs.Common.{IsErrOf}
use Rattle.page_journal.specs.Record.{applied}
use Rattle.page_store.specs.declared.opening.OpenFault.TheVariants.{BadJournal, Damaged, NotAStore, Version1}
use Rattle.irtree_engine.specs.Holding.{IsVersion1}
use Rattle.irtree_engine.proofs.Openings.{bad-none, opening-leaves, version1-none}
use Rattle.irtree_engine.proofs.opening.recover_superblock.Goals as goal

pub returns-in-Ok-clause-any_moment : goal.returns-in-Ok-clause-any_moment
returns-in-Ok-clause-any_moment g c = λ t state holds. opening-leaves _ _ state holds (c.recover_superblock.ensures.any_moment t)

pub returns-in-Err-Disk-clause-any_moment : goal.returns-in-Err-Disk-clause-any_moment
returns-in-Err-Disk-clause-any_moment g c = λ t state holds. opening-leaves _ _ state holds (c.recover_superblock.ensures.any_moment t)

pub returns-in-Err-BadJournal-clause-bad : goal.returns-in-Err-BadJournal-clause-bad
returns-in-Err-BadJournal-clause-bad g c = λ t at is.
    let named : IsErrOf c.recover_superblock.result (BadJournal at) = cc in
    let bad = c.recover_superblock.ensures.bad t at named in
    (bad, bad-none _ at bad)

pub returns-in-Err-NotAStore-clause-foreign : goal.returns-in-Err-NotAStore-clause-foreign
returns-in-Err-NotAStore-clause-foreign g c = λ t is.
    let named : IsErrOf c.recover_superblock.result NotAStore = cc in
    let refused = c.recover_superblock.ensures.not_a_store t named in
    record { area = applied (g.D.Disk.world c.recover_superblock.new.disk).seen; stands = refused.stands; filled = refused.page.0; other = refused.page.1; version1 = refused.page.2 }

pub returns-in-Err-Version1-clause-version1 : goal.returns-in-Err-Version1-clause-version1
returns-in-Err-Version1-clause-version1 g c = λ t is.
    let named : IsErrOf c.recover_superblock.result Version1 = cc in
    let refused = c.recover_superblock.ensures.version1 t named in
    let old : IsVersion1 (g.D.Disk.world c.args.disk.now).seen = record { area = applied (g.D.Disk.world c.recover_superblock.new.disk).seen; stands = refused.stands; magic = refused.page } in
    (version1-none _ old, old)

pub returns-in-Err-Damaged-clause-broken_head : goal.returns-in-Err-Damaged-clause-broken_head
returns-in-Err-Damaged-clause-broken_head g c = λ t damage is.
    let named : IsErrOf c.recover_superblock.result (Damaged damage) = cc in
    let refused = (c.recover_superblock.ensures.damaged damage named).1 t in
    record { area = applied (g.D.Disk.world c.recover_superblock.new.disk).seen; stands = refused.stands; magic = refused.page.0; broken = refused.page.1 }

pub returns-in-Err-BadJournal-clause-left : goal.returns-in-Err-BadJournal-clause-left
returns-in-Err-BadJournal-clause-left g c = λ t.
    let named : IsErrOf c.recover_superblock.result (BadJournal c.in-Err-BadJournal.at) = cc in
    c.recover_superblock.ensures.untouched t c.in-Err-BadJournal.at named

pub returns-in-Err-NotAStore-clause-left : goal.returns-in-Err-NotAStore-clause-left
returns-in-Err-NotAStore-clause-left g c = λ t.
    let named : IsErrOf c.recover_superblock.result NotAStore = cc in
    let refused = c.recover_superblock.ensures.not_a_store t named in record { ready = refused.ready; stands = refused.stands }

pub returns-in-Err-Version1-clause-left : goal.returns-in-Err-Version1-clause-left
returns-in-Err-Version1-clause-left g c = λ t.
    let named : IsErrOf c.recover_superblock.result Version1 = cc in
    let refused = c.recover_superblock.ensures.version1 t named in record { ready = refused.ready; stands = refused.stands }

pub returns-in-Err-Damaged-clause-left : goal.returns-in-Err-Damaged-clause-left
returns-in-Err-Damaged-clause-left g c = λ t.
    let named : IsErrOf c.recover_superblock.result (Damaged c.in-Err-Damaged.damage) = cc in
    let refused = (c.recover_superblock.ensures.damaged c.in-Err-Damaged.damage named).1 t in record { ready = refused.ready; stands = refused.stands }
