use Rattle.std.proofs.Common.{IsErrOf}
use Rattle.page_journal.specs.declared.fault.JournalFault.TheVariants.{BadJournal}
use Rattle.page_store.proofs.OpeningReads.{recovery_is_quiet, opening_is_quiet, recovery_recovers, opening_recovers}
use Rattle.page_store.proofs.opening.recover_first_page.Goals as goal

pub returns-in-Err-BadJournal-clause-bad : goal.returns-in-Err-BadJournal-clause-bad
returns-in-Err-BadJournal-clause-bad g c = λ t at is.
    let named : IsErrOf c.recover.result (BadJournal at) = cc in
    c.recover.ensures.bad t at named

pub returns-in-Err-BadJournal-clause-untouched : goal.returns-in-Err-BadJournal-clause-untouched
returns-in-Err-BadJournal-clause-untouched g c = λ t at is.
    let named : IsErrOf c.recover.result (BadJournal at) = cc in
    c.recover.ensures.untouched t at named

pub returns-in-Err-BadJournal-clause-quiet : goal.returns-in-Err-BadJournal-clause-quiet
returns-in-Err-BadJournal-clause-quiet g c = λ t. recovery_is_quiet (c.recover.ensures.quiet t)

pub returns-in_default-clause-quiet : goal.returns-in_default-clause-quiet
returns-in_default-clause-quiet g c = λ t. opening_is_quiet (c.recover.ensures.quiet t) (c.read_page.ensures.reads t)

pub returns-clause-quiet : goal.returns-clause-quiet
returns-clause-quiet g c = λ t. opening_is_quiet (c.recover.ensures.quiet t) (c.read_page.ensures.reads t)

pub returns-in-Err-Disk-clause-recovers : goal.returns-in-Err-Disk-clause-recovers
returns-in-Err-Disk-clause-recovers g c = λ t. recovery_recovers (c.recover.ensures.closed t) (c.recover.ensures.journal t)

pub returns-in-Err-BadJournal-clause-recovers : goal.returns-in-Err-BadJournal-clause-recovers
returns-in-Err-BadJournal-clause-recovers g c = λ t. recovery_recovers (c.recover.ensures.closed t) (c.recover.ensures.journal t)

pub returns-in_default-clause-recovers : goal.returns-in_default-clause-recovers
returns-in_default-clause-recovers g c = λ t. opening_recovers (c.recover.ensures.closed t) (c.recover.ensures.journal t) (c.read_page.ensures.reads t)

pub returns-clause-recovers : goal.returns-clause-recovers
returns-clause-recovers g c = λ t. opening_recovers (c.recover.ensures.closed t) (c.recover.ensures.journal t) (c.read_page.ensures.reads t)
