use Rattle.std.proofs.Common.{IsErrOf}
use Rattle.std.proofs.lemmas.Result.{err_from_is_err_and}
use Rattle.page_store.specs.declared.opening.OpenFault.TheVariants.{BadJournal}
use Rattle.page_store.proofs.store.Store.open.Goals as goal

pub returns-in_err-block-clause-bad : goal.returns-in_err-block-clause-bad
returns-in_err-block-clause-bad g c = λ t at is.
    let passed = err_from_is_err_and c.from_residual.result c.from_residual.ensures.1 in
    let fault_is = passed.1 in
    let same = passed.2 in
    let was = c.in_err-block.was in
    let named : IsErrOf c.recover_superblock.result (BadJournal at) = cc in
    c.recover_superblock.ensures.bad t at named
