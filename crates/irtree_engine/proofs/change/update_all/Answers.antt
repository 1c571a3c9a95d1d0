use Rattle.irtree_engine.proofs.InRange.{outcome-in_range}
use Rattle.irtree_engine.proofs.change.update_all.Goals as goal

pub returns-in-Err-check_head-clause-due : goal.returns-in-Err-check_head-clause-due
returns-in-Err-check_head-clause-due g c = λ state stand told.
    absurd (c.in-Err-check_head.ensures.refuses (outcome-in_range _ _ _ (c.in-Ok.ensures.updated state stand)))
