use Rattle.std.proofs.Common.{◌∷◌, []}
use Rattle.store_model.proofs.Batches.{stand-plain}
use Rattle.irtree_engine.proofs.Numbers.{numbers-plain}
use Rattle.irtree_engine.proofs.InRange.{stand-in_range}
use Rattle.irtree_engine.proofs.change.update.Goals as goal

pub update_in_batch-requires-clause-numbers : goal.update_in_batch-requires-clause-numbers
update_in_batch-requires-clause-numbers g c = ([], numbers-plain [] (c.args.update.now ∷ []) c.args.head.now c.requires.numbers)

pub returns-in-Err-clause-due : goal.returns-in-Err-clause-due
returns-in-Err-clause-due g c = λ state stand told. c.in-Err.ensures.due state [] (stand-plain (c.args.update.now ∷ []) _ _ state stand) told

pub returns-in-Ok-check_head-clause-updated : goal.returns-in-Ok-check_head-clause-updated
returns-in-Ok-check_head-clause-updated g c = λ state stand.
    let h = c.in-Ok.ensures.updated state [] (stand-plain (c.args.update.now ∷ []) _ _ state stand) in
    (h.0, h.1.stand)

pub returns-in-Ok-check_head-clause-numbers : goal.returns-in-Ok-check_head-clause-numbers
returns-in-Ok-check_head-clause-numbers g c = c.in-Ok.ensures.numbers [] (numbers-plain [] (c.args.update.now ∷ []) c.args.head.now c.requires.numbers)

pub returns-in-Err-check_head-clause-due : goal.returns-in-Err-check_head-clause-due
returns-in-Err-check_head-clause-due g c = λ state stand told.
    let h = c.in-Ok.ensures.updated state [] (stand-plain (c.args.update.now ∷ []) _ _ state stand) in
    absurd (c.in-Err-check_head.ensures.refuses (stand-in_range _ _ _ h.1.stand))
