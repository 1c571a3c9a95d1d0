use Rattle.std.proofs.Common.{◌≡◌, inl, Err, ap}
use Rattle.page_face.specs.declared.fault.PageFault.TheVariants.{Damaged}
use Rattle.query_execution.proofs.weighing.weight_of.Goals as goal

pub returns-in-Err-clause-damaged : goal.returns-in-Err-clause-damaged
returns-in-Err-clause-damaged g c = λ told damage is.
    let same : c.in-Err.fault ≡ Damaged damage = cc is in
    inl (c.in-Err.ensures.damaged told damage (ap Err same))
