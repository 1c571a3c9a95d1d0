use Rattle.store_verify.proofs.SitePlaces.{leaves-apart, leaves-decide}
use Rattle.store_verify.proofs.leaves.leaves_agree.Goals as goal

pub returns-clause-agree : goal.returns-clause-agree
returns-clause-agree c = λ found places ascend.
    leaves-decide c.args.found.now c.sort_unstable.new.self c.args.places.now found places ascend c.sort_unstable.ensures.permutation c.sort_unstable.ensures.sorted c.are_same.result c.are_same.ensures

pub returns-clause-apart : goal.returns-clause-apart
returns-clause-apart c = λ found places ascend.
    leaves-apart c.args.found.now c.sort_unstable.new.self c.args.places.now found places ascend c.sort_unstable.ensures.permutation c.sort_unstable.ensures.sorted c.are_same.result c.are_same.ensures
