use Rattle.store_verify.proofs.SitePlaces.{sites-decide}
use Rattle.store_verify.proofs.leaves.are_same.Goals as goal

pub returns : goal.returns
returns c = sites-decide c.args.sites.now c.args.others.now c.eq.result c.eq.ensures
