use Rattle.std.proofs.Common.{subst}
use Rattle.spatial_base.specs.Key.{IsName}
use Rattle.spatial_base.proofs.Names.{IsName-had}
use Rattle.spatial_base.proofs.key.Key.bytes.Goals as goal

pub returns-clause-name : goal.returns-clause-name
returns-clause-name c = subst IsName c.self.view_is (IsName-had _ c.self.invariant.1)
