use Rattle.std.proofs.Common.{◌∙◌}
use Rattle.spatial_base.proofs.KeyOrder.{bytes_cmp}
use Rattle.spatial_base.proofs.key.KeyOrd.cmp.Goals as goal

pub returns : goal.returns
returns c =
    c.cmp.ensures
    ∙ bytes_cmp c.self.inside.bytes c.other.inside.bytes c.args.self.now c.args.other.now c.self.invariant.0 c.other.invariant.0 c.self.invariant.1 c.other.invariant.1 c.self.view_is c.other.view_is
