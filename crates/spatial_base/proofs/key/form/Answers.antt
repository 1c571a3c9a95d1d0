use Rattle.std.proofs.Common.{refl}
use Rattle.spatial_base.proofs.KeyForms.{framed}
use Rattle.spatial_base.proofs.key.form.Goals as goal

pub returns : goal.returns
returns c = framed c.args.kind c.copy_from_slice.new.self c.args.content.now _ c.copy_from_slice.ensures.after c.requires refl
