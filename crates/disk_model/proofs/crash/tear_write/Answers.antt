use Rattle.std.proofs.Common.{ℕ, ◌∷◌, [], Option, ap, ◌∙◌, sym}
use Rattle.disk_model.specs.World.{Image}
use Rattle.disk_model.specs.Replay.{range_of}
use Rattle.disk_model.specs.Crash.{filled, torn_over}
use Rattle.disk_model.specs.Stored.{image_of}
use Rattle.disk_model.proofs.crash.tear_write.Goals as goal

pub returns : goal.returns
returns c =
    let r = range_of c.args.area c.args.at c.args.len in
    c.fill.ensures ∙ ap (λ (image : Image). filled (r ∷ []) c.in-Some.byte image) c.in_ok-reserve.ensures.same
    ∙ ap (λ (b : Option ℕ). torn_over b r (image_of c.args.left.now)) (sym c.in-Some.is)
