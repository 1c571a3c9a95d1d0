use Rattle.std.proofs.Common.{◌≡◌, true, length, sym, ◌∙◌, ap, rules}
use Rattle.std.proofs.lemmas.Bool.{cond-true}
use Rattle.disk_model.specs.World.{Image}
use Rattle.disk_model.specs.Replay.{overwritten, range_of}
use Rattle.disk_model.proofs.crash.follow_write.Goals as goal

pub returns : goal.returns
returns c =
    let done : c.args.done ≡ true = search rules in
    c.write.ensures
    ∙ ap (λ (s : Image). overwritten (range_of c.args.area c.args.at (length c.args.bytes.now)) c.args.bytes.now s) c.in_ok-reserve.ensures.same
    ∙ sym (cond-true _ _ _ done)
