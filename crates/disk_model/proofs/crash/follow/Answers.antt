use Rattle.std.proofs.Common.{◌≡◌, List, ℕ, ◌∙◌, ap, cond, length, rules}
use Rattle.disk_model.specs.World.{Image}
use Rattle.disk_model.specs.Replay.{overwritten, range_of}
use Rattle.disk_model.specs.Crash.{torn_over}
use Rattle.disk_model.specs.Stored.{image_of}
use Rattle.std.proofs.lemmas.Result.{on_ok_weaker}
use Rattle.disk_model.proofs.Crashes.{followed_write, followed_sync}
use Rattle.disk_model.proofs.crash.follow.Goals as goal

pub returns-in_ok-follow_write-in-Write : goal.returns-in_ok-follow_write-in-Write
returns-in_ok-follow_write-in-Write c =
    let held : Image = image_of c.args.held.now in
    on_ok_weaker c.tear_write.result (λ torn st seen leaves. followed_write c.args.byte st c.args.call.now c.in-Write.area c.in-Write.at c.in-Write.bytes c.in-Write.done _ _ _ _ c.in-Write.is
    (c.in_ok-follow_write-in-Write.ensures
    ∙ ap (λ (l : List ℕ). cond c.in-Write.done (overwritten (range_of c.in-Write.area c.in-Write.at (length l)) l held) held) c.deref.ensures.value)
    (let same : c.len.result ≡ length c.in-Write.bytes.items = search rules in
    torn ∙ ap (λ (n : ℕ). torn_over c.args.byte (range_of c.in-Write.area c.in-Write.at n) (image_of c.args.left.now)) same)
    seen leaves) c.tear_write.ensures

pub returns-in_ok-take_over-in-Sync : goal.returns-in_ok-take_over-in-Sync
returns-in_ok-take_over-in-Sync c = λ st seen leaves. followed_sync c.args.byte st c.args.call.now _ _ _ _ _ c.in-Sync.is c.if-done.true c.in_ok-take_over-in-Sync.ensures seen leaves
