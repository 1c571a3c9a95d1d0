-- The room of the disk, behind a settling.
use Rattle.std.proofs.Common.{◌≡◌, ℕ, sym, subst}
use Rattle.disk_model.specs.World.{Image}
use Rattle.page_store.specs.Contents.{Contents}
use Rattle.command_words.specs.declared.job.Action.{Action}
use Rattle.irtree_engine.specs.Queries.{contents_held}
use Rattle.irtree_engine.specs.Updates.{LacksPages, LacksRoom}
use Rattle.irtree_top.specs.Run.{LacksRoomFor, most_updates}

-- what lacked room lacks it where the room and what the image holds are as they were
pub lacks-settled : (action : Action) (batch room room' : ℕ) (image image' : Image) → room' ≡ room → contents_held image' ≡ contents_held image → LacksRoomFor action batch room image → LacksRoomFor action batch room' image'
lacks-settled action batch room room' image image' rooms alike lacks =
    let n = most_updates action batch in
    subst (λ (r : ℕ). LacksRoomFor action batch r image') (sym rooms)
    (subst (λ (h : Contents). LacksRoom n room h.block.counted × LacksPages n room h.pages h.block.counted h.block.first_free) (sym alike) lacks)
