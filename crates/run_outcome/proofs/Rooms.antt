-- Room that is wanting, by what the image holds.
use Rattle.std.proofs.Common.{◌≡◌, ℕ, ◌≤◌, Bool, IsTrue, [], sym, subst, arith}
use Rattle.disk_model.specs.World.{World, Image}
use Rattle.page_face.specs.FreeList.{PageMap}
use Rattle.page_journal.specs.Record.{applied}
use Rattle.page_store.specs.Contents.{Contents, IsCommitted, Overlay, counted_pages, shown}
use Rattle.page_store.specs.declared.superblock.Superblock.{Superblock}
use Rattle.irtree_engine.specs.Queries.{contents_held}
use Rattle.irtree_engine.specs.Updates.{LacksPages, LacksRoom}
use Rattle.irtree_engine.proofs.Standing.{committed-held}
use Rattle.run_outcome.specs.Causes.{LacksRoomIn}

-- what lacked room for some updates, by these contents
abbrev Lacked : ℕ → ℕ → Contents → Type 0
Lacked n room held = LacksRoom n room held.block.counted × LacksPages n room held.pages held.block.counted held.block.first_free

-- lacks it for more
more-lack : (n more room : ℕ) (held : Contents) → n ≤ more → Lacked n room held → Lacked more room held
more-lack n more room held few lacks = (let h = lacks.0 in omega (arith, few, h), λ free list. let l = lacks.1 free list in omega (arith, few, l))

-- so it does by what an image holds
pub lacks-more : (n more room : ℕ) (image : Image) → n ≤ more → LacksRoomIn n room image → LacksRoomIn more room image
lacks-more n more room image few lacks = more-lack n more room (contents_held image) few lacks

-- What lacked room for some updates lacks it for more by what the image holds, where page 0's fields are as they were and nothing waits to be
-- committed.
pub lacks-image : (n more room_old room : ℕ) (was : Superblock) (readable : Bool) (world : World) (current last : Superblock) (overlay : Overlay) (end : ℕ)
    → IsTrue readable → n ≤ more → room ≡ room_old → current ≡ was → overlay.entries ≡ [] → current ≡ last → IsCommitted last end world
    → LacksRoom n room_old was.counted → LacksPages n room_old (counted_pages current.counted (shown readable (applied world.seen) overlay)) was.counted was.first_free
    → LacksRoomIn more room world.seen
lacks-image n more room_old room was readable world current last overlay end told few rooms same clean settled committed lacks free_lacks =
    let shows : PageMap = counted_pages current.counted (shown readable (applied world.seen) overlay) in
    let here = subst (λ (b : Superblock). LacksRoom n room_old b.counted × LacksPages n room_old shows b.counted b.first_free) (sym same) (lacks, free_lacks) in
    let now = subst (λ (r : ℕ). LacksRoom n r current.counted × LacksPages n r shows current.counted current.first_free) (sym rooms) here in
    subst (λ (h : Contents). Lacked more room h) (committed-held readable world overlay current last end told clean settled committed)
    (more-lack n more room (record { block = current; pages = shows }) few now)
