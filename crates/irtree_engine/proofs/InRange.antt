-- Page 0's fields are in their ranges where the pages stand for a state.
use Rattle.std.proofs.Common.{Ok, Err, Result}
use Rattle.page_face.specs.FreeList.{PageMap}
use Rattle.page_store.specs.declared.superblock.Superblock.{Superblock}
use Rattle.page_store.specs.Superblock.{IsInRange}
use Rattle.place_values.specs.State.{Contents}
use Rattle.place_values.specs.declared.update.UpdateFault.{UpdateFault}
use Rattle.store_model.specs.Stands.{PagesStand}
use Rattle.irtree_engine.specs.Updates.{StandForOutcome}

-- so they are for the state itself
pub stand-in_range : (block : Superblock) (pages : PageMap) (state : Contents) → PagesStand block pages state → IsInRange block
stand-in_range block pages state stand = stand.tables.range

-- and for what came out of updates
pub outcome-in_range : (outcome : Result Contents UpdateFault) (block : Superblock) (pages : PageMap) → StandForOutcome outcome block pages → IsInRange block
outcome-in_range (Ok after) block pages stand = stand-in_range block pages after stand
outcome-in_range (Err fault) block pages stand = absurd stand
