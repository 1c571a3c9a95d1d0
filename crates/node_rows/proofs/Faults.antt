-- Frames and damages of calls of several steps.
use Rattle.std.proofs.Common.{ℕ, List, arith, refl}
use Rattle.page_face.specs.Calls.{Changes, Reads}
use Rattle.page_face.specs.FreeList.{PageMap}
use Rattle.page_face.specs.declared.fault.Damage.{Damage}
use Rattle.page_face.specs.declared.pages.Pages.{Ghosts}
use Rattle.btree_nodes.specs.Damages.{AsksOnly}
use Rattle.btree_nodes.proofs.Harms.{asked-before}
use Rattle.node_rows.specs.Damages.{IsRowsDamage}

-- no step
pub changes-none : {P : Type 0} (g : Ghosts P) (a : P) → g.follows_from a a → Changes g a a
changes-none g a f = record { count = omega arith; room = refl; faults = omega arith; refused = omega arith; goes_on = refl; follows = f }

-- no step of a call that reads
pub reads-none : {P : Type 0} (g : Ghosts P) (a : P) → g.only_reads a a → g.follows_from a a → Reads g a a
reads-none g a r f = record { pages = refl; count = refl; first = refl; room = refl; faults = omega arith; refused = refl; goes_on = refl; only_reads = r; follows = f }

-- the damage of a later step of a call that reads
pub damage-later : (pages : PageMap) (count root : ℕ) (mine : ℕ → ℕ) (before middle after : List ℕ) (damage : Damage) → AsksOnly mine before middle → IsRowsDamage pages count root middle after damage → IsRowsDamage pages count root before after damage
damage-later pages count root mine before middle after damage own d = (d.0, asked-before mine before middle after damage.page own d.1)
