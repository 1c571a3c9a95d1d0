-- A call that looks at rows of words alone. `g` is what a bound `P: Pages` gives, in a clause `P.Pages`.
use Rattle.std.specs.Prelude.{◌≢◌, ℕ, Result, Err, IsErrOf}
use Rattle.page_face.specs.Calls.{Reads, FailsReading}
use Rattle.page_face.specs.declared.fault.Damage.{Damage}
use Rattle.page_face.specs.declared.fault.PageFault.{PageFault}
use Rattle.page_face.specs.declared.fault.PageFault.TheVariants.{Damaged}
use Rattle.page_face.specs.declared.pages.Pages.{Ghosts}
use Rattle.btree_nodes.specs.Damages.{AreReadable, AskedSince, AsksOnly}
use Rattle.btree_nodes.specs.Tree.{IsMap, map_uses}
use Rattle.paged_map.specs.Maps.{AreCounted, IsMapDamaged}
use Rattle.rtree_nodes.specs.Stock.{rows_form}

-- On a well-formed map of rows whose pages are counted no page is damaged. A page that is damaged is one of the map that was asked for, with a rule that it breaks; no other page is asked for.
pub record LooksAtRows {P X : Type 0} (g : Ghosts P) (root : ℕ) (old new : P) (result : Result X PageFault) : Type 0 where
  pub no_false_damage : IsMap rows_form (g.pages old) root → AreCounted (map_uses rows_form (g.pages old) root) (g.count old) → AreReadable (g.pages old) (g.count old)
      → (damage : Damage) → result ≢ Err (Damaged damage)
  pub damaged : AreReadable (g.pages old) (g.count old) → (damage : Damage) → IsErrOf result (Damaged damage)
      → IsMapDamaged rows_form (g.pages old) (g.count old) root damage × AskedSince (g.asked old) (g.asked new) damage.page
  pub own : AreReadable (g.pages old) (g.count old) → AsksOnly (map_uses rows_form (g.pages old) root) (g.asked old) (g.asked new)
  pub fails : FailsReading g old new result
  pub frame : Reads g old new
