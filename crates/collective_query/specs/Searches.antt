-- A call that searches a tree. `g` is what a bound `P: Pages` gives, in a clause `P.Pages`.
use Rattle.std.specs.Prelude.{◌≡◌, ◌≢◌, ◌⊎◌, ℕ, List, ◌++◌, Result, Err, IsErrOf, OnOk}
use Rattle.page_face.specs.Calls.{Reads, FailsReading}
use Rattle.page_face.specs.FreeList.{PageMap}
use Rattle.page_face.specs.declared.fault.Damage.{Damage}
use Rattle.page_face.specs.declared.fault.PageFault.{PageFault}
use Rattle.page_face.specs.declared.fault.PageFault.TheVariants.{Damaged}
use Rattle.page_face.specs.declared.pages.Pages.{Ghosts}
use Rattle.btree_nodes.specs.Damages.{AreReadable}
use Rattle.node_rows.specs.declared.roots.Tree.{Tree}
use Rattle.best_first.specs.Fits.{FitsTree}
use Rattle.best_first.specs.Harms.{IsHarm}
use Rattle.boolean_queries.specs.Harms.{IsQueryHarm}

-- a page of the tree or of its rows of words that was asked for breaks a rule, as a walk says it or as a ranked search does
abbrev pub IsSearchHarm : PageMap → ℕ → Tree → List ℕ → List ℕ → Damage → Type 0
IsSearchHarm pages count tree before after damage =
    IsQueryHarm pages count tree.rows tree.root before after damage ⊎ IsHarm pages count tree.rows before after damage

-- more pages were asked for
pub record GoesOn (old new : List ℕ) : Type 0 where
  pub more : List ℕ
  pub is : new ≡ old ++ more

-- Over a whole tree no page is damaged. A page that is damaged was asked for in this call and breaks a rule.
pub record Searches {P X : Type 0} (g : Ghosts P) (tree : Tree) (old new : P) (result : Result X PageFault) : Type 0 where
  pub no_false_damage : FitsTree (g.pages old) (g.count old) (g.first old) tree → (damage : Damage) → result ≢ Err (Damaged damage)
  pub damaged : AreReadable (g.pages old) (g.count old) → (damage : Damage) → IsErrOf result (Damaged damage)
      → IsSearchHarm (g.pages old) (g.count old) tree (g.asked old) (g.asked new) damage
  pub log : AreReadable (g.pages old) (g.count old) → OnOk result (GoesOn (g.asked old) (g.asked new))
  pub fails : FailsReading g old new result
  pub frame : Reads g old new
