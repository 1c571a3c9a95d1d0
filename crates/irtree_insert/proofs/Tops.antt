-- Roots whose level a page says.
use Rattle.std.proofs.Common.{◌≡◌, ℕ, ◌≤◌, ◌^◌, Option, arith, subst}
use Rattle.page_face.specs.FreeList.{PageMap}
use Rattle.rtree_nodes.specs.Slots.{Item}
use Rattle.rtree_nodes.specs.Stock.{View}
use Rattle.rtree_nodes.proofs.Heights.{node-level}
use Rattle.rtree_nodes.specs.Pages.{node_of}
use Rattle.irtree_shape.specs.Made.{IsOpen, Puts, nodes_in}

-- the same level, by another name
pub puts-level : {a : View} {pages : PageMap} {rows count first least level level' page : ℕ} (goal : ℕ) (x : Item) {more : Option Item} {told : ℕ → ℕ} {rise : ℕ → Type 0} → level ≡ level'
    → Puts node_of a pages rows count first least level page goal x more told rise → Puts node_of a pages rows count first least level' page goal x more told rise
puts-level {a = a} {pages = pages} {rows = rows} {count = count} {first = first} {least = least} {page = page} goal x {more = more} {told = told} {rise = rise} e put =
    subst (λ (l : ℕ). Puts node_of a pages rows count first least l page goal x more told rise) e put

-- the same of a page that is open
pub open-of-level : {v : View} {least level level' page goal : ℕ} {x : Item} → level ≡ level' → IsOpen node_of v least level page goal x → IsOpen node_of v least level' page goal x
open-of-level {v = v} {least = least} {page = page} {goal = goal} {x = x} e opened = subst (λ (l : ℕ). IsOpen node_of v least l page goal x) e opened

-- a node below which an item may be put in isn't above level 9
pub open-low : (v : View) (least level page goal : ℕ) (x : Item) → v.count ≤ 2 ^ 32 → IsOpen node_of v least level page goal x → level ≤ 9
open-low v least level page goal x small opened =
    node-level (nodes_in node_of v.pages v.rows) v least level page opened.node opened.some (λ n. let o = opened.once n in omega arith) small
