-- What stands in a page alone reaches nowhere behind its four sides.
use Rattle.std.proofs.Common.{◌≡◌, ℕ, zero, suc, ◌≤◌, Bool, true, false, ◌&&◌, nat_lt, arith, refl, List, Some, None}
use Rattle.std.specs.Prelude.{if◌then◌else◌}
use Rattle.rtree_nodes.specs.Slots.{Item, NodeView, Held, no_slots}
use Rattle.rtree_nodes.specs.Cells.{item_in}
use Rattle.rtree_nodes.specs.Pages.{level_in, is_used, cell_at, item_at, is_form, stored_in, node_of}

-- an item reaches nowhere behind its sides
abbrev pub IsBare : Item → Type 0
IsBare x = (d : ℕ) → 4 ≤ d → x.reach d ≡ 0

cell_bare : (level : ℕ) (cell : List ℕ) → IsBare (item_in level cell)
cell_bare zero cell zero l = absurd (omega arith)
cell_bare zero cell (suc zero) l = absurd (omega arith)
cell_bare zero cell (suc (suc zero)) l = absurd (omega arith)
cell_bare zero cell (suc (suc (suc zero))) l = absurd (omega arith)
cell_bare zero cell (suc (suc (suc (suc d)))) l = refl
cell_bare (suc level) cell zero l = absurd (omega arith)
cell_bare (suc level) cell (suc zero) l = absurd (omega arith)
cell_bare (suc level) cell (suc (suc zero)) l = absurd (omega arith)
cell_bare (suc level) cell (suc (suc (suc zero))) l = absurd (omega arith)
cell_bare (suc level) cell (suc (suc (suc (suc d)))) l = refl

slot_bare : (page : List ℕ) (i : ℕ) (used : Bool) → Held IsBare (if used then Some (item_at page i) else None)
slot_bare page i true = cell_bare (level_in page) (cell_at page i)
slot_bare page i false = tt

stored_bare : (page : List ℕ) (i : ℕ) → Held IsBare (stored_in page i)
unfolding stored_in
stored_bare page i = slot_bare page i (nat_lt i 32 && is_used page i)

-- nor does anything in a node by its page
pub node-bare : (page : List ℕ) (i : ℕ) → Held IsBare ((node_of page).slots i)
unfolding node_of
node-bare page i = by (is_form page)
  where
    either : Bool → NodeView
    either b = if b then record { level = level_in page; slots = stored_in page } else record { level = 0; slots = no_slots }

    by : (b : Bool) → Held IsBare ((either b).slots i)
    by true = stored_bare page i
    by false = tt
