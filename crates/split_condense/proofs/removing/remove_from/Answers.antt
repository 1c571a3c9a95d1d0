use Rattle.std.proofs.Common.{arith, ◌≡◌, ◌<◌, ◌∙◌, ℕ, List, [], Option, None, Some, Err, IfSome, option_map, ap, refl, sym, subst}
use Rattle.page_face.specs.FreeList.{PageMap}
use Rattle.page_face.specs.declared.fault.PageFault.{PageFault}
use Rattle.btree_nodes.proofs.Harms.{asks-further}
use Rattle.btree_nodes.proofs.Walks.{same-fault}
use Rattle.rtree_nodes.specs.Slots.{Item}
use Rattle.rtree_nodes.specs.Stock.{View, view}
use Rattle.rtree_nodes.specs.Loose.{Loose}
use Rattle.rtree_nodes.specs.Pages.{node_of}
use Rattle.rtree_nodes.specs.Reach.{item_of}
use Rattle.rtree_nodes.specs.declared.content.Slot.{Slot}
use Rattle.node_rows.specs.Impacts.{impact_in}
use Rattle.irtree_shape.specs.Words.{worded}
use Rattle.irtree_shape.specs.Made.{nodes_in}
use Rattle.irtree_shape.specs.Steps.{bounding_child_in, bounding_child}
use Rattle.irtree_shape.specs.Loose.{TakesOut, IsStanding}
use Rattle.irtree_shape.specs.Whole.{level_at, tree_uses}
use Rattle.irtree_shape.proofs.Harms.{tree-later}
use Rattle.irtree_shape.proofs.Fells.{left_sums, felled_empty, out_standing, out_sums}
use Rattle.split_condense.specs.declared.orphan.Orphan.{Orphan}
use Rattle.split_condense.specs.Orphans.{loose_in, AreLow, IsChildOf}
use Rattle.split_condense.proofs.Removes.{root-some, none-left, whole-some, whole-level-in, whole-leaf, root-taking}
use Rattle.split_condense.proofs.Standings.{standing-told}
use Rattle.split_condense.proofs.removing.remove_from.Goals as goal

-- the tree is empty
pub returns-in-Ok-None-clause-felled : goal.returns-in-Ok-None-clause-felled
returns-in-Ok-None-clause-felled g c = λ free x whole leads.
    let old : PageMap = g.P.Pages.pages c.args.pages.now in
    let rows : ℕ = c.args.tree.now.rows in
    let count : ℕ = g.P.Pages.count c.args.pages.now in
    let first : ℕ = g.P.Pages.first c.args.pages.now in
    let mid : PageMap = g.P.Pages.pages c.take_out.new.pages in
    let mid_rows : ℕ = c.take_out.new.tree.rows in
    let mid_count : ℕ = g.P.Pages.count c.take_out.new.pages in
    let mid_first : ℕ = g.P.Pages.first c.take_out.new.pages in
    let root : ℕ = c.args.tree.now.root in
    let path : List ℕ = c.args.path.now in
    let before : View = view old rows count first free in
    let y : Item = worded (impact_in c.args.words.now) x in
    let top : ℕ = level_at (nodes_in node_of old rows) root in
    let some : 0 < root = root-some (Option Slot) PageFault count root c.in-Ok-None.field-0 c.in-Ok-None.ensures.counted in
    let is : c.args.level ≡ level_at (nodes_in node_of old rows) root = c.in-Ok-None.ensures.level_is (whole-some old rows count first root free some whole) ∙ whole-level-in old rows count first root free some whole in
    let taking = root-taking old rows count first root free some whole c.args.level path y c.new-orphans.result.items is c.new-orphans.ensures.items leads in
    let out-o = c.in-Ok-None.ensures.taken free x taking in
    let out-n = subst (λ (o : Option Slot). TakesOut node_of before mid mid_rows mid_count mid_first 1 c.args.level root y (bounding_child_in (nodes_in node_of mid mid_rows) (option_map item_of o)) (loose_in c.new-orphans.result.items) (loose_in c.take_out.new.orphans.items)) c.in-Ok-None.field-0-is out-o in
    let out-e = subst (λ (os : List Orphan). TakesOut node_of before mid mid_rows mid_count mid_first 1 c.args.level root y None (loose_in os) (loose_in c.take_out.new.orphans.items)) c.new-orphans.ensures.items out-n in
    let out = subst (λ (l : ℕ). TakesOut node_of before mid mid_rows mid_count mid_first 1 l root y None [] (loose_in c.take_out.new.orphans.items)) is out-e in
    felled_empty node_of before root path y some whole mid mid_rows mid_count mid_first
    (subst (λ (os : List Orphan). TakesOut node_of before mid mid_rows mid_count mid_first 1 (level_at (nodes_in node_of old rows) root) root y None [] (loose_in os))
    (none-left c.new-orphans.result.items c.take_out.new.orphans.items c.new-orphans.ensures.items (c.in-Ok-None.ensures.gone refl c.in-Ok-None.field-0-is)) out)

-- the path isn't that of an entry
pub returns-in-Err-clause-no_false_damage : goal.returns-in-Err-clause-no_false_damage
returns-in-Err-clause-no_false_damage g c = λ free x whole some leads is told damage e.
    let old : PageMap = g.P.Pages.pages c.args.pages.now in
    let rows : ℕ = c.args.tree.now.rows in
    let count : ℕ = g.P.Pages.count c.args.pages.now in
    let first : ℕ = g.P.Pages.first c.args.pages.now in
    let root : ℕ = c.args.tree.now.root in
    let path : List ℕ = c.args.path.now in
    let before : View = view old rows count first free in
    let y : Item = worded (impact_in c.args.words.now) x in
    let top : ℕ = level_at (nodes_in node_of old rows) root in
    let taking = root-taking old rows count first root free some whole c.args.level path y c.new-orphans.result.items is c.new-orphans.ensures.items leads in
    c.in-Err.ensures.no_false_damage free x taking (λ one up alone. let z = whole-leaf old rows count first root free some whole (omega arith) in omega arith) told damage (ap Err (same-fault {T = Unit {0}} _ _ e))

-- the root stands, and the orphans were put back
pub returns-in-Ok-clause-felled : goal.returns-in-Ok-clause-felled
returns-in-Ok-clause-felled g c = λ free x whole leads.
    let old : PageMap = g.P.Pages.pages c.args.pages.now in
    let rows : ℕ = c.args.tree.now.rows in
    let count : ℕ = g.P.Pages.count c.args.pages.now in
    let first : ℕ = g.P.Pages.first c.args.pages.now in
    let mid : PageMap = g.P.Pages.pages c.take_out.new.pages in
    let mid_rows : ℕ = c.take_out.new.tree.rows in
    let mid_count : ℕ = g.P.Pages.count c.take_out.new.pages in
    let mid_first : ℕ = g.P.Pages.first c.take_out.new.pages in
    let root : ℕ = c.args.tree.now.root in
    let path : List ℕ = c.args.path.now in
    let before : View = view old rows count first free in
    let y : Item = worded (impact_in c.args.words.now) x in
    let top : ℕ = level_at (nodes_in node_of old rows) root in
    let z : Item = bounding_child (nodes_in node_of mid mid_rows) (item_of c.in-Ok-Some.field-0-0) in
    let loose : Loose = loose_in c.take_out.new.orphans.items in
    let some : 0 < root = root-some (Option Slot) PageFault count root c.in-Ok-Some.field-0 c.in-Ok-Some.ensures.counted in
    let is : c.args.level ≡ level_at (nodes_in node_of old rows) root = c.in-Ok-Some.ensures.level_is (whole-some old rows count first root free some whole) ∙ whole-level-in old rows count first root free some whole in
    let taking = root-taking old rows count first root free some whole c.args.level path y c.new-orphans.result.items is c.new-orphans.ensures.items leads in
    let out-o = c.in-Ok-Some.ensures.taken free x taking in
    let out-n = subst (λ (o : Option Slot). TakesOut node_of before mid mid_rows mid_count mid_first 1 c.args.level root y (bounding_child_in (nodes_in node_of mid mid_rows) (option_map item_of o)) (loose_in c.new-orphans.result.items) (loose_in c.take_out.new.orphans.items)) c.in-Ok-Some.field-0-is out-o in
    let out-e = subst (λ (os : List Orphan). TakesOut node_of before mid mid_rows mid_count mid_first 1 c.args.level root y (Some z) (loose_in os) (loose_in c.take_out.new.orphans.items)) c.new-orphans.ensures.items out-n in
    let out = subst (λ (l : ℕ). TakesOut node_of before mid mid_rows mid_count mid_first 1 l root y (Some z) [] (loose_in c.take_out.new.orphans.items)) is out-e in
    let here = subst (λ (o : Option Slot). IfSome o (IsChildOf root)) c.in-Ok-Some.field-0-is c.in-Ok-Some.ensures.here in
    let low : AreLow (level_at (nodes_in node_of old rows) root) loose = c.in-Ok-Some.ensures.low (level_at (nodes_in node_of old rows) root) (omega arith)
    (subst (λ (os : List Orphan). AreLow (level_at (nodes_in node_of old rows) root) (loose_in os)) (sym c.new-orphans.ensures.items) tt) in
    let standing = out_standing node_of before root path y some whole mid mid_rows mid_count mid_first z loose here.1 low out in
    let sums : (Item → ℕ) → ℕ = left_sums (nodes_in node_of mid mid_rows) top root loose in
    let mine : ℕ → ℕ = tree_uses (nodes_in node_of old rows) root in
    let standing' : IsStanding node_of before (view mid mid_rows mid_count mid_first out.free) top c.take_out.new.tree.root loose mine sums =
    subst (λ (k : ℕ). IsStanding node_of before (view mid mid_rows mid_count mid_first out.free) top k loose mine sums) (sym c.in-Ok-Some.ensures.root) standing in
    let h = c.in-Ok.ensures.standing before out.free top mine sums whole.supplied standing' in
    c.lower_root.ensures.lowered before h.free h.level root y sums whole h.standing (out_sums node_of before root path y some whole mid mid_rows mid_count mid_first z loose here.1 out)

pub returns-in-Ok-clause-no_false_damage : goal.returns-in-Ok-clause-no_false_damage
returns-in-Ok-clause-no_false_damage g c = λ free x whole some leads is told damage e.
    let old : PageMap = g.P.Pages.pages c.args.pages.now in
    let rows : ℕ = c.args.tree.now.rows in
    let count : ℕ = g.P.Pages.count c.args.pages.now in
    let first : ℕ = g.P.Pages.first c.args.pages.now in
    let mid : PageMap = g.P.Pages.pages c.take_out.new.pages in
    let mid_rows : ℕ = c.take_out.new.tree.rows in
    let mid_count : ℕ = g.P.Pages.count c.take_out.new.pages in
    let mid_first : ℕ = g.P.Pages.first c.take_out.new.pages in
    let root : ℕ = c.args.tree.now.root in
    let path : List ℕ = c.args.path.now in
    let before : View = view old rows count first free in
    let y : Item = worded (impact_in c.args.words.now) x in
    let top : ℕ = level_at (nodes_in node_of old rows) root in
    let z : Item = bounding_child (nodes_in node_of mid mid_rows) (item_of c.in-Ok-Some.field-0-0) in
    let loose : Loose = loose_in c.take_out.new.orphans.items in
    let taking = root-taking old rows count first root free some whole c.args.level path y c.new-orphans.result.items is c.new-orphans.ensures.items leads in
    let out-o = c.in-Ok-Some.ensures.taken free x taking in
    let out-n = subst (λ (o : Option Slot). TakesOut node_of before mid mid_rows mid_count mid_first 1 c.args.level root y (bounding_child_in (nodes_in node_of mid mid_rows) (option_map item_of o)) (loose_in c.new-orphans.result.items) (loose_in c.take_out.new.orphans.items)) c.in-Ok-Some.field-0-is out-o in
    let out-e = subst (λ (os : List Orphan). TakesOut node_of before mid mid_rows mid_count mid_first 1 c.args.level root y (Some z) (loose_in os) (loose_in c.take_out.new.orphans.items)) c.new-orphans.ensures.items out-n in
    let out = subst (λ (l : ℕ). TakesOut node_of before mid mid_rows mid_count mid_first 1 l root y (Some z) [] (loose_in c.take_out.new.orphans.items)) is out-e in
    let here = subst (λ (o : Option Slot). IfSome o (IsChildOf root)) c.in-Ok-Some.field-0-is c.in-Ok-Some.ensures.here in
    let low : AreLow (level_at (nodes_in node_of old rows) root) loose = c.in-Ok-Some.ensures.low (level_at (nodes_in node_of old rows) root) (omega arith)
    (subst (λ (os : List Orphan). AreLow (level_at (nodes_in node_of old rows) root) (loose_in os)) (sym c.new-orphans.ensures.items) tt) in
    let standing = out_standing node_of before root path y some whole mid mid_rows mid_count mid_first z loose here.1 low out in
    let sums : (Item → ℕ) → ℕ = left_sums (nodes_in node_of mid mid_rows) top root loose in
    let mine : ℕ → ℕ = tree_uses (nodes_in node_of old rows) root in
    let standing' : IsStanding node_of before (view mid mid_rows mid_count mid_first out.free) top c.take_out.new.tree.root loose mine sums =
    subst (λ (k : ℕ). IsStanding node_of before (view mid mid_rows mid_count mid_first out.free) top k loose mine sums) (sym c.in-Ok-Some.ensures.root) standing in
    let h = c.in-Ok.ensures.standing before out.free top mine sums whole.supplied standing' in
    c.lower_root.ensures.no_false_damage before h.free h.level mine sums whole.supplied h.standing
    (standing-told before (view (g.P.Pages.pages c.put_back.new.pages) c.put_back.new.tree.rows (g.P.Pages.count c.put_back.new.pages) (g.P.Pages.first c.put_back.new.pages) h.free) h.level c.put_back.new.tree.root [] mine sums h.standing told) damage e

pub returns-clause-no_false_damage : goal.returns-clause-no_false_damage
returns-clause-no_false_damage g c = λ free x whole some leads is told damage e.
    let old : PageMap = g.P.Pages.pages c.args.pages.now in
    let rows : ℕ = c.args.tree.now.rows in
    let count : ℕ = g.P.Pages.count c.args.pages.now in
    let first : ℕ = g.P.Pages.first c.args.pages.now in
    let mid : PageMap = g.P.Pages.pages c.take_out.new.pages in
    let mid_rows : ℕ = c.take_out.new.tree.rows in
    let mid_count : ℕ = g.P.Pages.count c.take_out.new.pages in
    let mid_first : ℕ = g.P.Pages.first c.take_out.new.pages in
    let root : ℕ = c.args.tree.now.root in
    let path : List ℕ = c.args.path.now in
    let before : View = view old rows count first free in
    let y : Item = worded (impact_in c.args.words.now) x in
    let top : ℕ = level_at (nodes_in node_of old rows) root in
    let z : Item = bounding_child (nodes_in node_of mid mid_rows) (item_of c.in-Ok-Some.field-0-0) in
    let loose : Loose = loose_in c.take_out.new.orphans.items in
    let taking = root-taking old rows count first root free some whole c.args.level path y c.new-orphans.result.items is c.new-orphans.ensures.items leads in
    let out-o = c.in-Ok-Some.ensures.taken free x taking in
    let out-n = subst (λ (o : Option Slot). TakesOut node_of before mid mid_rows mid_count mid_first 1 c.args.level root y (bounding_child_in (nodes_in node_of mid mid_rows) (option_map item_of o)) (loose_in c.new-orphans.result.items) (loose_in c.take_out.new.orphans.items)) c.in-Ok-Some.field-0-is out-o in
    let out-e = subst (λ (os : List Orphan). TakesOut node_of before mid mid_rows mid_count mid_first 1 c.args.level root y (Some z) (loose_in os) (loose_in c.take_out.new.orphans.items)) c.new-orphans.ensures.items out-n in
    let out = subst (λ (l : ℕ). TakesOut node_of before mid mid_rows mid_count mid_first 1 l root y (Some z) [] (loose_in c.take_out.new.orphans.items)) is out-e in
    let here = subst (λ (o : Option Slot). IfSome o (IsChildOf root)) c.in-Ok-Some.field-0-is c.in-Ok-Some.ensures.here in
    let low : AreLow (level_at (nodes_in node_of old rows) root) loose = c.in-Ok-Some.ensures.low (level_at (nodes_in node_of old rows) root) (omega arith)
    (subst (λ (os : List Orphan). AreLow (level_at (nodes_in node_of old rows) root) (loose_in os)) (sym c.new-orphans.ensures.items) tt) in
    let standing = out_standing node_of before root path y some whole mid mid_rows mid_count mid_first z loose here.1 low out in
    let sums : (Item → ℕ) → ℕ = left_sums (nodes_in node_of mid mid_rows) top root loose in
    let mine : ℕ → ℕ = tree_uses (nodes_in node_of old rows) root in
    let standing' : IsStanding node_of before (view mid mid_rows mid_count mid_first out.free) top c.take_out.new.tree.root loose mine sums =
    subst (λ (k : ℕ). IsStanding node_of before (view mid mid_rows mid_count mid_first out.free) top k loose mine sums) (sym c.in-Ok-Some.ensures.root) standing in
    c.in-Err-put_back.ensures.no_false_damage before out.free top mine sums whole.supplied standing' told damage (ap Err (same-fault {T = Unit {0}} _ _ e))

pub returns-in-Err-clause-damaged : goal.returns-in-Err-clause-damaged
returns-in-Err-clause-damaged g c = λ told way damage e. c.in-Err.ensures.damaged told way damage (ap Err (same-fault {T = Unit {0}} _ _ e))

pub returns-in-Ok-clause-damaged : goal.returns-in-Ok-clause-damaged
returns-in-Ok-clause-damaged g c = λ told way damage e.
    let p = g.P.Pages in
    let told-mid = c.in-Ok-Some.ensures.told told in
    tree-later c.lower_root.new.tree.rows (λ _. 1) (p.pages c.lower_root.new.pages) (p.count c.lower_root.new.pages) (p.first c.lower_root.new.pages) (p.asked c.args.pages.now) (p.asked c.put_back.new.pages) (p.asked c.lower_root.new.pages) damage
    (asks-further (λ _. 1) _ _ _ (c.take_out.ensures.more told) (c.put_back.ensures.more told-mid)) (c.lower_root.ensures.damaged (c.in-Ok.ensures.told told-mid) damage e)

pub returns-in-Ok-clause-told : goal.returns-in-Ok-clause-told
returns-in-Ok-clause-told g c = λ told. c.lower_root.ensures.told (c.in-Ok.ensures.told (c.in-Ok-Some.ensures.told told))

pub returns-in-Ok-clause-more : goal.returns-in-Ok-clause-more
returns-in-Ok-clause-more g c = λ told.
    let told-mid = c.in-Ok-Some.ensures.told told in
    asks-further (λ _. 1) _ _ _ (asks-further (λ _. 1) _ _ _ (c.take_out.ensures.more told) (c.put_back.ensures.more told-mid)) (c.lower_root.ensures.more (c.in-Ok.ensures.told told-mid))

pub returns-clause-damaged : goal.returns-clause-damaged
returns-clause-damaged g c = λ told way damage e.
    let p = g.P.Pages in
    tree-later c.put_back.new.tree.rows (λ _. 1) (p.pages c.put_back.new.pages) (p.count c.put_back.new.pages) (p.first c.put_back.new.pages) (p.asked c.args.pages.now) (p.asked c.take_out.new.pages) (p.asked c.put_back.new.pages) damage
    (c.take_out.ensures.more told) (c.in-Err-put_back.ensures.damaged (c.in-Ok-Some.ensures.told told) damage (ap Err (same-fault {T = Unit {0}} _ _ e)))

pub returns-clause-more : goal.returns-clause-more
returns-clause-more g c = λ told. asks-further (λ _. 1) _ _ _ (c.take_out.ensures.more told) (c.put_back.ensures.more (c.in-Ok-Some.ensures.told told))
