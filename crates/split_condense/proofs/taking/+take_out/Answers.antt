use Rattle.std.proofs.Common.{arith, ◌≡◌, ◌-◌, ◌<◌, ◌≤◌, ◌∙◌, ℕ, refl, sym, ap, subst, zero, suc, Some, None, true, true≢false, List, slice_index, option_map, length, Option, Result, Err, inr}
use Rattle.std.proofs.lemmas.Result.{IfOk-weaker, on_ok_weaker}
use Rattle.page_face.specs.FreeList.{PageMap}
use Rattle.page_face.specs.Causes.{asked_after}
use Rattle.page_face.specs.declared.fault.PageFault.{PageFault}
use Rattle.page_face.specs.declared.fault.PageFault.TheVariants.{Damaged}
use Rattle.page_face.proofs.Frames.{changes_then}
use Rattle.btree_nodes.specs.Damages.{AreReadable, AsksOnly}
use Rattle.btree_nodes.specs.Supply as supply
use Rattle.btree_nodes.proofs.Harms.{asks-here, asks-further, asks-nothing}
use Rattle.btree_nodes.proofs.Walks.{same-fault, told-read, asks-read}
use Rattle.rtree_nodes.specs.Slots.{Slots, Item, Held, filled}
use Rattle.rtree_nodes.specs.Stock.{View, view, plain}
use Rattle.rtree_nodes.specs.Loose.{Loose, with_opt, IsAt}
use Rattle.rtree_nodes.proofs.Climbs.{view-same}
use Rattle.rtree_nodes.proofs.Outs.{some-filled}
use Rattle.rtree_nodes.specs.Pages.{node_of, is_form, slots_in, level_in}
use Rattle.rtree_nodes.specs.Reach.{item_of, is_place}
use Rattle.rtree_nodes.specs.declared.content.Slot.{Slot}
use Rattle.rtree_nodes.proofs.Bounding.{some-form}
use Rattle.rtree_nodes.specs.Ways.{IsWay}
use Rattle.node_rows.specs.Rows.{IsRows, bytes_in}
use Rattle.node_rows.specs.Turns.{Turns}
use Rattle.node_rows.specs.Impacts.{impact_in, refreshed}
use Rattle.node_rows.specs.Refreshing.{on_words}
use Rattle.node_rows.proofs.Turned.{view-same as supply-same}
use Rattle.node_rows.proofs.Harms.{harm-later}
use Rattle.irtree_shape.specs.Words.{worded, words_on, joined}
use Rattle.irtree_shape.specs.Made.{nodes_in}
use Rattle.irtree_shape.specs.Loose.{IsTaking, TakesOut, Settles, IsLoosening}
use Rattle.irtree_shape.specs.Steps.{bounding_child_in}
use Rattle.irtree_shape.specs.Damages.{IsTreeHarm}
use Rattle.irtree_shape.proofs.Harms.{tree-later}
use Rattle.irtree_shape.proofs.Outs.{take_child, child_apart, own-page, own-unspared}
use Rattle.split_condense.specs.Clears.{KeepsWords, cleared}
use Rattle.split_condense.specs.Orphans.{loose_in, IsMisplaced, IsOffPath}
use Rattle.split_condense.proofs.Forms.{in-place, on-path, place-level, child-level, left-filled, ok-from}
use Rattle.irtree_insert.proofs.Loads.{form-level}
use Rattle.rtree_nodes.proofs.Laws.{form-bytes as form-told}
use Rattle.split_condense.proofs.Takes.{leads-at, joined-some, taking-some, taking-form, taking-level, taking-least, taking-counted, child-at, left-at, look-changes}
use Rattle.split_condense.proofs.Keeps.{keeps-before, keeps-below}
use Rattle.split_condense.proofs.Leaves.{leaf-kept, leaf-ready, leaf-taken}
use Rattle.split_condense.proofs.Inners.{inner-kept, inner-ready, inner-taken, slot-right}
use Rattle.split_condense.proofs.Harms.{looked-counted, link-harm, node-harm, way-level, way-on, way-child}
use Rattle.split_condense.proofs.taking.+take_out.Goals as goal

-- the page isn't lent
pub returns-in-Err-clause-no_false_damage : goal.returns-in-Err-clause-no_false_damage
returns-in-Err-clause-no_false_damage g t c = λ free x taking several told damage e.
    let old : PageMap = g.P.Pages.pages c.args.pages.now in
    let rows : ℕ = c.args.tree.now.rows in
    let count : ℕ = g.P.Pages.count c.args.pages.now in
    let first : ℕ = g.P.Pages.first c.args.pages.now in
    let least : ℕ = c.args.least in
    let level : ℕ = c.args.level in
    let page : ℕ = c.args.page in
    let path : List ℕ = c.args.path.now in
    let loose : Loose = loose_in c.args.orphans.now.items in
    let is : c.in-Err.fault ≡ Damaged damage = same-fault {T = Option Slot} _ _ e in
    let d = c.look.ensures.damaged damage (c.in-Err.is ∙ ap Err is) in
    taking-counted old rows count first least level page free path (worded (impact_in c.args.words.now) x) loose taking d.1

-- it isn't of its level
pub returns-in-Err-check_node-clause-no_false_damage : goal.returns-in-Err-check_node-clause-no_false_damage
returns-in-Err-check_node-clause-no_false_damage g t c = λ free x taking several told damage e.
    let old : PageMap = g.P.Pages.pages c.args.pages.now in
    let rows : ℕ = c.args.tree.now.rows in
    let count : ℕ = g.P.Pages.count c.args.pages.now in
    let first : ℕ = g.P.Pages.first c.args.pages.now in
    let least : ℕ = c.args.least in
    let level : ℕ = c.args.level in
    let page : ℕ = c.args.page in
    let path : List ℕ = c.args.path.now in
    let loose : Loose = loose_in c.args.orphans.now.items in
    let form = taking-form old rows count first least level page free path (worded (impact_in c.args.words.now) x) loose taking in
    let seen : c.looked.result.now ≡ old page = c.looked.ensures ∙ c.in-Ok.ensures.gives (form-told (old page) form) in
    let formed : is_form c.looked.result.now ≡ true = ap is_form seen ∙ form in
    let is : c.in-Err-check_node.fault ≡ Damaged damage = same-fault {T = Option Slot} _ _ e in
    in-place page level (old page) damage
    (taking-some old rows count first least level page free path (worded (impact_in c.args.words.now) x) loose taking)
    (taking-level old rows count first least level page free path (worded (impact_in c.args.words.now) x) loose taking)
    (λ up alone. several (let a = taking-least old rows count first least level page free path (worded (impact_in c.args.words.now) x) loose taking in let b = c.requires.some in omega arith) up alone)
    (subst (λ (b : List ℕ). IsMisplaced page level b (Damaged damage)) seen (subst (IsMisplaced page level c.looked.result.now) is c.in-Err-check_node.ensures.refuses))

-- the path's slot isn't used
pub returns-in-Err-slot_on_path-clause-no_false_damage : goal.returns-in-Err-slot_on_path-clause-no_false_damage
returns-in-Err-slot_on_path-clause-no_false_damage g t c = λ free x taking several told damage e.
    let old : PageMap = g.P.Pages.pages c.args.pages.now in
    let rows : ℕ = c.args.tree.now.rows in
    let count : ℕ = g.P.Pages.count c.args.pages.now in
    let first : ℕ = g.P.Pages.first c.args.pages.now in
    let least : ℕ = c.args.least in
    let level : ℕ = c.args.level in
    let page : ℕ = c.args.page in
    let path : List ℕ = c.args.path.now in
    let loose : Loose = loose_in c.args.orphans.now.items in
    let form = taking-form old rows count first least level page free path (worded (impact_in c.args.words.now) x) loose taking in
    let seen : c.looked.result.now ≡ old page = c.looked.ensures ∙ c.in-Ok.ensures.gives (form-told (old page) form) in
    let formed : is_form c.looked.result.now ≡ true = ap is_form seen ∙ form in
    let is : c.in-Err-slot_on_path.fault ≡ Damaged damage = same-fault {T = Option Slot} _ _ e in
    let z = leads-at (nodes_in node_of old rows) path level page (worded (impact_in c.args.words.now) x) taking.leads in
    let there = joined-some (bytes_in old rows page) (slots_in (old page)) (slice_index path level) z.0 z.1 in
    let at_is : c.from-at.result ≡ slice_index path level = c.from-at.ensures ∙ ap (slice_index path) c.from.ensures in
    on-path page c.from-at.result (old page) damage there.0 form
    (subst (λ (k : ℕ). IsAt (slots_in (old page)) k there.0) (sym at_is) there.1)
    (subst (λ (b : List ℕ). IsOffPath page c.from-at.result b (Damaged damage)) seen (subst (IsOffPath page c.from-at.result c.looked.result.now) is c.in-Err-slot_on_path.ensures.refuses))

-- the words aren't cleared
pub returns-in-Err-clear_words-clause-no_false_damage : goal.returns-in-Err-clear_words-clause-no_false_damage
returns-in-Err-clear_words-clause-no_false_damage g t c = λ free x taking several told damage e.
    let old : PageMap = g.P.Pages.pages c.args.pages.now in
    let rows : ℕ = c.args.tree.now.rows in
    let count : ℕ = g.P.Pages.count c.args.pages.now in
    let first : ℕ = g.P.Pages.first c.args.pages.now in
    let least : ℕ = c.args.least in
    let level : ℕ = c.args.level in
    let page : ℕ = c.args.page in
    let path : List ℕ = c.args.path.now in
    let loose : Loose = loose_in c.args.orphans.now.items in
    let read = c.in-Ok.ensures in
    let look : PageMap = g.P.Pages.pages c.look.new.self in
    let same = supply-same look old (g.P.Pages.count c.look.new.self) count (g.P.Pages.first c.look.new.self) first free read.pages read.count read.first in
    let rows-look : IsRows (supply.view look (g.P.Pages.count c.look.new.self) (g.P.Pages.first c.look.new.self) free) rows = subst (λ (w : supply.View). IsRows w rows) (sym same) taking.supplied.rows in
    let told-look : AreReadable look (g.P.Pages.count c.look.new.self) = rw (read.pages, read.count) told in
    let is : c.in-Err-clear_words.fault ≡ Damaged damage = same-fault {T = Option Slot} _ _ e in
    c.in-Err-clear_words.ensures.no_false_damage free rows-look told-look damage (ap Err is)

pub returns-in-Err-clear_words-clause-frame : goal.returns-in-Err-clear_words-clause-frame
returns-in-Err-clear_words-clause-frame g t c =
    let r = c.look.ensures in
    changes_then g.P.Pages g.met.P.Pages.goes_further _ _ _ (look-changes g.P.Pages c.args.pages.now c.look.new.self r.count r.room r.faults r.refused r.goes_on r.follows) c.clear_words.ensures.frame

-- a leaf
pub returns-in-Place-clause-taken : goal.returns-in-Place-clause-taken
returns-in-Place-clause-taken g t c = λ free x taking.
    let old : PageMap = g.P.Pages.pages c.args.pages.now in
    let rows : ℕ = c.args.tree.now.rows in
    let count : ℕ = g.P.Pages.count c.args.pages.now in
    let first : ℕ = g.P.Pages.first c.args.pages.now in
    let least : ℕ = c.args.least in
    let level : ℕ = c.args.level in
    let page : ℕ = c.args.page in
    let path : List ℕ = c.args.path.now in
    let loose : Loose = loose_in c.args.orphans.now.items in
    let before : View = view old rows count first free in
    let y : Item = worded (impact_in c.args.words.now) x in
    let form = taking-form old rows count first least level page free path (worded (impact_in c.args.words.now) x) loose taking in
    let seen : c.looked.result.now ≡ old page = c.looked.ensures ∙ c.in-Ok.ensures.gives (form-told (old page) form) in
    let formed : is_form c.looked.result.now ≡ true = ap is_form seen ∙ form in
    let read = c.in-Ok.ensures in
    let look : PageMap = g.P.Pages.pages c.look.new.self in
    let same = supply-same look old (g.P.Pages.count c.look.new.self) count (g.P.Pages.first c.look.new.self) first free read.pages read.count read.first in
    let rows-look : IsRows (supply.view look (g.P.Pages.count c.look.new.self) (g.P.Pages.first c.look.new.self) free) rows = subst (λ (w : supply.View). IsRows w rows) (sym same) taking.supplied.rows in
    let turn-look = c.in-Ok-clear_words.ensures.turns free rows-look in
    let mid : PageMap = g.P.Pages.pages c.clear_words.new.pages in
    let mid_rows : ℕ = c.clear_words.new.tree.rows in
    let mid_count : ℕ = g.P.Pages.count c.clear_words.new.pages in
    let mid_first : ℕ = g.P.Pages.first c.clear_words.new.pages in
    let new : PageMap = g.P.Pages.pages c.settle.new.pages in
    let new_rows : ℕ = c.settle.new.tree.rows in
    let new_count : ℕ = g.P.Pages.count c.settle.new.pages in
    let new_first : ℕ = g.P.Pages.first c.settle.new.pages in
    let loose' : Loose = loose_in c.settle.new.orphans.items in
    let e : level ≡ zero = c.in-Ok-check_node.ensures.level ∙ place-level (level_in c.looked.result.now) c.in-Ok-slot_on_path.old c.in-Ok-slot_on_path.ensures.fits (ap is_place c.in-Place.is) in
    let taking' : IsTaking node_of before least zero page path y loose = subst (λ (k : ℕ). IsTaking node_of before least k page path y loose) e taking in
    let at_is : c.from-at.result ≡ slice_index path 0 = c.from-at.ensures ∙ ap (slice_index path) (c.from.ensures ∙ e) in
    let turn-old : Turns (plain before) rows mid mid_count mid_first mid_rows (on_words c.args.words.now (cleared page c.from-at.result (bytes_in old rows)) (bytes_in old rows)) =
    subst (λ (w : supply.View). Turns w rows mid mid_count mid_first mid_rows (on_words c.args.words.now (cleared page c.from-at.result (bytes_in w.pages rows)) (bytes_in w.pages rows))) same turn-look in
    let turn : Turns (plain before) rows mid mid_count mid_first mid_rows (on_words c.args.words.now (cleared page (slice_index path 0) (bytes_in old rows)) (bytes_in old rows)) =
    subst (λ (k : ℕ). Turns (plain before) rows mid mid_count mid_first mid_rows (on_words c.args.words.now (cleared page k (bytes_in old rows)) (bytes_in old rows))) at_is turn-old in
    let bytes : List ℕ = c.clear_slot.new.page in
    let u : Slots = slots_in bytes in
    let u_is : u ≡ with_opt (slice_index path 0) None (slots_in (old page)) =
    c.clear_slot.ensures.slots formed ∙ ap (λ (k : ℕ). with_opt k None (slots_in c.looked.result.now)) at_is ∙ ap (λ (b : List ℕ). with_opt (slice_index path 0) None (slots_in b)) seen in
    let form' = c.clear_slot.ensures.form formed in
    let level_is : (node_of bytes).level ≡ zero = form-level bytes form' ∙ c.clear_slot.ensures.level ∙ sym c.in-Ok-check_node.ensures.level ∙ e in
    let ready = leaf-ready before least page path x c.args.words.now loose taking' mid mid_rows mid_count mid_first turn u u_is (node_of bytes).level level_is in
    let ready' : IsLoosening node_of (view mid mid_rows mid_count mid_first turn.free) level page (joined (node_of bytes) (bytes_in mid mid_rows page)) loose =
    subst (λ (k : ℕ). IsLoosening node_of (view mid mid_rows mid_count mid_first turn.free) k page (joined (node_of bytes) (bytes_in mid mid_rows page)) loose) (sym e) ready in
    IfOk-weaker c.settle.result _ _
    (λ left m. subst (λ (k : ℕ). TakesOut node_of before new new_rows new_count new_first least k page y (bounding_child_in (nodes_in node_of new new_rows) (option_map item_of left)) loose loose') (sym e)
    (leaf-taken before least page path x c.args.words.now loose taking' mid mid_rows mid_count mid_first turn u u_is new new_rows new_count new_first (bounding_child_in (nodes_in node_of new new_rows) (option_map item_of left)) loose'
    (subst (λ (k : ℕ). Settles node_of (view mid mid_rows mid_count mid_first turn.free) new new_rows new_count new_first least k page (words_on (bytes_in mid mid_rows page) u) (bounding_child_in (nodes_in node_of new new_rows) (option_map item_of left)) loose loose') e m)))
    (c.settle.ensures.settled turn.free form' ready' (λ h. absurd (true≢false h)))

pub returns-in-Place-clause-others : goal.returns-in-Place-clause-others
returns-in-Place-clause-others g t c = λ free x taking.
    let old : PageMap = g.P.Pages.pages c.args.pages.now in
    let rows : ℕ = c.args.tree.now.rows in
    let count : ℕ = g.P.Pages.count c.args.pages.now in
    let first : ℕ = g.P.Pages.first c.args.pages.now in
    let least : ℕ = c.args.least in
    let level : ℕ = c.args.level in
    let page : ℕ = c.args.page in
    let path : List ℕ = c.args.path.now in
    let loose : Loose = loose_in c.args.orphans.now.items in
    let before : View = view old rows count first free in
    let y : Item = worded (impact_in c.args.words.now) x in
    let form = taking-form old rows count first least level page free path (worded (impact_in c.args.words.now) x) loose taking in
    let seen : c.looked.result.now ≡ old page = c.looked.ensures ∙ c.in-Ok.ensures.gives (form-told (old page) form) in
    let formed : is_form c.looked.result.now ≡ true = ap is_form seen ∙ form in
    let read = c.in-Ok.ensures in
    let look : PageMap = g.P.Pages.pages c.look.new.self in
    let same = supply-same look old (g.P.Pages.count c.look.new.self) count (g.P.Pages.first c.look.new.self) first free read.pages read.count read.first in
    let rows-look : IsRows (supply.view look (g.P.Pages.count c.look.new.self) (g.P.Pages.first c.look.new.self) free) rows = subst (λ (w : supply.View). IsRows w rows) (sym same) taking.supplied.rows in
    let turn-look = c.in-Ok-clear_words.ensures.turns free rows-look in
    let mid : PageMap = g.P.Pages.pages c.clear_words.new.pages in
    let mid_rows : ℕ = c.clear_words.new.tree.rows in
    let mid_count : ℕ = g.P.Pages.count c.clear_words.new.pages in
    let mid_first : ℕ = g.P.Pages.first c.clear_words.new.pages in
    let new : PageMap = g.P.Pages.pages c.settle.new.pages in
    let new_rows : ℕ = c.settle.new.tree.rows in
    let e : level ≡ zero = c.in-Ok-check_node.ensures.level ∙ place-level (level_in c.looked.result.now) c.in-Ok-slot_on_path.old c.in-Ok-slot_on_path.ensures.fits (ap is_place c.in-Place.is) in
    let taking' : IsTaking node_of before least zero page path y loose = subst (λ (k : ℕ). IsTaking node_of before least k page path y loose) e taking in
    let at_is : c.from-at.result ≡ slice_index path 0 = c.from-at.ensures ∙ ap (slice_index path) (c.from.ensures ∙ e) in
    let turn-old : Turns (plain before) rows mid mid_count mid_first mid_rows (on_words c.args.words.now (cleared page c.from-at.result (bytes_in old rows)) (bytes_in old rows)) =
    subst (λ (w : supply.View). Turns w rows mid mid_count mid_first mid_rows (on_words c.args.words.now (cleared page c.from-at.result (bytes_in w.pages rows)) (bytes_in w.pages rows))) same turn-look in
    let turn : Turns (plain before) rows mid mid_count mid_first mid_rows (on_words c.args.words.now (cleared page (slice_index path 0) (bytes_in old rows)) (bytes_in old rows)) =
    subst (λ (k : ℕ). Turns (plain before) rows mid mid_count mid_first mid_rows (on_words c.args.words.now (cleared page k (bytes_in old rows)) (bytes_in old rows))) at_is turn-old in
    let bytes : List ℕ = c.clear_slot.new.page in
    let u : Slots = slots_in bytes in
    let u_is : u ≡ with_opt (slice_index path 0) None (slots_in (old page)) =
    c.clear_slot.ensures.slots formed ∙ ap (λ (k : ℕ). with_opt k None (slots_in c.looked.result.now)) at_is ∙ ap (λ (b : List ℕ). with_opt (slice_index path 0) None (slots_in b)) seen in
    let form' = c.clear_slot.ensures.form formed in
    let level_is : (node_of bytes).level ≡ zero = form-level bytes form' ∙ c.clear_slot.ensures.level ∙ sym c.in-Ok-check_node.ensures.level ∙ e in
    let ready = leaf-ready before least page path x c.args.words.now loose taking' mid mid_rows mid_count mid_first turn u u_is (node_of bytes).level level_is in
    let ready' : IsLoosening node_of (view mid mid_rows mid_count mid_first turn.free) level page (joined (node_of bytes) (bytes_in mid mid_rows page)) loose =
    subst (λ (k : ℕ). IsLoosening node_of (view mid mid_rows mid_count mid_first turn.free) k page (joined (node_of bytes) (bytes_in mid mid_rows page)) loose) (sym e) ready in
    on_ok_weaker c.settle.result
    (λ h. keeps-before c.args.words.now page (length c.args.orphans.now.items) (length c.settle.new.orphans.items) (bytes_in old rows) (bytes_in mid mid_rows) (bytes_in new new_rows)
    (leaf-kept before least page path x c.args.words.now loose taking' mid mid_rows mid_count mid_first turn u u_is) h)
    (c.settle.ensures.others turn.free form' ready' (λ h. absurd (true≢false h)))

pub returns-in-Place-clause-stays : goal.returns-in-Place-clause-stays
returns-in-Place-clause-stays g t c = λ more.
    let old : PageMap = g.P.Pages.pages c.args.pages.now in
    let page : ℕ = c.args.page in
    let form = some-form (old page) (omega arith) in
    let seen : c.looked.result.now ≡ old page = c.looked.ensures ∙ c.in-Ok.ensures.gives (form-told (old page) form) in
    let formed : is_form c.looked.result.now ≡ true = ap is_form seen ∙ form in
    c.settle.ensures.stays (c.clear_slot.ensures.form formed)
    (left-filled c.args.least c.from-at.result (item_of c.in-Ok-slot_on_path.old) None (slots_in c.looked.result.now) (slots_in c.clear_slot.new.page)
    (c.in-Ok-slot_on_path.ensures.within, c.in-Ok-slot_on_path.ensures.item formed) (c.clear_slot.ensures.slots formed)
    (subst (λ (b : List ℕ). c.args.least < filled (slots_in b)) (sym seen) more))

pub returns-in-Place-clause-told : goal.returns-in-Place-clause-told
returns-in-Place-clause-told g t c = λ told.
    let read = c.in-Ok.ensures in
    let told-look : AreReadable (g.P.Pages.pages c.look.new.self) (g.P.Pages.count c.look.new.self) = rw (read.pages, read.count) told in
    c.settle.ensures.told (c.in-Ok-clear_words.ensures.told told-look)

pub returns-in-Place-clause-no_false_damage : goal.returns-in-Place-clause-no_false_damage
returns-in-Place-clause-no_false_damage g t c = λ free x taking several told damage e.
    let old : PageMap = g.P.Pages.pages c.args.pages.now in
    let rows : ℕ = c.args.tree.now.rows in
    let count : ℕ = g.P.Pages.count c.args.pages.now in
    let first : ℕ = g.P.Pages.first c.args.pages.now in
    let least : ℕ = c.args.least in
    let level : ℕ = c.args.level in
    let page : ℕ = c.args.page in
    let path : List ℕ = c.args.path.now in
    let loose : Loose = loose_in c.args.orphans.now.items in
    let form = taking-form old rows count first least level page free path (worded (impact_in c.args.words.now) x) loose taking in
    let seen : c.looked.result.now ≡ old page = c.looked.ensures ∙ c.in-Ok.ensures.gives (form-told (old page) form) in
    let formed : is_form c.looked.result.now ≡ true = ap is_form seen ∙ form in
    let read = c.in-Ok.ensures in
    let look : PageMap = g.P.Pages.pages c.look.new.self in
    let same = supply-same look old (g.P.Pages.count c.look.new.self) count (g.P.Pages.first c.look.new.self) first free read.pages read.count read.first in
    let rows-look : IsRows (supply.view look (g.P.Pages.count c.look.new.self) (g.P.Pages.first c.look.new.self) free) rows = subst (λ (w : supply.View). IsRows w rows) (sym same) taking.supplied.rows in
    let told-look : AreReadable look (g.P.Pages.count c.look.new.self) = rw (read.pages, read.count) told in
    let turn-look = c.in-Ok-clear_words.ensures.turns free rows-look in
    let mid : PageMap = g.P.Pages.pages c.clear_words.new.pages in
    let mid_rows : ℕ = c.clear_words.new.tree.rows in
    let mid_count : ℕ = g.P.Pages.count c.clear_words.new.pages in
    let mid_first : ℕ = g.P.Pages.first c.clear_words.new.pages in
    let told-mid = c.in-Ok-clear_words.ensures.told told-look in
    c.settle.ensures.no_false_damage turn-look.free turn-look.rows told-mid (c.clear_slot.ensures.form formed) damage e

pub returns-in-Place-clause-frame : goal.returns-in-Place-clause-frame
returns-in-Place-clause-frame g t c =
    let r = c.look.ensures in
    changes_then g.P.Pages g.met.P.Pages.goes_further _ _ _ (look-changes g.P.Pages c.args.pages.now c.look.new.self r.count r.room r.faults r.refused r.goes_on r.follows)
    (changes_then g.P.Pages g.met.P.Pages.goes_further _ _ _ c.clear_words.ensures.frame c.settle.ensures.frame)

-- a child below refuses
pub returns-in-Err-take_out-clause-no_false_damage : goal.returns-in-Err-take_out-clause-no_false_damage
returns-in-Err-take_out-clause-no_false_damage g t c = λ free x taking several told damage e'.
    let old : PageMap = g.P.Pages.pages c.args.pages.now in
    let rows : ℕ = c.args.tree.now.rows in
    let count : ℕ = g.P.Pages.count c.args.pages.now in
    let first : ℕ = g.P.Pages.first c.args.pages.now in
    let least : ℕ = c.args.least in
    let level : ℕ = c.args.level in
    let page : ℕ = c.args.page in
    let path : List ℕ = c.args.path.now in
    let loose : Loose = loose_in c.args.orphans.now.items in
    let before : View = view old rows count first free in
    let y : Item = worded (impact_in c.args.words.now) x in
    let form = taking-form old rows count first least level page free path (worded (impact_in c.args.words.now) x) loose taking in
    let seen : c.looked.result.now ≡ old page = c.looked.ensures ∙ c.in-Ok.ensures.gives (form-told (old page) form) in
    let formed : is_form c.looked.result.now ≡ true = ap is_form seen ∙ form in
    let read = c.in-Ok.ensures in
    let look : PageMap = g.P.Pages.pages c.look.new.self in
    let same = supply-same look old (g.P.Pages.count c.look.new.self) count (g.P.Pages.first c.look.new.self) first free read.pages read.count read.first in
    let rows-look : IsRows (supply.view look (g.P.Pages.count c.look.new.self) (g.P.Pages.first c.look.new.self) free) rows = subst (λ (w : supply.View). IsRows w rows) (sym same) taking.supplied.rows in
    let told-look : AreReadable look (g.P.Pages.count c.look.new.self) = rw (read.pages, read.count) told in
    let v = view-same look old rows (g.P.Pages.count c.look.new.self) count (g.P.Pages.first c.look.new.self) first free read.pages read.count read.first in
    let l : ℕ = level - 1 in
    let up : 0 < level = let a = child-level (level_in c.looked.result.now) c.in-Ok-slot_on_path.old c.in-Ok-slot_on_path.ensures.fits (ap is_place c.in-Child.is) in let b = c.in-Ok-check_node.ensures.level in omega arith in
    let e : level ≡ suc l = omega arith in
    let taking' : IsTaking node_of before least (suc l) page path y loose = subst (λ (k : ℕ). IsTaking node_of before least k page path y loose) e taking in
    let at_is : c.from-at.result ≡ slice_index path (suc l) = c.from-at.ensures ∙ ap (slice_index path) (c.from.ensures ∙ e) in
    let here : slots_in c.looked.result.now c.from-at.result ≡ Some (item_of c.in-Ok-slot_on_path.old) = c.in-Ok-slot_on_path.ensures.item formed in
    let there : slots_in (old page) (slice_index path (suc l)) ≡ Some (item_of c.in-Ok-slot_on_path.old) =
    ap (λ (b : List ℕ). slots_in b (slice_index path (suc l))) (sym seen) ∙ ap (slots_in c.looked.result.now) (sym at_is) ∙ here in
    let to : taking'.leads.0.to ≡ c.in-Child.child = child-at old rows count first least l page free path y loose taking' (item_of c.in-Ok-slot_on_path.old) there ∙ ap (λ (s : Slot). (item_of s).to) c.in-Child.is in
    let taking-c : IsTaking node_of before 12 l c.in-Child.child path y loose = subst (λ (k : ℕ). IsTaking node_of before 12 l k path y loose) to (take_child node_of before least l page path y loose taking') in
    let taking-look : IsTaking node_of (view look rows (g.P.Pages.count c.look.new.self) (g.P.Pages.first c.look.new.self) free) 12 l c.in-Child.child path y loose =
    subst (λ (w : View). IsTaking node_of w 12 l c.in-Child.child path y loose) (sym v) taking-c in
    let is : c.in-Err-take_out.fault ≡ Damaged damage = same-fault {T = Option Slot} _ _ e' in
    c.in-Err-take_out.ensures.no_false_damage free x taking-look
    (λ one up alone. omega arith) told-look damage (ap Err is)

-- the child's slot isn't linked anew
pub returns-in-Err-relink-clause-no_false_damage : goal.returns-in-Err-relink-clause-no_false_damage
returns-in-Err-relink-clause-no_false_damage g t c = λ free x taking several told damage e'.
    let old : PageMap = g.P.Pages.pages c.args.pages.now in
    let rows : ℕ = c.args.tree.now.rows in
    let count : ℕ = g.P.Pages.count c.args.pages.now in
    let first : ℕ = g.P.Pages.first c.args.pages.now in
    let least : ℕ = c.args.least in
    let level : ℕ = c.args.level in
    let page : ℕ = c.args.page in
    let path : List ℕ = c.args.path.now in
    let loose : Loose = loose_in c.args.orphans.now.items in
    let before : View = view old rows count first free in
    let y : Item = worded (impact_in c.args.words.now) x in
    let form = taking-form old rows count first least level page free path (worded (impact_in c.args.words.now) x) loose taking in
    let seen : c.looked.result.now ≡ old page = c.looked.ensures ∙ c.in-Ok.ensures.gives (form-told (old page) form) in
    let formed : is_form c.looked.result.now ≡ true = ap is_form seen ∙ form in
    let read = c.in-Ok.ensures in
    let look : PageMap = g.P.Pages.pages c.look.new.self in
    let same = supply-same look old (g.P.Pages.count c.look.new.self) count (g.P.Pages.first c.look.new.self) first free read.pages read.count read.first in
    let rows-look : IsRows (supply.view look (g.P.Pages.count c.look.new.self) (g.P.Pages.first c.look.new.self) free) rows = subst (λ (w : supply.View). IsRows w rows) (sym same) taking.supplied.rows in
    let told-look : AreReadable look (g.P.Pages.count c.look.new.self) = rw (read.pages, read.count) told in
    let v = view-same look old rows (g.P.Pages.count c.look.new.self) count (g.P.Pages.first c.look.new.self) first free read.pages read.count read.first in
    let l : ℕ = level - 1 in
    let up : 0 < level = let a = child-level (level_in c.looked.result.now) c.in-Ok-slot_on_path.old c.in-Ok-slot_on_path.ensures.fits (ap is_place c.in-Child.is) in let b = c.in-Ok-check_node.ensures.level in omega arith in
    let e : level ≡ suc l = omega arith in
    let taking' : IsTaking node_of before least (suc l) page path y loose = subst (λ (k : ℕ). IsTaking node_of before least k page path y loose) e taking in
    let at_is : c.from-at.result ≡ slice_index path (suc l) = c.from-at.ensures ∙ ap (slice_index path) (c.from.ensures ∙ e) in
    let here : slots_in c.looked.result.now c.from-at.result ≡ Some (item_of c.in-Ok-slot_on_path.old) = c.in-Ok-slot_on_path.ensures.item formed in
    let there : slots_in (old page) (slice_index path (suc l)) ≡ Some (item_of c.in-Ok-slot_on_path.old) =
    ap (λ (b : List ℕ). slots_in b (slice_index path (suc l))) (sym seen) ∙ ap (slots_in c.looked.result.now) (sym at_is) ∙ here in
    let to : taking'.leads.0.to ≡ c.in-Child.child = child-at old rows count first least l page free path y loose taking' (item_of c.in-Ok-slot_on_path.old) there ∙ ap (λ (s : Slot). (item_of s).to) c.in-Child.is in
    let taking-c : IsTaking node_of before 12 l c.in-Child.child path y loose = subst (λ (k : ℕ). IsTaking node_of before 12 l k path y loose) to (take_child node_of before least l page path y loose taking') in
    let taking-look : IsTaking node_of (view look rows (g.P.Pages.count c.look.new.self) (g.P.Pages.first c.look.new.self) free) 12 l c.in-Child.child path y loose =
    subst (λ (w : View). IsTaking node_of w 12 l c.in-Child.child path y loose) (sym v) taking-c in
    let mid : PageMap = g.P.Pages.pages c.take_out.new.pages in
    let mid_rows : ℕ = c.take_out.new.tree.rows in
    let mid_count : ℕ = g.P.Pages.count c.take_out.new.pages in
    let mid_first : ℕ = g.P.Pages.first c.take_out.new.pages in
    let mid2 : PageMap = g.P.Pages.pages c.relink.new.pages in
    let mid2_rows : ℕ = c.relink.new.tree.rows in
    let mid2_count : ℕ = g.P.Pages.count c.relink.new.pages in
    let mid2_first : ℕ = g.P.Pages.first c.relink.new.pages in
    let out-look = c.in-Ok-take_out.ensures.taken free x taking-look in
    let apart : page ≡ c.in-Child.child → ⊥ = λ k. child_apart node_of before least l page path y loose taking' (k ∙ sym to) in
    let told-mid = c.in-Ok-take_out.ensures.told told-look in
    let is : c.in-Err-relink.fault ≡ Damaged damage = same-fault {T = Option Slot} _ _ e' in
    c.in-Err-relink.ensures.no_false_damage out-look.free out-look.moves.supplied.rows apart told-mid damage (ap Err is)

-- an inner node
pub returns-clause-taken : goal.returns-clause-taken
returns-clause-taken g t c = λ free x taking.
    let old : PageMap = g.P.Pages.pages c.args.pages.now in
    let rows : ℕ = c.args.tree.now.rows in
    let count : ℕ = g.P.Pages.count c.args.pages.now in
    let first : ℕ = g.P.Pages.first c.args.pages.now in
    let least : ℕ = c.args.least in
    let level : ℕ = c.args.level in
    let page : ℕ = c.args.page in
    let path : List ℕ = c.args.path.now in
    let loose : Loose = loose_in c.args.orphans.now.items in
    let before : View = view old rows count first free in
    let y : Item = worded (impact_in c.args.words.now) x in
    let form = taking-form old rows count first least level page free path (worded (impact_in c.args.words.now) x) loose taking in
    let seen : c.looked.result.now ≡ old page = c.looked.ensures ∙ c.in-Ok.ensures.gives (form-told (old page) form) in
    let formed : is_form c.looked.result.now ≡ true = ap is_form seen ∙ form in
    let read = c.in-Ok.ensures in
    let look : PageMap = g.P.Pages.pages c.look.new.self in
    let same = supply-same look old (g.P.Pages.count c.look.new.self) count (g.P.Pages.first c.look.new.self) first free read.pages read.count read.first in
    let rows-look : IsRows (supply.view look (g.P.Pages.count c.look.new.self) (g.P.Pages.first c.look.new.self) free) rows = subst (λ (w : supply.View). IsRows w rows) (sym same) taking.supplied.rows in
    let v = view-same look old rows (g.P.Pages.count c.look.new.self) count (g.P.Pages.first c.look.new.self) first free read.pages read.count read.first in
    let l : ℕ = level - 1 in
    let up : 0 < level = let a = child-level (level_in c.looked.result.now) c.in-Ok-slot_on_path.old c.in-Ok-slot_on_path.ensures.fits (ap is_place c.in-Child.is) in let b = c.in-Ok-check_node.ensures.level in omega arith in
    let e : level ≡ suc l = omega arith in
    let taking' : IsTaking node_of before least (suc l) page path y loose = subst (λ (k : ℕ). IsTaking node_of before least k page path y loose) e taking in
    let at_is : c.from-at.result ≡ slice_index path (suc l) = c.from-at.ensures ∙ ap (slice_index path) (c.from.ensures ∙ e) in
    let here : slots_in c.looked.result.now c.from-at.result ≡ Some (item_of c.in-Ok-slot_on_path.old) = c.in-Ok-slot_on_path.ensures.item formed in
    let there : slots_in (old page) (slice_index path (suc l)) ≡ Some (item_of c.in-Ok-slot_on_path.old) =
    ap (λ (b : List ℕ). slots_in b (slice_index path (suc l))) (sym seen) ∙ ap (slots_in c.looked.result.now) (sym at_is) ∙ here in
    let to : taking'.leads.0.to ≡ c.in-Child.child = child-at old rows count first least l page free path y loose taking' (item_of c.in-Ok-slot_on_path.old) there ∙ ap (λ (s : Slot). (item_of s).to) c.in-Child.is in
    let taking-c : IsTaking node_of before 12 l c.in-Child.child path y loose = subst (λ (k : ℕ). IsTaking node_of before 12 l k path y loose) to (take_child node_of before least l page path y loose taking') in
    let taking-look : IsTaking node_of (view look rows (g.P.Pages.count c.look.new.self) (g.P.Pages.first c.look.new.self) free) 12 l c.in-Child.child path y loose =
    subst (λ (w : View). IsTaking node_of w 12 l c.in-Child.child path y loose) (sym v) taking-c in
    let mid : PageMap = g.P.Pages.pages c.take_out.new.pages in
    let mid_rows : ℕ = c.take_out.new.tree.rows in
    let mid_count : ℕ = g.P.Pages.count c.take_out.new.pages in
    let mid_first : ℕ = g.P.Pages.first c.take_out.new.pages in
    let mid2 : PageMap = g.P.Pages.pages c.relink.new.pages in
    let mid2_rows : ℕ = c.relink.new.tree.rows in
    let mid2_count : ℕ = g.P.Pages.count c.relink.new.pages in
    let mid2_first : ℕ = g.P.Pages.first c.relink.new.pages in
    let out-look = c.in-Ok-take_out.ensures.taken free x taking-look in
    let apart : page ≡ c.in-Child.child → ⊥ = λ k. child_apart node_of before least l page path y loose taking' (k ∙ sym to) in
    let new : PageMap = g.P.Pages.pages c.settle-2.new.pages in
    let new_rows : ℕ = c.settle-2.new.tree.rows in
    let new_count : ℕ = g.P.Pages.count c.settle-2.new.pages in
    let new_first : ℕ = g.P.Pages.first c.settle-2.new.pages in
    let loose' : Loose = loose_in c.take_out.new.orphans.items in
    let loose'' : Loose = loose_in c.settle-2.new.orphans.items in
    let m : Option Item = option_map item_of c.in-Ok-take_out.left in
    let o : Option Item = bounding_child_in (nodes_in node_of mid mid_rows) m in
    let out-old : TakesOut node_of before mid mid_rows mid_count mid_first 12 l c.in-Child.child y o loose loose' =
    subst (λ (w : View). TakesOut node_of w mid mid_rows mid_count mid_first 12 l c.in-Child.child y o loose loose') v out-look in
    let out : TakesOut node_of before mid mid_rows mid_count mid_first 12 l taking'.leads.0.to y o loose loose' =
    subst (λ (k : ℕ). TakesOut node_of before mid mid_rows mid_count mid_first 12 l k y o loose loose') (sym to) out-old in
    let keeps = subst (λ (w : View). KeepsWords c.args.words.now c.in-Child.child (bytes_in w.pages rows) (bytes_in mid mid_rows) (length c.args.orphans.now.items) (length c.take_out.new.orphans.items)) v
    (c.in-Ok-take_out.ensures.others free x taking-look) in
    let right = slot-right before least l page path y loose taking' mid mid_rows mid_count mid_first o loose' c.args.words.now c.in-Child.child c.from-at.result (length c.args.orphans.now.items) (length c.take_out.new.orphans.items)
    c.len-many.result c.len.result to at_is out-old keeps (c.len-many.ensures ∙ c.args.orphans.now.ok.0) (c.len.ensures ∙ c.take_out.new.orphans.ok.0) in
    let turn-c = c.in-Ok-relink.ensures.turns out.free out.moves.supplied.rows apart right in
    let turn-at : Turns (plain (view mid mid_rows mid_count mid_first out.free)) mid_rows mid2 mid2_count mid2_first mid2_rows (refreshed page (slice_index path (suc l)) c.in-Child.child (bytes_in mid mid_rows)) =
    subst (λ (k : ℕ). Turns (plain (view mid mid_rows mid_count mid_first out.free)) mid_rows mid2 mid2_count mid2_first mid2_rows (refreshed page k c.in-Child.child (bytes_in mid mid_rows))) at_is turn-c in
    let turn : Turns (plain (view mid mid_rows mid_count mid_first out.free)) mid_rows mid2 mid2_count mid2_first mid2_rows (refreshed page (slice_index path (suc l)) taking'.leads.0.to (bytes_in mid mid_rows)) =
    subst (λ (k : ℕ). Turns (plain (view mid mid_rows mid_count mid_first out.free)) mid_rows mid2 mid2_count mid2_first mid2_rows (refreshed page (slice_index path (suc l)) k (bytes_in mid mid_rows))) (sym to) turn-at in
    let left-c : Held (λ (z : Item). z.to ≡ c.in-Child.child) m = left-at c.in-Ok-take_out.left c.in-Child.child c.in-Ok-take_out.ensures.here in
    let left-is : Held (λ (z : Item). z.to ≡ taking'.leads.0.to) m = subst (λ (k : ℕ). Held (λ (z : Item). z.to ≡ k) m) (sym to) left-c in
    let bytes : List ℕ = c.set_slot-is_changed.new.bytes in
    let u : Slots = slots_in bytes in
    let u_is : u ≡ with_opt (slice_index path (suc l)) m (slots_in (old page)) =
    c.set_slot-is_changed.ensures.slots formed (here ∙ ap (λ (s : Slot). Some (item_of s)) c.in-Child.is) ∙ ap (λ (k : ℕ). with_opt k m (slots_in c.looked.result.now)) at_is ∙ ap (λ (b : List ℕ). with_opt (slice_index path (suc l)) m (slots_in b)) seen in
    let form' = c.set_slot-is_changed.ensures.form formed in
    let level_is : (node_of bytes).level ≡ suc l = form-level bytes form' ∙ c.set_slot-is_changed.ensures.level ∙ sym c.in-Ok-check_node.ensures.level ∙ e in
    let ready = inner-ready before least l page path y loose taking' mid mid_rows mid_count mid_first m loose' out left-is mid2 mid2_rows mid2_count mid2_first turn u u_is (node_of bytes).level level_is in
    let ready' : IsLoosening node_of (view mid2 mid2_rows mid2_count mid2_first turn.free) level page (joined (node_of bytes) (bytes_in mid2 mid2_rows page)) loose' =
    subst (λ (k : ℕ). IsLoosening node_of (view mid2 mid2_rows mid2_count mid2_first turn.free) k page (joined (node_of bytes) (bytes_in mid2 mid2_rows page)) loose') (sym e) ready in
    let own = own-page node_of before least l page path y loose taking' mid mid_rows mid_count mid_first o loose' out in
    let unused = own-unspared node_of before least l page path y loose taking' mid mid_rows mid_count mid_first o loose' out in
    let kept : mid2 page ≡ mid page = turn.moves.others page (omega arith) (omega arith) in
    IfOk-weaker c.settle-2.result _ _
    (λ left h. subst (λ (k : ℕ). TakesOut node_of before new new_rows new_count new_first least k page y (bounding_child_in (nodes_in node_of new new_rows) (option_map item_of left)) loose loose'') (sym e)
    (inner-taken before least l page path y loose taking' mid mid_rows mid_count mid_first m loose' out left-is mid2 mid2_rows mid2_count mid2_first turn u u_is new new_rows new_count new_first
    (bounding_child_in (nodes_in node_of new new_rows) (option_map item_of left)) loose''
    (subst (λ (k : ℕ). Settles node_of (view mid2 mid2_rows mid2_count mid2_first turn.free) new new_rows new_count new_first least k page (words_on (bytes_in mid2 mid2_rows page) u) (bounding_child_in (nodes_in node_of new new_rows) (option_map item_of left)) loose' loose'') e h)))
    (c.settle-2.ensures.settled turn.free form' ready' (λ h. c.set_slot-is_changed.ensures.same h ∙ seen ∙ sym own.page ∙ sym kept))

-- the other words stay
pub returns-clause-others : goal.returns-clause-others
returns-clause-others g t c = λ free x taking.
    let old : PageMap = g.P.Pages.pages c.args.pages.now in
    let rows : ℕ = c.args.tree.now.rows in
    let count : ℕ = g.P.Pages.count c.args.pages.now in
    let first : ℕ = g.P.Pages.first c.args.pages.now in
    let least : ℕ = c.args.least in
    let level : ℕ = c.args.level in
    let page : ℕ = c.args.page in
    let path : List ℕ = c.args.path.now in
    let loose : Loose = loose_in c.args.orphans.now.items in
    let before : View = view old rows count first free in
    let y : Item = worded (impact_in c.args.words.now) x in
    let form = taking-form old rows count first least level page free path (worded (impact_in c.args.words.now) x) loose taking in
    let seen : c.looked.result.now ≡ old page = c.looked.ensures ∙ c.in-Ok.ensures.gives (form-told (old page) form) in
    let formed : is_form c.looked.result.now ≡ true = ap is_form seen ∙ form in
    let read = c.in-Ok.ensures in
    let look : PageMap = g.P.Pages.pages c.look.new.self in
    let same = supply-same look old (g.P.Pages.count c.look.new.self) count (g.P.Pages.first c.look.new.self) first free read.pages read.count read.first in
    let rows-look : IsRows (supply.view look (g.P.Pages.count c.look.new.self) (g.P.Pages.first c.look.new.self) free) rows = subst (λ (w : supply.View). IsRows w rows) (sym same) taking.supplied.rows in
    let v = view-same look old rows (g.P.Pages.count c.look.new.self) count (g.P.Pages.first c.look.new.self) first free read.pages read.count read.first in
    let l : ℕ = level - 1 in
    let up : 0 < level = let a = child-level (level_in c.looked.result.now) c.in-Ok-slot_on_path.old c.in-Ok-slot_on_path.ensures.fits (ap is_place c.in-Child.is) in let b = c.in-Ok-check_node.ensures.level in omega arith in
    let e : level ≡ suc l = omega arith in
    let taking' : IsTaking node_of before least (suc l) page path y loose = subst (λ (k : ℕ). IsTaking node_of before least k page path y loose) e taking in
    let at_is : c.from-at.result ≡ slice_index path (suc l) = c.from-at.ensures ∙ ap (slice_index path) (c.from.ensures ∙ e) in
    let here : slots_in c.looked.result.now c.from-at.result ≡ Some (item_of c.in-Ok-slot_on_path.old) = c.in-Ok-slot_on_path.ensures.item formed in
    let there : slots_in (old page) (slice_index path (suc l)) ≡ Some (item_of c.in-Ok-slot_on_path.old) =
    ap (λ (b : List ℕ). slots_in b (slice_index path (suc l))) (sym seen) ∙ ap (slots_in c.looked.result.now) (sym at_is) ∙ here in
    let to : taking'.leads.0.to ≡ c.in-Child.child = child-at old rows count first least l page free path y loose taking' (item_of c.in-Ok-slot_on_path.old) there ∙ ap (λ (s : Slot). (item_of s).to) c.in-Child.is in
    let taking-c : IsTaking node_of before 12 l c.in-Child.child path y loose = subst (λ (k : ℕ). IsTaking node_of before 12 l k path y loose) to (take_child node_of before least l page path y loose taking') in
    let taking-look : IsTaking node_of (view look rows (g.P.Pages.count c.look.new.self) (g.P.Pages.first c.look.new.self) free) 12 l c.in-Child.child path y loose =
    subst (λ (w : View). IsTaking node_of w 12 l c.in-Child.child path y loose) (sym v) taking-c in
    let mid : PageMap = g.P.Pages.pages c.take_out.new.pages in
    let mid_rows : ℕ = c.take_out.new.tree.rows in
    let mid_count : ℕ = g.P.Pages.count c.take_out.new.pages in
    let mid_first : ℕ = g.P.Pages.first c.take_out.new.pages in
    let mid2 : PageMap = g.P.Pages.pages c.relink.new.pages in
    let mid2_rows : ℕ = c.relink.new.tree.rows in
    let mid2_count : ℕ = g.P.Pages.count c.relink.new.pages in
    let mid2_first : ℕ = g.P.Pages.first c.relink.new.pages in
    let out-look = c.in-Ok-take_out.ensures.taken free x taking-look in
    let apart : page ≡ c.in-Child.child → ⊥ = λ k. child_apart node_of before least l page path y loose taking' (k ∙ sym to) in
    let new : PageMap = g.P.Pages.pages c.settle-2.new.pages in
    let new_rows : ℕ = c.settle-2.new.tree.rows in
    let loose' : Loose = loose_in c.take_out.new.orphans.items in
    let m : Option Item = option_map item_of c.in-Ok-take_out.left in
    let o : Option Item = bounding_child_in (nodes_in node_of mid mid_rows) m in
    let out-old : TakesOut node_of before mid mid_rows mid_count mid_first 12 l c.in-Child.child y o loose loose' =
    subst (λ (w : View). TakesOut node_of w mid mid_rows mid_count mid_first 12 l c.in-Child.child y o loose loose') v out-look in
    let out : TakesOut node_of before mid mid_rows mid_count mid_first 12 l taking'.leads.0.to y o loose loose' =
    subst (λ (k : ℕ). TakesOut node_of before mid mid_rows mid_count mid_first 12 l k y o loose loose') (sym to) out-old in
    let keeps = subst (λ (w : View). KeepsWords c.args.words.now c.in-Child.child (bytes_in w.pages rows) (bytes_in mid mid_rows) (length c.args.orphans.now.items) (length c.take_out.new.orphans.items)) v
    (c.in-Ok-take_out.ensures.others free x taking-look) in
    let right = slot-right before least l page path y loose taking' mid mid_rows mid_count mid_first o loose' c.args.words.now c.in-Child.child c.from-at.result (length c.args.orphans.now.items) (length c.take_out.new.orphans.items)
    c.len-many.result c.len.result to at_is out-old keeps (c.len-many.ensures ∙ c.args.orphans.now.ok.0) (c.len.ensures ∙ c.take_out.new.orphans.ok.0) in
    let turn-c = c.in-Ok-relink.ensures.turns out.free out.moves.supplied.rows apart right in
    let turn-at : Turns (plain (view mid mid_rows mid_count mid_first out.free)) mid_rows mid2 mid2_count mid2_first mid2_rows (refreshed page (slice_index path (suc l)) c.in-Child.child (bytes_in mid mid_rows)) =
    subst (λ (k : ℕ). Turns (plain (view mid mid_rows mid_count mid_first out.free)) mid_rows mid2 mid2_count mid2_first mid2_rows (refreshed page k c.in-Child.child (bytes_in mid mid_rows))) at_is turn-c in
    let turn : Turns (plain (view mid mid_rows mid_count mid_first out.free)) mid_rows mid2 mid2_count mid2_first mid2_rows (refreshed page (slice_index path (suc l)) taking'.leads.0.to (bytes_in mid mid_rows)) =
    subst (λ (k : ℕ). Turns (plain (view mid mid_rows mid_count mid_first out.free)) mid_rows mid2 mid2_count mid2_first mid2_rows (refreshed page (slice_index path (suc l)) k (bytes_in mid mid_rows))) (sym to) turn-at in
    let left-c : Held (λ (z : Item). z.to ≡ c.in-Child.child) m = left-at c.in-Ok-take_out.left c.in-Child.child c.in-Ok-take_out.ensures.here in
    let left-is : Held (λ (z : Item). z.to ≡ taking'.leads.0.to) m = subst (λ (k : ℕ). Held (λ (z : Item). z.to ≡ k) m) (sym to) left-c in
    let bytes : List ℕ = c.set_slot-is_changed.new.bytes in
    let u : Slots = slots_in bytes in
    let u_is : u ≡ with_opt (slice_index path (suc l)) m (slots_in (old page)) =
    c.set_slot-is_changed.ensures.slots formed (here ∙ ap (λ (s : Slot). Some (item_of s)) c.in-Child.is) ∙ ap (λ (k : ℕ). with_opt k m (slots_in c.looked.result.now)) at_is ∙ ap (λ (b : List ℕ). with_opt (slice_index path (suc l)) m (slots_in b)) seen in
    let form' = c.set_slot-is_changed.ensures.form formed in
    let level_is : (node_of bytes).level ≡ suc l = form-level bytes form' ∙ c.set_slot-is_changed.ensures.level ∙ sym c.in-Ok-check_node.ensures.level ∙ e in
    let ready = inner-ready before least l page path y loose taking' mid mid_rows mid_count mid_first m loose' out left-is mid2 mid2_rows mid2_count mid2_first turn u u_is (node_of bytes).level level_is in
    let ready' : IsLoosening node_of (view mid2 mid2_rows mid2_count mid2_first turn.free) level page (joined (node_of bytes) (bytes_in mid2 mid2_rows page)) loose' =
    subst (λ (k : ℕ). IsLoosening node_of (view mid2 mid2_rows mid2_count mid2_first turn.free) k page (joined (node_of bytes) (bytes_in mid2 mid2_rows page)) loose') (sym e) ready in
    let own = own-page node_of before least l page path y loose taking' mid mid_rows mid_count mid_first o loose' out in
    let unused = own-unspared node_of before least l page path y loose taking' mid mid_rows mid_count mid_first o loose' out in
    let kept : mid2 page ≡ mid page = turn.moves.others page (omega arith) (omega arith) in
    let keeps-to = subst (λ (k : ℕ). KeepsWords c.args.words.now k (bytes_in old rows) (bytes_in mid mid_rows) (length c.args.orphans.now.items) (length c.take_out.new.orphans.items)) (sym to) keeps in
    on_ok_weaker c.settle-2.result
    (λ h. keeps-below c.args.words.now page taking'.leads.0.to (length c.args.orphans.now.items) (length c.take_out.new.orphans.items) (length c.settle-2.new.orphans.items)
    (bytes_in old rows) (bytes_in mid mid_rows) (bytes_in mid2 mid2_rows) (bytes_in new new_rows) keeps-to
    (inner-kept before least l page path y loose taking' mid mid_rows mid_count mid_first o loose' out mid2 mid2_rows mid2_count mid2_first turn) h)
    (c.settle-2.ensures.others turn.free form' ready' (λ h. c.set_slot-is_changed.ensures.same h ∙ seen ∙ sym own.page ∙ sym kept))

pub returns-clause-stays : goal.returns-clause-stays
returns-clause-stays g t c = λ more.
    let old : PageMap = g.P.Pages.pages c.args.pages.now in
    let page : ℕ = c.args.page in
    let form = some-form (old page) (omega arith) in
    let seen : c.looked.result.now ≡ old page = c.looked.ensures ∙ c.in-Ok.ensures.gives (form-told (old page) form) in
    let formed : is_form c.looked.result.now ≡ true = ap is_form seen ∙ form in
    let here : slots_in c.looked.result.now c.from-at.result ≡ Some (item_of c.in-Ok-slot_on_path.old) = c.in-Ok-slot_on_path.ensures.item formed in
    c.settle-2.ensures.stays (c.set_slot-is_changed.ensures.form formed)
    (left-filled c.args.least c.from-at.result (item_of c.in-Ok-slot_on_path.old) (option_map item_of c.in-Ok-take_out.left) (slots_in c.looked.result.now) (slots_in c.set_slot-is_changed.new.bytes)
    (c.in-Ok-slot_on_path.ensures.within, here) (c.set_slot-is_changed.ensures.slots formed (here ∙ ap (λ (s : Slot). Some (item_of s)) c.in-Child.is))
    (subst (λ (b : List ℕ). c.args.least < filled (slots_in b)) (sym seen) more))

pub returns-clause-level_is : goal.returns-clause-level_is
returns-clause-level_is g t c = λ some.
    let old : PageMap = g.P.Pages.pages c.args.pages.now in
    let form = some-form (old c.args.page) some in
    let seen : c.looked.result.now ≡ old c.args.page = c.looked.ensures ∙ c.in-Ok.ensures.gives (form-told (old c.args.page) form) in
    ok-from c.settle-2.result (c.in-Ok-check_node.ensures.level ∙ ap level_in seen)

pub returns-clause-low : goal.returns-clause-low
returns-clause-low g t c = λ top within low. c.settle-2.ensures.low top within (c.in-Ok-take_out.ensures.low top (omega arith) low)

pub returns-clause-told : goal.returns-clause-told
returns-clause-told g t c = λ told.
    let read = c.in-Ok.ensures in
    let told-look : AreReadable (g.P.Pages.pages c.look.new.self) (g.P.Pages.count c.look.new.self) = rw (read.pages, read.count) told in
    c.settle-2.ensures.told (c.in-Ok-relink.ensures.told (c.in-Ok-take_out.ensures.told told-look))

pub returns-clause-no_false_damage : goal.returns-clause-no_false_damage
returns-clause-no_false_damage g t c = λ free x taking several told damage e'.
    let old : PageMap = g.P.Pages.pages c.args.pages.now in
    let rows : ℕ = c.args.tree.now.rows in
    let count : ℕ = g.P.Pages.count c.args.pages.now in
    let first : ℕ = g.P.Pages.first c.args.pages.now in
    let least : ℕ = c.args.least in
    let level : ℕ = c.args.level in
    let page : ℕ = c.args.page in
    let path : List ℕ = c.args.path.now in
    let loose : Loose = loose_in c.args.orphans.now.items in
    let before : View = view old rows count first free in
    let y : Item = worded (impact_in c.args.words.now) x in
    let form = taking-form old rows count first least level page free path (worded (impact_in c.args.words.now) x) loose taking in
    let seen : c.looked.result.now ≡ old page = c.looked.ensures ∙ c.in-Ok.ensures.gives (form-told (old page) form) in
    let formed : is_form c.looked.result.now ≡ true = ap is_form seen ∙ form in
    let read = c.in-Ok.ensures in
    let look : PageMap = g.P.Pages.pages c.look.new.self in
    let same = supply-same look old (g.P.Pages.count c.look.new.self) count (g.P.Pages.first c.look.new.self) first free read.pages read.count read.first in
    let rows-look : IsRows (supply.view look (g.P.Pages.count c.look.new.self) (g.P.Pages.first c.look.new.self) free) rows = subst (λ (w : supply.View). IsRows w rows) (sym same) taking.supplied.rows in
    let told-look : AreReadable look (g.P.Pages.count c.look.new.self) = rw (read.pages, read.count) told in
    let v = view-same look old rows (g.P.Pages.count c.look.new.self) count (g.P.Pages.first c.look.new.self) first free read.pages read.count read.first in
    let l : ℕ = level - 1 in
    let up : 0 < level = let a = child-level (level_in c.looked.result.now) c.in-Ok-slot_on_path.old c.in-Ok-slot_on_path.ensures.fits (ap is_place c.in-Child.is) in let b = c.in-Ok-check_node.ensures.level in omega arith in
    let e : level ≡ suc l = omega arith in
    let taking' : IsTaking node_of before least (suc l) page path y loose = subst (λ (k : ℕ). IsTaking node_of before least k page path y loose) e taking in
    let at_is : c.from-at.result ≡ slice_index path (suc l) = c.from-at.ensures ∙ ap (slice_index path) (c.from.ensures ∙ e) in
    let here : slots_in c.looked.result.now c.from-at.result ≡ Some (item_of c.in-Ok-slot_on_path.old) = c.in-Ok-slot_on_path.ensures.item formed in
    let there : slots_in (old page) (slice_index path (suc l)) ≡ Some (item_of c.in-Ok-slot_on_path.old) =
    ap (λ (b : List ℕ). slots_in b (slice_index path (suc l))) (sym seen) ∙ ap (slots_in c.looked.result.now) (sym at_is) ∙ here in
    let to : taking'.leads.0.to ≡ c.in-Child.child = child-at old rows count first least l page free path y loose taking' (item_of c.in-Ok-slot_on_path.old) there ∙ ap (λ (s : Slot). (item_of s).to) c.in-Child.is in
    let taking-c : IsTaking node_of before 12 l c.in-Child.child path y loose = subst (λ (k : ℕ). IsTaking node_of before 12 l k path y loose) to (take_child node_of before least l page path y loose taking') in
    let taking-look : IsTaking node_of (view look rows (g.P.Pages.count c.look.new.self) (g.P.Pages.first c.look.new.self) free) 12 l c.in-Child.child path y loose =
    subst (λ (w : View). IsTaking node_of w 12 l c.in-Child.child path y loose) (sym v) taking-c in
    let mid : PageMap = g.P.Pages.pages c.take_out.new.pages in
    let mid_rows : ℕ = c.take_out.new.tree.rows in
    let mid_count : ℕ = g.P.Pages.count c.take_out.new.pages in
    let mid_first : ℕ = g.P.Pages.first c.take_out.new.pages in
    let mid2 : PageMap = g.P.Pages.pages c.relink.new.pages in
    let mid2_rows : ℕ = c.relink.new.tree.rows in
    let mid2_count : ℕ = g.P.Pages.count c.relink.new.pages in
    let mid2_first : ℕ = g.P.Pages.first c.relink.new.pages in
    let out-look = c.in-Ok-take_out.ensures.taken free x taking-look in
    let apart : page ≡ c.in-Child.child → ⊥ = λ k. child_apart node_of before least l page path y loose taking' (k ∙ sym to) in
    let loose' : Loose = loose_in c.take_out.new.orphans.items in
    let o : Option Item = bounding_child_in (nodes_in node_of mid mid_rows) (option_map item_of c.in-Ok-take_out.left) in
    let out-old = subst (λ (w : View). TakesOut node_of w mid mid_rows mid_count mid_first 12 l c.in-Child.child y o loose loose') v out-look in
    let keeps = subst (λ (w : View). KeepsWords c.args.words.now c.in-Child.child (bytes_in w.pages rows) (bytes_in mid mid_rows) (length c.args.orphans.now.items) (length c.take_out.new.orphans.items)) v
    (c.in-Ok-take_out.ensures.others free x taking-look) in
    let right = slot-right before least l page path y loose taking' mid mid_rows mid_count mid_first o loose' c.args.words.now c.in-Child.child c.from-at.result (length c.args.orphans.now.items) (length c.take_out.new.orphans.items)
    c.len-many.result c.len.result to at_is out-old keeps (c.len-many.ensures ∙ c.args.orphans.now.ok.0) (c.len.ensures ∙ c.take_out.new.orphans.ok.0) in
    let turn-c = c.in-Ok-relink.ensures.turns out-look.free out-look.moves.supplied.rows apart right in
    let told-mid = c.in-Ok-take_out.ensures.told told-look in
    let told-mid2 = c.in-Ok-relink.ensures.told told-mid in
    c.settle-2.ensures.no_false_damage turn-c.free turn-c.rows told-mid2 (c.set_slot-is_changed.ensures.form formed) damage e'

-- the page isn't lent
pub returns-in-Err-clause-damaged : goal.returns-in-Err-clause-damaged
returns-in-Err-clause-damaged g t c = λ told way damage e.
    let p = g.P.Pages in
    let r = c.in-Err.is ∙ ap Err (same-fault {T = Option Slot} _ _ e) in
    let d = c.look.ensures.damaged damage r in
    link-harm _ (p.pages c.args.pages.now) (p.pages c.look.new.self) (p.count c.args.pages.now) (p.count c.look.new.self) (p.first c.look.new.self) (p.asked c.args.pages.now) (p.asked c.look.new.self) c.args.page damage
    c.look.ensures.pages c.look.ensures.count (c.look.ensures.asked ∙ ap (λ (x : Result (Unit {0}) PageFault). asked_after x c.args.page (p.asked c.args.pages.now)) r) d.0 d.1

pub returns-in-Err-clause-more : goal.returns-in-Err-clause-more
returns-in-Err-clause-more g t c = λ told.
    let p = g.P.Pages in
    subst (λ (xs : List ℕ). AsksOnly (λ _. 1) (p.asked c.args.pages.now) xs) (sym c.look.ensures.asked)
    (asks-read (λ _. 1) (p.asked c.args.pages.now) (p.asked c.args.pages.now) c.args.page c.look.result (asks-nothing (λ _. 1) (p.asked c.args.pages.now) (p.asked c.args.pages.now) refl) (omega arith))

-- it isn't that of a node of its level
pub returns-in-Err-check_node-clause-damaged : goal.returns-in-Err-check_node-clause-damaged
returns-in-Err-check_node-clause-damaged g t c = λ told way damage e.
    let p = g.P.Pages in
    let old : PageMap = p.pages c.args.pages.now in
    let read = c.in-Ok.ensures in
    let seen : c.looked.result.now ≡ old c.args.page = c.looked.ensures ∙ read.gives (told-read old (p.count c.args.pages.now) c.args.page told (looked-counted (p.count c.args.pages.now) c.args.page read.uncounted)) in
    let is : c.in-Err-check_node.fault ≡ Damaged damage = same-fault {T = Option Slot} _ _ e in
    node-harm _ old (p.pages c.look.new.self) (p.count c.args.pages.now) (p.count c.look.new.self) (p.first c.look.new.self) (p.asked c.args.pages.now) (p.asked c.look.new.self) c.args.page damage
    read.pages read.count read.asked c.args.level c.looked.result.now seen (way-level old c.args.path.now c.args.level c.args.page way)
    (subst (IsMisplaced c.args.page c.args.level c.looked.result.now) is c.in-Err-check_node.ensures.refuses)

pub returns-in-Err-check_node-clause-more : goal.returns-in-Err-check_node-clause-more
returns-in-Err-check_node-clause-more g t c = λ told. asks-here (λ _. 1) _ _ c.args.page (omega arith) c.in-Ok.ensures.asked

-- the path's slot is used
pub returns-in-Err-slot_on_path-clause-damaged : goal.returns-in-Err-slot_on_path-clause-damaged
returns-in-Err-slot_on_path-clause-damaged g t c = λ told way damage e.
    let p = g.P.Pages in
    let old : PageMap = p.pages c.args.pages.now in
    let read = c.in-Ok.ensures in
    let seen : c.looked.result.now ≡ old c.args.page = c.looked.ensures ∙ read.gives (told-read old (p.count c.args.pages.now) c.args.page told (looked-counted (p.count c.args.pages.now) c.args.page read.uncounted)) in
    let is : c.in-Err-slot_on_path.fault ≡ Damaged damage = same-fault {T = Option Slot} _ _ e in
    absurd {A = IsTreeHarm (p.pages c.look.new.self) (p.count c.look.new.self) (p.first c.look.new.self) _ (p.asked c.args.pages.now) (p.asked c.look.new.self) damage}
    (way-on old c.args.path.now c.args.level c.args.page c.from-at.result c.looked.result.now damage way seen c.in-Ok-check_node.ensures.form (c.from-at.ensures ∙ ap (slice_index c.args.path.now) c.from.ensures)
    (subst (IsOffPath c.args.page c.from-at.result c.looked.result.now) is c.in-Err-slot_on_path.ensures.refuses))

pub returns-in-Err-slot_on_path-clause-more : goal.returns-in-Err-slot_on_path-clause-more
returns-in-Err-slot_on_path-clause-more g t c = λ told. asks-here (λ _. 1) _ _ c.args.page (omega arith) c.in-Ok.ensures.asked

-- the words aren't cleared
pub returns-in-Err-clear_words-clause-damaged : goal.returns-in-Err-clear_words-clause-damaged
returns-in-Err-clear_words-clause-damaged g t c = λ told way damage e.
    let p = g.P.Pages in
    let read = c.in-Ok.ensures in
    let told-look : AreReadable (p.pages c.look.new.self) (p.count c.look.new.self) = rw (read.pages, read.count) told in
    inr (harm-later c.clear_words.new.tree.rows (λ _. 1) (p.pages c.clear_words.new.pages) (p.count c.clear_words.new.pages) (p.first c.clear_words.new.pages) (p.asked c.args.pages.now) (p.asked c.look.new.self) (p.asked c.clear_words.new.pages) damage
    (asks-here (λ _. 1) _ _ c.args.page (omega arith) read.asked)
    (c.in-Err-clear_words.ensures.damaged told-look damage (ap Err (same-fault {T = Option Slot} _ _ e))))

pub returns-in-Err-clear_words-clause-more : goal.returns-in-Err-clear_words-clause-more
returns-in-Err-clear_words-clause-more g t c = λ told.
    let p = g.P.Pages in
    let read = c.in-Ok.ensures in
    let told-look : AreReadable (p.pages c.look.new.self) (p.count c.look.new.self) = rw (read.pages, read.count) told in
    asks-further (λ _. 1) _ _ _ (asks-here (λ _. 1) _ _ c.args.page (omega arith) read.asked) (c.clear_words.ensures.more told-look)

-- a leaf
pub returns-in-Place-clause-damaged : goal.returns-in-Place-clause-damaged
returns-in-Place-clause-damaged g t c = λ told way damage e.
    let p = g.P.Pages in
    let read = c.in-Ok.ensures in
    let told-look : AreReadable (p.pages c.look.new.self) (p.count c.look.new.self) = rw (read.pages, read.count) told in
    inr (harm-later c.settle.new.tree.rows (λ _. 1) (p.pages c.settle.new.pages) (p.count c.settle.new.pages) (p.first c.settle.new.pages) (p.asked c.args.pages.now) (p.asked c.clear_words.new.pages) (p.asked c.settle.new.pages) damage
    (asks-further (λ _. 1) _ _ _ (asks-here (λ _. 1) _ _ c.args.page (omega arith) read.asked) (c.clear_words.ensures.more told-look))
    (c.settle.ensures.damaged (c.clear_slot.ensures.form c.in-Ok-check_node.ensures.form) (c.in-Ok-clear_words.ensures.told told-look) damage e))

pub returns-in-Place-clause-more : goal.returns-in-Place-clause-more
returns-in-Place-clause-more g t c = λ told.
    let p = g.P.Pages in
    let read = c.in-Ok.ensures in
    let told-look : AreReadable (p.pages c.look.new.self) (p.count c.look.new.self) = rw (read.pages, read.count) told in
    asks-further (λ _. 1) _ _ _ (asks-further (λ _. 1) _ _ _ (asks-here (λ _. 1) _ _ c.args.page (omega arith) read.asked) (c.clear_words.ensures.more told-look))
    (c.settle.ensures.more (c.in-Ok-clear_words.ensures.told told-look))

pub returns-in-Place-clause-gone : goal.returns-in-Place-clause-gone
returns-in-Place-clause-gone g t c = λ one.
    IfOk-weaker c.settle.result _ _ (λ left h none. let a = (h none).0 in let b = (h none).1 in omega arith) (c.settle.ensures.gone (c.clear_slot.ensures.form c.in-Ok-check_node.ensures.form))

-- a child below refuses
pub returns-in-Err-take_out-clause-damaged : goal.returns-in-Err-take_out-clause-damaged
returns-in-Err-take_out-clause-damaged g t c = λ told way damage e.
    let p = g.P.Pages in
    let old : PageMap = p.pages c.args.pages.now in
    let path : List ℕ = c.args.path.now in
    let read = c.in-Ok.ensures in
    let seen : c.looked.result.now ≡ old c.args.page = c.looked.ensures ∙ read.gives (told-read old (p.count c.args.pages.now) c.args.page told (looked-counted (p.count c.args.pages.now) c.args.page read.uncounted)) in
    let told-look : AreReadable (p.pages c.look.new.self) (p.count c.look.new.self) = rw (read.pages, read.count) told in
    let form : is_form c.looked.result.now ≡ true = c.in-Ok-check_node.ensures.form in
    let l : ℕ = c.args.level - 1 in
    let up : 0 < c.args.level = let a = child-level (level_in c.looked.result.now) c.in-Ok-slot_on_path.old c.in-Ok-slot_on_path.ensures.fits (ap is_place c.in-Child.is) in let b = c.in-Ok-check_node.ensures.level in omega arith in
    let way-l : IsWay old path l c.in-Child.child = way-child old path c.args.level l c.args.page c.from-at.result c.looked.result.now (item_of c.in-Ok-slot_on_path.old) c.in-Child.child way (omega arith) seen form
    (c.from-at.ensures ∙ ap (slice_index path) c.from.ensures) (c.in-Ok-slot_on_path.ensures.item form) (ap (λ (s : Slot). (item_of s).to) c.in-Child.is) in
    tree-later c.take_out.new.tree.rows (λ _. 1) (p.pages c.take_out.new.pages) (p.count c.take_out.new.pages) (p.first c.take_out.new.pages) (p.asked c.args.pages.now) (p.asked c.look.new.self) (p.asked c.take_out.new.pages) damage
    (asks-here (λ _. 1) _ _ c.args.page (omega arith) read.asked)
    (c.in-Err-take_out.ensures.damaged told-look (subst (λ (m : PageMap). IsWay m path l c.in-Child.child) (sym read.pages) way-l) damage (ap Err (same-fault {T = Option Slot} _ _ e)))

pub returns-in-Err-take_out-clause-more : goal.returns-in-Err-take_out-clause-more
returns-in-Err-take_out-clause-more g t c = λ told.
    let p = g.P.Pages in
    let read = c.in-Ok.ensures in
    let told-look : AreReadable (p.pages c.look.new.self) (p.count c.look.new.self) = rw (read.pages, read.count) told in
    asks-further (λ _. 1) _ _ _ (asks-here (λ _. 1) _ _ c.args.page (omega arith) read.asked) (c.take_out.ensures.more told-look)

-- the child's slot isn't linked anew
pub returns-in-Err-relink-clause-damaged : goal.returns-in-Err-relink-clause-damaged
returns-in-Err-relink-clause-damaged g t c = λ told way damage e.
    let p = g.P.Pages in
    let read = c.in-Ok.ensures in
    let told-look : AreReadable (p.pages c.look.new.self) (p.count c.look.new.self) = rw (read.pages, read.count) told in
    inr (harm-later c.relink.new.tree.rows (λ _. 1) (p.pages c.relink.new.pages) (p.count c.relink.new.pages) (p.first c.relink.new.pages) (p.asked c.args.pages.now) (p.asked c.take_out.new.pages) (p.asked c.relink.new.pages) damage
    (asks-further (λ _. 1) _ _ _ (asks-here (λ _. 1) _ _ c.args.page (omega arith) read.asked) (c.take_out.ensures.more told-look))
    (c.in-Err-relink.ensures.damaged (c.in-Ok-take_out.ensures.told told-look) damage (ap Err (same-fault {T = Option Slot} _ _ e))))

pub returns-in-Err-relink-clause-more : goal.returns-in-Err-relink-clause-more
returns-in-Err-relink-clause-more g t c = λ told.
    let p = g.P.Pages in
    let read = c.in-Ok.ensures in
    let told-look : AreReadable (p.pages c.look.new.self) (p.count c.look.new.self) = rw (read.pages, read.count) told in
    asks-further (λ _. 1) _ _ _ (asks-further (λ _. 1) _ _ _ (asks-here (λ _. 1) _ _ c.args.page (omega arith) read.asked) (c.take_out.ensures.more told-look))
    (c.relink.ensures.more (c.in-Ok-take_out.ensures.told told-look))

-- an inner node
pub returns-clause-damaged : goal.returns-clause-damaged
returns-clause-damaged g t c = λ told way damage e.
    let p = g.P.Pages in
    let read = c.in-Ok.ensures in
    let told-look : AreReadable (p.pages c.look.new.self) (p.count c.look.new.self) = rw (read.pages, read.count) told in
    let told-mid = c.in-Ok-take_out.ensures.told told-look in
    inr (harm-later c.settle-2.new.tree.rows (λ _. 1) (p.pages c.settle-2.new.pages) (p.count c.settle-2.new.pages) (p.first c.settle-2.new.pages) (p.asked c.args.pages.now) (p.asked c.relink.new.pages) (p.asked c.settle-2.new.pages) damage
    (asks-further (λ _. 1) _ _ _ (asks-further (λ _. 1) _ _ _ (asks-here (λ _. 1) _ _ c.args.page (omega arith) read.asked) (c.take_out.ensures.more told-look)) (c.relink.ensures.more told-mid))
    (c.settle-2.ensures.damaged (c.set_slot-is_changed.ensures.form c.in-Ok-check_node.ensures.form) (c.in-Ok-relink.ensures.told told-mid) damage e))

pub returns-clause-more : goal.returns-clause-more
returns-clause-more g t c = λ told.
    let p = g.P.Pages in
    let read = c.in-Ok.ensures in
    let told-look : AreReadable (p.pages c.look.new.self) (p.count c.look.new.self) = rw (read.pages, read.count) told in
    let told-mid = c.in-Ok-take_out.ensures.told told-look in
    asks-further (λ _. 1) _ _ _ (asks-further (λ _. 1) _ _ _ (asks-further (λ _. 1) _ _ _ (asks-here (λ _. 1) _ _ c.args.page (omega arith) read.asked) (c.take_out.ensures.more told-look)) (c.relink.ensures.more told-mid))
    (c.settle-2.ensures.more (c.in-Ok-relink.ensures.told told-mid))

-- it keeps a slot, since it had two at least
pub returns-clause-gone : goal.returns-clause-gone
returns-clause-gone g t c = λ one.
    let form : is_form c.looked.result.now ≡ true = c.in-Ok-check_node.ensures.form in
    let here : slots_in c.looked.result.now c.from-at.result ≡ Some (item_of c.in-Ok-slot_on_path.old) = c.in-Ok-slot_on_path.ensures.item form in
    let up : 0 < c.args.level = let a = child-level (level_in c.looked.result.now) c.in-Ok-slot_on_path.old c.in-Ok-slot_on_path.ensures.fits (ap is_place c.in-Child.is) in let b = c.in-Ok-check_node.ensures.level in omega arith in
    let some = some-filled (slots_in c.looked.result.now) c.from-at.result (item_of c.in-Ok-slot_on_path.old) (c.in-Ok-slot_on_path.ensures.within, here) in
    let two : 1 < filled (slots_in c.looked.result.now) = omega (arith, c.in-Ok-check_node.ensures.several up) in
    let left : 1 ≤ filled (slots_in c.set_slot-is_changed.new.bytes) = left-filled 1 c.from-at.result (item_of c.in-Ok-slot_on_path.old) (option_map item_of c.in-Ok-take_out.left) (slots_in c.looked.result.now) (slots_in c.set_slot-is_changed.new.bytes)
    (c.in-Ok-slot_on_path.ensures.within, here) (c.set_slot-is_changed.ensures.slots form (here ∙ ap (λ (s : Slot). Some (item_of s)) c.in-Child.is)) two in
    IfOk-weaker c.settle-2.result _ _ (λ o h none. let a = (h none).0 in absurd (omega arith)) (c.settle-2.ensures.gone (c.set_slot-is_changed.ensures.form form))
