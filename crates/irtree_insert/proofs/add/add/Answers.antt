use Rattle.std.proofs.Common.{◌≡◌, ◌<◌, ◌∙◌, ℕ, List, arith, sym, ap, subst}
use Rattle.rtree_nodes.specs.Slots.{Item, Slots, filled, one}
use Rattle.rtree_nodes.specs.Stock.{View, view}
use Rattle.rtree_nodes.proofs.TreeParts.{put-sum}
use Rattle.rtree_nodes.specs.Reach.{reach_of, item_of}
use Rattle.rtree_nodes.specs.Pages.{node_of, slots_in, level_in}
use Rattle.node_rows.specs.Impacts.{impact_in}
use Rattle.irtree_shape.proofs.Stepping.{steps-raised, steps-write}
use Rattle.irtree_shape.proofs.Adding.{page_unspared, room_made}
use Rattle.irtree_insert.specs.Fits.{Fits}
use Rattle.irtree_insert.proofs.Counted.{counted-some}
use Rattle.irtree_insert.proofs.Loads.{form-level}
use Rattle.irtree_insert.proofs.add.add.Goals as goal

pub returns-in_ok-store-in-Some-clause-made : goal.returns-in_ok-store-in-Some-clause-made
returns-in_ok-store-in-Some-clause-made g c = λ least level free ready draft fits.
    let v : View = view (g.P.Pages.pages c.args.pages.now) c.args.tree.now.rows (g.P.Pages.count c.args.pages.now) (g.P.Pages.first c.args.pages.now) free in
    let s : Slots = slots_in c.args.draft.now.bytes in
    let x : Item = item_of c.args.slot.now in
    let at : ℕ = c.in-Some.at in
    let at_level : ℕ = (node_of c.args.draft.now.bytes).level in
    let bytes : List ℕ = c.put.new.self.bytes in
    let known : at_level ≡ level_in c.args.draft.now.bytes = form-level c.args.draft.now.bytes draft.form in
    let fits' = subst (λ (l : ℕ). Fits l c.args.slot.now) (sym ready.level_is ∙ known) fits in
    let next = c.put.ensures.draft draft fits' in
    let t_is = c.put.ensures.slots draft fits' in
    let t_level : (node_of bytes).level ≡ at_level = form-level bytes next.form ∙ c.put.ensures.level ∙ sym known in
    let room = c.in-Some.ensures.free draft.form in
    let some : 0 < filled (slots_in bytes) = let a = put-sum one s x at room in let b = ap filled t_is in omega arith in
    let unused = page_unspared node_of v least level c.args.page at_level s x (impact_in c.args.words.now) ready in
    let raised = steps-raised v (g.P.Pages.pages c.raise.new.pages) c.raise.new.tree.rows (g.P.Pages.count c.raise.new.pages) (g.P.Pages.first c.raise.new.pages) c.args.page at (impact_in c.args.words.now) ready.supplied unused
    (c.in_ok-raise-in-Some.ensures.turns free ready.supplied.rows) in
    let kept = raised.moves.kept c.args.page in
    let wrote = steps-write (g.P.Pages.pages c.raise.new.pages) (g.P.Pages.pages c.store.new.pages) bytes c.raise.new.tree.rows (g.P.Pages.count c.raise.new.pages) (g.P.Pages.first c.raise.new.pages)
    (g.P.Pages.count c.store.new.pages) (g.P.Pages.first c.store.new.pages) c.args.page raised.free raised.moves.supplied (omega arith) (counted-some _ c.args.page c.requires.counted)
    c.in_ok-store-in-Some.ensures.written c.in_ok-store-in-Some.ensures.frame.count c.in_ok-store-in-Some.ensures.first in
    room_made node_of v least level c.args.page at_level s x (impact_in c.args.words.now) ready
    (g.P.Pages.pages c.raise.new.pages) (g.P.Pages.pages c.store.new.pages) c.raise.new.tree.rows c.raise.new.tree.rows (g.P.Pages.count c.raise.new.pages) (g.P.Pages.first c.raise.new.pages)
    (g.P.Pages.count c.store.new.pages) (g.P.Pages.first c.store.new.pages) at bytes room t_is t_level raised wrote (reach_of c.bounds.result) (λ d. c.bounds.ensures next some d) _ (λ l. omega arith)

pub returns-in-None-clause-made : goal.returns-in-None-clause-made
returns-in-None-clause-made g c = λ least level free ready draft fits. c.split.ensures.made least level free ready draft fits (c.in-None.ensures.free draft.form)

pub returns-in-None-clause-no_false_damage : goal.returns-in-None-clause-no_false_damage
returns-in-None-clause-no_false_damage g c = λ least level free ready draft fits told damage. c.split.ensures.no_false_damage least level free ready draft fits (c.in-None.ensures.free draft.form) told damage
