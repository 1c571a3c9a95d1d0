use Rattle.std.proofs.Common.{◌≡◌, ap, sym, subst, Ok, Err, ◌∙◌, inl, inr}
use Rattle.page_face.specs.FreeList.{PageMap}
use Rattle.page_face.specs.declared.fault.Rule.TheVariants.{Entry as NoEntry}
use Rattle.page_face.specs.declared.fault.PageFault.TheVariants.{Damaged}
use Rattle.rtree_nodes.specs.Stock.{View, view}
use Rattle.rtree_nodes.specs.Pages.{node_of}
use Rattle.spatial_base.specs.Key.{form_of}
use Rattle.rtree_nodes.specs.Slots.{NodeMap}
use Rattle.rtree_nodes.specs.Entries.{is_entry}
use Rattle.irtree_shape.specs.Made.{nodes_in}
use Rattle.irtree_shape.specs.Whole.{tree_sum}
use Rattle.split_condense.specs.declared.entry.Entry.{Entry}
use Rattle.irtree_shape.specs.Entries.{AreWorded}
use Rattle.split_condense.specs.Entries.{impact_of}
use Rattle.split_condense.proofs.Regrowths.{entry-regrown}
use Rattle.split_condense.proofs.Missing.{named-same}
use Rattle.split_condense.proofs.entry_taken.take_entry.Goals as goal

pub returns-in-Ok-true-clause-taken : goal.returns-in-Ok-true-clause-taken
returns-in-Ok-true-clause-taken g c = λ free whole has.
    let P = g.P.Pages in
    let tree = c.args.tree.now in
    let nodes : NodeMap = nodes_in node_of (P.pages c.args.pages.now) tree.rows in
    let before : View = view (P.pages c.args.pages.now) tree.rows (P.count c.args.pages.now) (P.first c.args.pages.now) free in
    let worded : AreWorded nodes tree.root c.entry_of.result.point (form_of c.entry_of.result.key) (impact_of c.entry_of.result) =
    subst (λ (e : Entry). AreWorded nodes tree.root e.point (form_of e.key) (impact_of e)) (sym c.entry_of.ensures) has.words in
    entry-regrown before (P.pages c.delete.new.pages) c.delete.new.tree.rows (P.count c.delete.new.pages) (P.first c.delete.new.pages) tree.root c.delete.new.tree.root
    c.entry_of.result c.args.key.now c.args.old.now c.entry_of.ensures
    (c.in-Ok-true.ensures.felled free whole worded (ap Ok c.in-Ok-true.field-0-test))

pub returns-in-Err-clause-no_false_damage : goal.returns-in-Err-clause-no_false_damage
returns-in-Err-clause-no_false_damage g c = λ free whole has told damage e.
    let tree = c.args.tree.now in
    let nodes : NodeMap = nodes_in node_of (g.P.Pages.pages c.args.pages.now) tree.rows in
    let worded : AreWorded nodes tree.root c.entry_of.result.point (form_of c.entry_of.result.key) (impact_of c.entry_of.result) =
    subst (λ (e : Entry). AreWorded nodes tree.root e.point (form_of e.key) (impact_of e)) (sym c.entry_of.ensures) has.words in
    let fault_is : c.in-Err.fault ≡ Damaged damage = cc in
    c.in-Err.ensures.no_false_damage free whole worded told damage (ap Err fault_is)

pub returns-in-Err-clause-damaged : goal.returns-in-Err-clause-damaged
returns-in-Err-clause-damaged g c = λ told damage e.
    let fault_is : c.in-Err.fault ≡ Damaged damage = cc in
    inl (c.delete.ensures.damaged told damage (c.in-Err.is ∙ ap Err fault_is))

pub returns-in-Ok-false-clause-damaged : goal.returns-in-Ok-false-clause-damaged
returns-in-Ok-false-clause-damaged g c = λ told damage e.
    let P = g.P.Pages in
    let pages : PageMap = P.pages c.args.pages.now in
    let tree = c.args.tree.now in
    inr (record {
      named = named-same {T = Unit {0}} (record { page = 0; rule = NoEntry }) damage e;
      absent = λ free whole. subst (λ (x : Entry). tree_sum (nodes_in node_of pages tree.rows) tree.root (is_entry x.point (form_of x.key)) ≡ 0) c.entry_of.ensures
          (c.in-Ok-false.ensures.absent free whole (ap Ok c.in-Ok-false.field-0-test));
    })
