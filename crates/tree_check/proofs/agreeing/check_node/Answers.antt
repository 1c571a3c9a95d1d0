use Rattle.std.proofs.Common.{arith, ◌≡◌, ◌∙◌, ℕ, List, ap, subst, sym}
use Rattle.page_face.specs.FreeList.{PageMap}
use Rattle.page_face.proofs.Frames.{reads_then}
use Rattle.page_walks.proofs.Chains.{known-some, known-small}
use Rattle.btree_nodes.specs.Tree.{IsMap}
use Rattle.rtree_nodes.specs.Pages.{is_form, level_in, slots_in}
use Rattle.rtree_nodes.specs.Stock.{rows_form}
use Rattle.node_rows.specs.Rows.{bytes_in}
use Rattle.tree_check.specs.Agreement.{IsRight}
use Rattle.tree_check.specs.Columns.{SayBytes}
use Rattle.tree_check.proofs.Columns.{says-on}
use Rattle.tree_check.proofs.Rights.{sound-on, node-wrong, right-on, wrong-on, below-more}
use Rattle.tree_check.proofs.agreeing.check_node.Goals as goal

pub loop-at-preserved : goal.loop-at-preserved
loop-at-preserved g c =
    let p = g.P.Pages in
    let f = c.loop-at.invariant.frame in
    let pages : PageMap = p.pages c.args.pages.now in
    let looked : PageMap = p.pages c.look.new.self in
    let pages' : PageMap = p.pages c.loop-at.pages in
    let root : ℕ = c.args.tree.now.rows in
    let bytes : List ℕ = c.looked.result.now in
    record {
      frame = reads_then p g.met.P.Pages.goes_further g.met.P.Pages.reads_further _ _ _ f c.in-Ok-check_slot.ensures.frame;
      faults = c.in-Ok-check_slot.ensures.fails.hides_none ∙ c.loop-at.invariant.faults;
      right = λ entries sound form.
          let map : IsMap rows_form looked root = subst (λ (q : PageMap). IsMap rows_form q root) (sym c.in-Ok.ensures.pages) sound.map in
          let said : SayBytes (bytes_in pages' root) c.args.page c.deref.result.now =
          says-on looked pages' root c.args.page c.rows_of.new.rows.items c.deref.result.now (f.pages ∙ sym c.in-Ok.ensures.pages) c.deref.ensures.value (c.in-Ok-rows_of.ensures.rows map) in
          below-more (λ i. IsRight (bytes_in pages root) entries.places (level_in bytes) (λ w. bytes_in pages root c.args.page w i) (slots_in bytes i)) c.loop-at.at
          (c.loop-at.invariant.right entries sound form)
          (right-on pages pages' root entries.places c.args.page bytes c.loop-at.at f.pages
          (c.in-Ok-check_slot.ensures.right entries (sound-on pages pages' (p.count c.args.pages.now) (p.count c.loop-at.pages) root c.args.tables.now entries f.pages f.count sound) form said));
    }

pub returns-in-Err-check_slot-clause-damaged : goal.returns-in-Err-check_slot-clause-damaged
returns-in-Err-check_slot-clause-damaged g c = λ entries sound node damage e.
    let p = g.P.Pages in
    let f = c.loop-at.invariant.frame in
    let pages : PageMap = p.pages c.args.pages.now in
    let looked : PageMap = p.pages c.look.new.self in
    let pages' : PageMap = p.pages c.loop-at.pages in
    let root : ℕ = c.args.tree.now.rows in
    let count : ℕ = p.count c.args.pages.now in
    let bytes : List ℕ = c.looked.result.now in
    let is : bytes ≡ pages c.args.page = c.looked.ensures ∙ c.in-Ok.ensures.gives (sound.readable c.args.page (known-some count c.args.page node.counted) (known-small count c.args.page node.counted)) in
    let map : IsMap rows_form looked root = subst (λ (q : PageMap). IsMap rows_form q root) (sym c.in-Ok.ensures.pages) sound.map in
    let said : SayBytes (bytes_in pages' root) c.args.page c.deref.result.now =
    says-on looked pages' root c.args.page c.rows_of.new.rows.items c.deref.result.now (f.pages ∙ sym c.in-Ok.ensures.pages) c.deref.ensures.value (c.in-Ok-rows_of.ensures.rows map) in
    node-wrong pages root entries.places c.args.page bytes c.loop-at.at damage is (omega arith) (c.loop-at.invariant.right entries sound (ap is_form is ∙ node.form))
    (wrong-on pages pages' root entries.places c.args.page bytes c.loop-at.at damage f.pages
    (c.in-Err-check_slot.ensures.damaged entries (sound-on pages pages' count (p.count c.loop-at.pages) root c.args.tables.now entries f.pages f.count sound) (ap is_form is ∙ node.form) said damage e))
