use Rattle.std.proofs.Common.{◌≡◌, ◌∙◌, ap, sym, subst, Err, rules}
use Rattle.std.proofs.Math.Path.{fun_ext}
use Rattle.std.proofs.lemmas.Result.{err_from_is_err_and}
use Rattle.page_face.specs.declared.fault.PageFault.TheVariants.{Damaged}
use Rattle.page_face.proofs.Frames.{changes_then}
use Rattle.btree_nodes.specs.Supply.{View, view}
use Rattle.btree_nodes.proofs.Harms.{asks-further}
use Rattle.node_rows.specs.Rows.{Bytes}
use Rattle.node_rows.specs.Turns.{Turns}
use Rattle.node_inverted.specs.Drafts.{edited, edited_by}
use Rattle.node_rows.proofs.Harms.{harm-later}
use Rattle.node_rows.proofs.Turned.{turns-further}
use Rattle.node_rows.proofs.Told.{told-turned}
use Rattle.node_inverted.proofs.drafting.edit_rows.Goals as goal

pub loop-number-preserved : goal.loop-number-preserved
loop-number-preserved g c = record {
  root = c.in_ok-left.ensures.root ∙ c.loop-number.invariant.root;
  turns = λ free rows.
      let before : View = view (g.P.Pages.pages c.args.pages.now) (g.P.Pages.count c.args.pages.now) (g.P.Pages.first c.args.pages.now) free in
      let t = c.loop-number.invariant.turns free rows in
      let s = c.in_ok-left.ensures.turns t.turn.free t.turn.rows in
      record {
        bytes = s.bytes;
        turn = turns-further before c.args.tree.now.rows (g.P.Pages.pages c.loop-number.pages) (g.P.Pages.count c.loop-number.pages) (g.P.Pages.first c.loop-number.pages) c.loop-number.tree.rows t.bytes t.turn
            (g.P.Pages.pages c.edit_leaf.new.pages) (g.P.Pages.count c.edit_leaf.new.pages) (g.P.Pages.first c.edit_leaf.new.pages) c.edit_leaf.new.tree.rows s.bytes s.turn;
        is = s.is ∙ ap (λ (b : Bytes). edited_by c.args.node c.in-Some.behind (edited c.args.node c.in-Some.number c.in-Some.first b)) (fun_ext (λ n. fun_ext (λ w. fun_ext (λ i. t.turn.is n w i))))
            ∙ sym (c.in-Some.ensures.some c.args.node t.bytes) ∙ t.is;
      };
  told = λ t. c.in_ok-left.ensures.told (c.loop-number.invariant.told t);
  more = λ t. asks-further (λ _. 1) _ _ _ (c.loop-number.invariant.more t) (c.edit_leaf.ensures.more (c.loop-number.invariant.told t));
  frame = changes_then g.P.Pages g.met.P.Pages.goes_further _ _ _ c.loop-number.invariant.frame c.edit_leaf.ensures.frame;
  faults = search rules;
}

pub returns-in_err-left-clause-no_false_damage : goal.returns-in_err-left-clause-no_false_damage
returns-in_err-left-clause-no_false_damage g c free rows told damage =
    let before : View = view (g.P.Pages.pages c.args.pages.now) (g.P.Pages.count c.args.pages.now) (g.P.Pages.first c.args.pages.now) free in
    let t = c.loop-number.invariant.turns free rows in
    let p = err_from_is_err_and c.from_residual.result c.from_residual.ensures.1 in
    λ e. (let same : c.in_err-left.field-0.0 ≡ Damaged damage = cc (p.1, p.2, e) in
    c.in_err-left.ensures.no_false_damage t.turn.free t.turn.rows (told-turned before c.args.tree.now.rows (g.P.Pages.pages c.loop-number.pages) (g.P.Pages.count c.loop-number.pages) (g.P.Pages.first c.loop-number.pages) c.loop-number.tree.rows
    t.bytes t.turn told) damage (ap Err same))

pub returns-clause-turns : goal.returns-clause-turns
returns-clause-turns g c = λ free rows.
    let before : View = view (g.P.Pages.pages c.args.pages.now) (g.P.Pages.count c.args.pages.now) (g.P.Pages.first c.args.pages.now) free in
    let t = c.loop-number.invariant.turns free rows in
    subst (Turns before c.args.tree.now.rows (g.P.Pages.pages c.loop-number.pages) (g.P.Pages.count c.loop-number.pages) (g.P.Pages.first c.loop-number.pages) c.loop-number.tree.rows)
    (sym (c.in_default.ensures.none c.args.node t.bytes) ∙ t.is) t.turn

pub returns-in_err-left-clause-damaged : goal.returns-in_err-left-clause-damaged
returns-in_err-left-clause-damaged g c = λ told damage.
    let p = g.P.Pages in
    let r = err_from_is_err_and c.from_residual.result c.from_residual.ensures.1 in
    λ e. (let same : c.in_err-left.field-0.0 ≡ Damaged damage = cc (r.1, r.2, e) in
    harm-later _ (λ _. 1) (p.pages c.edit_leaf.new.pages) (p.count c.edit_leaf.new.pages) (p.first c.edit_leaf.new.pages) (p.asked c.args.pages.now) (p.asked c.loop-number.pages) (p.asked c.edit_leaf.new.pages) damage
    (c.loop-number.invariant.more told) (c.in_err-left.ensures.damaged (c.loop-number.invariant.told told) damage (ap Err same)))

pub returns-in_err-left-clause-more : goal.returns-in_err-left-clause-more
returns-in_err-left-clause-more g c = λ told. asks-further (λ _. 1) _ _ _ (c.loop-number.invariant.more told) (c.edit_leaf.ensures.more (c.loop-number.invariant.told told))

pub returns-in_err-left-clause-frame : goal.returns-in_err-left-clause-frame
returns-in_err-left-clause-frame g c = changes_then g.P.Pages g.met.P.Pages.goes_further _ _ _ c.loop-number.invariant.frame c.edit_leaf.ensures.frame

pub returns-clause-more : goal.returns-clause-more
returns-clause-more g c = c.loop-number.invariant.more

pub returns-clause-told : goal.returns-clause-told
returns-clause-told g c = c.loop-number.invariant.told
