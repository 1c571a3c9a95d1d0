use Rattle.std.proofs.Common.{refl, sym, ◌∙◌, arith, subst}
use Rattle.paged_map.specs.Drafts.{IsLeafDraft}
use Rattle.node_inverted.specs.Drafts.{EditsUntil, edited}
use Rattle.node_inverted.specs.declared.row_draft.RowDraft.{RowDraft}
use Rattle.node_inverted.proofs.drafting.edit_in_draft.Goals as goal

pub loop-number-init : goal.loop-number-init
loop-number-init c = record {
  sound = λ count s. s;
  edited = λ count pages root b s d. record { bytes = b; drafting = d; is = refl };
  fewer = omega arith;
}

pub loop-number-preserved : goal.loop-number-preserved
loop-number-preserved c =
    let h = c.loop-number.invariant in
    record {
      sound = λ count s. c.edit_in.ensures.sound count (h.sound count s);
      edited = λ count pages root b s d.
          let t = h.edited count pages root b s d in
          record {
            bytes = edited c.args.node c.in-Some.number c.in-Some.edit t.bytes;
            drafting = c.edit_in.ensures.edited count pages root t.bytes (h.sound count s) t.drafting c.if-not-edit_in.false;
            is = sym (c.in-Some.ensures.some c.args.node t.bytes) ∙ t.is;
          };
      fewer = let f = h.fewer in let e = c.in-Some.ensures.fewer in omega arith;
    }

pub returns-then-not-edit_in-clause-sound : goal.returns-then-not-edit_in-clause-sound
returns-then-not-edit_in-clause-sound c = λ count s.
    subst (λ (d : RowDraft). IsLeafDraft count d.leaf) (sym (c.edit_in.ensures.refused c.if-not-edit_in.true)) (c.loop-number.invariant.sound count s)

pub returns-then-not-edit_in-clause-edited : goal.returns-then-not-edit_in-clause-edited
returns-then-not-edit_in-clause-edited c = λ count pages root b s d.
    subst (EditsUntil pages root c.args.node c.args.edits.now b c.loop-number.left) (sym (c.edit_in.ensures.refused c.if-not-edit_in.true)) (c.loop-number.invariant.edited count pages root b s d)
