use Rattle.std.proofs.Common.{◌<◌, ◌^◌, sym, subst, rules}
use Rattle.std.specs.Prelude.{bit_and}
use Rattle.std.specs.Int.{bit_not, w32}
use Rattle.rtree_nodes.specs.Pages.{slots_in}
use Rattle.irtree_insert.specs.Drafts.{AreOutlined}
use Rattle.irtree_insert.proofs.Outlines.{outlined-kept, outlined-moved}
use Rattle.irtree_insert.proofs.draft.Draft.split_off.Goals as goal

pub returns-clause-draft : goal.returns-clause-draft
returns-clause-draft c = λ draft.
    let small : c.args.moves < 2 ^ 32 = search rules in
    record {
      form = c.split_off-bytes.ensures.form draft.form;
      outlined = subst (AreOutlined (bit_and c.args.self.now.used (bit_not w32 c.args.moves)) c.args.self.now.rects) (sym (c.split_off-bytes.ensures.kept draft.form))
          (outlined-kept c.args.self.now.used c.args.moves c.args.self.now.rects (slots_in c.args.self.now.bytes) small draft.outlined);
    }

pub returns-clause-its_draft : goal.returns-clause-its_draft
returns-clause-its_draft c = λ draft. record {
  form = c.split_off-bytes.ensures.its_form draft.form;
  outlined = subst (AreOutlined (bit_and c.args.self.now.used c.args.moves) c.args.self.now.rects) (sym (c.split_off-bytes.ensures.moved draft.form))
      (outlined-moved c.args.self.now.used c.args.moves c.args.self.now.rects (slots_in c.args.self.now.bytes) draft.outlined);
}
