use Rattle.std.proofs.Common.{◌<◌, sym, subst, length, rules, ◌*◌, ◌%◌, ◌^◌}
use Rattle.std.specs.Prelude.{bit_or}
use Rattle.std.proofs.Math.ListN.{set}
use Rattle.rtree_nodes.specs.Reach.{item_of}
use Rattle.rtree_nodes.specs.Pages.{slots_in}
use Rattle.irtree_insert.specs.Drafts.{AreOutlined}
use Rattle.irtree_insert.proofs.Outlines.{outlined-put}
use Rattle.irtree_insert.proofs.draft.Draft.put.Goals as goal

pub returns-clause-draft : goal.returns-clause-draft
returns-clause-draft c = λ draft fits.
    let long : c.args.at < length c.args.self.now.rects = search rules in
    record {
      form = c.put_slot.ensures.form draft.form fits;
      outlined = subst (AreOutlined (bit_or c.args.self.now.used (1 * 2 ^ c.args.at % 4294967296)) (set c.args.self.now.rects c.args.at c.rect.result)) (sym (c.put_slot.ensures.slots draft.form fits))
          (outlined-put c.args.self.now.used c.args.self.now.rects (slots_in c.args.self.now.bytes) c.args.at c.rect.result (item_of c.args.slot.now) c.requires long draft.outlined c.rect.ensures.reach);
    }
