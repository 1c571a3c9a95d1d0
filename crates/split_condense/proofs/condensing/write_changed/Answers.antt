use Rattle.std.proofs.Common.{◌<◌, subst, sym, length, arith}
use Rattle.std.proofs.lemmas.Result.{on_ok_weaker}
use Rattle.page_face.specs.FreeList.{PageMap}
use Rattle.btree_nodes.specs.Damages.{AreReadable}
use Rattle.split_condense.proofs.Forms.{told-written}
use Rattle.split_condense.proofs.condensing.write_changed.Goals as goal

pub returns-then-is_changed-clause-told : goal.returns-then-is_changed-clause-told
returns-then-is_changed-clause-told g c = λ told.
    let new : PageMap = g.P.Pages.pages c.write.new.self in
    let long : 0 < length c.args.bytes.now = let t = c.told-bytes in omega arith in
    on_ok_weaker c.write.result (λ wrote. subst (AreReadable new) (sym c.write.ensures.count)
    (told-written (g.P.Pages.pages c.args.pages.now) new c.args.bytes.now c.args.page (g.P.Pages.count c.args.pages.now) wrote long told)) c.write.ensures.written
