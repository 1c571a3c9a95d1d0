use Rattle.std.proofs.Common.{arith}
use Rattle.rtree_nodes.specs.Pages.{slots_in}
use Rattle.rtree_nodes.proofs.Splits.{full-many}
use Rattle.irtree_insert.proofs.draft.Draft.put_free.Goals as goal

pub returns-in-None-clause-put : goal.returns-in-None-clause-put
returns-in-None-clause-put c = λ draft fits room.
    let full = full-many (slots_in c.args.self.now.bytes) (c.in-None.ensures.free draft.form) in
    absurd (omega arith)
