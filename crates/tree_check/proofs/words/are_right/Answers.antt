use Rattle.std.proofs.Common.{◌^◌}
use Rattle.node_rows.specs.Rows.{bytes_in}
use Rattle.tree_check.proofs.Ascents.{words-ascend}
use Rattle.tree_check.proofs.Rights.{none-wrong}
use Rattle.tree_check.proofs.words.are_right.Goals as goal

pub returns-in-None-clause-wrong : goal.returns-in-None-clause-wrong
returns-in-None-clause-wrong g c = λ entries sound no r.
    none-wrong (bytes_in (g.P.Pages.pages c.args.pages.now) c.args.tree.now.rows) entries.places c.args.slot.now c.args.words.now c.in-None.is (λ q. c.are_none.ensures.some no q)
    (words-ascend 0 (2 ^ 64) c.args.words.now c.requires) r
