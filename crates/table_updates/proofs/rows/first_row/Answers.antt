use Rattle.std.proofs.Common.{ℕ, subst}
use Rattle.btree_nodes.specs.Damages.{AsksOnly}
use Rattle.table_updates.specs.Version1.{version1_uses}
use Rattle.table_updates.proofs.rows.first_row.Goals as goal

pub returns-clause-own : goal.returns-clause-own
returns-clause-own g c told =
    subst (λ (r : ℕ). AsksOnly (version1_uses (g.P.Pages.pages c.args.pages.now) r) (g.P.Pages.asked c.args.pages.now) (g.P.Pages.asked c.first_from.new.pages)) c.at.ensures (c.first_from.ensures.own told)
