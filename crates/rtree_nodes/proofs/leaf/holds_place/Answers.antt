use Rattle.std.proofs.Common.{sym, ◌∙◌}
use Rattle.rtree_nodes.proofs.Entries.{place-held, used-other, unused-other}
use Rattle.rtree_nodes.proofs.leaf.holds_place.Goals as goal

pub returns-then-is_used-clause-held : goal.returns-then-is_used-clause-held
returns-then-is_used-clause-held c = λ leaf yes.
    place-held c.args.page.now c.args.at c.args.point.now c.args.key.now leaf c.requires (sym c.is_used.ensures ∙ c.if-is_used.true) (c.is_place.ensures.0 yes)

pub returns-then-is_used-clause-other : goal.returns-then-is_used-clause-other
returns-then-is_used-clause-other c = λ leaf no.
    used-other c.args.page.now c.args.at c.args.point.now c.args.key.now leaf c.requires (sym c.is_used.ensures ∙ c.if-is_used.true) (λ h. let y = c.is_place.ensures.1 h in cc)

pub returns-else-is_used-clause-other : goal.returns-else-is_used-clause-other
returns-else-is_used-clause-other c = λ leaf no. unused-other c.args.page.now c.args.at c.args.point.now c.args.key.now (sym c.is_used.ensures ∙ c.if-is_used.false)
