use Rattle.std.proofs.Common.{Err, ap, ◌∙◌, inl}
use Rattle.btree_nodes.proofs.Walks.{same-fault}
use Rattle.node_filter.proofs.entering.enter_at.Goals as goal

pub returns-in-Err-clause-damaged : goal.returns-in-Err-clause-damaged
returns-in-Err-clause-damaged g c = λ damage e.
    let d = c.enter.ensures.damaged damage (c.in-Err.is ∙ ap Err (same-fault {T = Unit {0}} _ _ e)) in
    (d.0, d.1, inl d.2)
