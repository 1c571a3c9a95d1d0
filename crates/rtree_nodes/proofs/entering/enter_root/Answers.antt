use Rattle.std.proofs.Common.{ℕ, Err, ap, ◌∙◌, inl, subst}
use Rattle.page_face.specs.declared.fault.Rule.{Rule}
use Rattle.btree_nodes.proofs.Walks.{same-fault}
use Rattle.rtree_nodes.specs.Harms.{BreaksAlone}
use Rattle.rtree_nodes.proofs.entering.enter_root.Goals as goal

pub returns-in-Err-clause-damaged : goal.returns-in-Err-clause-damaged
returns-in-Err-clause-damaged g c = λ damage e.
    let d = c.enter.ensures.damaged damage (c.in-Err.is ∙ ap Err (same-fault {T = ℕ} _ _ e)) in
    (d.0, d.1, inl d.2)

-- a level alone isn't refused by `enter`
pub returns-in-Err-clause-counted : goal.returns-in-Err-clause-counted
returns-in-Err-clause-counted g c = λ damage e level.
    let d = c.enter.ensures.damaged damage (c.in-Err.is ∙ ap Err (same-fault {T = ℕ} _ _ e)) in
    absurd (subst (λ (r : Rule). BreaksAlone r (g.P.Pages.pages c.args.pages.now) (g.P.Pages.count c.args.pages.now) c.args.root) level d.2)
