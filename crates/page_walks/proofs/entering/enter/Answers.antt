use Rattle.std.proofs.Common.{arith, ◌∙◌, sym, inl, inr}
use Rattle.std.proofs.lemmas.Bool.{OnFalse_at}
use Rattle.btree_nodes.proofs.Walks.{same-fault}
use Rattle.page_walks.specs.Met.{held}
use Rattle.page_walks.proofs.Misuses.{same-damage, misused-link, misused-shared}
use Rattle.page_walks.proofs.entering.enter.Goals as goal

pub returns-then-page-eq0-clause-damaged : goal.returns-then-page-eq0-clause-damaged
returns-then-page-eq0-clause-damaged g c = λ damage e.
    misused-link (g.P.Pages.count c.args.pages.now) c.args.page (held c.args.met.now) (inl c.if-page-eq0.true) damage
    (same-damage _ _ (sym c.damaged.ensures ∙ same-fault _ _ e))

pub returns-then-counted-page-clause-damaged : goal.returns-then-counted-page-clause-damaged
returns-then-counted-page-clause-damaged g c = λ damage e.
    misused-link (g.P.Pages.count c.args.pages.now) c.args.page (held c.args.met.now) (inr (omega arith)) damage
    (same-damage _ _ (sym c.damaged-then-counted-page.ensures ∙ same-fault _ _ e))

pub returns-in-Ok-false-clause-damaged : goal.returns-in-Ok-false-clause-damaged
returns-in-Ok-false-clause-damaged g c = λ damage e.
    misused-shared (g.P.Pages.count c.args.pages.now) c.args.page (held c.args.met.now) (OnFalse_at c.in-Ok-false.field-0-test c.in-Ok-false.ensures.again) damage
    (same-damage _ _ (sym c.damaged-in-Ok-false.ensures ∙ same-fault _ _ e))
